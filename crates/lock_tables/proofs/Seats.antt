-- Seats of a lock's table, and the tokens made of them.
use Rattle.std.proofs.Common.{◌≡◌, ℕ, ◌<◌, ◌≤◌, Bool, false, List, ◌∷◌, refl, ap, sym, ◌∙◌, arith, Option, Some}
use mathlib.Core.Option.{some, some-injective}
use Rattle.atomic_table.specs.Seated.{TableId}
use Rattle.atomic_table.specs.Table.{rest}
use Rattle.atomic_table.specs.declared.badge.Badge.{Badge}
use Rattle.atomic_table.specs.declared.shared.Seat.{Seat}
use Rattle.lock_rules.specs.Tag.{Tag}
use Rattle.lock_rules.specs.Tokens.{IsSeated, view_of, badge_place}
use Rattle.lock_rules.specs.Views.{IsPlain, announces, mark_by, place_of, fresh_view}
use Rattle.lock_rules.specs.declared.view.Algorithm.{Algorithm}
use Rattle.lock_rules.specs.declared.view.Algorithm.TheVariants.{Ticket, Mcs, Clh, Hemlock}
use Rattle.lock_rules.specs.declared.view.Phase.TheVariants.{Idle}
use Rattle.lock_rules.specs.declared.view.View.{View}
use Rattle.lock_rules.specs.declared.view.Waiters.{Waiters}
use Rattle.lock_tables.specs.Seats.{seat_as}

pub seat_is : {S V : Type 0} (a b : Seat S V) (view : V) (carried : List (ℕ × S)) → b.table_id ≡ a.table_id → b.id ≡ a.id
    → b.me ≡ (view, carried) → b ≡ seat_as a view carried
seat_is a b view carried t d m = λ i. record { marker = b.marker; table_id = t i; id = d i; me = m i }

-- the mark of a view that is as at the start
pub fresh_mark : (a : Algorithm) (c : Waiters) (n : ℕ) (tag : Tag) (k from to : ℕ) (spent : Bool)
    → mark_by a (fresh_view a c n tag k from to spent) ≡ k
fresh_mark Ticket c n tag k from to spent = refl
fresh_mark Mcs c n tag k from to spent = refl
fresh_mark Clh c n tag k from to spent = refl
fresh_mark Hemlock c n tag k from to spent = refl

-- a pass as it is split off
pub fresh_plain : (a : Algorithm) (c : Waiters) (n : ℕ) (tag : Tag) (k from to : ℕ) → from ≡ to → k < n
    → IsPlain (fresh_view a c n tag k from to false)
fresh_plain a c n tag k from to split below = record {
  unspent = refl;
  split = split;
  alone = refl;
  nodeless = refl;
  below = below;
  node_within = omega arith;
  predecessor_within = omega arith;
  paid = refl;
}

-- Two views of one pass, of which neither has other passes' numbers where the other has none
pub record IsAlike (v w : View) : Type 0 where
  pub algorithm : w.algorithm ≡ v.algorithm
  pub waiters : w.waiters ≡ v.waiters
  pub count : w.count ≡ v.count
  pub number : w.number ≡ v.number
  pub spent : w.spent ≡ v.spent
  pub from : w.from ≡ v.from
  pub to : w.to ≡ v.to
  pub joined : w.joined ≡ v.joined
  pub node : w.node ≡ v.node
  pub nodes : w.nodes ≡ v.nodes
  pub owes : w.owes ≡ v.owes
  pub within : w.predecessor ≤ v.count

pub alike : (v w : View) → w.algorithm ≡ v.algorithm → w.waiters ≡ v.waiters → w.count ≡ v.count → w.number ≡ v.number
    → w.spent ≡ v.spent → w.from ≡ v.from → w.to ≡ v.to → w.joined ≡ v.joined → w.node ≡ v.node → w.nodes ≡ v.nodes
    → w.owes ≡ v.owes → w.predecessor ≤ v.count → IsAlike v w
alike v w a l b c d e f g h i j k = record {
  algorithm = a;
  waiters = l;
  count = b;
  number = c;
  spent = d;
  from = e;
  to = f;
  joined = g;
  node = h;
  nodes = i;
  owes = j;
  within = k;
}

pub alike_plain : (v w : View) → IsAlike v w → IsPlain v → IsPlain w
alike_plain v w a p = record {
  unspent = a.spent ∙ p.unspent;
  split = a.from ∙ p.split ∙ sym a.to;
  alone = a.joined ∙ p.alone;
  nodeless = a.nodes ∙ p.nodeless;
  below = let l = p.below in let x = a.number in let y = a.count in omega (arith, l, x, y);
  node_within = let l = p.node_within in let x = a.node in let y = a.count in omega (arith, l, x, y);
  predecessor_within = let l = a.within in let y = a.count in omega (arith, l, y);
  paid = a.owes ∙ p.paid;
}

-- the view of an idle pass's token isn't announced
pub silent_view : (v : View) (b : Badge View) → v ≡ view_of b → IsSeated Idle b → v.announced ≡ false
silent_view v b e s = ap (λ (x : View). x.announced) e ∙ s.told ∙ (λ i. announces (s.stands i) (view_of b).waiters)

-- what is read from a slot
pub taken : {V : Type 0} (x y : V) (slot : Option V) → some (Some x) ≡ some slot → slot ≡ Some y → x ≡ y
taken x y slot e e' = let p : Some x ≡ slot = some-injective (Some x) slot e in let q : Some x ≡ Some y = p ∙ e' in cc

-- a seat that has just taken the slot
pub in_hand : {S : Type 0} (carried : List (ℕ × S)) (k : ℕ) (x : S) (old : List (ℕ × S)) → carried ≡ (k, x) ∷ old
    → carried ≡ (k, x) ∷ rest carried
in_hand {S} carried k x old e = e ∙ ap (λ (c : List (ℕ × S)). (k, x) ∷ c) (sym (ap rest e))

-- the place of a token is read off its table and its view
pub place_is : (b : Badge View) (z : TableId) (w : View) → b.table_id ≡ z → view_of b ≡ w → badge_place b ≡ place_of z w
place_is b z w t v = λ i. place_of (t i) (v i)
