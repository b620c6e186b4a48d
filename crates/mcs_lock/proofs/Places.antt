-- The seats of an MCS lock's queue, by their places.
use Rattle.std.proofs.Common.{◌≡◌, ◌≢◌, ℕ, zero, suc, ◌<◌, ◌≤◌, true, false, List, [], ◌∷◌, length, slice_index, refl}
use Rattle.std.proofs.Common.{ap, sym, ◌∙◌, subst, inl, inr, ⊎_elim, arith}
use mathlib.Core.Option.{some, some-injective, some-ne-none}
use lib.ListN.{get_elem?}
use Rattle.lock_rules.specs.Tag.{Tag}
use Rattle.lock_rules.specs.declared.view.Phase.TheVariants.{Queued}
use Rattle.lock_rules.specs.declared.view.View.{View}
use Rattle.lock_tables.specs.Rule.{is_busy, IsQueued}
use Rattle.lock_tables.proofs.Lists.{at_below, there, no_true}
use Rattle.lock_tables.proofs.Numbers.{number_below, one_number}
use Rattle.lock_tables.specs.Numbers.{by_pass}
use Rattle.lock_tables.proofs.Stands.{has_stands}
use Rattle.lock_tables.proofs.Queues.{lives, no_place, one_seat_of}
use Rattle.mcs_lock.specs.Rule.{tail, next, locked, name, IsPlaced, NamesBehind, IsPrepared, IsLinked, mcs_discipline}

pub none_left : (l : List ℕ) → length l ≡ 0 → l ≡ []
none_left [] e = refl
none_left (x ∷ xs) e = absurd (omega arith)

-- a seat's view at a place is one
pub one_view : {seats : List ℕ} {views : List View} {i : ℕ} {u v : View} → IsPlaced seats views i u → IsPlaced seats views i v → u ≡ v
one_view {seats} {views} {i} {u} {v} p q =
    let same : p.seat ≡ q.seat = some-injective p.seat q.seat (sym p.place ∙ q.place) in
    some-injective u v (sym p.at ∙ ap (get_elem? views) same ∙ q.at)

-- what a step leaves of a view, for the links of the queue
pub record KeepsLinks (v w : View) : Type 0 where
  pub number : w.number ≡ v.number
  pub predecessor : w.predecessor ≡ v.predecessor
  pub linked : v.linked ≡ true → w.linked ≡ true
  pub queued : w.phase ≡ Queued → v.phase ≡ Queued

pub keeps_all : (v : View) → KeepsLinks v v
keeps_all v = record { number = refl; predecessor = refl; linked = λ e. e; queued = λ e. e }

-- the seat at the place i had a view like u
pub record WasPlaced (seats : List ℕ) (views : List View) (i : ℕ) (u : View) : Type 0 where
  pub view : View
  pub placed : IsPlaced seats views i view
  pub keeps : KeepsLinks view u

-- the seat at the place i has a view like u
pub record IsStill (seats : List ℕ) (views : List View) (i : ℕ) (u : View) : Type 0 where
  pub view : View
  pub placed : IsPlaced seats views i view
  pub keeps : KeepsLinks u view

-- where each place had a view like that it has, each has one like it had
pub still : {seats : List ℕ} {views views' : List View} → length views ≤ length views'
    → ((i : ℕ) (u : View) → IsPlaced seats views' i u → WasPlaced seats views i u)
    → (i : ℕ) (u : View) → IsPlaced seats views i u → IsStill seats views' i u
still {seats} {views} {views'} long was i u p =
    let b = at_below views p.seat u p.at in
    let t = there views' p.seat (omega (arith, b, long)) in
    let w = was i t.0 (record { seat = p.seat; place = p.place; at = t.1 }) in record {
      view = t.0;
      placed = record { seat = p.seat; place = p.place; at = t.1 };
      keeps = subst (λ (x : View). KeepsLinks x t.0) (one_view w.placed p) w.keeps;
    }

-- a name of the pass behind stays one
pub names_still : {seats : List ℕ} {views views' : List View} {i x : ℕ}
    → ((u : View) → IsPlaced seats views (suc i) u → IsStill seats views' (suc i) u) → NamesBehind seats views i x
    → NamesBehind seats views' i x
names_still stay b = let s = stay b.view b.placed in
    record { view = s.view; placed = s.placed; named = b.named ∙ ap name (sym s.keeps.number); linked = s.keeps.linked b.linked }

pub names_as : {seats : List ℕ} {views : List View} {i x y : ℕ} → x ≡ y → NamesBehind seats views i x → NamesBehind seats views i y
names_as e b = record { view = b.view; placed = b.placed; named = sym e ∙ b.named; linked = b.linked }

-- a view that has stored no words
pub fresh_prepared : (words : List ℕ) (v : View) → v.unlinked ≡ false → v.raised ≡ false → IsPrepared words v
fresh_prepared words v a b = record { unlinked = λ e. absurd (no_true (sym e ∙ a)); raised = λ e. absurd (no_true (sym e ∙ b)) }

-- the links of an empty queue
pub core_empty : {n : ℕ} {words : List ℕ} {views : List View} → slice_index words tail ≡ 0
    → ((j : ℕ) (u : View) → get_elem? views j ≡ some u → u.spent ≡ false → IsPrepared words u) → IsLinked n words [] views
core_empty ends prepared = record {
  empty = λ _. ends;
  last = λ i v p. absurd (some-ne-none p.seat (sym p.place));
  first = λ v p. absurd (some-ne-none p.seat (sym p.place));
  behind = λ i u v p. absurd (some-ne-none p.seat (sym p.place));
  links = λ i v p. absurd (some-ne-none p.seat (sym p.place));
  noted = λ i v p. absurd (some-ne-none p.seat (sym p.place));
  prepared = prepared;
}

-- the links after a step that leaves the queue
module _ {n : ℕ} {words : List ℕ} (words' : List ℕ) {seats : List ℕ} {views : List View} (views' : List View)
    (k : IsLinked n words seats views) where
  pub core_from : slice_index words' tail ≡ slice_index words tail → length views ≤ length views'
      → ((i : ℕ) (u : View) → IsPlaced seats views' i u → WasPlaced seats views i u)
      → ((i : ℕ) (u : View) → IsPlaced seats views i u → slice_index words' (locked u.number) ≡ slice_index words (locked u.number))
      → ((i : ℕ) (u : View) → IsPlaced seats views i u → slice_index words' (next u.number) ≢ 0
      → NamesBehind seats views' i (slice_index words' (next u.number)))
      → ((i : ℕ) (u : View) → IsPlaced seats views' i u → u.successor ≢ 0 → NamesBehind seats views' i u.successor)
      → ((j : ℕ) (u : View) → get_elem? views' j ≡ some u → u.spent ≡ false → IsPrepared words' u)
      → IsLinked n words' seats views'
  core_from ends long was locks links noted prepared = record {
    empty = λ e. ends ∙ k.empty e;
    last = λ i u p e. let w = was i u p in ends ∙ k.last i w.view w.placed e ∙ ap name (sym w.keeps.number);
    first = λ u p. let w = was 0 u p in let f = k.first w.view w.placed in record {
      free = ⊎_elim (λ (e : w.view.predecessor ≡ 0). inl (w.keeps.predecessor ∙ e))
          (λ (e : slice_index words (locked w.view.number) ≡ 0). inr (ap (λ (x : ℕ). slice_index words' (locked x)) w.keeps.number
          ∙ locks 0 w.view w.placed ∙ e)) f.free;
      linked = λ e. w.keeps.linked (f.linked (w.keeps.queued e));
    };
    behind = λ i u v p r. let a = was i u p in let b = was (suc i) v r in let h = k.behind i a.view b.view a.placed b.placed in record {
      named = b.keeps.predecessor ∙ h.named ∙ ap name (sym a.keeps.number);
      waits = ap (λ (x : ℕ). slice_index words' (locked x)) b.keeps.number ∙ locks (suc i) b.view b.placed ∙ h.waits;
    };
    links = λ i u p ne. let w = was i u p in let same = ap (λ (x : ℕ). slice_index words' (next x)) w.keeps.number in
        names_as (sym same) (links i w.view w.placed (λ e. ne (same ∙ e)));
    noted = noted;
    prepared = prepared;
  }

module _ {n : ℕ} {tag : Tag} {words seats : List ℕ} {views : List View} (q : IsQueued mcs_discipline n tag words seats views) where
  pub busy_at : (i : ℕ) (v : View) → IsPlaced seats views i v → is_busy true v.phase ≡ true
  busy_at i v p =
      let b = q.each_place i p.seat p.place in
      let same : b.view ≡ v = some-injective b.view v (sym b.at ∙ p.at) in
      sym (ap (λ (x : View). is_busy true x.phase) same) ∙ b.is

  pub live_at : (i : ℕ) (v : View) → IsPlaced seats views i v → v.spent ≡ false
  live_at i v p = lives mcs_discipline n tag words seats views q p.seat v p.at (busy_at i v p)

  -- the pass of a seat is one of the lock's
  pub below_at : (j : ℕ) (v : View) → get_elem? views j ≡ some v → v.spent ≡ false → v.number < n
  below_at j v at live = number_below n views j v v.number q.numbers at (has_stands by_pass v.number v live (inl refl))

  -- a pass has one place
  pub same_place : (i k : ℕ) (u v : View) → IsPlaced seats views i u → IsPlaced seats views k v → u.number ≡ v.number → i ≡ k
  same_place i k u v p r e =
      let s : r.seat ≡ p.seat =
      one_seat_of mcs_discipline n tag words seats views q p.seat r.seat u v p.at r.at (live_at i u p) (live_at k v r) (sym e) in
      q.once i k p.seat p.place (r.place ∙ ap some s)

  -- a pass that isn't in the queue is none of its passes
  pub other_pass : (id : ℕ) (v : View) → get_elem? views id ≡ some v → v.spent ≡ false → is_busy true v.phase ≡ false → (i : ℕ) (u : View)
      → IsPlaced seats views i u → u.number ≢ v.number
  other_pass id v at live free i u p e =
      let s : id ≡ p.seat = one_seat_of mcs_discipline n tag words seats views q p.seat id u v p.at at (live_at i u p) live (sym e) in
      no_place mcs_discipline n tag words seats views id v q at free i p.seat p.place (sym s)

  -- two seats have two passes
  pub other_seat : (id j : ℕ) (v u : View) → get_elem? views id ≡ some v → get_elem? views j ≡ some u → v.spent ≡ false → u.spent ≡ false
      → j ≢ id → u.number ≢ v.number
  other_seat id j v u at at' live live' ne = one_number n views q.numbers id j v u at at' live live' ne

  -- a seat in the queue has a place
  pub place_of : (id : ℕ) (v : View) → get_elem? views id ≡ some v → is_busy true v.phase ≡ true → (i : ℕ) × IsPlaced seats views i v
  place_of id v at b = let p = (q.each_seat id v at).placed b in (p.0, record { seat = id; place = p.1; at = at })

  -- the seat at each place has a view
  pub placed_at : (i : ℕ) → i < length seats → (u : View) × IsPlaced seats views i u
  placed_at i h = let t = there seats i h in let b = q.each_place i t.0 t.1 in (b.view, record { seat = t.0; place = t.1; at = b.at })

  -- where `tail` is 0, the queue is empty
  pub no_seats : slice_index words tail ≡ 0 → seats ≡ []
  no_seats e = none_left seats (elim (length seats) as (λ x. length seats ≡ x → x ≡ 0) [
    | zero ↦ λ _. refl
    | suc m ↦ λ f. let u = placed_at m (omega (arith, f)) in let z = q.core.last m u.0 u.1 f in absurd (omega (arith, z, e))
  ] refl)
