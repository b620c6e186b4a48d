-- The queue computed from words and views is that of the rule, and the rule holds at the start and where seats are cut and joined.
use Rattle.std.proofs.Common.{◌≡◌, ◌≢◌, ℕ, zero, suc, ◌<◌, ◌≤◌, Bool, true, false, cond, ◌&&◌, ◌==◌, eq-eqb, List, [], ◌∷◌, ◌++◌, length}
use Rattle.std.proofs.Common.{map, take, set, slice_index, replicate, refl, ap, sym, ◌∙◌, subst, ⊎_elim, arith, length-append}
use Rattle.std.proofs.Math.ListN.{length-set}
use Rattle.std.proofs.Math.Seq.{take-length}
use Rattle.std.proofs.lemmas.List.{map-append, length-replicate}
use mathlib.Core.Option.{some, some-injective, some-ne-none}
use lib.ListN.{get_elem?}
use borrow.Author.Tests.{eqb-true}
use Rattle.atomic_table.proofs.Lists.{at_set}
use Rattle.lock_rules.specs.Tag.{Tag}
use Rattle.lock_rules.specs.Rows.{row_of, waiting}
use Rattle.lock_rules.specs.Views.{first_view, without_next, next_split, joined_view, spent_view}
use Rattle.lock_rules.specs.declared.view.Algorithm.TheVariants.{Mcs}
use Rattle.lock_rules.specs.declared.view.View.{View}
use Rattle.lock_rules.specs.declared.view.Waiters.{Waiters}
use Rattle.lock_tables.specs.Laws.{IsDisciplined, IsNoted, number_at}
use Rattle.lock_tables.specs.Rule.{is_busy, IsQueued}
use Rattle.lock_tables.proofs.Lists.{number_is, at_below, both_true, wrote_else}
use Rattle.lock_tables.proofs.Queues.{IsSame, WasAt, lives, few_seats, placed_before_split, placed_before_join, after_split, after_join}
use Rattle.lock_tables.proofs.Queues.{one_seat_of}
use Rattle.mcs_lock.specs.Rule.{tail, next, locked, name, before, passes_to, queue_of, IsPlaced, IsPrepared, IsLinked, mcs_discipline}
use Rattle.mcs_lock.proofs.Places.{none_left, KeepsLinks, WasPlaced, still, names_still, names_as, fresh_prepared, core_empty, core_from}
use Rattle.mcs_lock.proofs.Places.{busy_at, live_at, placed_at}

-- the name of the pass before, read off the view that the seat j has
before_is : (words : List ℕ) (views : List View) (j : ℕ) (v : View) → get_elem? views j ≡ some v → is_busy true v.phase ≡ true
    → ((k : ℕ) (u : View) → get_elem? views k ≡ some u → is_busy true u.phase ≡ true → u.number ≡ v.number → k ≡ j)
    → before words views v.number ≡ cond (slice_index words (locked v.number) == 1) v.predecessor 0
before_is words [] j v at b only = absurd (some-ne-none v (sym at))
before_is words (u ∷ us) zero v at b only =
    let s : u ≡ v = some-injective u v at in
    let p : is_busy true u.phase ≡ true = ap (λ (x : View). is_busy true x.phase) s ∙ b in
    let r : (u.number == v.number) ≡ true = eq-eqb u.number v.number (ap (λ (x : View). x.number) s) in
    rw (p, r) (ap (λ (x : View). cond (slice_index words (locked v.number) == 1) x.predecessor 0) s)
before_is words (u ∷ us) (suc j) v at b only =
    elim (is_busy true u.phase && (u.number == v.number)) as (λ x. (is_busy true u.phase && (u.number == v.number)) ≡ x
    → cond x (cond (slice_index words (locked v.number) == 1) u.predecessor 0) (before words us v.number)
    ≡ cond (slice_index words (locked v.number) == 1) v.predecessor 0) [
      | true ↦ λ h. let p = both_true (is_busy true u.phase) (u.number == v.number) h in let z : zero ≡ suc j =
          only zero u refl p.0 (eqb-true u.number v.number p.1) in absurd (omega arith)
      | false ↦ λ h. before_is words us j v at b (λ k w at' b' e'. let z : suc k ≡ suc j = only (suc k) w at' b' e' in omega arith)
    ] refl

take_next : (l : List ℕ) (i x : ℕ) → get_elem? l i ≡ some x → take (suc i) l ≡ take i l ++ x ∷ []
take_next [] i x e = absurd (some-ne-none x (sym e))
take_next (y ∷ ys) zero x e = λ k. some-injective y x e k ∷ []
take_next (y ∷ ys) (suc i) x e = λ k. y ∷ take_next ys i x e k

none_to : (words : List ℕ) (views : List View) (most : ℕ) → passes_to words views most 0 ≡ []
none_to words views zero = refl
none_to words views (suc most) = refl

index_replicate : (k i : ℕ) → slice_index (replicate k 0) i ≡ 0
index_replicate zero i = refl
index_replicate (suc k) zero = refl
index_replicate (suc k) (suc i) = index_replicate k i

first_prepared : (c : Waiters) (n : ℕ) (tag : Tag) (words : List ℕ) (j : ℕ) (v : View)
    → get_elem? (first_view Mcs c n tag ∷ []) j ≡ some v → IsPrepared words v
first_prepared c n tag words zero v e =
    subst (IsPrepared words) (some-injective (first_view Mcs c n tag) v e) (fresh_prepared words (first_view Mcs c n tag) refl refl)
first_prepared c n tag words (suc j) v e = absurd (some-ne-none v (sym e))

-- the name that `locked` at 1 lets through
one_is : (words : List ℕ) (p x : ℕ) → slice_index words (locked p) ≡ 1 → cond (slice_index words (locked p) == 1) x 0 ≡ x
one_is words p x e = let t = eq-eqb (slice_index words (locked p)) 1 e in rw t refl

zero_is : (words : List ℕ) (p x : ℕ) → slice_index words (locked p) ≡ 0 → cond (slice_index words (locked p) == 1) x 0 ≡ 0
zero_is words p x e = ap (λ (y : ℕ). cond (y == 1) x 0) e

none_is : (b : Bool) (x : ℕ) → x ≡ 0 → cond b x 0 ≡ 0
none_is true x e = e
none_is false x e = refl

module _ {n : ℕ} {tag : Tag} {words seats : List ℕ} {views : List View} (q : IsQueued mcs_discipline n tag words seats views) where
  before_at : (i : ℕ) (v : View) → IsPlaced seats views i v
      → before words views v.number ≡ cond (slice_index words (locked v.number) == 1) v.predecessor 0
  before_at i v p = before_is words views p.seat v p.at (busy_at q i v p)
      (λ k u at b e. one_seat_of mcs_discipline n tag words seats views q p.seat k v u p.at at (live_at q i v p)
      (lives mcs_discipline n tag words seats views q k u at b) e)

  -- the first names none, or needn't wait
  before_first : (v : View) → IsPlaced seats views 0 v → before words views v.number ≡ 0
  before_first v p = before_at 0 v p ∙ ⊎_elim
      (λ (e : v.predecessor ≡ 0). none_is (slice_index words (locked v.number) == 1) v.predecessor e)
      (λ (e : slice_index words (locked v.number) ≡ 0). zero_is words v.number v.predecessor e)
      (q.core.first v p).free

  before_next : (i : ℕ) (u v : View) → IsPlaced seats views i u → IsPlaced seats views (suc i) v
      → before words views v.number ≡ name u.number
  before_next i u v p r = let b = q.core.behind i u v p r in before_at (suc i) v r ∙ one_is words v.number v.predecessor b.waits ∙ b.named

  number_of : (i : ℕ) (v : View) (p : IsPlaced seats views i v) → number_at views p.seat ≡ v.number
  number_of i v p = number_is views p.seat v p.at

  -- the passes up to the one at the place i
  passes_are : (i most : ℕ) (v : View) → IsPlaced seats views i v → i < most
      → passes_to words views most (name v.number) ≡ map (number_at views) (take (suc i) seats)
  passes_are i zero v p h = absurd (omega arith)
  passes_are zero (suc most) v p h =
      let none_before : passes_to words views most (before words views v.number) ≡ [] = ap (passes_to words views most) (before_first v p)
      ∙ none_to words views most in
      ap (λ (l : List ℕ). l ++ v.number ∷ []) none_before
      ∙ (λ k. sym (number_of zero v p) k ∷ [])
      ∙ ap (map (number_at views)) (sym (take_next seats zero p.seat p.place))
  passes_are (suc i) (suc most) v p h =
      let u = placed_at q i (let b = at_below seats (suc i) p.seat p.place in omega arith) in
      let rest : passes_to words views most (name u.0.number) ≡ map (number_at views) (take (suc i) seats) =
      passes_are i most u.0 u.1 (omega arith) in
      let e = before_next i u.0 v u.1 p in
      ap (λ (l : List ℕ). l ++ v.number ∷ []) (ap (passes_to words views most) e ∙ rest)
      ∙ (λ k. map (number_at views) (take (suc i) seats) ++ sym (number_of (suc i) v p) k ∷ [])
      ∙ sym (map-append (number_at views) (take (suc i) seats) (p.seat ∷ []))
      ∙ ap (map (number_at views)) (sym (take_next seats (suc i) p.seat p.place))

  pub queue_is : queue_of words views ≡ map (number_at views) seats
  queue_is = elim (length seats) as (λ x. length seats ≡ x → queue_of words views ≡ map (number_at views) seats) [
    | zero ↦ λ e. ap (passes_to words views (length words)) (q.core.empty e) ∙ none_to words views (length words)
        ∙ ap (map (number_at views)) (sym (none_left seats e))
    | suc m ↦ λ e.
        let u = placed_at q m (omega (arith, e)) in
        let few = few_seats mcs_discipline n tag words seats views q in
        let long = q.long in
        ap (passes_to words views (length words)) (q.core.last m u.0 u.1 e)
        ∙ passes_are m (length words) u.0 u.1 (omega (arith, few, long, e))
        ∙ ap (map (number_at views)) (ap (λ (x : ℕ). take x seats) (sym e) ∙ take-length seats)
  ] refl

-- a view that is the same but for the passes that its seat has
same_links : (u v : View) → IsSame u v → KeepsLinks v u
same_links u v s = record { number = s.number; predecessor = s.predecessor; linked = λ e. s.linked ∙ e; queued = λ e. sym s.phase ∙ e }

-- the words that the links of the queue speak of
record AreKept (words words' : List ℕ) : Type 0 where
  pub tails : slice_index words' tail ≡ slice_index words tail
  pub nexts : (p : ℕ) → slice_index words' (next p) ≡ slice_index words (next p)
  pub lockeds : (p : ℕ) → slice_index words' (locked p) ≡ slice_index words (locked p)

all_kept : (words : List ℕ) → AreKept words words
all_kept words = record { tails = refl; nexts = λ p. refl; lockeds = λ p. refl }

wrote_waiting : (words : List ℕ) (x : ℕ) → AreKept words (set words waiting x)
wrote_waiting words x = record {
  tails = wrote_else words waiting tail x (λ e. omega arith);
  nexts = λ p. wrote_else words waiting (next p) x (λ e. omega arith);
  lockeds = λ p. wrote_else words waiting (locked p) x (λ e. omega arith);
}

same_prepared : (words words' : List ℕ) (u v : View) → AreKept words words' → IsSame u v → IsPrepared words v → IsPrepared words' u
same_prepared words words' u v k s p = record {
  unlinked = λ e. let r = p.unlinked (sym s.unlinked ∙ e) in
      (s.phase ∙ r.0, k.nexts u.number ∙ ap (λ (x : ℕ). slice_index words (next x)) s.number ∙ r.1);
  raised = λ e. let r = p.raised (sym s.raised ∙ e) in
      (s.phase ∙ r.0, k.lockeds u.number ∙ ap (λ (x : ℕ). slice_index words (locked x)) s.number ∙ r.1);
}

-- a view that differs in what it knows of steps and waiters
noted_same : (v w : View) → IsNoted v w → IsSame w v
noted_same v w e = record {
  phase = ap (λ (x : View). x.phase) e;
  number = ap (λ (x : View). x.number) e;
  spent = ap (λ (x : View). x.spent) e;
  ticket = ap (λ (x : View). x.ticket) e;
  node = ap (λ (x : View). x.node) e;
  predecessor = ap (λ (x : View). x.predecessor) e;
  unlinked = ap (λ (x : View). x.unlinked) e;
  raised = ap (λ (x : View). x.raised) e;
  linked = ap (λ (x : View). x.linked) e;
  successor = ap (λ (x : View). x.successor) e;
  owes = ap (λ (x : View). x.owes) e;
}

-- each seat was there, where one has a view that differs so
was_noted : (views : List View) (id : ℕ) (v w : View) → get_elem? views id ≡ some v → IsNoted v w → (j : ℕ) (u : View)
    → get_elem? (set views id w) j ≡ some u → WasAt views j u
was_noted views id v w at noted j u e = ⊎_elim
    (λ (t : (j ≡ id) × (w ≡ u)). subst (WasAt views j) t.1
    (record { view = v; at = ap (get_elem? views) t.0 ∙ at; same = noted_same v w noted }))
    (λ (t : (j ≢ id) × (get_elem? views j ≡ some u)). record { view = u; at = t.1; same = noted_same u u refl })
    (at_set views id j w u e)

-- where the seats of the queue have views like they had
core_same : (n : ℕ) (words words' seats : List ℕ) (views views' : List View) → AreKept words words' → IsLinked n words seats views
    → length views ≤ length views'
    → ((i j : ℕ) (u : View) → get_elem? seats i ≡ some j → get_elem? views' j ≡ some u → WasAt views j u)
    → ((j : ℕ) (u : View) → get_elem? views' j ≡ some u → u.spent ≡ false → IsPrepared words' u)
    → IsLinked n words' seats views'
core_same n words words' seats views views' same k long was prepared =
    let before_it : (i : ℕ) (u : View) → IsPlaced seats views' i u → WasPlaced seats views i u = λ i u p.
    (let w = was i p.seat u p.place p.at in record {
      view = w.view;
      placed = record { seat = p.seat; place = p.place; at = w.at };
      keeps = same_links u w.view w.same;
    }) in
    core_from words' views' k same.tails long before_it (λ i u p. same.lockeds u.number)
    (λ i u p ne. names_still (still long before_it (suc i))
    (names_as (sym (same.nexts u.number)) (k.links i u p (λ e. ne (same.nexts u.number ∙ e)))))
    (λ i u p ne. let w = was i p.seat u p.place p.at in names_still (still long before_it (suc i))
    (names_as (sym w.same.successor) (k.noted i w.view (before_it i u p).placed (λ e. ne (w.same.successor ∙ e)))))
    prepared

pub disciplined : IsDisciplined mcs_discipline
disciplined = record {
  opens_long = λ n. length-replicate (row_of Mcs n) 0;
  opens_unannounced = λ n. index_replicate (row_of Mcs n) waiting;
  opens = λ c n tag some_pass few. core_empty (index_replicate (row_of Mcs n) tail)
      (λ j v e live. first_prepared c n tag (replicate (row_of Mcs n) 0) j v e);
  notes = λ n words seats views x id v w at noted k. core_same n words (set words waiting x) seats views (set views id w)
      (wrote_waiting words x) k (let a = length-set views id w in omega (arith, a))
      (λ i j u _ e. was_noted views id v w at noted j u e)
      (λ j u e live. let t = was_noted views id v w at noted j u e in
      same_prepared words (set words waiting x) u t.view (wrote_waiting words x) t.same
      (k.prepared j t.view t.at (sym t.same.spent ∙ live)));
  splits = λ n tag words seats views id v q at live more. core_same n words words seats views
      (set views id (without_next v) ++ next_split v ∷ []) (all_kept words) q.core
      (let a = length-append (set views id (without_next v)) (next_split v ∷ []) in let b = length-set views id (without_next v)
      in omega (arith, a, b))
      (λ i j u e e'. placed_before_split mcs_discipline n tag words seats views q id v at i j u e e')
      (λ j u e live'. ⊎_elim
      (λ (t : WasAt views j u). same_prepared words words u t.view (all_kept words) t.same
      (q.core.prepared j t.view t.at (sym t.same.spent ∙ live')))
      (λ (t : (j ≡ length views) × (next_split v ≡ u)). subst (IsPrepared words) t.1 (fresh_prepared words (next_split v) refl refl))
      (after_split views id v at j u e));
  joins = λ n tag words seats views id v other w q at live apart at' idle plain. core_same n words words seats views
      (set (set views id (joined_view v w)) other spent_view) (all_kept words) q.core
      (let a = length-set (set views id (joined_view v w)) other spent_view in let b = length-set views id (joined_view v w)
      in omega (arith, a, b))
      (λ i j u e e'. placed_before_join mcs_discipline n tag words seats views q id v other w at at' apart idle i j u e e')
      (λ j u e live'. ⊎_elim
      (λ (t : (j ≢ other) × WasAt views j u). same_prepared words words u t.1.view (all_kept words) t.1.same
      (q.core.prepared j t.1.view t.1.at (sym t.1.same.spent ∙ live')))
      (λ (t : (j ≡ other) × (spent_view ≡ u)). subst (IsPrepared words) t.1 (fresh_prepared words spent_view refl refl))
      (after_join views id v other w at j u e));
  queue_is = λ n tag words seats views q. queue_is q;
}
