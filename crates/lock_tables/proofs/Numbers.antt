-- The numbers of a lock's passes, and numberings like it, at each kind of step.
use Rattle.std.proofs.Common.{◌≡◌, ◌≢◌, ℕ, ◌+◌, ◌-◌, ◌<◌, ◌≤◌, true, false, cond, ◌&&◌, List, [], ◌∷◌, ◌++◌, length, set, nat_le}
use Rattle.std.proofs.Common.{nat_lt, ◌==◌, eq-eqb, refl, ap, sym, ◌∙◌, subst, arith, length-append}
use Rattle.std.specs.List.{sum_by, count_by}
use Rattle.std.proofs.lemmas.List.Sums.{sum_by-cons, sum_by-append, sum_by_push}
use Rattle.std.proofs.lemmas.Bool.Decides.{nat_tests}
use mathlib.Core.Option.{some}
use lib.ListN.{get_elem?}
use Rattle.lock_rules.specs.Tag.{Tag}
use Rattle.lock_rules.specs.Views.{IsPlain, first_view, without_next, next_split, joined_view, spent_view}
use Rattle.lock_rules.specs.declared.view.Algorithm.{Algorithm}
use Rattle.lock_rules.specs.declared.view.View.{View}
use Rattle.lock_rules.specs.declared.view.Waiters.{Waiters}
use Rattle.lock_tables.specs.Numbers.{Numbering, by_pass, by_node, passes_of, stands_in, HasNumbers}
use Rattle.lock_rules.proofs.Sums.{sum_set, part_le, parts_le}

abbrev pub span : ℕ → ℕ → ℕ → ℕ
span from to k = cond (nat_le from k && nat_lt k to) 1 0

abbrev pub hits : ℕ → ℕ → ℕ
hits a k = cond (a == k) 1 0

abbrev pub times : ℕ → List ℕ → ℕ
times k l = count_by (λ x. x == k) l

pub hits_self : (a : ℕ) → hits a a ≡ 1
hits_self a = let e : (a == a) ≡ true = eq-eqb a a refl in rw e refl

-- the first of a span is one of it, and the rest is a span
span_first : (from to k : ℕ) → from < to → span from to k ≡ span (from + 1) to k + hits from k
span_first from to k h = grind (arith, nat_tests)

span_none : (from to k : ℕ) → to ≤ from → span from to k ≡ 0
span_none from to k h = grind (arith, nat_tests)

first_hit : (n k : ℕ) → 0 < n → hits (n - 1) k + span 0 (n - 1) k ≡ cond (nat_lt k n) 1 0
first_hit n k h = grind (arith, nat_tests)

-- A numbering by which passes are given out: the first seat has the last pass's number and none taken over, each seat that is split off
-- its pass's number, and a seat that takes over another takes its numbers
pub record IsDealt (m : Numbering) : Type 0 where
  pub first_own : (a : Algorithm) (ch : Waiters) (n : ℕ) (tag : Tag) → m.own (first_view a ch n tag) ≡ n - 1
  pub first_taken : (a : Algorithm) (ch : Waiters) (n : ℕ) (tag : Tag) → m.taken (first_view a ch n tag) ≡ []
  pub left_own : (v : View) → m.own (without_next v) ≡ m.own v
  pub left_taken : (v : View) → m.taken (without_next v) ≡ m.taken v
  pub right_own : (v : View) → m.own (next_split v) ≡ v.from
  pub right_taken : (v : View) → m.taken (next_split v) ≡ []
  pub both_own : (v w : View) → m.own (joined_view v w) ≡ m.own v
  pub both_taken : (v w : View) → m.taken (joined_view v w) ≡ m.own w ∷ m.taken w ++ m.taken v

pub pass_dealt : IsDealt by_pass
pass_dealt = record {
  first_own = λ a ch n tag. refl;
  first_taken = λ a ch n tag. refl;
  left_own = λ v. refl;
  left_taken = λ v. refl;
  right_own = λ v. refl;
  right_taken = λ v. refl;
  both_own = λ v w. refl;
  both_taken = λ v w. refl;
}

pub node_dealt : IsDealt by_node
node_dealt = record {
  first_own = λ a ch n tag. refl;
  first_taken = λ a ch n tag. refl;
  left_own = λ v. refl;
  left_taken = λ v. refl;
  right_own = λ v. refl;
  right_taken = λ v. refl;
  both_own = λ v w. refl;
  both_taken = λ v w. refl;
}

pub passes_unspent : (v : View) → v.spent ≡ false → passes_of v ≡ 1 + (v.to - v.from) + length v.joined
passes_unspent v e = rw e refl

-- a plain seat has one pass, and one that takes it over has one more
pub plain_size : (v : View) → IsPlain v → passes_of v ≡ 1
plain_size v p = let n = passes_unspent v p.unspent in let l : length v.joined ≡ 0 = ap length p.alone in omega (arith, n, l, p.split)

pub joined_size : (v w : View) → v.spent ≡ false → IsPlain w → passes_of (joined_view v w) ≡ passes_of v + 1
joined_size v w live p =
    let n = passes_unspent v live in
    let m = passes_unspent (joined_view v w) live in
    let l : length w.joined ≡ 0 = ap length p.alone in
    omega (arith, n, m, l, length-append w.joined v.joined)

module _ (m : Numbering) where
  pub stands_unspent : (k : ℕ) (v : View) → v.spent ≡ false → stands_in m k v ≡ hits (m.own v) k + span v.from v.to k + times k (m.taken v)
  stands_unspent k v e = rw e refl

  module _ (d : IsDealt m) where
    -- the first seat alone
    pub stands_first : (a : Algorithm) (ch : Waiters) (n : ℕ) (tag : Tag) (k : ℕ) → 0 < n
        → sum_by (stands_in m k) (first_view a ch n tag ∷ []) ≡ cond (nat_lt k n) 1 0
    stands_first a ch n tag k h =
        let s = sum_by-cons (stands_in m k) (first_view a ch n tag) [] in
        let f : stands_in m k (first_view a ch n tag) ≡ hits (n - 1) k + span 0 (n - 1) k + 0
        = stands_unspent k (first_view a ch n tag) refl
        ∙ (λ i. hits (d.first_own a ch n tag i) k + span 0 (n - 1) k + times k (d.first_taken a ch n tag i)) in
        let c : ℕ = cond (nat_lt k n) 1 0 in
        let g : hits (n - 1) k + span 0 (n - 1) k ≡ c = first_hit n k h in
        let goal : sum_by (stands_in m k) (first_view a ch n tag ∷ []) ≡ c = omega (arith, s, f, g) in goal

    -- a seat gives up its next number to a new one
    pub stands_split : (views : List View) (id : ℕ) (v : View) (k : ℕ) → get_elem? views id ≡ some v → v.spent ≡ false → v.from < v.to
        → sum_by (stands_in m k) (set views id (without_next v) ++ next_split v ∷ []) ≡ sum_by (stands_in m k) views
    stands_split views id v k at live more =
        let s = sum_set (stands_in m k) views id v (without_next v) at in
        let p = sum_by_push (stands_in m k) (set views id (without_next v)) (next_split v) in
        let a = stands_unspent k v live in
        let b : stands_in m k (without_next v) ≡ hits (m.own v) k + span (v.from + 1) v.to k + times k (m.taken v)
        = stands_unspent k (without_next v) live ∙ (λ i. hits (d.left_own v i) k + span (v.from + 1) v.to k + times k (d.left_taken v i)) in
        let c : stands_in m k (next_split v) ≡ hits v.from k + span 0 0 k + 0
        = stands_unspent k (next_split v) refl ∙ (λ i. hits (d.right_own v i) k + span 0 0 k + times k (d.right_taken v i)) in
        let f = span_first v.from v.to k more in
        let z = span_none 0 0 k (omega arith) in
        omega (arith, s, p, a, b, c, f, z)

    -- a seat takes over the numbers of another
    pub stands_join : (views : List View) (id : ℕ) (v : View) (other : ℕ) (w : View) (k : ℕ) → get_elem? views id ≡ some v
        → get_elem? (set views id (joined_view v w)) other ≡ some w
        → v.spent ≡ false → IsPlain w → sum_by (stands_in m k) (set (set views id (joined_view v w)) other spent_view) ≡ sum_by
        (stands_in m k) views
    stands_join views id v other w k at at' live plain =
        let s = sum_set (stands_in m k) views id v (joined_view v w) at in
        let t = sum_set (stands_in m k) (set views id (joined_view v w)) other w spent_view at' in
        let gone : stands_in m k spent_view ≡ 0 = refl in
        let a = stands_unspent k v live in
        let b : stands_in m k (joined_view v w) ≡ hits (m.own v) k + span v.from v.to k + times k (m.own w ∷ m.taken w ++ m.taken v)
        = stands_unspent k (joined_view v w) live ∙ (λ i. hits (d.both_own v w i) k + span v.from v.to k + times k (d.both_taken v w i)) in
        let c = stands_unspent k w plain.unspent in
        let l = sum_by-append (λ (x : ℕ). cond (x == k) 1 0) (m.taken w) (m.taken v) in
        let q = sum_by-cons (λ (x : ℕ). cond (x == k) 1 0) (m.own w) (m.taken w ++ m.taken v) in
        let z = span_none w.from w.to k (omega (arith, plain.split)) in
        omega (arith, s, t, gone, a, b, c, l, q, z)

-- a step that leaves how often a number stands in its seat
pub stands_step : (m : Numbering) (views : List View) (id : ℕ) (v w : View) (k : ℕ) → get_elem? views id ≡ some v
    → stands_in m k w ≡ stands_in m k v
    → sum_by (stands_in m k) (set views id w) ≡ sum_by (stands_in m k) views
stands_step m views id v w k at e = let s = sum_set (stands_in m k) views id v w at in omega (arith, s, e)

pub numbers_first : (a : Algorithm) (ch : Waiters) (n : ℕ) (tag : Tag) → 0 < n → HasNumbers n (first_view a ch n tag ∷ [])
numbers_first a ch n tag h = record { in_all = omega arith; once = λ k. stands_first by_pass pass_dealt a ch n tag k h }

-- a step that leaves the passes of its seat
pub numbers_step : (n : ℕ) (views : List View) (id : ℕ) (v w : View) → get_elem? views id ≡ some v → passes_of w ≡ passes_of v
    → ((k : ℕ) → stands_in by_pass k w ≡ stands_in by_pass k v)
    → HasNumbers n views → HasNumbers n (set views id w)
numbers_step n views id v w at size stand had = record {
  in_all = let s = sum_set passes_of views id v w at in let a = had.in_all in omega (arith, s, a, size);
  once = λ k. stands_step by_pass views id v w k at (stand k) ∙ had.once k;
}

pub numbers_split : (n : ℕ) (views : List View) (id : ℕ) (v : View) → get_elem? views id ≡ some v → v.spent ≡ false → v.from < v.to
    → HasNumbers n views → HasNumbers n (set views id (without_next v) ++ next_split v ∷ [])
numbers_split n views id v at live more had = record {
  in_all =
      let s = sum_set passes_of views id v (without_next v) at in
      let p = sum_by_push passes_of (set views id (without_next v)) (next_split v) in
      let a = passes_unspent v live in
      let b = passes_unspent (without_next v) live in
      let h = had.in_all in
      omega (arith, s, p, a, b, h, more);
  once = λ k. stands_split by_pass pass_dealt views id v k at live more ∙ had.once k;
}

pub numbers_join : (n : ℕ) (views : List View) (id : ℕ) (v : View) (other : ℕ) (w : View) → get_elem? views id ≡ some v
    → get_elem? (set views id (joined_view v w)) other ≡ some w
    → v.spent ≡ false → IsPlain w → HasNumbers n views → HasNumbers n (set (set views id (joined_view v w)) other spent_view)
numbers_join n views id v other w at at' live plain had = record {
  in_all =
      let s = sum_set passes_of views id v (joined_view v w) at in
      let t = sum_set passes_of (set views id (joined_view v w)) other w spent_view at' in
      let a = passes_unspent v live in
      let b = passes_unspent (joined_view v w) live in
      let c = passes_unspent w plain.unspent in
      let l = length-append w.joined v.joined in
      let h = had.in_all in
      let e = plain.split in
      omega (arith, s, t, a, b, c, l, h, e);
  once = λ k. stands_join by_pass pass_dealt views id v other w k at at' live plain ∙ had.once k;
}

-- the number of a seat is one of the lock's passes
pub number_below : (n : ℕ) (views : List View) (j : ℕ) (v : View) (k : ℕ) → HasNumbers n views → get_elem? views j ≡ some v
    → 0 < stands_in by_pass k v → k < n
number_below n views j v k had at h =
    let p = part_le (stands_in by_pass k) views j v at in
    let c : ℕ = cond (nat_lt k n) 1 0 in
    let o : sum_by (stands_in by_pass k) views ≡ c = had.once k in
    let pos : 0 < c = omega (arith, p, o, h) in grind (arith, nat_tests)

module _ (m : Numbering) where
  -- a seat that is not spent has its own number
  pub own_stands : (v : View) → v.spent ≡ false → 1 ≤ stands_in m (m.own v) v
  own_stands v live = let s = stands_unspent m (m.own v) v live in let a = hits_self (m.own v) in omega (arith, s, a)

  -- where a number stands once at most, it is not the own one of two seats that are not spent
  pub own_apart : (views : List View) (id j : ℕ) (v u : View) → sum_by (stands_in m (m.own v)) views ≤ 1 → get_elem? views id ≡ some v
      → get_elem? views j ≡ some u
      → v.spent ≡ false → u.spent ≡ false → j ≢ id → ¬ (m.own u ≡ m.own v)
  own_apart views id j v u once at at' live live' ne e =
      let p = parts_le (stands_in m (m.own v)) views id j v u (λ q. ne (sym q)) at at' in
      let x = own_stands v live in
      let y : 1 ≤ stands_in m (m.own v) u = subst (λ (k : ℕ). 1 ≤ stands_in m k u) e (own_stands u live') in
      omega (arith, p, x, y, once)

-- two seats that are not spent do not have one number
pub one_number : (n : ℕ) (views : List View) → HasNumbers n views → (id j : ℕ) (v u : View) → get_elem? views id ≡ some v
    → get_elem? views j ≡ some u → v.spent ≡ false → u.spent ≡ false → j ≢ id → ¬ (u.number ≡ v.number)
one_number n views had id j v u at at' live live' ne e =
    let c = had.once v.number in
    let d : cond (nat_lt v.number n) 1 0 ≤ 1 =
    elim (nat_lt v.number n) as (λ b. cond b 1 0 ≤ 1) [ true ↦ omega arith | false ↦ omega arith ] in
    own_apart by_pass views id j v u (omega (arith, c, d)) at at' live live' ne e

-- beside a seat that has all numbers each other one is spent
pub others_spent : (n : ℕ) (views : List View) (id : ℕ) (v : View) (j : ℕ) (u : View) → HasNumbers n views → get_elem? views id ≡ some v
    → passes_of v ≡ n → j ≢ id → get_elem? views j ≡ some u → u.spent ≡ true
others_spent n views id v j u had at all other at' = elim (u.spent) as (λ b. u.spent ≡ b → u.spent ≡ true) [
  | true ↦ λ e. e
  | false ↦ λ e. absurd (
      let p = parts_le passes_of views id j v u (λ q. other (sym q)) at at' in
      let a = passes_unspent u e in
      omega (arith, p, a, had.in_all, all))
] refl
