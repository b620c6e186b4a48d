-- The nodes of a CLH lock: each once, and their flags.
use Rattle.std.proofs.Common.{◌≡◌, ◌≢◌, ℕ, zero, suc, ◌+◌, ◌<◌, ◌≤◌, true, false, cond, ◌==◌, List, [], ◌∷◌, length, set}
use Rattle.std.proofs.Common.{replicate, slice_index, nat_le, nat_lt, refl, ap, ◌∙◌, arith}
use Rattle.std.specs.List.{sum_by}
use Rattle.std.proofs.lemmas.Bool.Decides.{nat_tests}
use mathlib.Core.Option.{some}
use lib.ListN.{get_elem?}
use Rattle.lock_rules.specs.declared.view.View.{View}
use Rattle.lock_tables.specs.Numbers.{by_node, stands_in}
use Rattle.lock_tables.proofs.Numbers.{own_stands, own_apart, hits, hits_self}
use Rattle.lock_rules.proofs.Sums.{sum_set, part_le}
use Rattle.clh_lock.specs.Rule.{pending}

-- words after a store of a pending flag: one that was pending stays so
pub stays_pending : (words : List ℕ) (i j : ℕ) → i < length words → slice_index words j ≡ pending
    → slice_index (set words i pending) j ≡ pending
stays_pending [] i j h e = e
stays_pending (w ∷ ws) zero zero h e = refl
stays_pending (w ∷ ws) zero (suc j) h e = e
stays_pending (w ∷ ws) (suc i) zero h e = e
stays_pending (w ∷ ws) (suc i) (suc j) h e = stays_pending ws i j (omega arith) e

pub zeros : (count i : ℕ) → slice_index (replicate count 0) i ≡ 0
zeros zero i = refl
zeros (suc count) zero = refl
zeros (suc count) (suc i) = zeros count i

-- the nodes 0 to n stand each once among those of the views and the free one
abbrev pub Once : ℕ → List View → ℕ → Type 0
Once n views free = (k : ℕ) → sum_by (stands_in by_node k) views + cond (free == k) 1 0 ≡ cond (nat_le k n) 1 0

pub is_within : (k n : ℕ) → 0 < cond (nat_le k n) 1 0 → k ≤ n
is_within k n h = grind (arith, nat_tests)

pub at_most_one : (k n : ℕ) → cond (nat_le k n) 1 0 ≤ 1
at_most_one k n = elim (nat_le k n) as (λ b. cond b 1 0 ≤ 1) [ true ↦ omega arith | false ↦ omega arith ]

pub with_last : (n k : ℕ) → cond (nat_lt k n) 1 0 + cond (n == k) 1 0 ≡ cond (nat_le k n) 1 0
with_last n k = grind (arith, nat_tests)

module _ (n : ℕ) (views : List View) (free : ℕ) (once : Once n views free) where
  pub free_within : free ≤ n
  free_within = let c : ℕ = cond (nat_le free n) 1 0 in let o : sum_by (stands_in by_node free) views + hits free free ≡ c = once free in
      let h = hits_self free in let pos : 0 < c = omega (arith, o, h) in is_within free n pos

  pub own_once : (j : ℕ) (v : View) → get_elem? views j ≡ some v → v.spent ≡ false → 1 ≤ sum_by (stands_in by_node v.node) views
  own_once j v at live = let p = part_le (stands_in by_node v.node) views j v at in let s = own_stands by_node v live in omega (arith, p, s)

  pub own_within : (j : ℕ) (v : View) → get_elem? views j ≡ some v → v.spent ≡ false → v.node ≤ n
  own_within j v at live =
      let c : ℕ = cond (nat_le v.node n) 1 0 in
      let o : sum_by (stands_in by_node v.node) views + cond (free == v.node) 1 0 ≡ c = once v.node in
      let h = own_once j v at live in let pos : 0 < c = omega (arith, o, h) in is_within v.node n pos

  -- the free node is not the own one of a seat
  pub not_free : (j : ℕ) (v : View) → get_elem? views j ≡ some v → v.spent ≡ false → free ≢ v.node
  not_free j v at live e =
      let o : sum_by (stands_in by_node v.node) views + hits free v.node ≡ cond (nat_le v.node n) 1 0 = once v.node in
      let h = own_once j v at live in
      let f : hits free v.node ≡ 1 = ap (λ (x : ℕ). hits x v.node) e ∙ hits_self v.node in
      let m = at_most_one v.node n in omega (arith, o, h, f, m)

  -- two seats do not have one node
  pub nodes_apart : (i j : ℕ) (v u : View) → get_elem? views i ≡ some v → get_elem? views j ≡ some u → v.spent ≡ false
      → u.spent ≡ false → j ≢ i → u.node ≢ v.node
  nodes_apart i j v u at at' live live' ne =
      let o = once v.node in let m = at_most_one v.node n in
      own_apart by_node views i j v u (omega (arith, o, m)) at at' live live' ne

-- a step that leaves its seat's nodes
pub nodes_stay : (n : ℕ) (views : List View) (free : ℕ) (id : ℕ) (v w : View) → get_elem? views id ≡ some v → ((k : ℕ)
    → stands_in by_node k w ≡ stands_in by_node k v)
    → Once n views free → Once n (set views id w) free
nodes_stay n views free id v w at same once k =
    let s = sum_set (stands_in by_node k) views id v w at in let e = same k in let o = once k in
    let c : ℕ = cond (nat_le k n) 1 0 in
    let o' : sum_by (stands_in by_node k) views + hits free k ≡ c = once k in
    let goal : sum_by (stands_in by_node k) (set views id w) + hits free k ≡ c = omega (arith, s, e, o') in goal
