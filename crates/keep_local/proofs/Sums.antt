-- Sums over the seats of a table, which are read by `get_elem?`.
use Rattle.std.proofs.Common.{◌≡◌, ◌≢◌, ℕ, zero, suc, ◌+◌, ◌<◌, ◌≤◌, List, [], ◌∷◌, length, get_or, set, ap, sym, ◌∙◌, arith}
use Rattle.std.specs.List.{sum_by}
use Rattle.std.proofs.lemmas.List.Sums.{sum_by-set, get_or-le-sum_by}
use mathlib.Core.Option.{some, some-injective, some-ne-none}
use lib.ListN.{get_elem?}
use Rattle.atomic_table.proofs.Lists.{set_else}

module _ {X : Type 0} where
  there : (xs : List X) (i : ℕ) (x : X) → get_elem? xs i ≡ some x → i < length xs
  there [] i x e = absurd (some-ne-none x (sym e))
  there (z ∷ zs) zero x e = omega arith
  there (z ∷ zs) (suc i) x e = omega (arith, there zs i x e)

  read : (xs : List X) (i : ℕ) (x : X) → get_elem? xs i ≡ some x → get_or xs i x ≡ x
  read [] i x e = absurd (some-ne-none x (sym e))
  read (z ∷ zs) zero x e = some-injective z x e
  read (z ∷ zs) (suc i) x e = read zs i x e

module _ {X : Type 0} (f : X → ℕ) where
  -- one seat is replaced
  pub sum_set : (xs : List X) (i : ℕ) (x y : X) → get_elem? xs i ≡ some x → sum_by f (set xs i y) + f x ≡ sum_by f xs + f y
  sum_set xs i x y e = let s = sum_by-set f xs i y x (there xs i x e) in let r = ap f (read xs i x e) in omega (arith, s, r)

  -- a seat is no more than the sum
  pub part_le : (xs : List X) (i : ℕ) (x : X) → get_elem? xs i ≡ some x → f x ≤ sum_by f xs
  part_le xs i x e = let s = get_or-le-sum_by f xs i x (there xs i x e) in let r = ap f (read xs i x e) in omega (arith, s, r)

  -- nor are two seats, where one of them can be emptied
  pub parts_le : (xs : List X) (i j : ℕ) (x y empty : X) → f empty ≡ 0 → j ≢ i → get_elem? xs i ≡ some x → get_elem? xs j ≡ some y
      → f x + f y ≤ sum_by f xs
  parts_le xs i j x y empty zero_empty other e e' =
      let s = sum_set xs i x empty e in
      let p = part_le (set xs i empty) j y (set_else xs i j empty other ∙ e') in
      omega (arith, s, p, zero_empty)
