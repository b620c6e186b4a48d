-- What holds of each element that a filter, a map or a map to lists leaves.
use Rattle.std.proofs.Common.{◌≡◌, ℕ, zero, suc, ◌+◌, ◌<◌, ◌≤◌, Bool, true, cond, List, [], ◌∷◌, ◌++◌, map, sym, ap, subst, inl, inr, arith}
use Rattle.std.specs.List.{AllByRecursion, filter, flat_map, range_with_len}
use Rattle.std.proofs.lemmas.Bool.{cases_Bool}

pub all_append : {X : Type 0} (P : X → Type 0) (xs ys : List X) → AllByRecursion P xs → AllByRecursion P ys → AllByRecursion P (xs ++ ys)
all_append P [] ys one other = other
all_append P (x ∷ xs) ys one other = (one.0, all_append P xs ys one.1 other)

pub all_flat : {X Y : Type 0} (P : X → Type 0) (Q : Y → Type 0) (f : X → List Y) → ((x : X) → P x → AllByRecursion Q (f x)) → (xs : List X)
    → AllByRecursion P xs → AllByRecursion Q (flat_map f xs)
all_flat P Q f each [] all = tt
all_flat P Q f each (x ∷ xs) all = all_append Q (f x) (flat_map f xs) (each x all.0) (all_flat P Q f each xs all.1)

pub all_mapped : {X Y : Type 0} (P : X → Type 0) (Q : Y → Type 0) (f : X → Y) → ((x : X) → P x → Q (f x)) → (xs : List X)
    → AllByRecursion P xs → AllByRecursion Q (map f xs)
all_mapped P Q f each [] all = tt
all_mapped P Q f each (x ∷ xs) all = (each x all.0, all_mapped P Q f each xs all.1)

module _ (test : ℕ → Bool) (limit : ℕ) where
  abbrev pub Passes : ℕ → Type 0
  Passes n = (n < limit) × (test n ≡ true)

  pub kept_pass : (start count : ℕ) → start + count ≤ limit → AllByRecursion Passes (filter test (range_with_len start count))
  kept_pass start zero within = tt
  kept_pass start (suc count) within =
      let rest = filter test (range_with_len (start + 1) count) in
      let later = kept_pass (start + 1) count (omega arith) in
      elim (cases_Bool (test start)) [
        | inl yes_a ↦ subst (AllByRecursion Passes) (sym (ap (λ b. cond b (start ∷ rest) rest) yes_a)) ((omega arith, yes_a), later)
        | inr no_a ↦ subst (AllByRecursion Passes) (sym (ap (λ b. cond b (start ∷ rest) rest) no_a)) later
      ]
