-- The runs of an ascending list are its maximal ones.
use Rattle.std.proofs.Common.{
  ◌≡◌,
  ℕ,
  zero,
  suc,
  ◌+◌,
  ◌-◌,
  ◌<◌,
  ◌≤◌,
  Bool,
  true,
  false,
  cond,
  ◌==◌,
  List,
  [],
  ◌∷◌,
  ◌++◌,
  length,
  get_or,
  refl,
  sym,
  ap,
  ◌∙◌,
  subst,
  arith,
}
use Rattle.std.specs.List.{AllByRecursion, AllAdjacentBelow, flat_map, range_with_len}
use Rattle.std.proofs.lemmas.Bool.{eqb-true, eqb-false}
use Rattle.std.proofs.lemmas.List.Elements.{All-from_recursion}
use Rattle.cpu_set.specs.Sets.{IsSet}
use Rattle.cpu_set.specs.SetLaws.{Rises}
use Rattle.cpu_set.specs.Texts.{onto_runs, runs_of}
use Rattle.cpu_set.specs.Laws.{AreMaximalRuns}
use Rattle.cpu_set.proofs.Ends.{rising}

-- the runs begin at the number or above it, none is empty, and a number lies between each and the next
abbrev Apart : ℕ → List (ℕ × ℕ) → Type 0
Apart low [] = Unit {0}
Apart low ((first, last) ∷ runs) = (low ≤ first) × (first ≤ last) × Apart (last + 2) runs

Apart-lower : (low lower : ℕ) (runs : List (ℕ × ℕ)) → lower ≤ low → Apart low runs → Apart lower runs
Apart-lower low lower [] less apart = tt
Apart-lower low lower ((first, last) ∷ runs) less apart = (omega (arith, apart.0), apart.1, apart.2)

onto_apart : (number : ℕ) (runs : List (ℕ × ℕ)) → Apart (number + 1) runs → Apart number (onto_runs number runs)
onto_apart number [] apart = (omega arith, omega arith, tt)
onto_apart number ((first, last) ∷ runs) apart = pick (first == number + 1) refl
  where
    pick : (next : Bool) → (first == number + 1) ≡ next
        → Apart number (cond next ((number, last) ∷ runs) ((number, number) ∷ (first, last) ∷ runs))
    pick true is = (omega arith, omega (arith, apart.0, apart.1), apart.2)
    pick false is = (omega arith, omega arith, (omega (arith, apart.0, eqb-false first (number + 1) is), apart.1, apart.2))

runs_apart : (low : ℕ) (numbers : List ℕ) → Rises low numbers → Apart low (runs_of numbers)
runs_apart low [] rises = tt
runs_apart low (number ∷ numbers) rises =
    Apart-lower number low (onto_runs number (runs_of numbers)) rises.0
    (onto_apart number (runs_of numbers) (runs_apart (number + 1) numbers rises.1))

abbrev numbers_of : List (ℕ × ℕ) → List ℕ
numbers_of runs = flat_map (λ run. range_with_len run.0 (run.1 + 1 - run.0)) runs

range_one_more : (number last : ℕ) → number + 1 ≤ last
    → range_with_len number (last + 1 - number) ≡ number ∷ range_with_len (number + 1) (last + 1 - (number + 1))
range_one_more number last order =
    ap (range_with_len number) (let count : last + 1 - number ≡ suc (last + 1 - (number + 1)) = omega arith in count)

range_one : (number : ℕ) → range_with_len number (number + 1 - number) ≡ number ∷ []
range_one number = ap (range_with_len number) (let count : number + 1 - number ≡ 1 = omega arith in count)

numbers_of-onto : (number : ℕ) (runs : List (ℕ × ℕ)) → Apart (number + 1) runs
    → numbers_of (onto_runs number runs) ≡ number ∷ numbers_of runs
numbers_of-onto number [] apart = ap (λ front. front ++ []) (range_one number)
numbers_of-onto number ((first, last) ∷ runs) apart = pick (first == number + 1) refl
  where
    pick : (next : Bool) → (first == number + 1) ≡ next
        → numbers_of (cond next ((number, last) ∷ runs) ((number, number) ∷ (first, last) ∷ runs)) ≡ number ∷ numbers_of
        ((first, last) ∷ runs)
    pick true is =
        ap (λ front. front ++ numbers_of runs) (range_one_more number last (omega (arith, apart.0, apart.1)))
        ∙ ap (λ start. number ∷ (range_with_len start (last + 1 - start) ++ numbers_of runs)) (sym (eqb-true first (number + 1) is))
    pick false is = ap (λ front. front ++ numbers_of ((first, last) ∷ runs)) (range_one number)

numbers_back : (low : ℕ) (numbers : List ℕ) → Rises low numbers → numbers_of (runs_of numbers) ≡ numbers
numbers_back low [] rises = refl
numbers_back low (number ∷ numbers) rises =
    numbers_of-onto number (runs_of numbers) (runs_apart (number + 1) numbers rises.1)
    ∙ ap (λ rest. number ∷ rest) (numbers_back (number + 1) numbers rises.1)

some_numbers : (low : ℕ) (runs : List (ℕ × ℕ)) → Apart low runs → AllByRecursion (λ run. run.0 ≤ run.1) runs
some_numbers low [] apart = tt
some_numbers low ((first, last) ∷ runs) apart = (apart.1, some_numbers (last + 2) runs apart.2)

gaps : (low : ℕ) (runs : List (ℕ × ℕ)) → Apart low runs → AllAdjacentBelow (λ run next. run.1 + 1 < next.0) runs (length runs)
gaps low runs apart = λ k d within. gap_at low runs k d apart within
  where
    gap_at : (low : ℕ) (runs : List (ℕ × ℕ)) (k : ℕ) (d : ℕ × ℕ) → Apart low runs → k + 1 < length runs
        → (get_or runs k d).1 + 1 < (get_or runs (k + 1) d).0
    gap_at low [] k d apart within = absurd (omega arith)
    gap_at low ((first, last) ∷ []) k d apart within = absurd (omega arith)
    gap_at low ((first, last) ∷ (second, end) ∷ runs) zero d apart within = omega (arith, apart.2.0)
    gap_at low ((first, last) ∷ (second, end) ∷ runs) (suc k) d apart within =
        let all = (first, last) ∷ (second, end) ∷ runs in
        let next : suc (k + 1) ≡ suc k + 1 = omega arith in
        subst (λ i. (get_or all (suc k) d).1 + 1 < (get_or all i d).0) next
        (gap_at (last + 2) ((second, end) ∷ runs) k d apart.2 (omega arith))

pub maximal_runs : (set : List ℕ) → IsSet set → AreMaximalRuns set (runs_of set)
maximal_runs set ok = record {
  whole = numbers_back 0 set (rising set ok);
  some = All-from_recursion (λ run. run.0 ≤ run.1) (runs_of set) (some_numbers 0 (runs_of set) (runs_apart 0 set (rising set ok)));
  apart = gaps 0 (runs_of set) (runs_apart 0 set (rising set ok));
}
