-- The numbers of callers.
use Rattle.std.proofs.Common.{◌≡◌, ◌≤◌, ℕ, ◌+◌, List, [], ◌∷◌, ◌++◌, cond, ◌==◌, arith}
use Rattle.std.proofs.lemmas.Bool.Decides.{nat_tests}
use Rattle.std.proofs.lemmas.List.Sums.{sum_by_push}
use Rattle.cohort_queue.specs.Numbers.{times, once_below}

-- one more number behind those below it
pub one_more : (x n : ℕ) (xs : List ℕ) → times x xs ≡ once_below n x → times x (xs ++ n ∷ []) ≡ once_below (n + 1) x
one_more x n xs had = let push = sum_by_push (λ z. cond (z == x) 1 0) xs n in grind (arith, nat_tests)

pub once_le : (n k : ℕ) → once_below n k ≤ 1
once_le n k = grind (arith, nat_tests)
