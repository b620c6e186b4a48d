-- The equal quotas of the callers of an unrecorded trail.
use Rattle.std.proofs.Common.{◌≡◌, ℕ, zero, suc, ◌-◌, ◌*◌, ◌/◌, ◌^◌, ◌<◌, ◌≤◌, sym, subst, arith}
use Rattle.std.specs.Prelude.{max, replicate, sum}
use Rattle.std.proofs.lemmas.List.Folds.{sum_by-replicate}
use Rattle.std.proofs.Math.Nat.{mul-div-le}
use Rattle.keep_local.specs.States.{free_quota, free_quotas}

-- the equal parts of the greatest number of 64 bits are together no more than it
pub parts_fit : (callers : ℕ) → sum (free_quotas callers) < 2 ^ 64
parts_fit zero = omega arith
parts_fit (suc n) =
    let part : ℕ = free_quota (suc n) in
    let all : sum (replicate (suc n) part) ≡ suc n * part = sum_by-replicate (λ (x : ℕ). x) (suc n) part in
    let some : max (suc n) 1 ≡ suc n = omega arith in
    let within : suc n * part ≤ 2 ^ 64 - 1 =
    subst (λ (k : ℕ). suc n * ((2 ^ 64 - 1) / k) ≤ 2 ^ 64 - 1) (sym some) (mul-div-le (2 ^ 64 - 1) (suc n)) in
    omega (arith, all, within)
