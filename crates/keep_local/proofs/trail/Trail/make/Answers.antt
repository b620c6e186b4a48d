use Rattle.std.proofs.Common.{◌^◌, ◌<◌, ◌≤◌, List, ℕ, length, ap, sym, subst, refl, ◌∙◌, vec_capacity}
use Rattle.std.specs.Prelude.{slice_index, sum}
use Rattle.keep_local.specs.Trails.{IsKept}
use Rattle.keep_local.proofs.Steps.{log_new}
use Rattle.keep_local.proofs.trail.Trail.make.Goals as goal

pub invariant_of-result : goal.invariant_of-result
invariant_of-result c =
    let quotas = c.in_ok-tie.ensures.quotas in
    let countable : (level : ℕ) → slice_index c.args.shape.keeps level < 2 ^ 32 =
    λ level. subst (λ (keeps : List ℕ). slice_index keeps level < 2 ^ 32) c.as_slice.ensures (c.check_keeps.ensures level) in
    subst IsKept (sym c.in_ok-log.ensures.ok)
    (log_new _ c.requires.shape c.requires.few countable (ap length quotas ∙ c.requires.quotas)
    (subst (λ (qs : List ℕ). sum qs < 2 ^ 64) (sym quotas) c.requires.fits)
    (λ is. subst (λ (qs : List ℕ). sum qs < 2 ^ 32) (sym quotas) (c.requires.recordable is))
    c.in_ok-tie.ensures.callers c.in_ok-receipts.ensures c.requires.empty refl refl refl
    (λ is. subst (λ (qs : List ℕ). sum qs ≤ vec_capacity c.args.turns) (sym quotas) (c.requires.room is)) refl).kept

pub returns-clause-lawful : goal.returns-clause-lawful
returns-clause-lawful c =
    let quotas = c.in_ok-tie.ensures.quotas in
    let countable : (level : ℕ) → slice_index c.args.shape.keeps level < 2 ^ 32 =
    λ level. subst (λ (keeps : List ℕ). slice_index keeps level < 2 ^ 32) c.as_slice.ensures (c.check_keeps.ensures level) in
    (subst IsKept (sym c.in_ok-log.ensures.ok)
    (log_new _ c.requires.shape c.requires.few countable (ap length quotas ∙ c.requires.quotas)
    (subst (λ (qs : List ℕ). sum qs < 2 ^ 64) (sym quotas) c.requires.fits)
    (λ is. subst (λ (qs : List ℕ). sum qs < 2 ^ 32) (sym quotas) (c.requires.recordable is))
    c.in_ok-tie.ensures.callers c.in_ok-receipts.ensures c.requires.empty refl refl refl
    (λ is. subst (λ (qs : List ℕ). sum qs ≤ vec_capacity c.args.turns) (sym quotas) (c.requires.room is)) refl).kept).trail
