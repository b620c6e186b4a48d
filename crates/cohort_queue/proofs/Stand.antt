-- Each number stands once.
use Rattle.std.proofs.Common.{◌≡◌, inl, inr, ℕ, ◌+◌, ◌≤◌, List, refl, arith}
use Rattle.std.specs.List.{sum_by}
use mathlib.Core.Logic.{dite}
use native.Mathlib.Decide.{ℕ_discrete}
use Rattle.lock_rules.proofs.Sums.{part_le, parts_le, some_part}
use Rattle.lock_rules.specs.Tag.{Tag}
use Rattle.cohort_queue.specs.Laws.{StandsOnce, NoneLostOrDoubled}
use Rattle.cohort_queue.specs.Numbers.{times, IsIn}
use Rattle.cohort_queue.specs.Rule.{IsCohort, times_queued}
use Rattle.cohort_queue.specs.declared.view.View.{View}

module _ {J : Type 0} (number : J → ℕ) (tag_of : J → Tag) where
  stands : (queue : List J) (views : List View) (state : IsCohort number tag_of queue views) (x : ℕ) → IsIn x state.given
      → (queued : ℕ) → queued ≡ times_queued number x queue → StandsOnce number x queue views
  stands queue views state x given queued e =
      let f : View → ℕ = λ v. times x v.outs in
      let all : queued + sum_by f views ≡ 1 = omega (arith, e, state.once x, state.distinct x, given) in
      dite (ℕ_discrete queued 0)
      (λ none.
      let some = some_part f views (omega (arith, all, none)) in
      let least : 1 ≤ f some.1 = some.3 in
      let most = part_le f views some.0 some.1 some.2 in
      inr (
        omega (arith, e, none),
        record {
          seat = some.0;
          v = some.1;
          at = some.2;
          once = omega (arith, least, most, all);
          alone = λ j v at other.
              let both = parts_le f views j some.0 v some.1 other at some.2 in omega (arith, both, least, all);
        },
      ))
      (λ one. inl (omega (arith, e, one, all), λ j v at. let part = part_le f views j v at in omega (arith, part, one, all)))

  pub none_lost : NoneLostOrDoubled number tag_of
  none_lost queue views state x given = stands queue views state x given (times_queued number x queue) refl
