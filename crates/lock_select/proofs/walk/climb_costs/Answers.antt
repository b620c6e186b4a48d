use Rattle.std.proofs.Common.{◌≡◌, ◌≢◌, ℕ, ◌+◌, ◌<◌, ◌≤◌, length, get_or, set, ap, ◌∙◌, arith, inl, inr}
use Rattle.std.specs.Prelude.{slice_index}
use Rattle.std.proofs.lemmas.Bool.{cases_order}
use Rattle.std.proofs.lemmas.List.{get_or-set_same, get_or-set_other, length-set}
use Rattle.std.proofs.lemmas.List.Elements.{All-get_or}
use Rattle.std.proofs.lemmas.List.Sums.{sum_by_more}
use Rattle.lock_select.specs.Costs.{climb_cost}
use Rattle.lock_select.specs.Texts.{weight_limit}
use Rattle.lock_select.proofs.walk.climb_costs.Goals as goal

pub loop-level-preserved : goal.loop-level-preserved
loop-level-preserved c =
    let depths = c.args.depths.now in
    let weights = c.args.weights.now in
    let level = c.loop-level.level in
    let costs = c.loop-level.costs in
    let within : level < length depths = omega arith in
    let depth = get_or depths level 0 in
    let weight = get_or weights depth 0 in
    let next = c.loop-level.cost + weight in
    let known : depth < length weights = All-get_or (λ (d : ℕ). d < length weights) depths level 0 within c.requires.within in
    let light : weight ≤ weight_limit = All-get_or (λ (w : ℕ). w ≤ weight_limit) weights depth 0 known c.requires.few in
    let more = sum_by_more (slice_index weights) depths level 0 within in
    let so_far = c.loop-level.invariant.so_far in
    let bound = c.loop-level.invariant.bound in
    let levels = c.requires.levels in
    let size = c.loop-level.invariant.size in
    let room : level < length costs = omega (arith, size, within, levels) in
    let same : get_or (set costs level next) level 0 ≡ next = get_or-set_same costs level next 0 room in
    record {
      size = length-set costs level next ∙ size;
      so_far = omega (arith, so_far, more);
      bound = omega (arith, bound, light);
      costs_are = λ k below. elim (cases_order k level) [
        | inl here ↦
            let a : get_or (set costs level next) k 0 ≡ get_or (set costs level next) level 0 =
            ap (λ (n : ℕ). get_or (set costs level next) n 0) here in
            let b = ap (climb_cost weights depths) here in
            omega (arith, a, same, b, so_far, more)
        | inr other ↦ elim other [
          | inl lower ↦
              let apart : k ≢ level = omega arith in
              get_or-set_other costs level k next 0 apart ∙ c.loop-level.invariant.costs_are k lower
          | inr higher ↦ absurd (omega arith)
        ]
      ];
      few = λ k. elim (cases_order k level) [
        | inl here ↦
            let a : get_or (set costs level next) k 0 ≡ get_or (set costs level next) level 0 =
            ap (λ (n : ℕ). get_or (set costs level next) n 0) here in
            omega (arith, a, same, bound, light, levels, within)
        | inr other ↦
            let apart : k ≢ level = λ here. elim other [
              | inl lower ↦ omega (arith, here, lower)
              | inr higher ↦ omega (arith, here, higher)
            ] in
            let a = get_or-set_other costs level k next 0 apart in
            let b = c.loop-level.invariant.few k in
            omega (arith, a, b)
      ];
    }
