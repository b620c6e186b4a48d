use Rattle.std.proofs.Common.{◌≡◌, ℕ, zero, suc, ◌+◌, ◌-◌, ◌<◌, ◌≤◌, [], ◌∷◌, length, take, ap, ◌∙◌, arith}
use Rattle.std.specs.Prelude.{slice_index_or}
use Rattle.synth_text.specs.Rules.{arities, product}
use Rattle.topo_tree.proofs.CountLaws.{last_count}
use Rattle.example_cohorts.proofs.count.Goals as goal

-- where there are four, the callers' PUs are some of them
four : (k d n : ℕ) → k < 4 → 4 ≤ n → slice_index_or (0 ∷ 1 ∷ 2 ∷ 3 ∷ []) k d < n
four zero d n h many = omega (arith, many)
four (suc zero) d n h many = omega (arith, many)
four (suc (suc zero)) d n h many = omega (arith, many)
four (suc (suc (suc zero))) d n h many = omega (arith, many)
four (suc (suc (suc (suc k)))) d n h many = absurd (omega (arith, h))

pub shape-requires-clause-pus : goal.shape-requires-clause-pus
shape-requires-clause-pus g c =
    let levels = c.in_ok-tree.tree.levels in
    let last = last_count levels in
    let deepest : c.depths.result - 1 ≡ length levels = (let is = c.depths.ensures.count in omega (arith, is)) in
    let is = c.count-pus.ensures.count ∙ ap (λ (n : ℕ). product (take n (arities levels))) deepest ∙ last in
    let enough = c.if-pus-lt4.false in
    λ k d h. four k d _ h (omega (arith, is, enough))
