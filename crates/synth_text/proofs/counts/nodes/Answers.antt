use Rattle.std.proofs.Common.{ℕ, take, arith, sym, ap, ◌∙◌}
use Rattle.std.proofs.lemmas.List.{take_min, take-map}
use Rattle.synth_text.specs.Rules.{arities, product}
use Rattle.synth_text.proofs.RuleLaws.{product-take-le}
use Rattle.synth_text.proofs.counts.nodes.Goals as goal

pub unreachable-requires : goal.unreachable-requires
unreachable-requires c =
    let few = product-take-le c.args.levels.now c.min-above.result c.requires.some_each in
    let pus = c.requires.pus in
    omega (arith, c.in-None-count_objects.ensures)

pub returns-in-Some-count_objects-clause-node_count : goal.returns-in-Some-count_objects-clause-node_count
returns-in-Some-count_objects-clause-node_count c =
    let levels = c.args.levels.now in
    let above = c.in-Some.memory.above in
    rw c.in-Some.is
    (c.in-Some-count_objects.ensures.0
    ∙ ap product (ap (λ (n : ℕ). arities (take n levels)) c.min-above.ensures ∙ ap arities (take_min above levels)
    ∙ sym (take-map (λ level. level.arity) above levels)))
