use Rattle.std.proofs.Common.{take, sym, ap, ◌∙◌, refl, arith}
use Rattle.synth_text.specs.declared.description.Indexes.TheVariants as indexes
use Rattle.synth_text.specs.Rules.{arities, product, node_count}
use Rattle.topo_tree.specs.Numbers.{numbers_of, indexes_fault}
use Rattle.topo_tree.specs.Building.{node_indexes, node_numbers}
use Rattle.topo_tree.proofs.CountLaws.{few_objects}
use Rattle.topo_tree.proofs.Faults.{no_fault}
use Rattle.topo_tree.proofs.building.node_numbers.Goals as goal

pub physical_numbers-requires-clause-few : goal.physical_numbers-requires-clause-few
physical_numbers-requires-clause-few c =
    let counted = c.count_down_to-count.ensures.count
    ∙ ap (λ levels. product (take c.in-Some.memory.above (arities levels))) c.as_slice.ensures in
    omega (arith, few_objects c.args.description.now c.in-Some.memory.above c.requires, counted)

pub returns-in-None-clause-numbers : goal.returns-in-None-clause-numbers
unfolding node_numbers numbers_of
returns-in-None-clause-numbers c =
    c.new.ensures.items ∙ ap (λ memory. numbers_of (node_indexes memory) (node_count c.args.description.now.levels memory))
    (sym c.in-None.is)

pub returns-in-None-clause-good : goal.returns-in-None-clause-good
returns-in-None-clause-good c =
    ap (λ memory. indexes_fault (node_indexes memory) (node_count c.args.description.now.levels memory)) c.in-None.is
    ∙ no_fault indexes.Ordered 0 refl (λ place within. absurd (omega arith))
