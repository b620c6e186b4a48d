use Rattle.std.proofs.Common.{◌<◌, ℕ, inl, sym, ap, ◌∙◌, arith}
use Rattle.std.specs.Prelude.{option_map}
use Rattle.std.proofs.lemmas.List.Elements.{All-from_recursion}
use Rattle.topo_tree.specs.Objects.{depth_count}
use Rattle.topo_tree.specs.Naming.{depth_named}
use Rattle.run_faults.specs.declared.plan.PlanFault.TheVariants.{LevelOrder}
use Rattle.lock_plan.specs.Lists.{comma_list}
use Rattle.lock_plan.specs.Plans.{first_misplaced}
use Rattle.lock_plan.proofs.Readings.{All-entries, length-entries}
use Rattle.lock_plan.proofs.Named.{named_within}
use Rattle.lock_plan.proofs.Order.{placed_from, levels_from}
use Rattle.lock_plan.proofs.Refusals.{some_piece, too_deep, in_order}
use Rattle.lock_plan.proofs.levels.read_levels.Goals as goal

pub returns-then-len-gt-LEVEL_LIMIT-clause-refused : goal.returns-then-len-gt-LEVEL_LIMIT-clause-refused
returns-then-len-gt-LEVEL_LIMIT-clause-refused c =
    inl (too_deep c.args.tree.now (comma_list c.args.text.now) c.in-Ok.depths.items c.in-Ok.ensures.entries (omega arith))

pub returns-in-Some-clause-refused : goal.returns-in-Some-clause-refused
returns-in-Some-clause-refused c =
    let found = sym (ap first_misplaced c.deref.ensures.value) ∙ sym c.first_misplaced.ensures ∙ c.in-Some.is in
    inl (in_order c.args.tree.now (comma_list c.args.text.now) c.in-Ok.depths.items c.in-Ok.ensures.entries (omega arith)
    ∙ ap (option_map LevelOrder) found)

pub returns-in-None-clause-levels : goal.returns-in-None-clause-levels
returns-in-None-clause-levels c =
    let described = c.args.tree.now in
    let depths = c.in-Ok.depths.items in
    let says = depth_named described in
    let said = c.in-Ok.ensures.entries in
    let none = sym (ap first_misplaced c.deref.ensures.value) ∙ sym c.first_misplaced.ensures ∙ c.in-None.is in
    let count = length-entries says (comma_list c.args.text.now) depths said in
    let some = some_piece 44 c.args.text.now in
    let sound = c.depths-depths.ensures.built.sound in
    let within = All-entries says (λ (depth : ℕ). depth < depth_count described) (λ word depth. named_within described word depth sound)
    (comma_list c.args.text.now) depths said in
    levels_from depths described (omega arith) (omega (arith, count, some))
    (All-from_recursion (λ (depth : ℕ). depth < depth_count described) depths within) (placed_from depths none)
