use Rattle.std.proofs.Common.{◌≤◌, ◌∙◌, sym, ap, subst, arith}
use Rattle.std.specs.List.{AllByRecursion}
use Rattle.synth_text.specs.Sound.{AreSoundIndexes, IsSoundLoop}
use Rattle.topo_tree.specs.Numbers.{loops_number, loop_product, counting_loops_in, index_count, number_of}
use Rattle.topo_tree.proofs.CountingLoops.{counted_number, counted_product, counted_sound}
use Rattle.topo_tree.proofs.numbers.number_of.Goals as goal

pub loops_number-requires-clause-sound : goal.loops_number-requires-clause-sound
loops_number-requires-clause-sound c =
    let loops = c.in-Loops.field-0 in
    subst (λ ls. AllByRecursion IsSoundLoop ls) (sym (c.requires.loops ∙ ap counting_loops_in c.in-Loops.is))
    (counted_sound loops (subst AreSoundIndexes c.in-Loops.is c.requires.sound).1)

pub loops_number-requires-clause-few : goal.loops_number-requires-clause-few
loops_number-requires-clause-few c =
    let loops = c.in-Loops.field-0 in
    let sound = (subst AreSoundIndexes c.in-Loops.is c.requires.sound).1 in
    let few : loop_product loops ≤ 4096 = subst (λ given. index_count given 4096 ≤ 4096) c.in-Loops.is c.requires.few in
    omega (arith, few, counted_product loops sound, ap loop_product (c.requires.loops ∙ ap counting_loops_in c.in-Loops.is))

pub returns-in-Loops : goal.returns-in-Loops
returns-in-Loops c =
    let loops = c.in-Loops.field-0 in
    let sound = (subst AreSoundIndexes c.in-Loops.is c.requires.sound).1 in
    c.loops_number.ensures ∙ ap (λ ls. loops_number ls c.args.object) (c.requires.loops ∙ ap counting_loops_in c.in-Loops.is)
    ∙ counted_number loops c.args.object sound ∙ ap (λ given. number_of given c.args.object) (sym c.in-Loops.is)
