use Rattle.std.proofs.Common.{◌≡◌, length, map, ap, ◌∙◌, arith}
use Rattle.std.specs.List.{range_with_len, sum}
use Rattle.topo_tree.specs.Numbers.{loop_part, loops_number}
use Rattle.topo_tree.proofs.Numbering.{loop_turn}
use Rattle.topo_tree.proofs.numbers.loops_number.Goals as goal

pub loop-given-preserved : goal.loop-given-preserved
loop-given-preserved c =
    let so_far = c.loop-given.invariant in
    let turn = loop_turn c.args.loops.now c.loop-given.given-index c.loop-given.number c.loop-given.factor c.args.object
    c.loop-given-test.true c.requires.sound c.requires.few so_far.number so_far.factor so_far.below in
    record { number = turn.number; factor = turn.factor; below = omega (arith, turn.below) }

pub returns : goal.returns
unfolding loops_number
returns c =
    let all : c.loop-given.given-index ≡ length c.args.loops.now = omega arith in
    c.loop-given.invariant.number ∙ ap (λ count. sum (map (loop_part c.args.loops.now c.args.object) (range_with_len 0 count))) all

pub overflow_mul-number : goal.overflow_mul-number
overflow_mul-number c =
    let so_far = c.loop-given.invariant in
    let turn = loop_turn c.args.loops.now c.loop-given.given-index c.loop-given.number c.loop-given.factor c.args.object
    c.loop-given-test.true c.requires.sound c.requires.few so_far.number so_far.factor so_far.below in
    omega (arith, turn.part)

pub overflow_add-number : goal.overflow_add-number
overflow_add-number c =
    let so_far = c.loop-given.invariant in
    let turn = loop_turn c.args.loops.now c.loop-given.given-index c.loop-given.number c.loop-given.factor c.args.object
    c.loop-given-test.true c.requires.sound c.requires.few so_far.number so_far.factor so_far.below in
    omega (arith, turn.below, turn.next)

pub overflow_mul-factor : goal.overflow_mul-factor
overflow_mul-factor c =
    let so_far = c.loop-given.invariant in
    let turn = loop_turn c.args.loops.now c.loop-given.given-index c.loop-given.number c.loop-given.factor c.args.object
    c.loop-given-test.true c.requires.sound c.requires.few so_far.number so_far.factor so_far.below in
    omega (arith, turn.next)
