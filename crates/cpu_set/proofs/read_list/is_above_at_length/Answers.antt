use Rattle.cpu_set.proofs.NumeralOrder.{above_at, above_nowhere}
use Rattle.cpu_set.proofs.read_list.is_above_at_length.Goals as goal

pub returns-then-one-place : goal.returns-then-one-place
returns-then-one-place c =
    above_at c.args.one.now c.args.other.now c.loop-place.place c.requires.digits c.requires.other_digits c.requires.length
    c.loop-place-test.true c.loop-place.invariant c.if-one-place.true

pub returns : goal.returns
returns c =
    above_nowhere c.args.one.now c.args.other.now c.loop-place.place c.requires.length c.loop-place-test.false c.loop-place.invariant
