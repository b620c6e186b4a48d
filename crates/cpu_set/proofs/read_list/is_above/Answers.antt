use Rattle.cpu_set.proofs.NumeralOrder.{above_by_length, above_same_values}
use Rattle.cpu_set.proofs.read_list.is_above.Goals as goal

pub returns-else-one-other : goal.returns-else-one-other
returns-else-one-other c =
    above_same_values _ _ _ _ _ c.without_zeros-one.ensures.same c.without_zeros-other.ensures.same
    (above_by_length c.without_zeros-one.result.now c.without_zeros-other.result.now c.without_zeros-one.ensures.digits
    c.without_zeros-other.ensures.digits
    c.without_zeros-one.ensures.first c.without_zeros-other.ensures.first c.if-one-other.false)
