use Rattle.cohort_desks.proofs.Leaving.{Draining}
use Rattle.cohort_desks.proofs.closing.drain.Given as goal

abbrev pub invariant-loop : goal.invariant-loop
invariant-loop g l = Draining g.J.Numbered.number g.J.Numbered.tag l.fn.rest.numbers l.fn.rest.tag l.fn.slots.items l.slots.items l.rest
