use Rattle.clof_compose.proofs.Closes.{closes_got, closes_not}
use Rattle.clof_compose.proofs.release.let_go.Goals as goal

pub returns-clause-noted : goal.returns-clause-noted
returns-clause-noted g c = closes_not c.args.level _ _ _ _ c.requires.above c.in_default.ensures.same
    (λ l. (g.H.Leave.Descending.descent l).report) c.release_high.result c.release_high.ensures.noted

pub returns-clause-tests : goal.returns-clause-tests
returns-clause-tests g c = closes_got c.args.level _ _ _ _ c.requires.above c.in_default.ensures.same c.release_high.result
    c.release_high.ensures.tests
