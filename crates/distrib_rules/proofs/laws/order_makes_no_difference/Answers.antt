use Rattle.distrib_rules.proofs.ExpansionLaws.{comes_to}
use Rattle.distrib_rules.proofs.Reaching.{reached}
use Rattle.distrib_rules.proofs.laws.order_makes_no_difference.Goals as goal

pub returns-clause-same : goal.returns-clause-same
returns-clause-same c = λ described way pairs others comes. comes_to described way pairs others comes

pub returns-clause-reached : goal.returns-clause-reached
returns-clause-reached c = λ described way pairs. reached described way pairs
