use Rattle.std.proofs.Common.{ap, sym, ◌∙◌}
use Rattle.std.specs.Prelude.{slice_get}
use Rattle.walked_runner.proofs.rounds.may_step_on.Goals as goal

pub returns : goal.returns
returns g c = record { all = λ l same. record { each = λ k w e. c.requires.each k w (ap (λ m. slice_get m k) (sym same) ∙ e) } }
