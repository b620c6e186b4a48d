use Rattle.std.proofs.Common.{length, ap, sym, ◌∙◌}
use Rattle.std.specs.Prelude.{slice_get}
use Rattle.walked_runner.proofs.Items.{written_all}
use Rattle.walked_runner.proofs.rounds.make_rounds.Goals as goal

pub returns : goal.returns
returns g c =
    let long = c.step_on.auto.walkers ∙ ap length c.deref_mut.ensures.value in
    let same = written_all c.args.walkers.items c.step_on.new.walkers c.args.walkers.len long c.args.walkers.ok.0 in
    record {
      each = λ k w e. c.step_on.ensures.each k w (ap (λ l. slice_get l k) (sym same) ∙ e);
      done = λ k w e. c.step_on.ensures.done k w (ap (λ l. slice_get l k) (sym same) ∙ e);
      many = ap length same ∙ long;
    }
