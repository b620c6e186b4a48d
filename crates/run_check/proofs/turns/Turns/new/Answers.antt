use Rattle.std.proofs.Common.{refl, ap, sym, ◌∙◌}
use Rattle.std.proofs.lemmas.List.{get_or-replicate}
use Rattle.keep_local.specs.Turns.{run}
use Rattle.keep_local.proofs.Runs.{run_none}
use Rattle.run_check.proofs.turns.Turns.new.Goals as goal

pub invariant_of-result : goal.invariant_of-result
invariant_of-result c = record {
  counters = refl;
  runs = λ level below. get_or-replicate 33 level 0 0 below ∙ sym (run_none level) ∙ ap (run level) (sym c.new.ensures.items);
}
