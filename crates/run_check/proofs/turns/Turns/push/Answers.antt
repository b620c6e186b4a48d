use Rattle.std.proofs.Common.{refl, ap, sym, ◌∙◌, length, arith}
use Rattle.keep_local.specs.Turns.{run}
use Rattle.keep_local.proofs.Runs.{run-le-length}
use Rattle.run_check.proofs.Counters.{runs_raised}
use Rattle.run_check.proofs.turns.Turns.push.Goals as goal

pub count_run-requires-clause-small : goal.count_run-requires-clause-small
count_run-requires-clause-small c =
    let level = c.args.turn.left in
    let turns = c.self.inside.list.items in
    let known = c.self.invariant.runs level (omega (arith, c.requires.level)) in
    omega (arith, known, run-le-length level turns, ap length c.self.view_is, c.requires.few)

pub invariant_of-self-2 : goal.invariant_of-self-2
invariant_of-self-2 c =
    let turns = c.self.inside.list.items in
    let runs = c.self.inside.runs in
    record {
      counters = c.count_run.auto.runs ∙ c.self.invariant.counters;
      runs = λ level below.
          runs_raised runs c.count_run.new.runs c.args.turn.left turns c.args.turn refl
          (record { own = c.count_run.ensures.own; lower = c.count_run.ensures.lower; higher = c.count_run.ensures.higher })
          c.self.invariant.runs level below
          ∙ ap (run level) (sym c.in_ok-push.ensures.items);
    }
