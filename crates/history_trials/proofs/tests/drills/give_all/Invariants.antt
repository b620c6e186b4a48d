use Rattle.std.proofs.Common.{◌≡◌, ℕ, List, ◌++◌, length}
use Rattle.std.specs.Prelude.{◌==◌, count_by}
use Rattle.mc_text.specs.Request.{WholeCommand}
use Rattle.mc_text.specs.Commands.{commands_left}
use Rattle.mc_text.specs.Reading.{commands_of}
use Rattle.kv_history.specs.Log.{NoneVoid, calls}
use Rattle.history_trials.proofs.tests.drills.give_all.Given as goal

-- the caller has given the first commands of its section, and no other has given more
abbrev pub invariant-loop-command : goal.invariant-loop-command
invariant-loop-command l = record {
  sections : l.journal.sections ≡ l.initial.journal.sections;
  front : List WholeCommand;
  parts : commands_of l.section ≡ front ++ commands_left l.commands;
  given : count_by (λ other. other == l.caller) (calls l.journal) ≡ length front;
  others : (w : ℕ) → (w ≡ l.caller → ⊥)
      → count_by (λ other. other == w) (calls l.journal) ≡ count_by (λ other. other == w) (calls l.initial.journal);
  whole : NoneVoid l.journal.entries;
}

abbrev pub decreases-loop-command : goal.decreases-loop-command
decreases-loop-command l = length (commands_left l.commands)
