use Rattle.std.proofs.Common.{◌≡◌, ◌<◌, ◌≤◌, ℕ, List, length, map, Some}
use Rattle.std.specs.Prelude.{◌==◌, count_by, slice_get}
use Rattle.mc_text.specs.Reading.{commands_of}
use Rattle.kv_history.specs.Log.{NoneVoid, calls}
use Rattle.history_trials.proofs.tests.drills.worked_off.Given as goal

-- the callers so far have given all commands of their sections, and the others none
abbrev pub invariant-loop-caller : goal.invariant-loop-caller
invariant-loop-caller l = record {
  sections : l.journal.sections ≡ map (λ section. section.now) l.sections;
  end : l.caller-end ≡ length l.sections;
  given : (w : ℕ) (section : List ℕ) → w < l.caller → slice_get l.journal.sections w ≡ Some section
      → count_by (λ other. other == w) (calls l.journal) ≡ length (commands_of section);
  fresh : (w : ℕ) → l.caller ≤ w → count_by (λ other. other == w) (calls l.journal) ≡ 0;
  whole : NoneVoid l.journal.entries;
}
