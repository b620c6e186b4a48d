use Rattle.std.proofs.Common.{◌≤◌, map, length, vec_len}
use Rattle.run_texts.specs.Callers.{caller_limit}
use Rattle.placed_runner.specs.Sections.{ReadsTo}
use Rattle.placed_runner.specs.Views.{written_view}
use Rattle.placed_runner.proofs.sections.read_written.Given as goal

-- the input is the sections so far, and the rest
abbrev pub invariant-loop-rest : goal.invariant-loop-rest
invariant-loop-rest l = record {
  reads : ReadsTo l.tree l.input (map written_view l.sections.items) l.rest;
  few : vec_len l.sections ≤ caller_limit;
  within : length l.rest ≤ length l.input;
}

abbrev pub decreases-loop-rest : goal.decreases-loop-rest
decreases-loop-rest l = length l.rest
