use Rattle.std.proofs.Common.{◌<◌, ◌≤◌, length, vec_len}
use Rattle.std.specs.Prelude.{All}
use Rattle.lock_select.specs.Traces.{ReadsTo, turn_limit}
use Rattle.lock_select.proofs.trace.read_trace.Given as goal

-- the bytes are the lines so far, and the rest
abbrev pub invariant-loop-rest : goal.invariant-loop-rest
invariant-loop-rest g l = record {
  reads : ReadsTo l.pus l.bytes l.trace.items l.rest;
  few : vec_len l.trace ≤ turn_limit;
  within : length l.rest ≤ length l.bytes;
  known : All (λ pu. pu < l.pus) l.trace.items;
}

abbrev pub decreases-loop-rest : goal.decreases-loop-rest
decreases-loop-rest g l = length l.rest
