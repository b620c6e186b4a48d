use Rattle.std.proofs.Common.{◌≡◌, ◌≤◌, ◌-◌, length, take}
use Rattle.edge_io.specs.Contents.{Gains, FallsBy}
use Rattle.edge_io.proofs.writing.write_all.Given as goal

-- the sink has taken the first `written` bytes, and no write has failed or stalled
abbrev pub invariant-loop-written : goal.invariant-loop-written
invariant-loop-written g l =
    let sink = g.K.Sink in
    record {
      within : l.written ≤ length l.bytes;
      held : Gains (sink.held l.fn.sink) (sink.held l.sink) (take l.written l.bytes);
      room : FallsBy l.written (sink.room l.fn.sink) (sink.room l.sink);
      faults_stay : sink.faults l.sink ≡ sink.faults l.fn.sink;
      stalls_stay : sink.stalls l.sink ≡ sink.stalls l.fn.sink;
    }

abbrev pub decreases-loop-written : goal.decreases-loop-written
decreases-loop-written g l = length l.bytes - l.written
