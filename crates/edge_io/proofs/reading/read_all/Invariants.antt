use Rattle.std.proofs.Common.{◌≡◌, ◌≤◌, ◌<◌, ◌+◌, ◌-◌, vec_len}
use Rattle.edge_io.specs.Counts.{RisesBy}
use Rattle.edge_io.specs.Contents.{Loses}
use Rattle.edge_io.proofs.reading.read_all.Given as goal

-- the bytes so far are those that the source has given, at most one over the limit, and no read has failed
abbrev pub invariant-loop-source : goal.invariant-loop-source
invariant-loop-source g l =
    let source = g.S.Source in
    record {
      buffered : 0 < vec_len l.buffer;
      within : vec_len l.bytes ≤ l.limit + 1;
      lost : Loses (source.left l.fn.source) (source.left l.source) l.bytes.items;
      given : RisesBy (vec_len l.bytes) (source.given l.fn.source) (source.given l.source);
      calm : source.faults l.source ≡ source.faults l.fn.source;
    }

abbrev pub decreases-loop-source : goal.decreases-loop-source
decreases-loop-source g l = l.limit + 1 - vec_len l.bytes
