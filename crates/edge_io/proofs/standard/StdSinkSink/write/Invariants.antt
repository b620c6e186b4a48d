use Rattle.std.proofs.Common.{◌≡◌}
use Rattle.std.specs.Io.KnownBytes.{Keeps}
use Rattle.edge_io.proofs.standard.StdSinkSink.write.Given as goal

-- no try has been counted, and none has written a byte
abbrev pub invariant-loop : goal.invariant-loop
invariant-loop g l = record {
  untouched : Keeps (g.O.Write.contents l.fn.self.writer) (g.O.Write.contents l.self.writer);
  faults : l.self.faults ≡ l.fn.self.faults;
  stalls : l.self.stalls ≡ l.fn.self.stalls;
}
