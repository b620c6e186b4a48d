use Rattle.std.proofs.Common.{◌≡◌}
use Rattle.std.specs.Io.KnownBytes.{Keeps}
use Rattle.edge_io.proofs.standard.StdSourceSource.read.Given as goal

-- no try has been counted, and none has taken a byte
abbrev pub invariant-loop : goal.invariant-loop
invariant-loop g l = record {
  untouched : Keeps (g.I.Read.remaining l.fn.self.reader) (g.I.Read.remaining l.self.reader);
  given : l.self.given ≡ l.fn.self.given;
  faults : l.self.faults ≡ l.fn.self.faults;
}
