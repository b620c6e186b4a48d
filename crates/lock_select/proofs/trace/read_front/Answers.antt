use Rattle.std.proofs.Common.{sym, refl}
use Rattle.lock_select.proofs.TraceReadings.{no_line, bad_line}
use Rattle.lock_select.proofs.trace.read_front.Goals as goal

pub returns-in_default-clause-refused : goal.returns-in_default-clause-refused
returns-in_default-clause-refused c = (refl, no_line c.args.text.now c.in_default.ensures)

pub returns-in_default-read_line-clause-refused : goal.returns-in_default-read_line-clause-refused
returns-in_default-read_line-clause-refused c =
    (refl, bad_line c.args.text.now c.in-Some.line.now c.in-Some.behind.now c.in-Some.ensures (sym c.in_default-read_line.ensures))
