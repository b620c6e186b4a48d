use Rattle.std.proofs.Common.{arith}
use Rattle.std.proofs.lemmas.List.{length-map}
use Rattle.std.specs.Bool.{IsTrue}
use Rattle.lock_callers.specs.Seen.{idle_of}
use Rattle.lock_handles.specs.Calls.{kind_of}
use Rattle.lock_handles.proofs.making.make.Goals as goal

pub returns-in-Some : goal.returns-in-Some
returns-in-Some c =
    let empty : IsTrue c.are_empty.result = c.if-not-are_empty.false in
    let one = c.in-Some.ensures.callers in
    record {
      makes = (
        simp length-map (omega arith, omega arith),
        c.are_empty.ensures.empty.0 empty,
        simp length-map (omega arith),
        (one.0, c.fill.ensures.filled (kind_of c.args.kind (idle_of one.0)) one.1),
      );
    }
