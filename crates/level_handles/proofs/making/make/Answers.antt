use Rattle.std.proofs.Common.{◌+◌, arith}
use Rattle.std.proofs.lemmas.List.{length-map}
use Rattle.std.proofs.lemmas.Grind.{common_steps}
use Rattle.std.specs.Bool.{IsTrue}
use Rattle.keep_local.specs.Shapes.{top_of}
use Rattle.level_handles.proofs.making.make.Goals as goal

pub returns-in-Some : goal.returns-in-Some
returns-in-Some c =
    let empty : IsTrue c.are_empty.result = c.if-not-are_empty.false in
    let one = c.in-Some.ensures.callers in
    record {
      makes = (
        simp length-map (grind (arith, common_steps), omega arith, omega arith),
        grind (arith, common_steps),
        c.are_empty.ensures.empty.0 empty,
        simp length-map (omega arith),
        (one.0, one.1, c.fill.ensures.filled one.0 (top_of c.args.shape.now + 1) one.2),
      );
    }
