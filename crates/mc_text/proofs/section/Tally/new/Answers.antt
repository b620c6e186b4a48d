use Rattle.std.proofs.Common.{◌∙◌, ap, length, sym, arith}
use Rattle.mc_text.proofs.Sections.{length-commands_of, spelled_only}
use Rattle.mc_text.proofs.section.Tally.new.Goals as goal

pub overflow_add-number : goal.overflow_add-number
overflow_add-number c =
    let fewer = c.pass.ensures.some c.loop-number-test.true in
    omega (arith, fewer, c.loop-number.invariant.counted, length-commands_of c.args.section.now)

pub returns-clause-bound : goal.returns-clause-bound
returns-clause-bound c = omega (arith, c.loop-number.invariant.counted, length-commands_of c.args.section.now)

pub returns-clause-spelled : goal.returns-clause-spelled
returns-clause-spelled c = λ commands rest spelled.
    let none = c.pass.ensures.none c.loop-number-test.false in
    let end = c.pass.ensures.end c.loop-number-test.false in
    let read = spelled_only c.args.section.now commands rest spelled in (
      omega (arith, none, c.loop-number.invariant.counted, ap length read.0),
      c.rest.ensures ∙ end ∙ c.loop-number.invariant.rest ∙ sym read.1,
    )
