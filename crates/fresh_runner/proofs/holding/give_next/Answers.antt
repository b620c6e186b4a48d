use Rattle.std.proofs.Common.{sym, subst}
use Rattle.clof_compose.specs.Courses.{course_of}
use Rattle.clof_compose.specs.Passes.{IsNumber}
use Rattle.keep_local.specs.States.{ShareState}
use Rattle.mc_text.specs.Commands.{commands_left}
use Rattle.threaded_runner.specs.Jobs.{HasLeft}
use Rattle.fresh_runner.specs.Books.{book_in}
use Rattle.fresh_runner.proofs.holding.give_next.Goals as goal

pub returns-clause-job : goal.returns-clause-job
returns-clause-job g c =
    let tag = g.C.Composed.tag c.args.lock.now in
    record {
      pass_is = subst (IsNumber (g.C.Composed.has c.args.lock.now) (g.C.Composed.level c.args.lock.now) tag c.args.job.account.share.caller)
          (sym c.hold-pass.ensures.pass) c.requires.job.pass_is;
      account_is = c.hold-pass.ensures.account;
      left_is = subst (λ (s : ShareState). HasLeft (book_in (course_of tag).payload) s (commands_left c.take_next-command.new.commands))
          (sym c.hold-pass.ensures.made) c.take_next-command.ensures.left;
    }
