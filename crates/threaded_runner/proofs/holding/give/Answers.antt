use Rattle.std.proofs.Common.{ap, sym, ◌∙◌, subst}
use Rattle.clof_compose.specs.Courses.{course_of}
use Rattle.clof_compose.specs.Passes.{IsNumber}
use Rattle.keep_local.specs.States.{ShareState}
use Rattle.mc_text.specs.Commands.{commands_left}
use Rattle.threaded_runner.specs.Jobs.{HasLeft}
use Rattle.threaded_runner.proofs.holding.give.Goals as goal

pub returns-clause-job : goal.returns-clause-job
returns-clause-job g c =
    let made = c.hold.ensures.made in
    let is = c.requires.job.share_is in
    record {
      pass_is = subst (IsNumber (g.C.Composed.has c.args.lock.now) (g.C.Composed.level c.args.lock.now) (g.C.Composed.tag c.args.lock.now)
          c.args.share.now.caller) (sym c.hold.ensures.pass) c.requires.job.pass_is;
      share_is = record {
        own = ap (λ (s : ShareState). s.name) made ∙ is.own;
        caller_is = ap (λ (s : ShareState). s.caller) made;
        known = is.known;
        quota = ap (λ (s : ShareState). s.quota) made ∙ is.quota;
      };
      left_is = subst (λ (s : ShareState). HasLeft (course_of (g.C.Composed.tag c.args.lock.now)).payload s (commands_left
          c.take_next-command.new.commands)) (sym made) c.take_next-command.ensures.left;
    }
