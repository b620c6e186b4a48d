use Rattle.std.proofs.Common.{refl, sym, subst}
use Rattle.clof_compose.specs.Calls.{MayTurn}
use Rattle.clof_compose.specs.Courses.{course_of}
use Rattle.clof_compose.proofs.Shares.{may_turn}
use Rattle.mc_text.specs.Commands.{commands_left}
use Rattle.threaded_runner.proofs.Commands.{left_behind, next_command, not_empty}
use Rattle.threaded_runner.proofs.holding.take_next.Goals as goal

pub unreachable-requires : goal.unreachable-requires
unreachable-requires g c =
    not_empty _ c.args._share.now (commands_left c.args.commands.now) c.requires.job.left_is c.requires.some
    c.in_default.ensures.commands.0

pub returns-clause-may : goal.returns-clause-may
returns-clause-may g c =
    let may = may_turn _ _ c.args._share.now.made c.args._share.now c.args._share.now c.requires.job.share_is
    c.requires.job.pass_is.number_is refl c.requires.some in
    subst (λ n. MayTurn (course_of (g.C.Composed.tag c.args._lock.now)) n (g.C.Pass.Resting.rest c.args._pass.now).context.number
    c.args._share.now) (sym c.requires.lowest) may

pub returns-clause-next : goal.returns-clause-next
returns-clause-next g c =
    next_command _ c.args._share.now (commands_left c.args.commands.now) c.requires.job.left_is _ (commands_left c.next.new.self)
    c.in-Some.ensures.commands

pub returns-clause-left : goal.returns-clause-left
returns-clause-left g c =
    left_behind _ c.args._share.now (commands_left c.args.commands.now) c.requires.job.left_is _ (commands_left c.next.new.self)
    c.in-Some.ensures.commands
