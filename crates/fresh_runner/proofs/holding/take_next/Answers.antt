use Rattle.std.proofs.Common.{refl, sym, subst}
use Rattle.clof_compose.specs.Calls.{MayTurn}
use Rattle.clof_compose.specs.Courses.{course_of}
use Rattle.clof_compose.proofs.Shares.{may_turn}
use Rattle.mc_text.specs.Commands.{commands_left}
use Rattle.threaded_runner.proofs.Commands.{left_behind, next_command, not_empty}
use Rattle.fresh_runner.proofs.holding.take_next.Goals as goal

pub unreachable-requires : goal.unreachable-requires
unreachable-requires g c =
    not_empty _ c.args._account.now.share (commands_left c.args.commands.now) c.requires.left c.requires.some
    c.in_default.ensures.commands.0

pub returns-clause-share : goal.returns-clause-share
returns-clause-share g c =
    let own = c.args._account.now.share in
    let may = may_turn _ _ own.made own own c.requires.account.share_is c.requires.pass.number_is refl c.requires.some in
    subst (λ n. MayTurn (course_of (g.C.Composed.tag c.args._lock.now)) n (g.C.Pass.Resting.rest c.args._pass.now).context.number own)
    (sym c.requires.lowest) may

pub returns-clause-next : goal.returns-clause-next
returns-clause-next g c =
    next_command _ c.args._account.now.share (commands_left c.args.commands.now) c.requires.left _ (commands_left c.next.new.self)
    c.in-Some.ensures.commands

pub returns-clause-left : goal.returns-clause-left
returns-clause-left g c =
    left_behind _ c.args._account.now.share (commands_left c.args.commands.now) c.requires.left _ (commands_left c.next.new.self)
    c.in-Some.ensures.commands
