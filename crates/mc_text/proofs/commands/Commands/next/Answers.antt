use Rattle.std.proofs.Common.{length, inr, sym, ap, arith}
use Rattle.mc_text.specs.Request.{view}
use Rattle.mc_text.proofs.Beginnings.{begins_within, begins_parts, first_begins, first_no_command}
use Rattle.mc_text.proofs.Sections.{commands_first, rest_first, commands_none, rest_none}
use Rattle.mc_text.proofs.commands.Commands.next.Goals as goal

pub returns-in_err-command-clause-none : goal.returns-in_err-command-clause-none
returns-in_err-command-clause-none c =
    rw c.from_residual.ensures (inr (first_no_command c.args.self.now.rest.now (sym c.in_err-command.ensures)))

pub returns-in_err-command-clause-commands : goal.returns-in_err-command-clause-commands
returns-in_err-command-clause-commands c =
    let none = commands_none c.args.self.now.rest.now (sym c.in_err-command.ensures) in
    rw (c.from_residual.ensures, c.if-self.false) (none, none)

pub returns-in_err-command-clause-end : goal.returns-in_err-command-clause-end
returns-in_err-command-clause-end c =
    rw (c.from_residual.ensures, c.if-self.false) (rest_none c.args.self.now.rest.now (sym c.in_err-command.ensures))

pub split_at-requires : goal.split_at-requires
split_at-requires c =
    let text = c.args.self.now.rest.now in
    let command = view c.in_ok-command.command in
    let within = begins_within text command (length command.spelling) (first_begins text command (sym c.in_ok-command.ensures)) in
    omega (arith, within.1, ap length c.spelling.ensures)

pub returns-clause-begins : goal.returns-clause-begins
returns-clause-begins c = first_begins c.args.self.now.rest.now (view c.in_ok-command.command) (sym c.in_ok-command.ensures)

pub returns-clause-parts : goal.returns-clause-parts
returns-clause-parts c =
    let text = c.args.self.now.rest.now in
    let command = view c.in_ok-command.command in
    let parts = begins_parts text command (length command.spelling) (first_begins text command (sym c.in_ok-command.ensures)) in
    rw (c.split_at.ensures.back, c.spelling.ensures) parts

pub returns-clause-commands : goal.returns-clause-commands
returns-clause-commands c =
    let text = c.args.self.now.rest.now in
    let command = view c.in_ok-command.command in
    rw (c.if-self.false, c.split_at.ensures.back, c.spelling.ensures, c.is_quit-self.ensures)
    (commands_first text command (sym c.in_ok-command.ensures))

pub returns-clause-rest : goal.returns-clause-rest
returns-clause-rest c =
    let text = c.args.self.now.rest.now in
    let command = view c.in_ok-command.command in
    rw (c.if-self.false, c.split_at.ensures.back, c.spelling.ensures, c.is_quit-self.ensures)
    (sym (rest_first text command (sym c.in_ok-command.ensures)))
