use Rattle.kv_history.specs.Log.{calls}
use Rattle.mc_text.specs.Request.{view}
use Rattle.mc_text.specs.Commands.{commands_left}
use Rattle.runner_trials.proofs.Giving.{is_next, given_more}
use Rattle.runner_trials.proofs.tests.give.Goals as goal

pub apply-requires : goal.apply-requires
apply-requires c =
    is_next c.args.journal.now.sections (calls c.args.journal.now) c.args.caller (view c.in-Some.command)
    (commands_left c.next.new.self) (commands_left c.args.commands.now) c.requires c.in-Some.ensures.commands

pub returns-clause-left : goal.returns-clause-left
returns-clause-left c =
    given_more c.args.journal.now.sections c.apply.new.self.sections (calls c.args.journal.now) (calls c.apply.new.self) c.args.caller
    (view c.in-Some.command) (commands_left c.next.new.self) (commands_left c.args.commands.now) c.requires c.in-Some.ensures.commands
    c.apply.ensures.sections c.apply.ensures.calls
