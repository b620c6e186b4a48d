use Rattle.std.proofs.Common.{sym}
use Rattle.mc_text.proofs.Lone.{passed_fewer, passed_rest}
use Rattle.mc_text.proofs.commands.Commands.pass.Goals as goal

pub returns-in-Some-clause-some : goal.returns-in-Some-clause-some
returns-in-Some-clause-some c = λ _. rw c.if-self.false (passed_fewer c.args.self.now.rest.now c.in-Some.behind.now c.in-Some.ensures)

pub returns-in-Some-clause-rest : goal.returns-in-Some-clause-rest
returns-in-Some-clause-rest c = rw c.if-self.false (sym (passed_rest c.args.self.now.rest.now c.in-Some.behind.now c.in-Some.ensures))
