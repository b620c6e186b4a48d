use Rattle.std.proofs.Common.{◌∙◌}
use Rattle.run_work.proofs.Served.{all_served}
use Rattle.run_work.proofs.plain.are_served.Goals as goal

pub returns-clause-each : goal.returns-clause-each
returns-clause-each g c =
    let did = c.requires.did in
    all_served _ _ did.before.items c.args._jobs.now.items did.many did.open_is.each did.each

pub returns-clause-many : goal.returns-clause-many
returns-clause-many g c = c.requires.did.many ∙ c.requires.did.open_is.many
