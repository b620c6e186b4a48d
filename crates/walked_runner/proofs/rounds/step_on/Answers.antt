use Rattle.walked_runner.proofs.rounds.step_on.Goals as goal

pub loop-init : goal.loop-init
loop-init g c = c.requires.all.each
