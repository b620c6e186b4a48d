use Rattle.run_work.proofs.plain.PlainUnderLockBookUnitJobBroughtFinished.deal.Goals as goal

pub returns-in-Ok-clause-may : goal.returns-in-Ok-clause-may
returns-in-Ok-clause-may g c = λ k j e. (c.requires.set.sound_is, c.requires.set.lowest, (k, c.in-Ok.ensures.each k j e))
