use Rattle.clof_tool.proofs.process.Process.end.Goals as goal

pub returns-in-Ok-clause-ended : goal.returns-in-Ok-clause-ended
returns-in-Ok-clause-ended g c = rw (c.in-Ok.is, ← c.deref.ensures.value) c.call_top.ensures.ended
