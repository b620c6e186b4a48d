use Rattle.keep_local.proofs.trail.check_keeps.Goals as goal

pub returns : goal.returns
returns c = λ level. (c.type_inv._keeps level).fits
