use Rattle.std.proofs.Common.{arith}
use Rattle.synth_text.proofs.RuleLaws.{last_found}
use Rattle.synth_text.proofs.rules.from_last_level.Goals as goal

pub loop-place-init : goal.loop-place-init
loop-place-init c = record { passed = omega arith; found = last_found c.args.parts.now }
