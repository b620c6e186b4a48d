use Rattle.std.proofs.Common.{◌<◌, arith}
use Rattle.std.proofs.lemmas.List.Elements.{All-from_get_or}
use Rattle.lock_setting.proofs.reading.first_stray.Goals as goal

pub returns-clause-none : goal.returns-clause-none
returns-clause-none c =
    λ _. All-from_get_or (λ pu. pu < c.args.count) c.args.pus.now 0 (λ i within. c.loop-place.invariant i (omega (arith, within)))
