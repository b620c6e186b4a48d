use Rattle.std.proofs.Common.{◌<◌, ◌^◌, refl, arith, rules}
use Rattle.std.proofs.lemmas.Nat.Bits.{bit_at_above}
use mathlib.Core.Logic.{dite}
use native.Mathlib.Decide.{dec_le}
use Rattle.run_check.proofs.turns.has_tests_below.Goals as goal

pub returns : goal.returns
returns c = (
  (λ _ k e. dite (dec_le 32 k)
      (λ high. absurd (let small : c.args.tests < 2 ^ 32 = search rules in let z = bit_at_above c.args.tests 32 k small high in
      omega (arith, z, e)))
      (λ low. c.loop-level.invariant k (omega (arith, low)) e)),
  (λ _. refl),
)
