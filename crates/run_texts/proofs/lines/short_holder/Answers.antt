use Rattle.std.proofs.Common.{◌≡◌, ◌+◌, [], ◌∷◌, refl, arith}
use Rattle.std.specs.Prelude.{decimal}
use Rattle.std.proofs.lemmas.Fmt.{decimal_digit}
use Rattle.run_texts.proofs.lines.short_holder.Goals as goal

pub returns : goal.returns
returns c =
    let first : decimal c.args.caller ≡ (48 + c.args.caller) ∷ [] = decimal_digit c.args.caller c.requires.caller in
    let second : decimal c.args.pu ≡ (48 + c.args.pu) ∷ [] = decimal_digit c.args.pu c.requires.pu in
    let zero : decimal 0 ≡ 48 ∷ [] = decimal_digit 0 (omega arith) in
    rw (first, second, zero) refl
