-- More on digits in a base.
use Rattle.std.proofs.Common.{◌≡◌, ◌+◌, ◌*◌, ◌^◌, ◌<◌, ◌≤◌, ℕ, List, [], ◌∷◌, length, get_or, take, zero, suc, arith}
use Rattle.std.specs.Char.{digit_value}
use Rattle.std.proofs.Math.Nat.{pow-le-pow_right}
use Rattle.std.proofs.lemmas.Int.Digits.{digits_more, digits_value_more, digits_value-lt}
use Rattle.std.proofs.lemmas.List.{length-take-le}
use Rattle.std.proofs.lemmas.Str.Parse.{digits_value-take-le}
use Rattle.std.specs.Str.Parse.{AllDigits, digits_value}

-- a byte of a text of digits is a digit
pub digit_at : (radix : ℕ) (ds : List ℕ) (i : ℕ) → AllDigits radix ds → i < length ds → digit_value (get_or ds i 0) < radix
digit_at radix [] i digits within = omega arith
digit_at radix (d ∷ ds) zero digits within = digits.0
digit_at radix (d ∷ ds) (suc i) digits within = digit_at radix ds i digits.1 (omega arith)

-- the value of a text of digits, taken byte by byte
pub ruleset reading = (digit_at, digits_more, digits_value_more, digits_value-take-le)

-- eighteen digits at most write a number below 10^18
pub few_digits : (text : List ℕ) (i : ℕ) → i < length text → length text ≤ 19 → AllDigits 10 (take i text)
    → digits_value 10 (take i text) < 10 ^ 18
few_digits text i within few digits =
    let long : length (take i text) ≡ i = length-take-le i text (omega arith) in
    let power : 10 ^ length (take i text) ≤ 10 ^ 18
    = pow-le-pow_right (omega arith) {i = length (take i text)} {j = 18} (omega (arith, long)) in
    omega (arith, power, digits_value-lt 10 (take i text) digits)
