-- Numbers of any size, and of one digit.
use Rattle.std.proofs.Common.{◌≡◌, ◌+◌, ◌-◌, ◌<◌, ◌≤◌, ℕ, true, List, [], ◌∷◌, Some, Ok, Err, length, get_or, refl, arith}
use Rattle.std.specs.Char.{digit_value}
use Rattle.std.specs.Str.Parse.{IsNumeral}
use Rattle.std.proofs.lemmas.Str.{digit_value_digit}
use Rattle.byte_text.specs.Numerals.{is_decimal, number_below}
use Rattle.byte_text.proofs.NumeralLaws.{Decides-is_decimal, below_limit, no_decimal}
use Rattle.mc_text.specs.declared.command.LineFault.TheVariants.{Format}
use Rattle.mc_text.specs.Field.{level_of}

-- any decimal number is a level
pub level_is : (word : List ℕ) → IsNumeral 10 word → level_of word ≡ Ok tt
unfolding level_of
level_is word numeral = let test : is_decimal word ≡ true = (Decides-is_decimal word).1 numeral in rw test refl

-- and nothing else is
pub level_none : (word : List ℕ) → ¬ (IsNumeral 10 word) → level_of word ≡ Err Format
unfolding level_of
level_none word lacks = rw (no_decimal word lacks) refl

-- one digit is a number
one_digit : (limit digit : ℕ) → 48 ≤ digit → digit ≤ 57 → 9 < limit → number_below limit (digit ∷ []) ≡ Some (digit - 48)
one_digit limit digit low high large =
    let value : digit_value digit + 48 ≡ digit = digit_value_digit digit (low, high) in
    let numeral : IsNumeral 10 (digit ∷ []) = (omega arith, (omega (arith, value), tt)) in
    below_limit limit (digit - 48) (digit ∷ []) numeral (omega (arith, value)) (omega arith)

-- a word of one digit
pub digit_word : (limit : ℕ) (word : List ℕ) → length word ≡ 1 → 48 ≤ get_or word 0 0 → get_or word 0 0 ≤ 57 → 9 < limit
    → number_below limit word ≡ Some (get_or word 0 0 - 48)
digit_word limit [] one low high large = absurd (omega arith)
digit_word limit (digit ∷ []) one low high large = one_digit limit digit low high large
digit_word limit (digit ∷ next ∷ others) one low high large = absurd (omega arith)
