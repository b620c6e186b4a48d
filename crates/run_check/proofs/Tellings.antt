-- The line of a turn tells its hold.
use Rattle.std.proofs.Common.{◌≡◌, ℕ, suc, ◌^◌, ◌<◌, true, List, ◌∷◌, ◌++◌, Some, refl, ap, ◌∙◌, arith}
use Rattle.std.specs.Prelude.{codes, decimal, option_and_then}
use Rattle.std.proofs.lemmas.Fmt.{decimal_is_IsNumeral}
use Rattle.byte_text.proofs.NumeralLaws.{below_limit}
use Rattle.run_texts.specs.Callers.{Placed}
use Rattle.run_texts.specs.Text.{Told, pu_of, quoted, turn_line}
use Rattle.run_texts.proofs.Histories.{behind_climb, behind_pu, behind_tests, line_parts}
use Rattle.run_check.specs.Readings.{behind_spaces, number_at, told_hold}
use Rattle.run_check.proofs.Bytes.{cut_there, lacks, number_lacks}

-- one space further
past : (k : ℕ) (word rest : List ℕ) → lacks 32 word ≡ true → behind_spaces (suc k) (word ++ 32 ∷ rest) ≡ behind_spaces k rest
past k word rest lack = ap (option_and_then (λ parts. behind_spaces k parts.1)) (cut_there 32 word rest lack)

-- one number further
past_number : (k n : ℕ) (rest : List ℕ) → behind_spaces (suc k) (decimal n ++ 32 ∷ rest) ≡ behind_spaces k rest
past_number k n rest = past k (decimal n) rest (number_lacks 32 n (omega arith))

-- a number that stands there
number_there : (spaces n : ℕ) (text rest : List ℕ) → n < 2 ^ 32 → behind_spaces spaces text ≡ Some (decimal n ++ 32 ∷ rest)
    → number_at spaces text ≡ Some n
unfolding number_at
number_there spaces n text rest small there =
    let numeral = decimal_is_IsNumeral n (omega arith) in
    rw (there, cut_there 32 (decimal n) rest (number_lacks 32 n (omega arith)))
    (below_limit (2 ^ 32) n (decimal n) numeral.0 numeral.1 small)

module _ (sections : List Placed) (n : ℕ) (one : Told) (more : List ℕ) where
  abbrev behind_caller : List ℕ
  behind_caller = codes "pu " ++ (decimal (pu_of sections one.turn.caller) ++ behind_pu one more)

  abbrev behind_number : List ℕ
  behind_number = codes "caller " ++ (decimal one.turn.caller ++ 32 ∷ behind_caller)

  abbrev from_tests : List ℕ
  from_tests = codes "left " ++ (decimal one.turn.left ++ (((quoted one.command) ++ (quoted one.reply ++ codes "\n")) ++ more))

  caller_there : behind_spaces 3 (turn_line sections n one ++ more) ≡ Some (decimal one.turn.caller ++ 32 ∷ behind_caller)
  caller_there =
      ap (behind_spaces 3) (line_parts sections n one more)
      ∙ past 2 (codes "turn") (decimal n ++ 32 ∷ behind_number) refl
      ∙ past_number 1 n behind_number
      ∙ past 0 (codes "caller") (decimal one.turn.caller ++ 32 ∷ behind_caller) refl

  tests_there : behind_spaces 9 (turn_line sections n one ++ more) ≡ Some (decimal one.turn.tests ++ 32 ∷ from_tests)
  tests_there =
      ap (behind_spaces 9) (line_parts sections n one more)
      ∙ past 8 (codes "turn") (decimal n ++ 32 ∷ behind_number) refl
      ∙ past_number 7 n behind_number
      ∙ past 6 (codes "caller") (decimal one.turn.caller ++ 32 ∷ behind_caller) refl
      ∙ past_number 5 one.turn.caller behind_caller
      ∙ past 4 (codes "pu") (decimal (pu_of sections one.turn.caller) ++ behind_pu one more) refl
      ∙ past_number 3 (pu_of sections one.turn.caller) (codes "climb " ++ (decimal one.turn.climb ++ behind_climb one more))
      ∙ past 2 (codes "climb") (decimal one.turn.climb ++ behind_climb one more) refl
      ∙ past_number 1 one.turn.climb (codes "tests " ++ (decimal one.turn.tests ++ behind_tests one more))
      ∙ past 0 (codes "tests") (decimal one.turn.tests ++ behind_tests one more) refl

  -- in front of other lines, too
  pub line_tells : one.turn.caller < 2 ^ 32 → one.turn.tests < 2 ^ 32
      → told_hold (turn_line sections n one ++ more) ≡ Some (record { caller = one.turn.caller; tests = one.turn.tests })
  unfolding told_hold
  line_tells small few =
      rw (
        number_there 3 one.turn.caller (turn_line sections n one ++ more) behind_caller small caller_there,
        number_there 9 one.turn.tests (turn_line sections n one ++ more) from_tests few tests_there,
      ) refl
