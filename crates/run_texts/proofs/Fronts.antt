-- The fronts of lines.
use Rattle.std.proofs.Common.{◌≡◌, ℕ, ◌<◌, ◌≤◌, ◌^◌, ◌/◌, ◌%◌, ◌+◌, inl, inr, false, Ok, Err, List, [], ◌∷◌, ◌++◌, map, sym, ap, ◌∙◌}
use Rattle.std.proofs.Common.{append_assoc, arith}
use Rattle.std.specs.Prelude.{Result, OnOk, ◌==◌, codes, decimal, if◌then◌else◌}
use Rattle.std.specs.Int.Digits.{digits_of}
use Rattle.std.proofs.lemmas.Bool.{cases_lt, ne_eqb}
use Rattle.std.proofs.lemmas.Fmt.{decimal_digit, decimal-digits_of}
use Rattle.std.proofs.lemmas.Int.Digits.{digits_of_step}
use Rattle.std.proofs.lemmas.List.{append-nil, map_push}
use Rattle.run_texts.specs.Callers.{Placed}
use Rattle.run_texts.specs.Text.{Told, labelled, level_numbers, line_behind, line_front, pu_of, quoted, turn_line}

-- the digits of a number but the last
tens_of : ℕ → List ℕ
tens_of number = if number / 10 == 0 then [] else decimal (number / 10)

one_digit : (number : ℕ) → number < 10 → decimal number ≡ tens_of number ++ (48 + number % 10) ∷ []
unfolding tens_of
one_digit number few =
    let none : number / 10 ≡ 0 = omega arith in
    let same : number % 10 ≡ number = omega arith in
    rw (none, same) (decimal_digit number few)

more_digits : (number : ℕ) → 10 ≤ number → number < 2 ^ 32 → decimal number ≡ tens_of number ++ (48 + number % 10) ∷ []
unfolding tens_of
more_digits number many small =
    let digit : ℕ → ℕ = λ d. 48 + d in
    let some : (number / 10 == 0) ≡ false = ne_eqb (number / 10) 0 (λ e. omega arith) in
    rw some
    (decimal-digits_of number (omega arith) (omega arith)
    ∙ ap (map digit) (digits_of_step 10 number (omega arith) (omega arith))
    ∙ map_push digit (digits_of 10 (number / 10)) (number % 10)
    ∙ ap (λ front. front ++ digit (number % 10) ∷ []) (sym (decimal-digits_of (number / 10) (omega arith) (omega arith))))

-- the last digit of a number stands behind the others
digits_parted : (number : ℕ) → number < 2 ^ 32 → decimal number ≡ tens_of number ++ (48 + number % 10) ∷ []
digits_parted number small =
    elim (cases_lt number 10) [
      | inl few ↦ one_digit number few
      | inr many ↦ more_digits number many small
    ]

regroup : (name tens digit caller pu levels texts : List ℕ)
    → (name ++ tens) ++ (digit ++ ((caller ++ (pu ++ levels)) ++ texts))
    ≡ ((name ++ (tens ++ digit)) ++ (caller ++ (pu ++ []))) ++ (levels ++ texts)
regroup name tens digit caller pu levels texts = simp (append_assoc, append-nil)

-- a line is its front and what stands behind that
pub parts : (sections : List Placed) (number : ℕ) (told : Told) → number < 2 ^ 32
    → line_front (number / 10) ++ line_behind sections number told ≡ turn_line sections number told
unfolding line_front line_behind turn_line tens_of
parts sections number told small =
    let caller = codes " caller " ++ decimal told.turn.caller in
    let pu = codes " pu " ++ decimal (pu_of sections told.turn.caller) in
    let levels = labelled (level_numbers told.turn) in
    let texts = quoted told.command ++ (quoted told.reply ++ codes "\n") in
    regroup (codes "turn ") (tens_of number) ((48 + number % 10) ∷ []) caller pu levels texts
    ∙ ap (λ digits. ((codes "turn " ++ digits) ++ (caller ++ (pu ++ []))) ++ (levels ++ texts)) (sym (digits_parted number small))

-- and stands where both have been appended, one behind the other
pub line_there : {T E : Type 0} (pushed : Result T E) (sections : List Placed) (number : ℕ) (told : Told) (before front new : List ℕ)
    → number < 2 ^ 32 → front ≡ before ++ line_front (number / 10)
    → OnOk pushed (new ≡ front ++ line_behind sections number told) → OnOk pushed (new ≡ before ++ turn_line sections number told)
line_there (Ok done) sections number told before front new small fronted behind =
    behind ∙ ap (λ (text : List ℕ). text ++ line_behind sections number told) fronted
    ∙ append_assoc before (line_front (number / 10)) (line_behind sections number told)
    ∙ ap (λ (line : List ℕ). before ++ line) (parts sections number told small)
line_there (Err fault) sections number told before front new small fronted behind = tt
