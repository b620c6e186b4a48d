-- The lines of callers, one after another.
use Rattle.std.proofs.Common.{◌≡◌, ℕ, zero, suc, ◌+◌, ◌<◌, ◌≤◌, List, [], ◌∷◌, ◌++◌, length, map, take, Some, None, refl, sym, ap, ◌∙◌}
use Rattle.std.proofs.Common.{append_assoc, arith}
use Rattle.std.specs.Prelude.{slice_get}
use Rattle.std.specs.List.{enumerate_from, flat_map}
use Rattle.std.proofs.lemmas.Grind.{flat_map-append}
use Rattle.std.proofs.lemmas.List.{append-nil, length-append}
use Rattle.run_texts.specs.Callers.{Placed}
use Rattle.run_texts.specs.Text.{caller_line, caller_lines}
use Rattle.run_texts.proofs.Numbered.{take_all}
use Rattle.run_check.specs.Broken.{callers_lines}
use Rattle.run_check.specs.Lines.{lines}
use Rattle.run_check.specs.Runs.{OtherLine}
use Rattle.run_check.proofs.Fronts.{front_line, has_line}
use Rattle.run_check.proofs.Lined.{IsLine, caller_is_line, first_line}

-- ---- lists with an element more

module _ {A : Type 0} where
  one_taken : (xs : List A) (k : ℕ) (x : A) → slice_get xs k ≡ Some x → take (k + 1) xs ≡ take k xs ++ x ∷ []
  one_taken [] k x is = cc
  one_taken (y ∷ xs) zero x is = let same : y ≡ x = cc in ap (λ (z : A). z ∷ []) same
  one_taken (y ∷ xs) (suc k) x is =
      let one : suc k + 1 ≡ suc (k + 1) = omega arith in
      ap (λ n. take n (y ∷ xs)) one ∙ ap (λ (rest : List A). y ∷ rest) (one_taken xs k x is)

  -- behind as many as are taken
  behind_taken : (xs ys : List A) (k : ℕ) → k ≤ length xs → slice_get (take k xs ++ ys) k ≡ slice_get ys 0
  behind_taken xs ys zero within = refl
  behind_taken [] ys (suc k) within = absurd (omega arith)
  behind_taken (x ∷ xs) ys (suc k) within = behind_taken xs ys k (omega arith)

  taken_again : (xs ys : List A) (k : ℕ) → k ≤ length xs → take k (take k xs ++ ys) ≡ take k xs
  taken_again xs ys zero within = refl
  taken_again [] ys (suc k) within = absurd (omega arith)
  taken_again (x ∷ xs) ys (suc k) within = ap (λ (rest : List A). x ∷ rest) (taken_again xs ys k (omega arith))

  none_behind : (xs : List A) (k : ℕ) → length xs ≤ k → slice_get xs k ≡ None
  none_behind [] k over = refl
  none_behind (x ∷ xs) zero over = absurd (omega arith)
  none_behind (x ∷ xs) (suc k) over = none_behind xs k (omega arith)

  some_within : (xs : List A) (k : ℕ) (x : A) → slice_get xs k ≡ Some x → k < length xs
  some_within [] k x is = cc
  some_within (y ∷ xs) zero x is = omega arith
  some_within (y ∷ xs) (suc k) x is = omega (arith, some_within xs k x is)

-- ---- the lines of callers

-- the line of a caller
line_from : (n : ℕ) (sections : List Placed) (caller : ℕ) (section : Placed) → slice_get sections caller ≡ Some section
    → slice_get (map (λ (at : ℕ × Placed). caller_line at.0 at.1) (enumerate_from n sections)) caller
    ≡ Some (caller_line (n + caller) section)
line_from n [] caller section is = cc
line_from n (first ∷ sections) zero section is =
    let same : first ≡ section = cc in
    let none : n ≡ n + 0 = omega arith in
    λ i. Some (caller_line (none i) (same i))
line_from n (first ∷ sections) (suc caller) section is =
    let one : (n + 1) + caller ≡ n + suc caller = omega arith in
    line_from (n + 1) sections caller section is ∙ ap (λ k. Some (caller_line k section)) one

line_at : (sections : List Placed) (caller : ℕ) (section : Placed) → slice_get sections caller ≡ Some section
    → slice_get (callers_lines sections) caller ≡ Some (caller_line caller section)
line_at sections caller section is =
    let none : 0 + caller ≡ caller = omega arith in
    line_from 0 sections caller section is ∙ ap (λ k. Some (caller_line k section)) none

count_from : (n : ℕ) (sections : List Placed)
    → length (map (λ (at : ℕ × Placed). caller_line at.0 at.1) (enumerate_from n sections)) ≡ length sections
count_from n [] = refl
count_from n (first ∷ sections) = ap suc (count_from (n + 1) sections)

pub as_many_lines : (sections : List Placed) → length (callers_lines sections) ≡ length sections
as_many_lines sections = count_from 0 sections

joined_from : (n : ℕ) (sections : List Placed)
    → flat_map (λ (line : List ℕ). line) (map (λ (at : ℕ × Placed). caller_line at.0 at.1) (enumerate_from n sections))
    ≡ flat_map (λ (at : ℕ × Placed). caller_line at.0 at.1) (enumerate_from n sections)
joined_from n [] = refl
joined_from n (first ∷ sections) = ap (λ (rest : List ℕ). caller_line n first ++ rest) (joined_from (n + 1) sections)

-- ---- a text with the lines of the first callers in front

pub record Passed (sections : List Placed) (text rest : List ℕ) (caller : ℕ) : Type 0 where
  pub text_is : text ≡ flat_map (λ (line : List ℕ). line) (take caller (callers_lines sections)) ++ rest
  pub lines_are : lines text ≡ take caller (callers_lines sections) ++ lines rest
  pub within : caller + length rest ≤ length text

pub passed_none : (sections : List Placed) (text : List ℕ) → Passed sections text text 0
passed_none sections text = record { text_is = refl; lines_are = refl; within = omega arith }

-- a line is not empty
pub line_long : (line : List ℕ) → IsLine line → 0 < length line
line_long line is = omega (arith, ap length is.line_is, length-append is.front (10 ∷ []))

module _ (sections : List Placed) (text rest : List ℕ) (caller : ℕ) (passed : Passed sections text rest caller) where
  pub passed_more : (section : Placed) (behind : List ℕ) → slice_get sections caller ≡ Some section
      → rest ≡ caller_line caller section ++ behind → Passed sections text behind (caller + 1)
  passed_more section behind place is =
      let line = caller_line caller section in
      let front = take caller (callers_lines sections) in
      let taken = one_taken (callers_lines sections) caller line (line_at sections caller section place) in
      record {
        text_is = passed.text_is
            ∙ ap (λ (r : List ℕ). flat_map (λ (l : List ℕ). l) front ++ r) is
            ∙ sym (append_assoc (flat_map (λ (l : List ℕ). l) front) line behind)
            ∙ ap (λ (f : List ℕ). f ++ behind) (ap (λ (l : List ℕ). flat_map (λ (m : List ℕ). m) front ++ l) (sym (append-nil line))
            ∙ sym (flat_map-append (λ (l : List ℕ). l) front (line ∷ [])) ∙ ap (flat_map (λ (l : List ℕ). l)) (sym taken));
        lines_are = passed.lines_are
            ∙ ap (λ (r : List ℕ). front ++ lines r) is
            ∙ ap (λ (ls : List (List ℕ)). front ++ ls) (first_line line behind (caller_is_line caller section))
            ∙ sym (append_assoc front (line ∷ []) (lines behind))
            ∙ ap (λ (f : List (List ℕ)). f ++ lines behind) (sym taken);
        within = omega (
          arith,
          passed.within,
          ap length is,
          length-append line behind,
          line_long line (caller_is_line caller section),
        );
      }

  -- another line than the next caller's
  pub other_line : (section : Placed) → slice_get sections caller ≡ Some section
      → ((behind : List ℕ) → rest ≡ caller_line caller section ++ behind → ⊥) → OtherLine sections text caller
  other_line section place other =
      let few : caller ≤ length (callers_lines sections) =
      omega (arith, as_many_lines sections, some_within sections caller section place) in
      record {
        callers = ap (take caller) passed.lines_are ∙ taken_again (callers_lines sections) (lines rest) caller few;
        other = λ same.
            let first : slice_get (lines rest) 0 ≡ Some (caller_line caller section) =
            sym (behind_taken (callers_lines sections) (lines rest) caller few)
            ∙ ap (λ (ls : List (List ℕ)). slice_get ls caller) (sym passed.lines_are)
            ∙ same ∙ line_at sections caller section place in
            let front = front_line rest (caller_line caller section) first in
            other front.0 front.1;
      }

  -- behind the last caller's line
  pub one_too_many : caller ≡ length sections → 0 < length rest → OtherLine sections text caller
  one_too_many last some =
      let few : caller ≤ length (callers_lines sections) = omega (arith, as_many_lines sections, last) in
      let found = has_line rest some in
      record {
        callers = ap (take caller) passed.lines_are ∙ taken_again (callers_lines sections) (lines rest) caller few;
        other = λ same.
            let none = none_behind (callers_lines sections) caller (omega (arith, as_many_lines sections, last)) in
            let there : slice_get (lines text) caller ≡ Some found.0 =
            ap (λ (ls : List (List ℕ)). slice_get ls caller) passed.lines_are
            ∙ behind_taken (callers_lines sections) (lines rest) caller few ∙ found.1 in
            cc;
      }

  -- all lines, and nothing else
  pub all_passed : caller ≡ length sections → rest ≡ [] → text ≡ caller_lines sections
  all_passed last none =
      passed.text_is
      ∙ ap (λ (r : List ℕ). flat_map (λ (l : List ℕ). l) (take caller (callers_lines sections)) ++ r) none
      ∙ append-nil (flat_map (λ (l : List ℕ). l) (take caller (callers_lines sections)))
      ∙ ap (flat_map (λ (l : List ℕ). l)) (take_all (callers_lines sections) caller (omega (arith, as_many_lines sections, last)))
      ∙ joined_from 0 sections
