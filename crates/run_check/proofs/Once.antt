-- A text has one first broken line.
use Rattle.std.proofs.Common.{◌≡◌, ℕ, zero, suc, ◌+◌, ◌-◌, ◌^◌, ◌<◌, ◌≤◌, ◌⊎◌, List, [], ◌∷◌, ◌++◌, length, take, drop, Some, inl, inr}
use Rattle.std.proofs.Common.{refl, sym, ap, ◌∙◌, subst, arith}
use Rattle.std.specs.Prelude.{slice_get}
use Rattle.std.proofs.lemmas.Bool.{cases_order}
use Rattle.std.proofs.lemmas.List.{append-nil}
use Rattle.keep_local.specs.declared.shape.Shape.{Shape}
use Rattle.keep_local.specs.Shapes.{top_of}
use Rattle.run_texts.specs.Callers.{Placed}
use Rattle.run_texts.specs.Text.{Hold}
use Rattle.run_check.specs.Broken.{CallerBreaks, EndBreaks, IsFirstBroken, TurnBreaks, callers_lines}
use Rattle.run_check.specs.Lines.{lines, turn_count}
use Rattle.run_check.specs.Made.{MakeLines, MakesLine}
use Rattle.run_check.proofs.Comings.{made_many}
use Rattle.run_check.proofs.RunLines.{Front, front}

-- an element within the first of a list
pub taken_at : {A : Type 0} (xs : List A) (n k : ℕ) → k < n → slice_get (take n xs) k ≡ slice_get xs k
taken_at [] zero k within = absurd (omega arith)
taken_at [] (suc n) k within = refl
taken_at (x ∷ xs) zero k within = absurd (omega arith)
taken_at (x ∷ xs) (suc n) zero within = refl
taken_at (x ∷ xs) (suc n) (suc k) within = taken_at xs n k (omega arith)

dropped_at : {A : Type 0} (xs : List A) (n k : ℕ) → slice_get (drop n xs) k ≡ slice_get xs (n + k)
dropped_at xs zero k = let none : 0 + k ≡ k = omega arith in ap (slice_get xs) (sym none)
dropped_at [] (suc n) k = let one : suc n + k ≡ suc (n + k) = omega arith in ap (slice_get []) (sym one)
dropped_at (x ∷ xs) (suc n) k =
    let one : suc n + k ≡ suc (n + k) = omega arith in dropped_at xs n k ∙ ap (slice_get (x ∷ xs)) (sym one)

take_nothing : {A : Type 0} (xs : List A) (k : ℕ) → xs ≡ [] → take k xs ≡ []
take_nothing [] zero none = refl
take_nothing [] (suc k) none = refl
take_nothing (x ∷ xs) k none = absurd (cc)

-- as many of a list as are taken, and those between
between : {A : Type 0} (xs : List A) (m n : ℕ) → m ≤ n → take n xs ≡ take m xs ++ take (n - m) (drop m xs)
between xs zero n within = let all : n ≡ n - 0 = omega arith in ap (λ k. take k xs) all
between [] (suc m) zero within = absurd (omega arith)
between {A} [] (suc m) (suc n) within = sym (take_nothing {A = A} [] (suc n - suc m) refl)
between (x ∷ xs) (suc m) zero within = absurd (omega arith)
between (x ∷ xs) (suc m) (suc n) within =
    let less : n - m ≡ suc n - suc m = omega arith in
    ap (λ rest. x ∷ rest) (between xs m n (omega arith) ∙ ap (λ k. take m xs ++ take k (drop m xs)) less)

module _ (sections : List Placed) (shape : Shape) (all : List (List ℕ)) (few : length sections < 2 ^ 32) (low : top_of shape ≤ 32) where
  abbrev Made : List Hold → Type 0
  Made holds = MakeLines sections shape [] holds (take (length holds) all)

  abbrev Breaks : List Hold → ℕ → Type 0
  Breaks holds number =
      TurnBreaks sections shape holds all number ⊎ EndBreaks sections shape holds all number ⊎ CallerBreaks sections shape holds all number

  told_within : (holds : List Hold) (number : ℕ) → Breaks holds number → length holds ≤ turn_count all
  told_within holds number (inl turn) = omega (arith, turn.place, turn.told)
  told_within holds number (inr (inl end)) = omega (arith, end.place, end.told)
  told_within holds number (inr (inr caller)) = omega (arith, caller.told)

  behind_front : (holds others : List Hold) → Made holds → Made others → length others ≤ length holds
      → Front sections shape [] holds others (take (length holds - length others) (drop (length others) all))
  behind_front holds others made also within =
      front sections shape few low [] holds others (take (length holds) all) (take (length others) all)
      (take (length holds - length others) (drop (length others) all)) made also (between all (length others) (length holds) within)

  -- no more holds make lines than those at whose line a text breaks
  no_longer : (holds others : List Hold) (number : ℕ) → Made holds → Made others → Breaks others number → length holds ≤ turn_count all
      → length others < length holds → ⊥
  no_longer holds others number made also (inr (inl end)) within longer = omega (arith, end.place, end.told, within, longer)
  no_longer holds others number made also (inr (inr caller)) within longer = omega (arith, caller.told, within, longer)
  no_longer holds others number made also (inl turn) within longer =
      let f = behind_front holds others made also (omega (arith, longer)) in
      let one : 0 < length holds - length others = omega (arith, longer) in
      let there : slice_get (take (length holds - length others) (drop (length others) all)) 0 ≡ Some turn.line =
      taken_at (drop (length others) all) (length holds - length others) 0 one
      ∙ dropped_at all (length others) 0
      ∙ ap (slice_get all) (omega (arith, turn.place))
      ∙ turn.line_is in
      one_made others f.tail (take (length holds - length others) (drop (length others) all)) turn.line f.make there turn.none
    where
      one_made : (holds tail : List Hold) (made : List (List ℕ)) (line : List ℕ) → MakeLines sections shape holds tail made
          → slice_get made 0 ≡ Some line → ((hold : Hold) → MakesLine sections shape holds hold line → ⊥) → ⊥
      one_made holds tail [] line make is none = cc
      one_made holds [] (first ∷ made) line make is none = make
      one_made holds (hold ∷ tail) (first ∷ made) line make is none =
          let same : first ≡ line = cc in none hold (subst (MakesLine sections shape holds hold) same make.0)

  same_holds : (holds others : List Hold) → Made holds → Made others → length holds ≡ length others → holds ≡ others
  same_holds holds others made also same =
      let f = behind_front holds others made also (omega (arith, same)) in
      let none : length holds - length others ≡ 0 = omega (arith, same) in
      let rest : take (length holds - length others) (drop (length others) all) ≡ [] = ap (λ k. take k (drop (length others) all)) none in
      let tail = made_many sections shape others f.tail (take (length holds - length others) (drop (length others) all)) f.make in
      f.holds_are ∙ ap (λ (t : List Hold). others ++ t) (no_holds f.tail (sym tail ∙ ap length rest)) ∙ append-nil others
    where
      no_holds : (hs : List Hold) → length hs ≡ 0 → hs ≡ []
      no_holds [] none = refl
      no_holds (h ∷ hs) none = absurd (omega arith)

  -- a line of a caller that is another breaks before those behind it
  no_later : (holds : List Hold) (number other : ℕ) (one : CallerBreaks sections shape holds all number)
      (two : CallerBreaks sections shape holds all other) → one.caller < two.caller → ⊥
  no_later holds number other one two earlier =
      one.other
      (ap (slice_get all) one.place ∙ sym (dropped_at all (length holds) one.caller)
      ∙ sym (taken_at (drop (length holds) all) two.caller one.caller earlier)
      ∙ ap (λ (ls : List (List ℕ)). slice_get ls one.caller) two.callers
      ∙ taken_at (callers_lines sections) two.caller one.caller earlier)

  same_callers : (holds : List Hold) (number other : ℕ) → CallerBreaks sections shape holds all number
      → CallerBreaks sections shape holds all other → number ≡ other
  same_callers holds number other one two =
      elim (cases_order one.caller two.caller) [
        | inl same ↦ one.place ∙ ap (λ n. length holds + n) same ∙ sym two.place
        | inr apart ↦ elim apart [
          | inl less ↦ absurd (no_later holds number other one two less)
          | inr more ↦ absurd (no_later holds other number two one more)
        ]
      ]

  same_breaks : (holds : List Hold) (number other : ℕ) → Breaks holds number → Breaks holds other → number ≡ other
  same_breaks holds number other (inl one) (inl two) = one.place ∙ sym two.place
  same_breaks holds number other (inl one) (inr (inl two)) = one.place ∙ sym two.place
  same_breaks holds number other (inl one) (inr (inr two)) = absurd (omega (arith, one.place, one.told, two.told))
  same_breaks holds number other (inr (inl one)) (inl two) = one.place ∙ sym two.place
  same_breaks holds number other (inr (inl one)) (inr (inl two)) = one.place ∙ sym two.place
  same_breaks holds number other (inr (inl one)) (inr (inr two)) = absurd (one.more two.ended)
  same_breaks holds number other (inr (inr one)) (inl two) = absurd (omega (arith, two.place, two.told, one.told))
  same_breaks holds number other (inr (inr one)) (inr (inl two)) = absurd (two.more one.ended)
  same_breaks holds number other (inr (inr one)) (inr (inr two)) = same_callers holds number other one two

pub broken_once : (sections : List Placed) (shape : Shape) (printed : List ℕ) (number other : ℕ) → length sections < 2 ^ 32
    → top_of shape ≤ 32 → IsFirstBroken sections shape printed number → IsFirstBroken sections shape printed other → number ≡ other
broken_once sections shape printed number other few low one two =
    let all = lines printed in
    let same : one.holds ≡ two.holds = elim (cases_order (length one.holds) (length two.holds)) [
      | inl many ↦ same_holds sections shape all few low one.holds two.holds one.made two.made many
      | inr apart ↦ elim apart [
        | inl less ↦ absurd (no_longer sections shape all few low two.holds one.holds number two.made one.made one.breaks
            (told_within sections shape all few low two.holds other two.breaks) less)
        | inr more ↦ absurd (no_longer sections shape all few low one.holds two.holds other one.made two.made two.breaks
            (told_within sections shape all few low one.holds number one.breaks) more)
      ]
    ] in
    same_breaks sections shape all few low two.holds number other
    (subst (λ (hs : List Hold). TurnBreaks sections shape hs all number ⊎ EndBreaks sections shape hs all number
    ⊎ CallerBreaks sections shape hs all number) same one.breaks) two.breaks
