-- Texts that begin with a line.
use Rattle.std.proofs.Common.{◌≡◌, ℕ, ◌<◌, true, false, List, [], ◌∷◌, ◌++◌, length, take, drop, Some, inl, inr, refl, sym, ap, ◌∙◌, subst}
use Rattle.std.proofs.Common.{arith}
use Rattle.std.specs.Prelude.{codes, nat_eq, slice_get, ◌==◌}
use Rattle.std.specs.List.{flat_map}
use Rattle.std.specs.Cmp.Lexicographic.{pointwise}
use Rattle.std.proofs.lemmas.Bool.{cases_Bool}
use Rattle.std.proofs.lemmas.Bool.Decides.{Decides-eqb}
use Rattle.std.proofs.lemmas.List.{take_at, take-append-drop}
use Rattle.std.proofs.lemmas.Slice.Eq.{slice_eq-Decides}
use Rattle.run_check.specs.Lines.{begins_turn, in_front, lines, turn_count}
use Rattle.run_check.proofs.Lined.{lines_joined}

-- a text that doesn't begin with a line has no such front
pub not_in_front : (text line rest : List ℕ) → pointwise nat_eq (take (length line) text) line ≡ false → text ≡ line ++ rest → ⊥
not_in_front text line rest other is =
    let front : take (length line) text ≡ line = ap (take (length line)) is ∙ take_at line rest (length line) refl in
    let same : false ≡ true = (slice_eq-Decides Decides-eqb (take (length line) text) line false (sym other)).1 front in
    cc

-- one that does has it in front of the rest
pub in_front_of : (text line rest : List ℕ) → pointwise nat_eq (take (length line) text) line ≡ true → rest ≡ drop (length line) text
    → text ≡ line ++ rest
in_front_of text line rest same behind =
    let front : take (length line) text ≡ line = (slice_eq-Decides Decides-eqb (take (length line) text) line true (sym same)).0 refl in
    sym (take-append-drop (length line) text) ∙ ap (λ (f : List ℕ). f ++ drop (length line) text) front
    ∙ ap (λ (b : List ℕ). line ++ b) (sym behind)

-- the first line of a text is its front
first_of : (all : List (List ℕ)) (text line : List ℕ) → flat_map (λ (one : List ℕ). one) all ≡ text → slice_get all 0 ≡ Some line
    → (behind : List ℕ) × (text ≡ line ++ behind)
first_of [] text line is first = cc
first_of (one ∷ all) text line is first =
    let same : one ≡ line = cc in
    (flat_map (λ (l : List ℕ). l) all, sym is ∙ ap (λ (l : List ℕ). l ++ flat_map (λ (m : List ℕ). m) all) same)

pub front_line : (text line : List ℕ) → slice_get (lines text) 0 ≡ Some line → (behind : List ℕ) × (text ≡ line ++ behind)
front_line text line first = first_of (lines text) text line (lines_joined text) first

-- a text that isn't empty has a first line
some_line : (byte : ℕ) (all : List (List ℕ)) → (line : List ℕ) × (slice_get (in_front byte all) 0 ≡ Some line)
some_line byte [] = (byte ∷ [], refl)
some_line byte (line ∷ all) = (byte ∷ line, refl)

pub has_line : (text : List ℕ) → 0 < length text → (line : List ℕ) × (slice_get (lines text) 0 ≡ Some line)
has_line [] some = absurd (omega arith)
has_line (byte ∷ bytes) some =
    elim (cases_Bool (byte == 10)) [
      | inl end ↦ (byte ∷ [], rw end refl)
      | inr other ↦ let found = some_line byte (lines bytes) in (found.0, rw other found.1)
    ]

-- ---- lines of turns

-- what a text begins with that is told to be a turn's
begins : (text : List ℕ) → begins_turn text ≡ true → text ≡ codes "turn " ++ drop 5 text
begins text is =
    let front : codes "turn " ≡ take 5 text = (slice_eq-Decides Decides-eqb (codes "turn ") (take 5 text) true (sym is)).0 refl in
    sym (take-append-drop 5 text) ∙ ap (λ (f : List ℕ). f ++ drop 5 text) (sym front)

-- its first line is told so
turn_first : (all : List (List ℕ)) → 0 < turn_count (in_front 116 (in_front 117 (in_front 114 (in_front 110 (in_front 32 all)))))
turn_first [] = omega arith
turn_first (line ∷ all) = omega arith

pub one_turn : (text : List ℕ) → begins_turn text ≡ true → 0 < turn_count (lines text)
one_turn text is = subst (λ (t : List ℕ). 0 < turn_count (lines t)) (sym (begins text is)) (turn_first (lines (drop 5 text)))

-- and where the first line is, the text is
five : (line behind : List ℕ) → begins_turn line ≡ true → begins_turn (line ++ behind) ≡ true
five line behind is =
    let parts = begins line is in
    ap (λ (l : List ℕ). begins_turn (l ++ behind)) parts

none_first : (all : List (List ℕ)) (text : List ℕ) → flat_map (λ (one : List ℕ). one) all ≡ text → begins_turn text ≡ false
    → turn_count all ≡ 0
none_first [] text is none = refl
none_first (line ∷ all) text is none =
    elim (cases_Bool (begins_turn line)) [
      | inl told ↦
          let also : begins_turn text ≡ true = ap begins_turn (sym is) ∙ five line (flat_map (λ (l : List ℕ). l) all) told in
          cc
      | inr other ↦ rw other refl
    ]

pub no_turn : (text : List ℕ) → begins_turn text ≡ false → turn_count (lines text) ≡ 0
no_turn text none = none_first (lines text) text (lines_joined text) none
