-- The parts of a text between commas, one after another.
use Rattle.std.proofs.Common.{
  ◌≡◌,
  ℕ,
  suc,
  ◌+◌,
  ◌<◌,
  Bool,
  true,
  false,
  cond,
  ◌==◌,
  List,
  [],
  ◌∷◌,
  length,
  get_or,
  Option,
  Some,
  None,
  refl,
  sym,
  ap,
  ◌∙◌,
  arith,
}
use Rattle.std.specs.Borrow.{Bor}
use Rattle.std.specs.List.{All, Contains, onto_first, count_by}
use Rattle.std.specs.Option.{option_or}
use Rattle.std.proofs.lemmas.Bool.{ne_eqb}
use Rattle.std.proofs.lemmas.List.Elements.{All-from_get_or, Contains-get_or}
use Rattle.std.proofs.lemmas.List.Splits.{slice_split_none, slice_split_at, length-slice_split}
use Rattle.byte_text.specs.Cuts.{IsCutAt, IsFirstPart}
use Rattle.cpu_set.specs.declared.fault.SetFault.{SetFault}
use Rattle.cpu_set.specs.Readings.{parts_of, Rule, leftmost}

-- no byte of a text that hasn't the byte is that byte
pub none_is : (byte : ℕ) (text : List ℕ) → ¬ (Contains text byte) → All (λ other. (other == byte) ≡ false) text
none_is byte text lacks = All-from_get_or (λ other. (other == byte) ≡ false) text 0 (λ i within.
    ne_eqb (get_or text i 0) byte (λ same. lacks (rw (← same) (Contains-get_or text i 0 within))))

pub parts_of-cut : (text part behind : List ℕ) → IsCutAt 44 text part behind → parts_of text ≡ part ∷ parts_of behind
parts_of-cut text part behind cut =
    ap parts_of cut.parts ∙ slice_split_at (λ byte. byte == 44) part 44 behind (none_is 44 part cut.first) refl

pub parts_of-whole : (text : List ℕ) → ¬ (Contains text 44) → parts_of text ≡ text ∷ []
parts_of-whole text lacks = slice_split_none (λ byte. byte == 44) text (none_is 44 text lacks)

-- the parts of what is left: none where the last was read
abbrev pub parts_left : Option (Bor (List ℕ)) → List (List ℕ)
parts_left None = []
parts_left (Some text) = parts_of text.now

-- a text's parts are the first one and those of what stands behind it
pub first_of_parts : (text part : List ℕ) (behind : Option (Bor (List ℕ))) → IsFirstPart 44 text part behind
    → parts_of text ≡ part ∷ parts_left behind
first_of_parts text part None whole = parts_of-whole text whole.0 ∙ ap (λ t. t ∷ []) (sym whole.1)
first_of_parts text part (Some behind) cut = parts_of-cut text part behind.now cut

-- ---- how much text is left

-- the bytes of the parts with a comma behind each
abbrev pub spanned : List (List ℕ) → ℕ
spanned [] = 0
spanned (part ∷ parts) = length part + 1 + spanned parts

spanned-onto_first : (byte : ℕ) (parts : List (List ℕ)) → 0 < spanned parts → spanned (onto_first byte parts) ≡ spanned parts + 1
spanned-onto_first byte [] some = absurd (omega arith)
spanned-onto_first byte (part ∷ parts) some = omega arith

spanned_step : (ends : Bool) (byte count : ℕ) (parts : List (List ℕ)) → spanned parts ≡ count + 1
    → spanned (cond ends ([] ∷ parts) (onto_first byte parts)) ≡ suc count + 1
spanned_step true byte count parts is = omega arith
spanned_step false byte count parts is = omega (arith, spanned-onto_first byte parts (omega arith))

pub spanned-parts_of : (text : List ℕ) → spanned (parts_of text) ≡ length text + 1
spanned-parts_of [] = refl
spanned-parts_of (byte ∷ bytes) = spanned_step (byte == 44) byte (length bytes) (parts_of bytes) (spanned-parts_of bytes)

pub length-parts_of : (text : List ℕ) → length (parts_of text) ≡ count_by (λ byte. byte == 44) text + 1
length-parts_of text = length-slice_split (λ byte. byte == 44) text

-- ---- the leftmost fault

pub leftmost-good : (rule : Rule) (at : ℕ) (part : List ℕ) (parts : List (List ℕ)) → rule at (length parts) part ≡ None
    → leftmost rule at (part ∷ parts) ≡ leftmost rule (at + length part + 1) parts
leftmost-good rule at part parts good = ap (λ fault. option_or fault (leftmost rule (at + length part + 1) parts)) good

pub leftmost-bad : (rule : Rule) (at : ℕ) (part : List ℕ) (parts : List (List ℕ)) (fault : SetFault)
    → rule at (length parts) part ≡ Some fault → leftmost rule at (part ∷ parts) ≡ Some fault
leftmost-bad rule at part parts fault bad = ap (λ found. option_or found (leftmost rule (at + length part + 1) parts)) bad
