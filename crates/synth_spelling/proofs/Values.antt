-- The computed reading of a size and of indexes is how they are spelled.
use Rattle.std.proofs.Common.{◌≡◌, ℕ, ◌*◌, ◌-◌, ◌^◌, ◌<◌, ◌≤◌, Bool, true, false, List, [], ◌∷◌, length, Option, Some, None}
use Rattle.std.proofs.Common.{refl, sym, ap, subst, ◌∙◌, inl, inr, arith}
use Rattle.std.specs.Prelude.{◌==◌, ◌&&◌, nat_le, nat_lt, option_map}
use Rattle.std.specs.Char.{is_ascii_digit}
use Rattle.std.specs.List.{list_all, list_any, slice_split, join_with_byte, take_while, AllByRecursion}
use Rattle.std.specs.Option.{option_and_then}
use Rattle.std.specs.Str.Parse.{AllDigits, digits_value}
use Rattle.std.proofs.lemmas.Bool.{cases_Bool, and_parts, and_from, leb-true, ltb-true, lt-ltb, le-leb, ne_eqb, or_from, or_left, or_right}
use Rattle.std.proofs.lemmas.List.Folds.{list_any-append}
use Rattle.std.proofs.lemmas.List.Splits.{join_with_byte-slice_split, length-slice_split}
use Rattle.std.proofs.lemmas.Str.Parse.{digit_from_value}
use Rattle.byte_text.specs.Cuts.{cut, without_front}
use Rattle.byte_text.specs.Numerals.{number_in, is_decimal}
use Rattle.byte_text.proofs.CutLaws.{CutsAt, cuts_of, cut-from_IsCutAt}
use Rattle.byte_text.proofs.NumeralLaws.{Decides-is_decimal, in_range}
use Rattle.synth_text.specs.declared.description.Loop.{Loop}
use Rattle.synth_text.specs.declared.description.Indexes.{Indexes}
use Rattle.synth_text.specs.declared.description.Indexes.TheVariants as indexes
use Rattle.synth_text.specs.Tables.{entry_of}
use Rattle.synth_text.specs.Sizes.{units, small_size, size_of}
use Rattle.synth_text.specs.IndexTexts.{index_of, loop_of, entries_of, indexes_of}
use Rattle.synth_text.proofs.Bound.{some_is, guard_some, and_then_some, option_map_some}
use Rattle.synth_text.proofs.Texts.{each_append, each_weaker, each_joined, IsDigit, Lacks, split_joined}
use Rattle.synth_spelling.specs.Spelling.{IsNumber, SpellsSize, SpellEach, SpellJoined, SpellsIndex, SpellsLoop, SpellsIndexes}
use Rattle.synth_spelling.proofs.Fronts.{rest_stops, taken_and_rest, front_taken, front_dropped}

-- ---- numbers

pub number_spelled : (low high n : ℕ) (text : List ℕ) → number_in low high text ≡ Some n → IsNumber low high n text
unfolding number_in
number_spelled low high n text e =
    let value = digits_value 10 text in
    let g = guard_some (is_decimal text && (nat_le low value && nat_le value high)) value n e in
    let both = and_parts (is_decimal text) (nat_le low value && nat_le value high) g.0 in
    let range = and_parts (nat_le low value) (nat_le value high) both.1 in
    record {
      numeral = (Decides-is_decimal text).0 both.0;
      value = g.1;
      above = subst (λ m. low ≤ m) g.1 (leb-true low value range.0);
      below = subst (λ m. m ≤ high) g.1 (leb-true value high range.1);
    }

pub number_read : (low high n : ℕ) (text : List ℕ) → IsNumber low high n text → number_in low high text ≡ Some n
number_read low high n text h = in_range low high n text h.numeral h.value h.above h.below

-- ---- digits

each_digit : (ds : List ℕ) → AllDigits 10 ds → AllByRecursion IsDigit ds
each_digit [] h = tt
each_digit (d ∷ ds) h = let r = digit_from_value d h.0 in ((r.0, r.1), each_digit ds h.1)

digits_of : (low high n : ℕ) (text : List ℕ) → IsNumber low high n text → AllByRecursion IsDigit text
digits_of low high n text h = each_digit text h.numeral.1

all_digits : (text : List ℕ) → AllByRecursion IsDigit text → list_all is_ascii_digit text ≡ true
all_digits [] h = refl
all_digits (b ∷ bs) h = and_from _ _ (and_from _ _ (le-leb 48 b h.0.0) (le-leb b 57 h.0.1)) (all_digits bs h.1)

digits_lack : (byte : ℕ) → 57 < byte → (text : List ℕ) → AllByRecursion IsDigit text → Lacks (λ b. b == byte) text
digits_lack byte out text h =
    each_weaker IsDigit (λ b. (b == byte) ≡ false) (λ b d. ne_eqb b byte (λ same. absurd (omega (arith, d.1, same, out)))) text h

digits_lack_low : (byte : ℕ) → byte < 48 → (text : List ℕ) → AllByRecursion IsDigit text → Lacks (λ b. b == byte) text
digits_lack_low byte out text h =
    each_weaker IsDigit (λ b. (b == byte) ≡ false) (λ b d. ne_eqb b byte (λ same. absurd (omega (arith, d.0, same, out)))) text h

-- ---- sizes

pub size_spelled : (text : List ℕ) (bytes : ℕ) → size_of text ≡ Some bytes → SpellsSize text bytes
unfolding size_of
size_spelled text bytes e =
    let numeral = take_while is_ascii_digit text in
    let suffix = without_front is_ascii_digit text in
    let found = and_then_some
    (λ unit. option_and_then (λ number. small_size (number * unit)) (number_in 0 (2 ^ 64 - 1) numeral)) (entry_of units suffix) bytes e in
    let counted = and_then_some (λ number. small_size (number * found.0)) (number_in 0 (2 ^ 64 - 1) numeral) bytes found.2 in
    let within = guard_some (nat_lt (counted.0 * found.0) (2 ^ 64)) (counted.0 * found.0) bytes counted.2 in
    record {
      numeral = numeral;
      suffix = suffix;
      number = counted.0;
      unit = found.0;
      parts = taken_and_rest is_ascii_digit text;
      counted = number_spelled 0 (2 ^ 64 - 1) counted.0 numeral counted.1;
      whole = rest_stops is_ascii_digit text;
      named = found.1;
      product = within.1;
      small = subst (λ n. n < 2 ^ 64) within.1 (ltb-true (counted.0 * found.0) (2 ^ 64) within.0);
    }

pub size_read : (text : List ℕ) (bytes : ℕ) → SpellsSize text bytes → size_of text ≡ Some bytes
unfolding size_of
size_read text bytes h =
    let digits = all_digits h.numeral (digits_of 0 (2 ^ 64 - 1) h.number h.numeral h.counted) in
    let front : take_while is_ascii_digit text ≡ h.numeral =
    ap (take_while is_ascii_digit) h.parts ∙ front_taken is_ascii_digit h.numeral h.suffix digits h.whole in
    let rest : without_front is_ascii_digit text ≡ h.suffix =
    ap (without_front is_ascii_digit) h.parts ∙ front_dropped is_ascii_digit h.numeral h.suffix digits h.whole in
    rw (front, rest, h.named, number_read 0 (2 ^ 64 - 1) h.number h.numeral h.counted, h.product, lt-ltb bytes (2 ^ 64) h.small) refl

-- ---- texts with a byte between them

module _ {X : Type 0} (reading : List ℕ → Option X) (Spells : X → List ℕ → Type 0) where
  entries_spelled : ((piece : List ℕ) (x : X) → reading piece ≡ Some x → Spells x piece) → (pieces : List (List ℕ)) (xs : List X)
      → entries_of reading pieces ≡ Some xs → SpellEach Spells xs pieces
  entries_spelled spelled [] xs e = subst (λ ys. SpellEach Spells ys []) (some_is [] xs e) tt
  entries_spelled spelled (piece ∷ pieces) xs e =
      let first = and_then_some (λ entry. option_map (λ entries. entry ∷ entries) (entries_of reading pieces)) (reading piece) xs e in
      let others = option_map_some (λ entries. first.0 ∷ entries) (entries_of reading pieces) xs first.2 in
      subst (λ ys. SpellEach Spells ys (piece ∷ pieces)) others.2
      (spelled piece first.0 first.1, entries_spelled spelled pieces others.0 others.1)

  entries_read : ((piece : List ℕ) (x : X) → Spells x piece → reading piece ≡ Some x) → (pieces : List (List ℕ)) (xs : List X)
      → SpellEach Spells xs pieces → entries_of reading pieces ≡ Some xs
  entries_read read [] [] h = refl
  entries_read read [] (x ∷ xs) h = absurd h
  entries_read read (piece ∷ pieces) [] h = absurd h
  entries_read read (piece ∷ pieces) (x ∷ xs) h = rw (read piece x h.0, entries_read read pieces xs h.1) refl

  -- what each thing's text keeps, all texts keep
  spelled_keep : (P : List ℕ → Type 0) → ((piece : List ℕ) (x : X) → Spells x piece → P piece) → (pieces : List (List ℕ)) (xs : List X)
      → SpellEach Spells xs pieces → AllByRecursion P pieces
  spelled_keep P keeps [] [] h = tt
  spelled_keep P keeps [] (x ∷ xs) h = absurd h
  spelled_keep P keeps (piece ∷ pieces) [] h = absurd h
  spelled_keep P keeps (piece ∷ pieces) (x ∷ xs) h = (keeps piece x h.0, spelled_keep P keeps pieces xs h.1)

  joined_spelled : ((piece : List ℕ) (x : X) → reading piece ≡ Some x → Spells x piece) → (byte : ℕ) (text : List ℕ) (xs : List X)
      → entries_of reading (slice_split (λ b. b == byte) text) ≡ Some xs → SpellJoined Spells byte text xs
  joined_spelled spelled byte text xs e = record {
    pieces = slice_split (λ b. b == byte) text;
    some = omega (arith, length-slice_split (λ b. b == byte) text);
    joined = join_with_byte-slice_split byte text;
    each = entries_spelled spelled (slice_split (λ b. b == byte) text) xs e;
  }

  joined_read : ((piece : List ℕ) (x : X) → Spells x piece → reading piece ≡ Some x) → (byte : ℕ)
      → ((piece : List ℕ) (x : X) → Spells x piece → Lacks (λ b. b == byte) piece) → (b_is : (byte == byte) ≡ true)
      → (text : List ℕ) (xs : List X) → SpellJoined Spells byte text xs
      → entries_of reading (slice_split (λ b. b == byte) text) ≡ Some xs
  joined_read read byte lack b_is text xs h = by h.pieces h.some h.joined h.each
    where
      by : (pieces : List (List ℕ)) → 0 < length pieces → join_with_byte byte pieces ≡ text → SpellEach Spells xs pieces
          → entries_of reading (slice_split (λ b. b == byte) text) ≡ Some xs
      by [] some joined each = absurd (omega (arith, some))
      by (piece ∷ pieces) some joined each =
          ap (λ t. entries_of reading (slice_split (λ b. b == byte) t)) (sym joined)
          ∙ ap (entries_of reading) (split_joined (λ b. b == byte) byte piece pieces b_is
          (spelled_keep (Lacks (λ b. b == byte)) lack (piece ∷ pieces) xs each))
          ∙ entries_read read (piece ∷ pieces) xs each

-- ---- indexes

index_spelled : (piece : List ℕ) (n : ℕ) → index_of piece ≡ Some n → SpellsIndex n piece
unfolding index_of
index_spelled piece n e = number_spelled 0 (2 ^ 32 - 1) n piece e

index_read : (piece : List ℕ) (n : ℕ) → SpellsIndex n piece → index_of piece ≡ Some n
unfolding index_of
index_read piece n h = number_read 0 (2 ^ 32 - 1) n piece h

index_digits : (piece : List ℕ) (n : ℕ) → SpellsIndex n piece → AllByRecursion IsDigit piece
index_digits piece n h = digits_of 0 (2 ^ 32 - 1) n piece h

abbrev loop_with : ℕ → ℕ → Loop
loop_with step count = record { step = step; count = count }

loop_spelled : (piece : List ℕ) (given : Loop) → loop_of piece ≡ Some given → SpellsLoop given piece
unfolding loop_of
loop_spelled piece given e = by (cut (λ b. b == 42) piece) (cuts_of 42 piece) e
  where
    by : (o : Option (List ℕ × List ℕ)) → CutsAt 42 piece o
        → option_and_then
        (λ parts. option_and_then
        (λ step. option_map (λ count. record { step = step; count = count }) (number_in 1 (2 ^ 32 - 1) parts.1))
        (number_in 1 (2 ^ 32 - 1) parts.0))
        o ≡ Some given → SpellsLoop given piece
    by None lacks h = absurd cc
    by (Some parts) cuts h =
        let step = and_then_some
        (λ step. option_map (λ count. record { step = step; count = count }) (number_in 1 (2 ^ 32 - 1) parts.1))
        (number_in 1 (2 ^ 32 - 1) parts.0) given h in
        let count = option_map_some (λ (count : ℕ). loop_with step.0 count) (number_in 1 (2 ^ 32 - 1) parts.1) given step.2 in
        record {
          step = parts.0;
          count = parts.1;
          cut = cuts;
          stepped = subst (λ n. IsNumber 1 (2 ^ 32 - 1) n parts.0) (ap (λ (l : Loop). l.step) count.2)
              (number_spelled 1 (2 ^ 32 - 1) step.0 parts.0 step.1);
          counted = subst (λ n. IsNumber 1 (2 ^ 32 - 1) n parts.1) (ap (λ (l : Loop). l.count) count.2)
              (number_spelled 1 (2 ^ 32 - 1) count.0 parts.1 count.1);
        }

loop_read : (piece : List ℕ) (given : Loop) → SpellsLoop given piece → loop_of piece ≡ Some given
unfolding loop_of
loop_read piece given h =
    rw (
      cut-from_IsCutAt 42 piece h.step h.count h.cut,
      number_read 1 (2 ^ 32 - 1) given.step h.step h.stepped,
      number_read 1 (2 ^ 32 - 1) given.count h.count h.counted,
    ) refl

-- a loop's text is digits, `*` and digits
loop_parts : (P : ℕ → Type 0) → ((b : ℕ) → IsDigit b → P b) → P 42 → (piece : List ℕ) (given : Loop) → SpellsLoop given piece
    → AllByRecursion P piece
loop_parts P digit star piece given h =
    let front = each_weaker IsDigit P digit h.step (digits_of 1 (2 ^ 32 - 1) given.step h.step h.stepped) in
    let behind = each_weaker IsDigit P digit h.count (digits_of 1 (2 ^ 32 - 1) given.count h.count h.counted) in
    subst (AllByRecursion P) (sym h.cut.parts) (each_append P h.step (42 ∷ h.count) front (star, behind))

none_any : (test : ℕ → Bool) (text : List ℕ) → Lacks test text → list_any test text ≡ false
none_any test [] h = refl
none_any test (b ∷ bs) h = or_from _ _ h.0 (none_any test bs h.1)

list_lacks : (text : List ℕ) (numbers : List ℕ) → SpellJoined SpellsIndex 44 text numbers → list_any (λ b. b == 42) text ≡ false
list_lacks text numbers h =
    none_any (λ b. b == 42) text (subst (Lacks (λ b. b == 42)) h.joined
    (each_joined (λ b. (b == 42) ≡ false) 44 h.pieces refl
    (spelled_keep index_of SpellsIndex (Lacks (λ b. b == 42))
    (λ piece n spelled. digits_lack_low 42 (omega arith) piece (index_digits piece n spelled)) h.pieces numbers h.each)))

star_in : (piece : List ℕ) (given : Loop) → SpellsLoop given piece → list_any (λ b. b == 42) piece ≡ true
star_in piece given h =
    ap (list_any (λ b. b == 42)) h.cut.parts ∙ list_any-append (λ b. b == 42) h.step (42 ∷ h.count)
    ∙ or_right (list_any (λ b. b == 42) h.step) true refl

loops_have : (text : List ℕ) (loops : List Loop) → SpellJoined SpellsLoop 58 text loops → list_any (λ b. b == 42) text ≡ true
loops_have text loops h = by h.pieces loops h.some h.joined h.each
  where
    by : (pieces : List (List ℕ)) (ls : List Loop) → 0 < length pieces → join_with_byte 58 pieces ≡ text → SpellEach SpellsLoop ls pieces
        → list_any (λ b. b == 42) text ≡ true
    by [] ls some joined each = absurd (omega (arith, some))
    by (piece ∷ pieces) [] some joined each = absurd each
    by (piece ∷ []) (l ∷ ls) some joined each = ap (list_any (λ b. b == 42)) (sym joined) ∙ star_in piece l each.0
    by (piece ∷ next ∷ pieces) (l ∷ ls) some joined each =
        ap (list_any (λ b. b == 42)) (sym joined)
        ∙ list_any-append (λ b. b == 42) piece (58 ∷ join_with_byte 58 (next ∷ pieces))
        ∙ or_left (list_any (λ b. b == 42) piece) (list_any (λ b. b == 42) (58 ∷ join_with_byte 58 (next ∷ pieces)))
        (star_in piece l each.0)

pub indexes_spelled : (text : List ℕ) (given : Indexes) → indexes_of text ≡ Some given → SpellsIndexes text given
unfolding indexes_of
indexes_spelled text given e =
    elim (cases_Bool (list_any (λ b. b == 42) text)) [
      | inl star ↦
          let read = option_map_some indexes.Loops (entries_of loop_of (slice_split (λ b. b == 58) text)) given (rw star at e) in
          subst (SpellsIndexes text) read.2 (joined_spelled loop_of SpellsLoop loop_spelled 58 text read.0 read.1)
      | inr none ↦
          let read = option_map_some indexes.List (entries_of index_of (slice_split (λ b. b == 44) text)) given (rw none at e) in
          subst (SpellsIndexes text) read.2 (joined_spelled index_of SpellsIndex index_spelled 44 text read.0 read.1)
    ]

pub indexes_read : (text : List ℕ) (given : Indexes) → SpellsIndexes text given → indexes_of text ≡ Some given
unfolding indexes_of
indexes_read text indexes.Ordered h = absurd h
indexes_read text (indexes.List numbers) h =
    rw (
      list_lacks text numbers h,
      joined_read index_of SpellsIndex index_read 44
          (λ piece n spelled. digits_lack_low 44 (omega arith) piece (index_digits piece n spelled)) refl text numbers h,
    ) refl
indexes_read text (indexes.Loops loops) h =
    rw (
      loops_have text loops h,
      joined_read loop_of SpellsLoop loop_read 58
          (λ piece l spelled. loop_parts (λ b. (b == 58) ≡ false)
          (λ b d. ne_eqb b 58 (λ same. absurd (omega (arith, d.1, same)))) refl piece l spelled) refl text loops h,
    ) refl
