-- The lines of a text, and that those of turns and callers are one each.
use Rattle.std.proofs.Common.{◌≡◌, ℕ, Bool, true, false, List, [], ◌∷◌, ◌++◌, inl, inr, refl, sym, ap, ◌∙◌, append_assoc, arith}
use Rattle.std.specs.Prelude.{codes, decimal, nat_lt, ◌&&◌, ◌==◌, ◌/◌, ◌%◌, if◌then◌else◌}
use Rattle.std.specs.List.{flat_map}
use Rattle.std.proofs.lemmas.Bool.{cases_Bool}
use Rattle.byte_text.specs.Numerals.{lower_hex_digit}
use Rattle.run_texts.specs.Callers.{Placed}
use Rattle.run_texts.specs.Text.{
  Told,
  caller_line,
  caller_numbers,
  escaped,
  escaped_byte,
  labelled,
  level_numbers,
  place_numbers,
  quoted,
  turn_line,
}
use Rattle.run_check.specs.Lines.{in_front, lines}
use Rattle.run_check.proofs.Bytes.{hex_other, lacks, lacks_both, lacks_each, lacks_first, lacks_more, lacks_rest, number_lacks}

-- a text is one line: its one line end is its last byte
pub record IsLine (line : List ℕ) : Type 0 where
  pub front : List ℕ
  pub endless : lacks 10 front ≡ true
  pub line_is : line ≡ front ++ 10 ∷ []

-- the lines of a front that has no line end, a line end, and a rest
front_lines : (front rest : List ℕ) → lacks 10 front ≡ true → lines (front ++ 10 ∷ rest) ≡ (front ++ 10 ∷ []) ∷ lines rest
front_lines [] rest lack = refl
front_lines (byte ∷ front) rest lack =
    rw (lacks_first 10 byte front lack) (ap (in_front byte) (front_lines front rest (lacks_rest 10 byte front lack)))

-- a line in front of a text is its first one
pub first_line : (line rest : List ℕ) → IsLine line → lines (line ++ rest) ≡ line ∷ lines rest
first_line line rest is =
    ap (λ (l : List ℕ). lines (l ++ rest)) is.line_is
    ∙ ap lines (append_assoc is.front (10 ∷ []) rest)
    ∙ front_lines is.front rest is.endless
    ∙ ap (λ (l : List ℕ). l ∷ lines rest) (sym is.line_is)

-- the lines of a text, one behind the other, are the text
pub joined : List (List ℕ) → List ℕ
joined all = flat_map (λ line. line) all

joined_front : (byte : ℕ) (all : List (List ℕ))
    → flat_map (λ (line : List ℕ). line) (in_front byte all) ≡ byte ∷ flat_map (λ line. line) all
joined_front byte [] = refl
joined_front byte (line ∷ all) = refl

pub lines_joined : (text : List ℕ) → flat_map (λ (line : List ℕ). line) (lines text) ≡ text
lines_joined [] = refl
lines_joined (byte ∷ bytes) =
    elim (cases_Bool (byte == 10)) [
      | inl end ↦ rw end (ap (λ (rest : List ℕ). byte ∷ rest) (lines_joined bytes))
      | inr other ↦ rw other (joined_front byte (lines bytes) ∙ ap (λ (rest : List ℕ). byte ∷ rest) (lines_joined bytes))
    ]

-- ---- lines of turns and callers

escaped_lacks_byte : (byte : ℕ) → lacks 10 (escaped_byte byte) ≡ true
escaped_lacks_byte byte =
    elim (cases_Bool (byte == 13)) [
      | inl is ↦ rw is refl
      | inr not_return ↦ elim (cases_Bool (byte == 10)) [
        | inl is ↦ rw (not_return, is) refl
        | inr not_end ↦ elim (cases_Bool (byte == 92)) [
          | inl is ↦ rw (not_return, not_end, is) refl
          | inr not_slash ↦ elim (cases_Bool (byte == 34)) [
            | inl is ↦ rw (not_return, not_end, not_slash, is) refl
            | inr not_quote ↦ elim (cases_Bool (nat_lt 31 byte && nat_lt byte 127)) [
              | inl plain ↦ rw (not_return, not_end, not_slash, not_quote, plain) (lacks_more 10 byte [] not_end refl)
              | inr other ↦
                  rw (not_return, not_end, not_slash, not_quote, other)
                  (lacks_more 10 (lower_hex_digit (byte / 16)) (lower_hex_digit (byte % 16) ∷ []) (hex_other 10 (byte / 16) (omega arith))
                  (lacks_more 10 (lower_hex_digit (byte % 16)) [] (hex_other 10 (byte % 16) (omega arith)) refl))
            ]
          ]
        ]
      ]
    ]

quoted_lacks : (text : List ℕ) → lacks 10 (quoted text) ≡ true
unfolding quoted
quoted_lacks text =
    lacks_both 10 (codes " \"") (escaped text ++ codes "\"") refl
    (lacks_both 10 (escaped text) (codes "\"") (lacks_each 10 escaped_byte text escaped_lacks_byte) refl)

-- the names of some numbers have no line end
abbrev names_lack : List (List ℕ × ℕ) → Bool
names_lack [] = true
names_lack (part ∷ parts) = if lacks 10 part.0 then names_lack parts else false

labelled_lacks : (parts : List (List ℕ × ℕ)) → names_lack parts ≡ true → lacks 10 (labelled parts) ≡ true
labelled_lacks [] h = refl
labelled_lacks (part ∷ parts) h =
    elim (cases_Bool (lacks 10 part.0)) [
      | inl lack ↦
          let rest = rw lack at h in
          lacks_both 10 (part.0 ++ decimal part.1) (labelled parts)
          (lacks_both 10 part.0 (decimal part.1) lack (number_lacks 10 part.1 (omega arith))) (labelled_lacks parts rest)
      | inr has ↦ let none = rw has at h in absurd (cc)
    ]

-- what stands in front of the line end of a turn
abbrev turn_front : List Placed → ℕ → Told → List ℕ
turn_front sections n one =
    labelled (place_numbers sections n one.turn.caller)
    ++ (labelled (level_numbers one.turn) ++ (quoted one.command ++ quoted one.reply))

pub turn_is_line : (sections : List Placed) (n : ℕ) (one : Told) → IsLine (turn_line sections n one)
unfolding turn_line
turn_is_line sections n one =
    let place = labelled (place_numbers sections n one.turn.caller) in
    let levels = labelled (level_numbers one.turn) in
    let texts = quoted one.command ++ quoted one.reply in
    record {
      front = turn_front sections n one;
      endless = lacks_both 10 place (levels ++ texts) (labelled_lacks (place_numbers sections n one.turn.caller) refl)
          (lacks_both 10 levels texts (labelled_lacks (level_numbers one.turn) refl)
          (lacks_both 10 (quoted one.command) (quoted one.reply) (quoted_lacks one.command) (quoted_lacks one.reply)));
      line_is = in_front_of (labelled (place_numbers sections n one.turn.caller)) (labelled (level_numbers one.turn)) (quoted one.command)
          (quoted one.reply) (codes "\n");
    }
  where
    in_front_of : (a b c d e : List ℕ) → a ++ (b ++ (c ++ (d ++ e))) ≡ (a ++ (b ++ (c ++ d))) ++ e
    in_front_of a b c d e =
        ap (λ (t : List ℕ). a ++ (b ++ t)) (sym (append_assoc c d e))
        ∙ ap (λ (t : List ℕ). a ++ t) (sym (append_assoc b (c ++ d) e))
        ∙ sym (append_assoc a (b ++ (c ++ d)) e)

pub caller_is_line : (caller : ℕ) (section : Placed) → IsLine (caller_line caller section)
unfolding caller_line
caller_is_line caller section = record {
  front = labelled (caller_numbers caller section);
  endless = labelled_lacks (caller_numbers caller section) refl;
  line_is = refl;
}
