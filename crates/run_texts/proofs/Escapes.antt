-- Texts between quotes.
use Rattle.std.proofs.Common.{◌≡◌, ℕ, ◌+◌, ◌<◌, Bool, true, false, ◌&&◌, not, nat_lt, List, [], ◌∷◌, ◌++◌, length, get_or, take, drop, refl}
use Rattle.std.proofs.Common.{sym, ap, ◌∙◌}
use Rattle.std.proofs.Common.{append_assoc, add-one, arith}
use Rattle.std.specs.Prelude.{◌==◌, ◌-◌, codes, nat_eq}
use Rattle.std.specs.Cmp.Lexicographic.{pointwise}
use Rattle.std.proofs.Math.Seq.{drop-cons}
use Rattle.std.proofs.lemmas.Bool.{and_parts, ltb-true, ne_eqb}
use Rattle.std.proofs.lemmas.Bool.Decides.{Decides-eqb}
use Rattle.std.proofs.lemmas.Grind.{flat_map-append}
use Rattle.std.proofs.lemmas.List.{take_more, take-append-drop}
use Rattle.std.proofs.lemmas.Slice.Eq.{slice_eq-Decides}
use Rattle.run_texts.specs.Text.{escaped, escaped_byte}

not_true : (b : Bool) → not b ≡ true → b ≡ false
not_true true is = cc
not_true false is = refl

-- a byte that stands for itself
pub plain_self : (byte : ℕ) → (nat_lt 31 byte && nat_lt byte 127 && not (byte == 34) && not (byte == 92)) ≡ true
    → escaped_byte byte ≡ byte ∷ []
plain_self byte plain =
    let a = and_parts (nat_lt 31 byte && nat_lt byte 127 && not (byte == 34)) (not (byte == 92)) plain in
    let b = and_parts (nat_lt 31 byte && nat_lt byte 127) (not (byte == 34)) a.0 in
    let c = and_parts (nat_lt 31 byte) (nat_lt byte 127) b.0 in
    let low : 31 < byte = ltb-true 31 byte c.0 in
    let no_return = ne_eqb byte 13 (λ e. omega arith) in
    let no_line = ne_eqb byte 10 (λ e. omega arith) in
    let no_quote = not_true (byte == 34) b.1 in
    let no_slash = not_true (byte == 92) a.1 in
    let within = b.0 in
    rw (no_return, no_line, no_slash, no_quote, within) refl

-- what stands from a place on is its byte and what stands behind that
escaped_from : (text : List ℕ) (place : ℕ) → place < length text
    → escaped (drop place text) ≡ escaped_byte (get_or text place 0) ++ escaped (drop (place + 1) text)
escaped_from text place within = rw (add-one, drop-cons text place 0) refl

-- one more byte that stands for itself
pub plain_more : (text : List ℕ) (place byte : ℕ) → place < length text → byte ≡ get_or text place 0 → escaped_byte byte ≡ byte ∷ []
    → take place text ++ escaped (drop place text) ≡ take (place + 1) text ++ escaped (drop (place + 1) text)
plain_more text place byte within byte_is plain =
    let one : escaped_byte (get_or text place 0) ≡ get_or text place 0 ∷ [] =
    ap escaped_byte (sym byte_is) ∙ plain ∙ ap (λ b. b ∷ []) byte_is in
    let behind = escaped (drop (place + 1) text) in
    ap (λ rest. take place text ++ rest) (escaped_from text place within ∙ ap (λ front. front ++ behind) one)
    ∙ sym (append_assoc (take place text) (get_or text place 0 ∷ []) behind)
    ∙ ap (λ front. front ++ behind) (sym (take_more text place 0 within))

-- the first other byte
pub other_at : (text : List ℕ) (place byte : ℕ) → place < length text → byte ≡ get_or text place 0
    → escaped text ≡ take place text ++ escaped (drop place text)
    → escaped text ≡ take place text ++ (escaped_byte byte ++ escaped (drop (place + 1) text))
other_at text place byte within byte_is so_far =
    so_far ∙ ap (λ rest. take place text ++ rest)
    (escaped_from text place within ∙ ap (λ b. escaped_byte b ++ escaped (drop (place + 1) text)) (sym byte_is))

-- a text that ends with a line end, and what stands behind it
pub escaped_line : (text line behind : List ℕ) → pointwise nat_eq (drop (length text - 2) text) (13 ∷ 10 ∷ []) ≡ true
    → line ≡ take (length text - 2) text → escaped text ++ behind ≡ escaped line ++ (codes "\\r\\n" ++ behind)
escaped_line text line behind ends front =
    let end : drop (length text - 2) text ≡ 13 ∷ 10 ∷ [] =
    (slice_eq-Decides Decides-eqb (drop (length text - 2) text) (13 ∷ 10 ∷ []) true (sym ends)).0 refl in
    let parts : text ≡ line ++ 13 ∷ 10 ∷ [] =
    sym (take-append-drop (length text - 2) text) ∙ ap (λ (back : List ℕ). take (length text - 2) text ++ back) end
    ∙ ap (λ (part : List ℕ). part ++ 13 ∷ 10 ∷ []) (sym front) in
    ap (λ (t : List ℕ). escaped t ++ behind) parts
    ∙ ap (λ (t : List ℕ). t ++ behind) (flat_map-append escaped_byte line (13 ∷ 10 ∷ []))
    ∙ append_assoc (escaped line) (codes "\\r\\n") behind
