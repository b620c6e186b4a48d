-- Cuts of a text: at a byte, as a relation, and at the first byte that passes a test, as a list function.
use Rattle.std.specs.Prelude.{◌≡◌, ℕ, Bool, List, [], ◌∷◌, ◌++◌, Contains, drop, Option, Some, None, option_map, if◌then◌else◌}
use Rattle.std.specs.List.{slice_split, prefix_len}
use Rattle.std.specs.Borrow.{Bor}

-- the text is what stands before its first such byte, that byte, and what stands behind it
pub record IsCutAt (byte : ℕ) (text before behind : List ℕ) : Type 0 where
  pub parts : text ≡ before ++ byte ∷ behind
  pub first : ¬ Contains before byte

-- the part before the first such byte, with what stands behind that byte; or the whole text, where it has no such byte
abbrev pub IsFirstPart : ℕ → List ℕ → List ℕ → Option (Bor (List ℕ)) → Type 0
IsFirstPart byte text part None = (¬ Contains text byte) × (part ≡ text)
IsFirstPart byte text part (Some behind) = IsCutAt byte text part behind.now

-- ---- at the first byte that passes a test

-- two parts with a byte in front of the first
abbrev pub with_byte : ℕ → List ℕ × List ℕ → List ℕ × List ℕ
with_byte byte parts = (byte ∷ parts.0, parts.1)

-- what stands before the first byte that passes, and what stands behind it, where one does
abbrev pub cut : (ℕ → Bool) → List ℕ → Option (List ℕ × List ℕ)
cut test [] = None
cut test (byte ∷ bytes) = if test byte then Some ([], bytes) else option_map (with_byte byte) (cut test bytes)

-- what stands before the first byte that passes, or all; and what stands behind that byte, if there is one
abbrev pub piece_or : List ℕ → Option (List ℕ × List ℕ) → List ℕ × Option (List ℕ)
piece_or text None = (text, None)
piece_or text (Some parts) = (parts.0, Some parts.1)

unfoldable pub first_piece : (ℕ → Bool) → List ℕ → List ℕ × Option (List ℕ)
first_piece test text = piece_or text (cut test text)

-- the pieces between the bytes that pass, of a text or of none
abbrev pub pieces : (ℕ → Bool) → Option (List ℕ) → List (List ℕ)
pieces test None = []
pieces test (Some text) = slice_split test text

-- a text without the bytes in front that pass
abbrev pub without_front : (ℕ → Bool) → List ℕ → List ℕ
without_front test text = drop (prefix_len test text) text
