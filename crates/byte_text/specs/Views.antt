-- Lent texts, seen as lists.
use Rattle.std.specs.Prelude.{ℕ, List, Option, Some, None}
use Rattle.std.specs.Borrow.{Bor}

abbrev pub text_at : Option (Bor (List ℕ)) → Option (List ℕ)
text_at None = None
text_at (Some text) = Some text.now

abbrev pub texts : Option (Bor (List ℕ) × Bor (List ℕ)) → Option (List ℕ × List ℕ)
texts None = None
texts (Some parts) = Some (parts.0.now, parts.1.now)

abbrev pub piece_texts : Bor (List ℕ) × Option (Bor (List ℕ)) → List ℕ × Option (List ℕ)
piece_texts parts = (parts.0.now, text_at parts.1)
