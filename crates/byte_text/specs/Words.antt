-- The words of a text.
use Rattle.std.specs.Prelude.{ℕ, List, length, nat_lt, ◌==◌}
use Rattle.std.specs.List.{slice_split, filter}
use Rattle.byte_text.specs.declared.words.Words.{Words}

-- the longest runs of bytes other than a space: what stands between two spaces, where it isn't empty
abbrev pub words : List ℕ → List (List ℕ)
words text = filter (λ word. nat_lt 0 (length word)) (slice_split (λ byte. byte == 32) text)

-- the words that a reader still gives
abbrev pub words_left : Words → List (List ℕ)
words_left reader = words reader.text.now
