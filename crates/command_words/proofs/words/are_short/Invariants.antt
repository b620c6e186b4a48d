use Rattle.std.proofs.Common.{◌≡◌, ◌^◌, ℕ, Bool, length, map, drop, nat_lt, true}
use Rattle.std.specs.Prelude.{string_bytes}
use Rattle.std.specs.List.{list_all}
use Rattle.command_words.proofs.words.are_short.Given as goal

-- all words are short exactly where those that are left are
abbrev pub invariant-loop-word : goal.invariant-loop-word
invariant-loop-word l =
    list_all (λ word. nat_lt (length word) (2 ^ 32)) (map string_bytes (drop l.word-index l.words))
    ≡ list_all (λ word. nat_lt (length word) (2 ^ 32)) (map string_bytes l.words)
