use Rattle.std.proofs.Common.{◌≡◌, map, take}
use Rattle.command_words.proofs.command.texts.Given as goal

-- the words so far
abbrev pub invariant-loop-word : goal.invariant-loop-word
invariant-loop-word l = map (λ text. text.now) l.texts.items ≡ map (λ word. word.now) (take l.word-index l.words)
