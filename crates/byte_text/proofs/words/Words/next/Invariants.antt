use Rattle.std.proofs.Common.{◌≡◌, length}
use Rattle.byte_text.specs.Words.{words_left}
use Rattle.byte_text.proofs.words.Words.next.Given as goal

abbrev pub invariant-loop-word : goal.invariant-loop-word
invariant-loop-word l = words_left l.self ≡ words_left l.initial.self

abbrev pub decreases-loop-word : goal.decreases-loop-word
decreases-loop-word l = length l.self.text.now
