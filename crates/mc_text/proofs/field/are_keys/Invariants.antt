use Rattle.std.proofs.Common.{◌≡◌, length}
use Rattle.std.specs.List.{list_all}
use Rattle.byte_text.specs.Words.{words_left}
use Rattle.mc_text.specs.Field.{is_key}
use Rattle.mc_text.proofs.field.are_keys.Given as goal

abbrev pub invariant-loop-word : goal.invariant-loop-word
invariant-loop-word l = list_all is_key (words_left l.words) ≡ list_all is_key (words_left l.initial.words)

abbrev pub decreases-loop-word : goal.decreases-loop-word
decreases-loop-word l = length (words_left l.words)
