use Rattle.std.proofs.Common.{◌<◌, ◌∙◌, length, sym, arith}
use Rattle.std.proofs.lemmas.Bool.Decides.{nat_tests}
use Rattle.byte_text.proofs.WordCuts.{words_cut, words_whole}
use Rattle.byte_text.proofs.words.Words.next.Goals as goal

pub returns-then-not-is_empty : goal.returns-then-not-is_empty
returns-then-not-is_empty c =
    let some : 0 < length c.in-Some.word.now = grind (arith, nat_tests) in
    sym c.loop-word.invariant ∙ words_cut c.loop-word.self.text.now c.in-Some.word.now c.in-Some.behind.now c.in-Some.ensures some

pub returns-else-is_empty : goal.returns-else-is_empty
returns-else-is_empty c =
    let some : 0 < length c.loop-word.self.text.now = grind (arith, nat_tests) in
    sym c.loop-word.invariant ∙ words_whole c.loop-word.self.text.now c.in_default.ensures some
