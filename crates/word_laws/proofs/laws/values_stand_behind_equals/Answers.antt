use Rattle.word_laws.proofs.InOrder.{parts_of}
use Rattle.word_laws.proofs.Equals.{equals_same}
use Rattle.word_laws.proofs.laws.values_stand_behind_equals.Goals as goal

pub returns : goal.returns
returns c = λ command name long value before behind single names plain lack.
    equals_same command (parts_of command single) name long value before behind names plain lack
