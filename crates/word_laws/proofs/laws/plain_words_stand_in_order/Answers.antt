use Rattle.word_laws.proofs.InOrder.{parts_of, plain_in_order}
use Rattle.word_laws.proofs.laws.plain_words_stand_in_order.Goals as goal

pub returns : goal.returns
returns c = λ command name words rows single plain taken. plain_in_order command (parts_of command single) name words rows plain taken
