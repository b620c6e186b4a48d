use Rattle.word_laws.proofs.InOrder.{parts_of, dashes_in_turn, dashes_in_order}
use Rattle.word_laws.proofs.Joined.{dashes_joined}
use Rattle.word_laws.proofs.laws.words_behind_dashes_are_positionals.Goals as goal

pub returns-clause-turn : goal.returns-clause-turn
returns-clause-turn c = λ command name before behind rows single lack taken.
    dashes_in_turn command (parts_of command single) name before behind rows lack taken

pub returns-clause-order : goal.returns-clause-order
returns-clause-order c = λ command name before single lack. dashes_joined command (parts_of command single) name before lack

pub returns-clause-plain : goal.returns-clause-plain
returns-clause-plain c = λ command name before behind rows single plain taken.
    dashes_in_order command (parts_of command single) name before behind rows plain taken
