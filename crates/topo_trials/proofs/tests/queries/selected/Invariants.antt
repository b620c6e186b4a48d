use Rattle.std.proofs.Common.{length}
use Rattle.byte_text.specs.Words.{words_left}
use Rattle.calc_query.specs.Selection.{HaveLayers}
use Rattle.topo_trials.proofs.tests.queries.selected.Given as goal

abbrev pub invariant-loop-word : goal.invariant-loop-word
invariant-loop-word g l = HaveLayers l.topology l.terms.items

abbrev pub decreases-loop-word : goal.decreases-loop-word
decreases-loop-word g l = length (words_left l.reader)
