use Rattle.std.proofs.Common.{◌≡◌, take}
use Rattle.calc_query.specs.Selection.{selected}
use Rattle.calc_query.proofs.selecting.select.Given as goal

abbrev pub invariant-loop-term : goal.invariant-loop-term
invariant-loop-term g l = l.set ≡ selected l.tree l.numbering (take l.term-index l.terms)
