use Rattle.std.proofs.Common.{◌≡◌}
use Rattle.calc_query.proofs.SelectionLaws.{collected}
use Rattle.calc_query.proofs.PickLaws.{picked_at}
use Rattle.calc_query.proofs.selecting.picked.Given as goal

abbrev pub invariant-loop-place : goal.invariant-loop-place
invariant-loop-place l = l.chosen ≡ collected (picked_at l.tree l.numbering l.part l.row.first l.row.count) l.place
