use Rattle.std.proofs.Common.{◌≡◌, All, take}
use Rattle.std.specs.List.{filter}
use Rattle.calc_query.specs.Answers.{is_largest}
use Rattle.calc_query.specs.Found.{IsFound}
use Rattle.calc_query.proofs.answers.largest.Given as goal

abbrev pub invariant-loop-object : goal.invariant-loop-object
invariant-loop-object g l =
    (l.objects.items ≡ filter (is_largest l.tree l.set) (take l.object-index l.object-items)) × All (IsFound l.tree l.set) l.found.items
