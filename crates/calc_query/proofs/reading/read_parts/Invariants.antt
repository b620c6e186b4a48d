use Rattle.std.proofs.Common.{◌≡◌, ◌+◌, ◌-◌, ◌≤◌, length}
use Rattle.std.specs.List.{AllByRecursion}
use Rattle.topo_tree.specs.Objects.{IsLayer}
use Rattle.calc_query.specs.Readings.{parts_from}
use Rattle.calc_query.proofs.PartReadings.{pieces_of, pieces_left, length_left, begins, after}
use Rattle.calc_query.proofs.reading.read_parts.Given as goal

abbrev pub invariant-loop-rest : goal.invariant-loop-rest
invariant-loop-rest l =
    record {
      within : length_left l.rest ≤ l.end + 1;
      read : after l.parts.items (parts_from l.tree l.word (begins l.end l.rest) (pieces_left l.rest))
          ≡ parts_from l.tree l.word (l.end - length l.fn.text) (pieces_of l.fn.text);
      layers : AllByRecursion (λ part. IsLayer l.tree part.layer) l.parts.items;
    }

abbrev pub decreases-loop-rest : goal.decreases-loop-rest
decreases-loop-rest l = length_left l.rest
