use Rattle.std.proofs.Common.{◌≡◌, length, map, take}
use Rattle.std.specs.List.{enumerate_from}
use Rattle.placed_runner.specs.Sections.{placed_at}
use Rattle.run_texts.specs.Views.{section_view}
use Rattle.placed_runner.specs.Views.{written_view}
use Rattle.placed_runner.proofs.sections.place_all.Given as goal

-- the sections so far have their callers' PUs
abbrev pub invariant-loop-caller : goal.invariant-loop-caller
invariant-loop-caller l =
    map section_view l.sections.items
    ≡ map (placed_at l.tree (length l.written)) (enumerate_from 0 (map written_view (take l.caller l.written)))
