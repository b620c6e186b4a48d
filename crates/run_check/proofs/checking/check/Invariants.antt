use Rattle.std.proofs.Common.{length, map}
use Rattle.run_texts.specs.Views.{section_view}
use Rattle.run_check.proofs.Comings.{Come}
use Rattle.run_check.proofs.checking.check.Given as goal

-- the lines of the turns so far stand in front of the rest
abbrev pub invariant-loop-run : goal.invariant-loop-run
invariant-loop-run l = Come (map section_view l.sections) l.shape l.printed l.rest l.run l.line

abbrev pub decreases-loop-run : goal.decreases-loop-run
decreases-loop-run l = length l.rest
