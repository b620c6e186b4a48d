use Rattle.std.proofs.Common.{◌≡◌, take}
use Rattle.std.specs.Prelude.{map}
use Rattle.std.specs.List.{All}
use Rattle.kv_history.specs.Callers.{section_of, IsTallied}
use Rattle.kv_history.proofs.journal.callers_of.Given as goal

-- the callers of the sections so far
abbrev pub invariant-loop-section : goal.invariant-loop-section
invariant-loop-section l = record {
  sections : map section_of l.callers.items ≡ map (λ section. section.now) (take l.section-index l.sections);
  tallied : All IsTallied l.callers.items;
}
