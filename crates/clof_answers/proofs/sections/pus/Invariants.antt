use Rattle.std.proofs.Common.{◌≡◌, map, take}
use Rattle.clof_answers.proofs.sections.pus.Given as goal

-- the PUs of the sections so far
abbrev pub invariant-loop-section : goal.invariant-loop-section
invariant-loop-section l = l.pus.items ≡ map (λ section. section.pu) (take l.section-index l.sections)
