use Rattle.std.proofs.Common.{◌≡◌, map, take}
use Rattle.run_check.proofs.replay.bytes_of.Given as goal

-- the bytes of the sections so far
abbrev pub invariant-loop-section : goal.invariant-loop-section
invariant-loop-section l = map (λ bytes. bytes.now) l.lent.items ≡ map (λ section. section.bytes.now) (take l.section-index l.sections)
