use Rattle.std.proofs.Common.{◌≡◌, map, take}
use Rattle.threaded_runner.proofs.roots.bytes_of.Given as goal

-- the bytes of the sections so far
abbrev pub invariant-loop-section : goal.invariant-loop-section
invariant-loop-section l = map (λ one. one.now) l.bytes.items ≡ map (λ section. section.bytes.now) (take l.section-index l.sections)
