use Rattle.std.proofs.Common.{◌≡◌, map, take}
use Rattle.std.specs.Prelude.{slice_index}
use Rattle.planned_sharing.proofs.homes.homes.Given as goal

-- the homes so far
abbrev pub invariant-loop-path : goal.invariant-loop-path
invariant-loop-path l = l.homes.items ≡ map (λ path. slice_index path 0) (take l.path-index l.shape.paths)
