use Rattle.std.proofs.Common.{◌≡◌, ◌-◌, ◌^◌, map}
use Rattle.std.specs.List.{range_with_len}
use Rattle.lock_select.proofs.weights.default_weights.Given as goal

abbrev pub invariant-loop-depth : goal.invariant-loop-depth
invariant-loop-depth l = l.weights.items ≡ map (λ depth. 2 ^ (l.fn.depths - 1 - depth)) (range_with_len 0 l.depth)
