use Rattle.std.proofs.Common.{◌≡◌, ◌+◌, length, vec_len}
use Rattle.std.specs.List.{All}
use Rattle.std.specs.Arc.{arc_value}
use Rattle.lock_rules.specs.Passes.{IsOf}
use Rattle.lock_callers.specs.Seen.{AreOf}
use Rattle.lock_callers.proofs.making.callers_of.Given as goal

-- each pass that has left the list has its caller
abbrev pub invariant-loop-pass : goal.invariant-loop-pass
invariant-loop-pass g l = record {
  own : All (λ p. IsOf (g.B.Basic.name (arc_value l.lock)) (g.B.Basic.tag (arc_value l.lock)) (g.B.Pass.Placed.place p)) l.passes.items;
  made : AreOf (g.B.Basic.name (arc_value l.lock)) l.callers.items;
  count : length l.passes.items + length l.callers.items ≡ length l.fn.passes.items;
}

abbrev pub decreases-loop-pass : goal.decreases-loop-pass
decreases-loop-pass g l = vec_len l.passes
