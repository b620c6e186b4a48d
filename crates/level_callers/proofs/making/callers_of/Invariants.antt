use Rattle.std.proofs.Common.{◌≡◌, ℕ, ◌+◌, length, reverse, Some, vec_len}
use Rattle.std.specs.Prelude.{slice_get}
use Rattle.std.specs.Arc.{arc_value}
use Rattle.clof_compose.specs.Courses.{course_of}
use Rattle.clof_compose.specs.Passes.{IsNumber}
use Rattle.clof_compose.specs.Shares.{IsShareIn}
use Rattle.level_callers.specs.Seen.{Seen, IsFresh}
use Rattle.level_callers.proofs.making.callers_of.Given as goal

-- the passes and the shares that have left their lists are in the callers, the last one first
abbrev pub invariant-loop-pass : goal.invariant-loop-pass
invariant-loop-pass g l = record {
  passes : (k : ℕ) (p : _) → slice_get l.passes.items k ≡ Some p → IsNumber (g.C.Composed.has (arc_value l.lock))
      (g.C.Composed.level (arc_value l.lock)) (g.C.Composed.tag (arc_value l.lock)) k (g.C.Pass.Resting.rest p).context;
  shares : (k : ℕ) (s : _) → slice_get l.shares.items k ≡ Some s → IsShareIn (course_of (g.C.Composed.tag (arc_value l.lock))) k s;
  unused : (k : ℕ) (s : _) → slice_get l.shares.items k ≡ Some s → s.made ≡ 0;
  many : length l.shares.items ≡ length l.passes.items;
  behind : (k : ℕ) (c : Seen) → slice_get (reverse l.callers.items) k ≡ Some c
      → IsFresh (g.C.Composed.tag (arc_value l.lock)) (length l.passes.items + k) c;
  counted : length l.passes.items + length l.callers.items ≡ length l.fn.passes.items;
}

abbrev pub decreases-loop-pass : goal.decreases-loop-pass
decreases-loop-pass g l = vec_len l.passes
