use Rattle.std.proofs.Common.{◌≡◌, ℕ, ◌+◌, ◌<◌, length, map, reverse, Some}
use Rattle.std.specs.Prelude.{slice_get}
use Rattle.lock_rules.specs.Tag.{Tag}
use Rattle.lock_handles.specs.Calls.{IsSomeThat}
use Rattle.level_handles.specs.Making.{AreBoxed, IsNew}
use Rattle.level_handles.proofs.making.fill.Given as goal

-- a box is left for each handle before us, the next one's first, and those behind us have their callers
abbrev pub invariant-loop-index : goal.invariant-loop-index
invariant-loop-index l = record {
  left : length l.boxes.items + l.index ≡ length l.handles;
  behind : (lock : Tag) (levels : ℕ) → AreBoxed (IsNew lock levels) l.fn.boxes.items → (k : ℕ) (b : _)
      → slice_get (reverse l.boxes.items) k ≡ Some b → IsNew lock levels (l.index + k) b.value;
  filled : (lock : Tag) (levels : ℕ) → AreBoxed (IsNew lock levels) l.fn.boxes.items → (k : ℕ) (h : _) → k < l.index
      → slice_get (map (λ h. h.held) l.handles) k ≡ Some h → IsSomeThat h (IsNew lock levels k);
}
