use Rattle.std.proofs.Common.{◌≡◌, ℕ, ◌+◌, length, reverse, Some, vec_len}
use Rattle.std.specs.Prelude.{slice_get}
use Rattle.lock_rules.specs.Tag.{Tag}
use Rattle.level_callers.specs.Seen.{AreFresh}
use Rattle.level_handles.specs.Making.{IsNew}
use Rattle.level_handles.proofs.boxes.five_boxes.Given as goal

-- the callers that have left the list are in the boxes, the last one first
abbrev pub invariant-loop-caller : goal.invariant-loop-caller
invariant-loop-caller l = record {
  counted : length l.callers.items + length l.boxes.items ≡ length l.fn.callers.items;
  fresh : (lock : Tag) → AreFresh lock l.fn.callers.items → AreFresh lock l.callers.items;
  behind : (lock : Tag) → AreFresh lock l.fn.callers.items → (k : ℕ) (b : _) → slice_get (reverse l.boxes.items) k ≡ Some b
      → IsNew lock 5 (length l.callers.items + k) b.value;
}

abbrev pub decreases-loop-caller : goal.decreases-loop-caller
decreases-loop-caller l = vec_len l.callers
