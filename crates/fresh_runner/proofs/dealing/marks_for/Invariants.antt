use Rattle.std.proofs.Common.{◌≡◌, ℕ, ◌≤◌, length, Some, vec_capacity}
use Rattle.std.specs.Prelude.{slice_get}
use Rattle.fresh_runner.specs.Jobs.{IsBlank}
use Rattle.fresh_runner.proofs.dealing.marks_for.Given as goal

-- there are marks for the shares so far, and room for the others
abbrev pub invariant-loop-share : goal.invariant-loop-share
invariant-loop-share l = record {
  many : length l.marks.items ≡ l.share-index;
  each : (k : ℕ) (s : _) (m : _) → slice_get l.shares k ≡ Some s → slice_get l.marks.items k ≡ Some m → IsBlank s.quota m;
  room : length l.shares ≤ vec_capacity l.marks;
}
