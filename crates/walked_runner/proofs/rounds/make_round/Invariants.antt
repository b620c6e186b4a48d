use Rattle.std.proofs.Common.{◌≡◌, ℕ, ◌<◌, ◌≤◌, length, get_or, Some}
use Rattle.std.specs.Prelude.{slice_get}
use Rattle.clof_compose.specs.Courses.{course_of}
use Rattle.clof_compose.specs.Shares.{IsShareIn}
use Rattle.walked_runner.specs.Steps.{HasStepped}
use Rattle.walked_runner.specs.Walkers.{IsWalker, Stands}
use Rattle.walked_runner.proofs.rounds.make_round.Given as goal

-- each caller stands as its contract allows, before its step and behind it; those so far have made their step, and the others are as they
-- were
abbrev pub invariant-loop-walker : goal.invariant-loop-walker
invariant-loop-walker g l = record {
  each : (k : ℕ) (w : _) → slice_get l.walkers k ≡ Some w → IsWalker g.C.Pass.Resting.rest g.C.Queue.Climbing.climb
      g.C.Queue.Climbing.climbs g.C.Held.Standing.stand g.C.Held.Standing.stands g.C.Leave.Descending.descent g.C.Leave.Descending.descends
      (g.C.Composed.has l.lock) (g.C.Composed.level l.lock) (g.C.Composed.tag l.lock) k w;
  shares : (k : ℕ) (d : _) → k < length l.fn.walkers → IsShareIn (course_of (g.C.Composed.tag l.lock))
      (get_or l.walkers k d).task.share.caller (get_or l.walkers k d).task.share;
  stands : (k : ℕ) (d : _) → k < length l.fn.walkers → Stands g.C.Pass.Resting.rest g.C.Queue.Climbing.climb
      g.C.Queue.Climbing.climbs g.C.Held.Standing.stand g.C.Held.Standing.stands g.C.Leave.Descending.descent g.C.Leave.Descending.descends
      (g.C.Composed.has l.lock) (g.C.Composed.level l.lock) (g.C.Composed.tag l.lock) (get_or l.walkers k d).state
      (get_or l.walkers k d).task;
  stepped : (k : ℕ) (w w' : _) → k < l.walker-index → slice_get l.fn.walkers k ≡ Some w → slice_get l.walkers k ≡ Some w'
      → HasStepped g.C.Queue.Climbing.climb g.C.Leave.Descending.descent w w';
  others : (k : ℕ) → l.walker-index ≤ k → slice_get l.walkers k ≡ slice_get l.fn.walkers k;
}
