use Rattle.std.proofs.Common.{◌≡◌}
use Rattle.clof_compose.proofs.composed.Composed.wait.Given as goal

-- the token is that of the same context and may go on, and the share is as it was
abbrev pub invariant-loop : goal.invariant-loop
invariant-loop g l =
    (goal.iterator-loop g).can_next l.iterator' × (goal.iterator-loop g).is_finite l.iterator'
    × ((g.Self.Queue.Climbing.climb l.queue).context ≡ (g.Self.Queue.Climbing.climb l.fn.queue).context)
    × g.Self.Queue.Climbing.climbs l.queue
    × (l.share ≡ l.fn.share)
