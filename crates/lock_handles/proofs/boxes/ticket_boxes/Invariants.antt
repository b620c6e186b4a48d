use Rattle.std.proofs.Common.{◌≡◌, ◌+◌, length, vec_len}
use Rattle.std.specs.List.{All}
use Rattle.lock_rules.specs.Tag.{Tag}
use Rattle.lock_callers.specs.Seen.{AreOf, idle_of}
use Rattle.lock_handles.specs.declared.any.AnyCaller.TheVariants.{Ticket}
use Rattle.lock_handles.proofs.boxes.ticket_boxes.Given as goal

-- each caller that has left the list has its box, and all are of one lock
abbrev pub invariant-loop-caller : goal.invariant-loop-caller
invariant-loop-caller l = record {
  count : length l.callers.items + length l.boxes.items ≡ l.fn.count;
  alike : (lock : Tag) × (AreOf lock l.callers.items × All (λ b. b.value ≡ Ticket (idle_of lock)) l.boxes.items);
}

abbrev pub decreases-loop-caller : goal.decreases-loop-caller
decreases-loop-caller l = vec_len l.callers
