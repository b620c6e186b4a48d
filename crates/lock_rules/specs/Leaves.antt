-- What the token of a pass that leaves means.
use Rattle.std.specs.Prelude.{Bool}
use Rattle.lock_rules.specs.Hands.{MayStay}
use Rattle.lock_rules.specs.Meanings.{Waiting}
use Rattle.lock_rules.specs.Tag.{Tag}
use Rattle.lock_rules.specs.Views.{waiting_of}
use Rattle.lock_rules.specs.declared.leave.Leave.{Leave}

module _ {V : Type 0} where
  abbrev pub leave_waiting : Leave V → Waiting
  leave_waiting l = waiting_of l.seat.table_id l.seat.me.0

  -- where the token has the slot in hand, it has a value in it that may rest
  abbrev pub LeaveRests : (V → Type 0) → (V → Tag) → (V → Bool) → Leave V → Type 0
  LeaveRests fit tag_of parked l = MayStay fit tag_of parked l.seat.me.0 l.seat.me.1
