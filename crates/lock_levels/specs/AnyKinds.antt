-- The lock inside one whose kind was chosen when it was made.
use Rattle.lock_plan.specs.declared.kind.LockKind.{LockKind}
use Rattle.ticket_lock.specs.declared.lock.Ticket.{Ticket}
use Rattle.mcs_lock.specs.declared.lock.Mcs.{Mcs}
use Rattle.clh_lock.specs.declared.lock.Clh.{Clh}
use Rattle.hemlock_lock.specs.declared.lock.Hemlock.{Hemlock}
use Rattle.lock_levels.specs.Kinds.{kind_of}
use Rattle.lock_levels.specs.declared.any_lock.AnyLock.{AnyLock}
use Rattle.lock_levels.specs.declared.kinds.Kinds.{Kinds}

module _ {V : Type 0} where
  -- the lock of one of the kinds that it is
  abbrev pub lock_inside : AnyLock V → Kinds (Ticket V) (Mcs V) (Clh V) (Hemlock V)
  lock_inside l = l.lock

  abbrev pub any_kind : AnyLock V → LockKind
  any_kind l = kind_of (lock_inside l)
