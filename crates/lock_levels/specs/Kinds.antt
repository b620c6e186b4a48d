-- What a lock of one of the kinds means.
use Rattle.std.specs.Prelude.{◌≡◌, ℕ, Bool, true, false, List, Some, slice_get}
use Rattle.lock_plan.specs.declared.kind.LockKind.{LockKind}
use Rattle.lock_plan.specs.declared.kind.LockKind.TheVariants.{Tkt, Mcs as McsKind, Clh as ClhKind, Hem, TktC, McsC, ClhC, HemC}
use Rattle.lock_rules.specs.declared.view.Algorithm.{Algorithm}
use Rattle.lock_rules.specs.declared.view.Algorithm.TheVariants.{Ticket as TicketAlgorithm, Mcs as McsAlgorithm}
use Rattle.lock_rules.specs.declared.view.Algorithm.TheVariants.{Clh as ClhAlgorithm, Hemlock as HemlockAlgorithm}
use Rattle.lock_rules.specs.declared.view.Waiters.{Waiters}
use Rattle.lock_rules.specs.declared.view.Waiters.TheVariants.{Queue, Count}
use Rattle.ticket_lock.specs.Choice.{ticket_waiters}
use Rattle.ticket_lock.specs.declared.lock.Ticket.{Ticket as TicketLock}
use Rattle.mcs_lock.specs.Choice.{mcs_waiters}
use Rattle.mcs_lock.specs.declared.lock.Mcs.{Mcs as McsLock}
use Rattle.clh_lock.specs.Choice.{clh_waiters}
use Rattle.clh_lock.specs.declared.lock.Clh.{Clh as ClhLock}
use Rattle.hemlock_lock.specs.Choice.{hemlock_waiters}
use Rattle.hemlock_lock.specs.declared.lock.Hemlock.{Hemlock as HemlockLock}
use Rattle.lock_levels.specs.declared.kinds.Kinds.{Kinds}
use Rattle.lock_levels.specs.declared.kinds.Kinds.TheVariants.{Ticket, Mcs, Clh, Hemlock}

-- the kind of the locks of an algorithm that learn of waiters in this way
abbrev pub kind_with : Algorithm → Waiters → LockKind
kind_with TicketAlgorithm Queue = Tkt
kind_with TicketAlgorithm Count = TktC
kind_with McsAlgorithm Queue = McsKind
kind_with McsAlgorithm Count = McsC
kind_with ClhAlgorithm Queue = ClhKind
kind_with ClhAlgorithm Count = ClhC
kind_with HemlockAlgorithm Queue = Hem
kind_with HemlockAlgorithm Count = HemC

module _ {V : Type 0} where
  -- the kind of a lock, by its algorithm and its choice
  abbrev pub kind_of : Kinds (TicketLock V) (McsLock V) (ClhLock V) (HemlockLock V) → LockKind
  kind_of (Ticket l) = kind_with TicketAlgorithm (ticket_waiters l)
  kind_of (Mcs l) = kind_with McsAlgorithm (mcs_waiters l)
  kind_of (Clh l) = kind_with ClhAlgorithm (clh_waiters l)
  kind_of (Hemlock l) = kind_with HemlockAlgorithm (hemlock_waiters l)

  -- the lock is of the kind at this place of a list of kinds, one for each level
  abbrev pub IsOfKindAt : List LockKind → ℕ → Kinds (TicketLock V) (McsLock V) (ClhLock V) (HemlockLock V) → Type 0
  IsOfKindAt kinds level lock = slice_get kinds level ≡ Some (kind_of lock)

module _ {T M C H : Type 0} where
  abbrev pub algorithm_of : Kinds T M C H → Algorithm
  algorithm_of (Ticket l) = TicketAlgorithm
  algorithm_of (Mcs l) = McsAlgorithm
  algorithm_of (Clh l) = ClhAlgorithm
  algorithm_of (Hemlock l) = HemlockAlgorithm

module _ {T M C H A : Type 0} (ticket : T → A) (mcs : M → A) (clh : C → A) (hemlock : H → A) where
  -- what a meaning of each kind says of a lock of one of them
  abbrev pub by_kind : Kinds T M C H → A
  by_kind (Ticket l) = ticket l
  by_kind (Mcs l) = mcs l
  by_kind (Clh l) = clh l
  by_kind (Hemlock l) = hemlock l

-- In a Ticket and a CLH lock a pass that enters always queues, and looks by `poll` alone, and a release is done at once. In an MCS lock and
-- a Hemlock a pass queues where its swap found another, and a release may have to wait
abbrev pub only_queues : Algorithm → Bool
only_queues TicketAlgorithm = true
only_queues McsAlgorithm = false
only_queues ClhAlgorithm = true
only_queues HemlockAlgorithm = false
