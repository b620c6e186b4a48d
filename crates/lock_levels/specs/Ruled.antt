-- By what a lock of one of the kinds is ruled.
use Rattle.std.specs.Prelude.{◌≡◌, refl}
use Rattle.atomic_table.specs.Seated.{TableId}
use Rattle.lock_rules.specs.Views.{lock_name}
use Rattle.lock_rules.specs.declared.view.Algorithm.TheVariants.{Ticket as TicketAlgorithm, Mcs as McsAlgorithm}
use Rattle.lock_rules.specs.declared.view.Algorithm.TheVariants.{Clh as ClhAlgorithm, Hemlock as HemlockAlgorithm}
use Rattle.lock_rules.specs.declared.view.Waiters.{Waiters}
use Rattle.lock_tables.specs.Rule.{Discipline}
use Rattle.ticket_lock.specs.Rule.{ticket_discipline}
use Rattle.mcs_lock.specs.Rule.{mcs_discipline}
use Rattle.clh_lock.specs.Rule.{clh_discipline}
use Rattle.hemlock_lock.specs.Rule.{hemlock_discipline}
use Rattle.lock_levels.specs.Kinds.{by_kind}
use Rattle.lock_levels.specs.declared.kinds.Kinds.{Kinds}
use Rattle.lock_levels.specs.declared.kinds.Kinds.TheVariants.{Ticket, Mcs, Clh, Hemlock}

module _ {T M C H : Type 0} where
  -- what its algorithm adds to the rule of its table
  abbrev pub discipline_of : Kinds T M C H → Discipline
  discipline_of (Ticket l) = ticket_discipline
  discipline_of (Mcs l) = mcs_discipline
  discipline_of (Clh l) = clh_discipline
  discipline_of (Hemlock l) = hemlock_discipline

module _ {T M C H : Type 0} (ticket_waiters : T → Waiters) (mcs_waiters : M → Waiters) (clh_waiters : C → Waiters)
    (hemlock_waiters : H → Waiters) (ticket_table : T → TableId) (mcs_table : M → TableId) (clh_table : C → TableId)
    (hemlock_table : H → TableId) where
  -- it is named by its algorithm and its table where each kind's are
  pub named_by_kind : (lock : Kinds T M C H) → by_kind (λ l. lock_name TicketAlgorithm (ticket_waiters l) (ticket_table l))
      (λ l. lock_name McsAlgorithm (mcs_waiters l) (mcs_table l)) (λ l. lock_name ClhAlgorithm (clh_waiters l) (clh_table l))
      (λ l. lock_name HemlockAlgorithm (hemlock_waiters l) (hemlock_table l)) lock
      ≡ lock_name (discipline_of lock).algorithm (by_kind ticket_waiters mcs_waiters clh_waiters hemlock_waiters lock)
      (by_kind ticket_table mcs_table clh_table hemlock_table lock)
  named_by_kind (Ticket l) = refl
  named_by_kind (Mcs l) = refl
  named_by_kind (Clh l) = refl
  named_by_kind (Hemlock l) = refl
