-- What a lock that was made tells of its kinds.
use Rattle.std.proofs.Common.{◌≡◌, ℕ, ◌+◌, List, Some, ap, sym, subst, ◌∙◌}
use Rattle.std.specs.Prelude.{All, IfOk, Result, slice_get, Ok, Err}
use Rattle.std.proofs.lemmas.List.Elements.{All-weaker}
use Rattle.lock_plan.specs.declared.kind.LockKind.{LockKind}
use Rattle.ticket_lock.specs.declared.lock.Ticket.{Ticket as TicketLock}
use Rattle.mcs_lock.specs.declared.lock.Mcs.{Mcs as McsLock}
use Rattle.clh_lock.specs.declared.lock.Clh.{Clh as ClhLock}
use Rattle.hemlock_lock.specs.declared.lock.Hemlock.{Hemlock as HemlockLock}
use Rattle.lock_levels.specs.Kinds.{IsOfKindAt, kind_of}
use Rattle.lock_levels.specs.declared.kinds.Kinds.{Kinds}

-- locks of the kind at a place of a list
pub all_at : {A V : Type 0} (lock : A → Kinds (TicketLock V) (McsLock V) (ClhLock V) (HemlockLock V)) (kinds : List LockKind) (level : ℕ)
    (kind : LockKind) (locks : List A)
    → slice_get kinds level ≡ Some kind → All (λ b. kind_of (lock b) ≡ kind) locks → All (λ b. IsOfKindAt kinds level (lock b)) locks
all_at lock kinds level kind locks at are = All-weaker (λ b. kind_of (lock b) ≡ kind) (λ b. IsOfKindAt kinds level (lock b)) (λ b e. at
    ∙ ap Some (sym e)) locks are

-- what follows where two things are known of an answer
pub if_both : {X Y : Type 0} (r : Result X Y) (P Q R : X → Type 0) → ((x : X) → P x → Q x → R x) → IfOk r P → IfOk r Q → IfOk r R
if_both (Ok x) P Q R f p q = f x p q
if_both (Err y) P Q R f p q = tt

module _ {L V H : Type 0} (lock_in : L → Kinds (TicketLock V) (McsLock V) (ClhLock V) (HemlockLock V))
    (has_kinds : H → List LockKind → ℕ → Type 0) (kinds : List LockKind) where
  -- a level whose locks are of the kind at its place has the kinds from this place on, where the lock above has those from the next one on
  pub kinds_from : (level place : ℕ) → level ≡ place → (kind : LockKind) → slice_get kinds level ≡ Some kind
      → (locks : List L) → All (λ l. kind_of (lock_in l) ≡ kind) locks → (above high : H) → above ≡ high → has_kinds high kinds (level + 1)
      → All (λ l. IsOfKindAt kinds place (lock_in l)) locks × has_kinds above kinds (place + 1)
  kinds_from level place same kind at locks are above high over known =
      let those = all_at lock_in kinds level kind locks at are in
      let next = subst (λ h. has_kinds h kinds (level + 1)) (sym over) known in
      subst (λ n. All (λ l. IsOfKindAt kinds n (lock_in l)) locks × has_kinds above kinds (n + 1)) same (those, next)
