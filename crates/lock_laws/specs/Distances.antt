-- What the rule of a Ticket lock says of its queue.
use Rattle.std.specs.Prelude.{◌≡◌, ℕ, ◌+◌, ◌-◌, ◌%◌, ◌^◌, ◌<◌, Bool, true, false, List, slice_index, Option}
use mathlib.Core.Option.{some}
use lib.ListN.{get_elem?}
use Rattle.atomic_table.specs.Table.{State}
use Rattle.lock_rules.specs.Tag.{Tag}
use Rattle.lock_rules.specs.declared.view.View.{View}
use Rattle.lock_rules.specs.declared.view.Waiters.{Waiters}
use Rattle.lock_tables.specs.Rule.{is_busy, IsLock}
use Rattle.ticket_lock.specs.Rule.{serving, tickets_out, ticket_discipline}

-- how far a ticket is behind the one that is served
abbrev pub distance : List ℕ → View → ℕ
distance words v = (v.ticket + (2 ^ 64 - slice_index words serving)) % 2 ^ 64

-- the seat j is in the queue, at this distance
pub record IsBusyAt (words : List ℕ) (views : List View) (i j : ℕ) : Type 0 where
  pub view : View
  pub at : get_elem? views j ≡ some view
  pub busy : is_busy false view.phase ≡ true
  pub is : distance words view ≡ i

-- the distances of the passes in the queue are 0 and so on, up to as many as tickets are out, each once
pub record HasDistances (words : List ℕ) (views : List View) : Type 0 where
  pub below : (j : ℕ) (v : View) → get_elem? views j ≡ some v → is_busy false v.phase ≡ true → distance words v < tickets_out words
  pub each : (i : ℕ) → i < tickets_out words → (j : ℕ) × IsBusyAt words views i j
  pub once : (i j k : ℕ) → IsBusyAt words views i j → IsBusyAt words views i k → j ≡ k

module _ {V : Type 0} (fit : V → Type 0) (tag_of : V → Tag) (parked : V → Bool) where
  abbrev pub RuleHasDistances : Type 0
  RuleHasDistances = (c : Waiters) (n : ℕ) (tag : Tag) (s : State (Option V) View) → IsLock ticket_discipline fit tag_of parked c n tag s
      → HasDistances s.words s.views
