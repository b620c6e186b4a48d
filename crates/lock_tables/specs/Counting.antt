-- The steps on the word `waiting`, by which a counted lock learns of passes that have begun and not yet taken. A lock that doesn't count
-- makes none of them.
use Rattle.std.specs.Prelude.{◌≡◌, ℕ, ◌+◌, ◌-◌, ◌%◌, ◌^◌, Bool, not, ◌==◌}
use Rattle.atomic_table.specs.Table.{keeps}
use Rattle.lock_rules.specs.Rows.{waiting}
use Rattle.lock_rules.specs.Tag.{Tag}
use Rattle.lock_rules.specs.declared.view.Waiters.{Waiters}
use Rattle.lock_rules.specs.declared.view.Waiters.TheVariants.{Queue, Count}
use Rattle.lock_tables.specs.Happened.{Seated, Stepped, tested_view, announced_view, withdrawn_view}
use Rattle.lock_tables.specs.Queue.{Stays}
use Rattle.lock_tables.specs.Rule.{Discipline, IsLock}

-- somebody is announced
abbrev pub is_announced : ℕ → Bool
is_announced found = not (found == 0)

module _ {V : Type 0} (d : Discipline) (fit : V → Type 0) (tag_of : V → Tag) (parked : V → Bool) where
  -- Addition to `waiting`: the pass is announced
  abbrev pub Announced : Seated V → ℕ → Seated V → Type 0
  Announced me found me' = Stepped (IsLock d fit tag_of parked) d.queue Stays keeps waiting found ((found + 1) % 2 ^ 64) me
      (announced_view me.0) me'

  -- Subtraction from `waiting`: the holder isn't announced any more
  abbrev pub Withdrawn : Seated V → ℕ → Seated V → Type 0
  Withdrawn me found me' = Stepped (IsLock d fit tag_of parked) d.queue Stays keeps waiting found ((found + (2 ^ 64 - 1)) % 2 ^ 64) me
      (withdrawn_view me.0) me'

  -- Load of `waiting` by `waiter`: somebody waits where it isn't 0
  abbrev pub Counted : Seated V → ℕ → Seated V → Type 0
  Counted me found me' = Stepped (IsLock d fit tag_of parked) d.queue Stays keeps waiting found found me
      (tested_view me.0 (is_announced found)) me'

  -- what a call that enters does before its other steps
  abbrev pub HasAnnounced : Waiters → Seated V → Seated V → Type 0
  HasAnnounced Queue me me' = me' ≡ me
  HasAnnounced Count me me' = (found : ℕ) × Announced me found me'

  -- what a call that has taken does last
  abbrev pub HasWithdrawn : Waiters → Seated V → Seated V → Type 0
  HasWithdrawn Queue me me' = me' ≡ me
  HasWithdrawn Count me me' = (found : ℕ) × Withdrawn me found me'
