-- A seat of a lock's table.
use Rattle.std.specs.Prelude.{◌≡◌, ℕ, ◌+◌, ◌*◌, ◌^◌, ◌≤◌, false, List}
use Rattle.atomic_table.specs.Seated.{TableId}
use Rattle.atomic_table.specs.declared.shared.Seat.{Seat}
use Rattle.lock_rules.specs.Meanings.{Place}
use Rattle.lock_rules.specs.Passes.{IsOf}
use Rattle.lock_rules.specs.Rows.{row_of}
use Rattle.lock_rules.specs.Tag.{Tag}
use Rattle.lock_rules.specs.Views.{lock_name}
use Rattle.lock_rules.specs.declared.view.Algorithm.{Algorithm}
use Rattle.lock_rules.specs.declared.view.Opening.{Opening}
use Rattle.lock_rules.specs.declared.view.View.{View}

-- the table of a lock with this algorithm and n passes: its row of words, and one slot
pub record IsSized (a : Algorithm) (n : ℕ) (z : TableId) : Type 0 where
  pub row : z.words ≡ row_of a n
  pub one_slot : z.slots ≡ 1

-- the seat with this view, and these slots in hand
abbrev pub seat_as : {S V : Type 0} → Seat S V → V → List (ℕ × S) → Seat S V
seat_as s view carried = record s { me = (view, carried) }

module _ {V : Type 0} where
  -- a place in the lock with this algorithm, table and key
  abbrev pub IsOwn : (V → Tag) → Algorithm → TableId → Opening V → Place → Type 0
  IsOwn tag_of a z key place = IsOf (lock_name a key.waiters z) (tag_of key.value.value) place

-- no row of a lock is longer, since it has less than 2 ^ 32 passes
abbrev pub longest_row : ℕ
longest_row = 16 * (2 ^ 32 + 2)

-- a seat of the table z, of the lock with this algorithm and key
pub record IsSeatOf {S V : Type 0} (a : Algorithm) (z : TableId) (key : Opening V) (s : Seat S View) : Type 0 where
  pub table : s.table_id ≡ z
  pub unspent : s.me.0.spent ≡ false
  pub algorithm : s.me.0.algorithm ≡ a
  pub chosen : s.me.0.waiters ≡ key.waiters
  pub row : z.words ≡ row_of a s.me.0.count
  pub few : z.words ≤ longest_row
