-- The words of a lock, as clauses see them.
use Rattle.std.specs.Prelude.{Option}
use Rattle.atomic_table.specs.Seated.{TableId}
use Rattle.atomic_table.specs.declared.shared.Seat.{Seat}
use Rattle.crossbeam_utils.specs.Padded.{padded_value}
use Rattle.lock_rules.specs.Meanings.{Place}
use Rattle.lock_rules.specs.Tag.{Tag}
use Rattle.lock_rules.specs.declared.view.Algorithm.{Algorithm}
use Rattle.lock_rules.specs.declared.view.Opening.{Opening}
use Rattle.lock_rules.specs.declared.view.View.{View}
use Rattle.lock_tables.specs.Seats.{IsOwn, IsSeatOf}
use Rattle.lock_tables.specs.declared.lock_words.LockWords.{LockWords}

module _ {V D : Type 0} where
  -- what tells the table from all others
  abbrev pub words_table : LockWords V D → TableId
  words_table l = (padded_value l.table).shared.table_id

  -- what it was told when it was made
  abbrev pub words_key : LockWords V D → Opening V
  words_key l = (padded_value l.table).shared.key

  -- a place in the lock with this algorithm and these words
  abbrev pub IsOwnOf : (V → Tag) → Algorithm → LockWords V D → Place → Type 0
  IsOwnOf tag_of a l place = IsOwn tag_of a (words_table l) (words_key l) place

  -- a seat of it
  abbrev pub IsSeatIn : Algorithm → LockWords V D → Seat (Option V) View → Type 0
  IsSeatIn a l s = IsSeatOf a (words_table l) (words_key l) s
