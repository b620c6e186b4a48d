-- The rule of the table that the receipts of a trail come from.
use Rattle.std.specs.Prelude.{◌≡◌, ℕ, true, List, ◌++◌}
use mathlib.Core.Option.{some}
use lib.ListN.{get_elem?}
use Rattle.atomic_table.specs.Table.{State}
use Rattle.keep_local.specs.declared.turn.Turn.{Turn}
use Rattle.keep_local.specs.declared.receipt_view.ReceiptView.{ReceiptView}

-- some are the first of all
pub record AreFirst {A : Type 0} (some_of_them all : List A) : Type 0 where
  pub behind : List A
  pub all_are : all ≡ some_of_them ++ behind

-- the home seat is the first one, and knows all closed turns
pub record KnowsAll (all : List Turn) (seat : ℕ) (v : ReceiptView) : Type 0 where
  pub first : seat ≡ 0
  pub turns_are : v.turns ≡ all

-- what a seat knows, and what it was shown, are the first of all closed turns
pub record Knows (all : List Turn) (seat : ℕ) (v : ReceiptView) : Type 0 where
  pub home : v.home ≡ true → KnowsAll all seat v
  pub known : AreFirst v.turns all
  pub shown : AreFirst v.shown all

-- the rule: what each seat knows are the first of one list
pub record AreOneList (s : State (Unit {0}) ReceiptView) : Type 0 where
  pub all : List Turn
  pub each_seat : (j : ℕ) (v : ReceiptView) → get_elem? s.views j ≡ some v → Knows all j v
