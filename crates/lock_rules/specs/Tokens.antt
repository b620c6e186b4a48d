-- What the tokens of a pass that does not hold mean.
use Rattle.std.specs.Prelude.{◌≡◌, List, [], ◌∷◌, length}
use Rattle.atomic_table.specs.declared.badge.Badge.{Badge}
use Rattle.lock_rules.specs.Meanings.{Place, Waiting}
use Rattle.lock_rules.specs.Rows.{IsRowOf}
use Rattle.lock_rules.specs.Views.{IsPlain, IsTold, spent_view, place_of, waiting_of}
use Rattle.lock_rules.specs.declared.view.Phase.{Phase}
use Rattle.lock_rules.specs.declared.view.View.{View}

abbrev pub first_or : List View → View
first_or [] = spent_view
first_or (v ∷ vs) = v

-- what a token's seat knows
abbrev pub view_of : Badge View → View
view_of b = first_or b.views

-- a seat with its own number alone, in this phase, of a table with the row of its lock
pub record IsSeated (phase : Phase) (b : Badge View) : Type 0 where
  pub one : length b.views ≡ 1
  pub stands : (view_of b).phase ≡ phase
  pub plain : IsPlain (view_of b)
  pub told : IsTold (view_of b)
  pub row : IsRowOf (view_of b) b.table_id

abbrev pub badge_place : Badge View → Place
badge_place b = place_of b.table_id (view_of b)

abbrev pub badge_waiting : Badge View → Waiting
badge_waiting b = waiting_of b.table_id (view_of b)
