-- What a token keeps.
use Rattle.std.specs.Prelude.{◌≡◌, false, List, [], ◌∷◌, length}
use Rattle.fresh_root.specs.States.{SeenState}
use Rattle.fresh_root.specs.Views.{spent_view}
use Rattle.fresh_root.specs.declared.seen.Seen.TheInside.{Inside}
use Rattle.fresh_root.specs.declared.view.View.{View}

abbrev pub first_or : List View → View
first_or [] = spent_view
first_or (v ∷ vs) = v

abbrev pub seen_state : Inside → SeenState
seen_state s = record { fresh = s.badge.table_id; caller = s.caller; list = (first_or s.badge.views).list }

-- it is one seat, neither home nor spent, and knows how long its list is
pub record IsSeen (s : Inside) : Type 0 where
  pub one : s.badge.views ≡ first_or s.badge.views ∷ []
  pub away : (first_or s.badge.views).home ≡ false
  pub unspent : (first_or s.badge.views).spent ≡ false
  pub length_is : s.length ≡ length (first_or s.badge.views).list
