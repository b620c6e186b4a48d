-- What a trail keeps of its table.
use Rattle.std.specs.Prelude.{◌≡◌, []}
use Rattle.keep_local.specs.States.{TieState}
use Rattle.keep_local.specs.Views.{home_view}
use Rattle.keep_local.specs.declared.tie.Tie.TheInside.{Inside}

abbrev pub tie_state : Inside → TieState
tie_state t = record { name = t.table.shared.table_id; quotas = t.table.shared.key; callers = t.home.me.0.callers }

-- the home seat is at this table, which has one word, and has no tally of its own
pub record IsTie (t : Inside) : Type 0 where
  pub own : t.home.table_id ≡ t.table.shared.table_id
  pub one_word : t.table.shared.table_id.words ≡ 1
  pub seated : t.home.me ≡ (home_view t.table.shared.key t.home.me.0.callers [], [])
