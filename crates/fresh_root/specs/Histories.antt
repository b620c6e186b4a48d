-- What a history keeps of its table.
use Rattle.std.specs.Prelude.{◌≡◌, ◌^◌, ◌<◌, [], length}
use Rattle.fresh_root.specs.Rule.{IsHome}
use Rattle.fresh_root.specs.States.{HistoryState}
use Rattle.fresh_root.specs.declared.history.History.TheInside.{Inside}

abbrev pub history_state : Inside → HistoryState
history_state h = record { name = h.table.shared.table_id; tokens = h.table.shared.key; list = h.home.me.0.list }

-- the home seat is at this table, which has one word, and the history is short enough for the places in it
pub record IsHistory (h : Inside) : Type 0 where
  pub own : h.home.table_id ≡ h.table.shared.table_id
  pub one_word : h.table.shared.table_id.words ≡ 1
  pub home : IsHome h.home.me.0
  pub no_slot : h.home.me.1 ≡ []
  pub few : length h.home.me.0.list < 2 ^ 32
