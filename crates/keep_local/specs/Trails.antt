-- What a trail keeps behind its pointer.
use Rattle.std.specs.Prelude.{◌≡◌, ℕ, ◌-◌, ◌^◌, ◌<◌, ◌≤◌, true, length, min, slice_index, sum, vec_capacity}
use Rattle.keep_local.specs.declared.trail.Log.{Log}
use Rattle.keep_local.specs.Turns.{run, last_turn}
use Rattle.keep_local.specs.States.{TrailState, IsTrail, all_turns, callers_in, recorded_turns}

-- the closed turns are those that receipts are given of
abbrev pub log_state : Log → TrailState
log_state l = record {
  name = l.tie.name;
  receipts = l.receipts.name;
  recorded = l.recorded;
  shape = l.shape;
  quotas = l.tie.quotas;
  closed = l.receipts.turns;
  current = l.current;
  noted = l.noted;
}

pub record IsKept (l : Log) : Type 0 where
  pub trail : IsTrail (log_state l)
  -- the table counts these turns
  pub callers : l.tie.callers ≡ callers_in (all_turns (log_state l))
  -- a recorded trail has them in memory, and room for every turn
  pub turns : l.turns.items ≡ recorded_turns (log_state l)
  pub room : l.recorded ≡ true → sum l.tie.quotas ≤ vec_capacity l.turns
  pub last : l.last ≡ last_turn l.receipts.turns
  -- a counter for each level, which stays where it can't rise
  pub counters : length l.runs ≡ 33
  pub runs : (level : ℕ) → level < 33 → slice_index l.runs level ≡ min (run level l.receipts.turns) (2 ^ 32 - 1)
