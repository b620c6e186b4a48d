-- Sources and sinks over bytes in memory, as a script of what they do at each call.
use Rattle.std.specs.Prelude.{ℕ, ◌+◌, ◌-◌, ◌^◌, List, min}

-- a source: the bytes that are left, how many it gave, how many a call gives at most, the numbers of the calls that
-- fail, and how many calls and how many faults there were
pub record Feed : Type 0 where
  pub left : List ℕ
  pub given : ℕ
  pub piece : ℕ
  pub failing : List ℕ
  pub calls : ℕ
  pub faults : ℕ

-- a source that never fails
pub record SureFeed : Type 0 where
  pub left : List ℕ
  pub given : ℕ

-- a sink: the bytes that it holds, the room that is left, how many bytes a call takes at most, the numbers of the
-- calls that fail, and how many calls, faults and stalls there were
pub record Tray : Type 0 where
  pub held : List ℕ
  pub room : ℕ
  pub piece : ℕ
  pub failing : List ℕ
  pub calls : ℕ
  pub faults : ℕ
  pub stalls : ℕ

-- a sink that never fails
pub record SureTray : Type 0 where
  pub held : List ℕ
  pub room : ℕ
  pub stalls : ℕ

-- one more, in a count that is kept in a u64
abbrev pub one_more : ℕ → ℕ
one_more count = min (count + 1) (2 ^ 64 - 1)
