-- What of a composed lock may go to another thread.
use denote.RattleType.{RattleType}
use denote.Param.Send.{IsSend, IsSync}

-- the tokens of a lock may go to another thread, and idle passes may be shared with one
pub record TokensCross (P Q H E : RattleType) : Type 0 where
  pub pass_sent : IsSend P
  pub pass_shared_is : IsSync P
  pub queue_sent : IsSend Q
  pub held_sent : IsSend H
  pub leave_sent : IsSend E

-- so may a lock, which may also be shared with one
pub record Crosses (L P Q H E : RattleType) : Type 0 where
  pub lock_sent : IsSend L
  pub lock_shared : IsSync L
  pub tokens : TokensCross P Q H E
