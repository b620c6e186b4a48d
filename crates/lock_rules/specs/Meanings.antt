-- What a token of a lock means.
use Rattle.std.specs.Prelude.{ℕ, Bool}
use Rattle.lock_rules.specs.Tag.{Tag}
use Rattle.lock_rules.specs.declared.step.Answer.{Answer}

-- which lock and which of its passes: the lock's name, its tag, and the pass's number
pub record Place : Type 0 where
  pub lock : Tag
  pub tag : Tag
  pub number : ℕ

-- a pass that waits: how many entering steps and how many loads it recorded, and whether the last load showed the word that it waits for.
-- `preceded` says that its entering step found a predecessor, and `followed` that its exchange of the lock's tail found another pass
-- behind it
pub record Waiting : Type 0 where
  pub place : Place
  pub entries : ℕ
  pub loads : ℕ
  pub ready : Bool
  pub preceded : Bool
  pub followed : Bool

-- a holder: how many loads it recorded, what the last `waiter` of this hold answered, and the lock's value
pub record Holder (V : Type 0) : Type 0 where
  pub place : Place
  pub loads : ℕ
  pub tested : Answer
  pub value : V
