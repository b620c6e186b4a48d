-- What the tokens of a composed lock mean.
use Rattle.std.specs.Prelude.{ℕ, Bool, Option}
use Rattle.clof_compose.specs.Contexts.{Context}
use Rattle.clof_compose.specs.declared.report.Report.{Report}

-- a pass: how many entering steps its basic pass recorded, and what its last release told of the turn that it closed
pub record Rest : Type 0 where
  pub context : Context
  pub entries : ℕ
  pub report : Report

-- a queue: the level at which it waits, and what the basic token there has: how many entering steps and how many loads it recorded, and
-- whether the last load showed the word that it waits for
pub record Climb : Type 0 where
  pub context : Context
  pub level : ℕ
  pub entries : ℕ
  pub loads : ℕ
  pub ready : Bool

-- a holder: how many loads its basic token of each level recorded, and the root, where it is reached
pub record Stand (R : Type 0) : Type 0 where
  pub context : Context
  pub loads : ℕ → ℕ
  pub root : Option R

-- a pass that leaves, as a queue, and what its release tells
pub record Descent : Type 0 where
  pub context : Context
  pub level : ℕ
  pub loads : ℕ
  pub ready : Bool
  pub report : Report
