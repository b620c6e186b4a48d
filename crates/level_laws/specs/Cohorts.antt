-- Cohorts: the callers under one node of a level.
use Rattle.std.specs.Prelude.{◌≡◌, ℕ, ◌<◌, ◌≤◌, List, [], ◌∷◌, ◌++◌, All}
use Rattle.keep_local.specs.declared.shape.Shape.{Shape}
use Rattle.keep_local.specs.declared.turn.Turn.{Turn}
use Rattle.keep_local.specs.Shapes.{IsWellFormed, callers_of, node_of, top_of}
use Rattle.keep_local.specs.Turns.{IsLawful}

-- the callers of some turns are under one node of a level
pub record AreOfOneCohort (shape : Shape) (level : ℕ) (turns : List Turn) : Type 0 where
  pub node : ℕ
  pub each : All (λ t. node_of shape t.caller level ≡ node) turns

-- some turns stand together in a list, with the turn `next` behind them, and none of them left higher than a level
pub record IsStretch (level : ℕ) (turns stretch : List Turn) (next : Turn) : Type 0 where
  pub before : List Turn
  pub after : List Turn
  pub together : turns ≡ before ++ (stretch ++ next ∷ after)
  pub no_higher : All (λ t. t.left ≤ level) stretch

-- among lawful turns, those of a stretch in which none left higher than a level, and the one behind it, are of one cohort of this level
abbrev pub OneCohort : Type 0
OneCohort = (shape : Shape) (level : ℕ) (turns stretch : List Turn) (next : Turn) → IsWellFormed shape → level ≤ top_of shape
    → All (λ t. t.caller < callers_of shape) turns → IsLawful shape turns → IsStretch level turns stretch next
    → AreOfOneCohort shape level (stretch ++ next ∷ [])
