-- What holds of ideal turns, of the shapes of levels, and of the two answers to a trace.
use Rattle.std.specs.Prelude.{◌≡◌, ℕ, ◌<◌, List, All}
use Rattle.synth_text.specs.declared.description.Description.{Description}
use Rattle.synth_text.specs.Rules.{pu_count}
use Rattle.topo_tree.specs.Building.{IsBuilt}
use Rattle.keep_local.specs.declared.shape.Shape.{Shape}
use Rattle.keep_local.specs.Shapes.{callers_of, IsWellFormed}
use Rattle.keep_local.specs.Turns.{IsLawful}
use Rattle.run_faults.specs.declared.select.SelectFault.{SelectFault}
use Rattle.lock_select.specs.Nodes.{AreLevels, shape_of}
use Rattle.lock_select.specs.IdealTurns.{ideal_turns}
use Rattle.lock_select.specs.Traces.{IsTrace, IsRefused}

-- The ideal turns of the callers of a shape are lawful.
abbrev pub IdealTurnsAreLawful : Type 0
IdealTurnsAreLawful =
    (shape : Shape) (callers : List ℕ) → IsWellFormed shape → All (λ caller. caller < callers_of shape) callers
    → IsLawful shape (ideal_turns shape callers)

-- A list of levels of a topology makes a shape, whose callers are the PUs.
pub record MakesAShape (described : Description) (depths : List ℕ) (keep : ℕ) : Type 0 where
  pub formed : IsWellFormed (shape_of described depths keep)
  pub callers : callers_of (shape_of described depths keep) ≡ pu_count described

abbrev pub LevelsMakeAShape : Type 0
LevelsMakeAShape =
    (described : Description) (depths : List ℕ) (keep : ℕ) → IsBuilt described → AreLevels described depths
    → MakesAShape described depths keep

-- At most one trace fits some bytes, at most one refusal does, and not both.
abbrev pub OneTrace : Type 0
OneTrace = (described : Description) (bytes trace other : List ℕ) → IsTrace described bytes trace → IsTrace described bytes other
    → trace ≡ other

abbrev pub OneRefusal : Type 0
OneRefusal = (described : Description) (bytes : List ℕ) (fault other : SelectFault) → IsRefused described bytes fault
    → IsRefused described bytes other → fault ≡ other

abbrev pub NotBoth : Type 0
NotBoth = (described : Description) (bytes trace : List ℕ) (fault : SelectFault) → IsTrace described bytes trace
    → IsRefused described bytes fault → ⊥
