-- What holds of plans and of their shapes.
use Rattle.std.specs.Prelude.{◌≡◌, ℕ, ◌-◌, ◌<◌, List, [], ◌∷◌, length, All, replicate, Option, None}
use Rattle.synth_text.specs.declared.description.Description.{Description}
use Rattle.synth_text.specs.Rules.{pu_count}
use Rattle.topo_tree.specs.Building.{IsBuilt}
use Rattle.keep_local.specs.declared.shape.Shape.{Shape}
use Rattle.keep_local.specs.Shapes.{top_of, callers_of, IsWellFormed}
use Rattle.lock_plan.specs.declared.plan.Plan.{Plan}
use Rattle.lock_plan.specs.Plans.{IsPlan, IsPlanFor, plan_fault}
use Rattle.lock_plan.specs.Shapes.{IsShapeOf}

-- At most one plan fits some texts.
abbrev pub OnePlan : Type 0
OnePlan =
    (described : Description) (levels : List ℕ) (locks : Option (List ℕ)) (keeps : List ℕ) (plan other : Plan)
    → IsPlan described levels locks keeps plan → IsPlan described levels locks keeps other → plan ≡ other

-- Texts that a plan fits break no rule.
abbrev pub NotBoth : Type 0
NotBoth =
    (described : Description) (levels : List ℕ) (locks : Option (List ℕ)) (keeps : List ℕ) (plan : Plan)
    → IsPlan described levels locks keeps plan → plan_fault described levels locks keeps ≡ None

-- Texts that break no rule have a plan.
pub record HasPlan (described : Description) (levels : List ℕ) (locks : Option (List ℕ)) (keeps : List ℕ) : Type 0 where
  pub plan : Plan
  pub is : IsPlan described levels locks keeps plan

abbrev pub PlanOrRefusal : Type 0
PlanOrRefusal =
    (described : Description) (levels : List ℕ) (locks : Option (List ℕ)) (keeps : List ℕ) → IsBuilt described
    → plan_fault described levels locks keeps ≡ None → HasPlan described levels locks keeps

-- The plan of some texts is one for its topology.
abbrev pub PlansAreFor : Type 0
PlansAreFor =
    (described : Description) (levels : List ℕ) (locks : Option (List ℕ)) (keeps : List ℕ) (plan : Plan)
    → IsPlan described levels locks keeps plan → IsPlanFor described plan

-- The shape of a plan is the tree of a lock: its callers are those on the PUs, and it has as many levels as the plan.
pub record IsTree (plan : Plan) (pus : List ℕ) (shape : Shape) : Type 0 where
  pub formed : IsWellFormed shape
  pub callers : callers_of shape ≡ length pus
  pub top : top_of shape ≡ length plan.depths - 1

abbrev pub ShapesAreTrees : Type 0
ShapesAreTrees =
    (described : Description) (plan : Plan) (pus : List ℕ) (shape : Shape) → IsBuilt described → IsPlanFor described plan
    → All (λ pu. pu < pu_count described) pus → IsShapeOf described plan pus shape → IsTree plan pus shape

-- The shape of a plan of one level: all callers stand under its one node, and no level lies below it.
abbrev pub OneLevel : Type 0
OneLevel =
    (described : Description) (plan : Plan) (pus : List ℕ) (shape : Shape) → IsBuilt described → IsPlanFor described plan
    → All (λ pu. pu < pu_count described) pus → IsShapeOf described plan pus shape → length plan.depths ≡ 1
    → shape ≡ record { paths = replicate (length pus) (0 ∷ []); keeps = [] }
