-- What is asked for has one plan on a topology, and callers have one shape under it.
use Rattle.std.proofs.Common.{◌≡◌, ℕ, ◌≤◌, List, length, Option, Some, None}
use Rattle.std.proofs.Common.{sym, ap, ◌∙◌, subst, arith}
use Rattle.synth_text.specs.declared.description.Description.{Description}
use Rattle.keep_local.specs.declared.shape.Shape.{Shape}
use Rattle.keep_local.specs.Shapes.{top_of}
use Rattle.lock_plan.specs.declared.kind.LockKind.{LockKind}
use Rattle.lock_plan.specs.declared.plan.Plan.{Plan}
use Rattle.lock_plan.specs.Plans.{AreKeeps, AreKinds, IsPlanFor, keeps_by}
use Rattle.lock_plan.specs.Shapes.{IsShapeOf}
use Rattle.plan_texts.specs.RunPlan.{PlanOf}
use Rattle.command_words.specs.Asked.{Running}

some_same : {A : Type 0} (one other : A) → Some one ≡ Some other → one ≡ other
some_same one other same = cc

kinds_same : (levels : ℕ) (locks : Option (List ℕ)) (one other : List LockKind) → AreKinds levels locks one → AreKinds levels locks other
    → one ≡ other
kinds_same levels None one other first second = first ∙ sym second
kinds_same levels (Some text) one other first second = some_same one other (sym first.0 ∙ second.0)

keeps_same : (levels : ℕ) (text one other : List ℕ) → AreKeeps levels text one → AreKeeps levels text other → one ≡ other
keeps_same levels text one other first second =
    first.keeps_are ∙ ap (keeps_by levels) (some_same first.given second.given (sym first.says ∙ second.says)) ∙ sym second.keeps_are

abbrev plan_with : List ℕ → List LockKind → List ℕ → Plan
plan_with depths kinds keeps = record { depths = depths; kinds = kinds; keeps = keeps }

-- texts have one plan
pub plan_same : (described : Description) (asked : Running) (one other : Plan) → PlanOf described asked one
    → PlanOf described asked other → one ≡ other
plan_same described asked one other first second =
    let depths : one.depths ≡ other.depths = some_same one.depths other.depths (sym first.named ∙ second.named) in
    let many : length other.depths ≡ length one.depths = sym (ap length depths) in
    let kinds : one.kinds ≡ other.kinds =
    kinds_same (length one.depths) asked.locks one.kinds other.kinds first.kinds_are
    (subst (λ (n : ℕ). AreKinds n asked.locks other.kinds) many second.kinds_are) in
    let keeps : one.keeps ≡ other.keeps =
    keeps_same (length one.depths) asked.keep one.keeps other.keeps first.keeps_are
    (subst (λ (n : ℕ). AreKeeps n asked.keep other.keeps) many second.keeps_are) in
    ap (λ (l : List ℕ). plan_with l one.kinds one.keeps) depths
    ∙ ap (λ (l : List LockKind). plan_with other.depths l one.keeps) kinds
    ∙ ap (plan_with other.depths other.kinds) keeps

-- a plan for a topology has at most five levels
pub few_levels : (described : Description) (plan : Plan) (pus : List ℕ) (shape : Shape) → IsPlanFor described plan
    → IsShapeOf described plan pus shape → top_of shape ≤ 32
few_levels described plan pus shape planned is =
    let keeps : length shape.keeps ≡ length plan.keeps = ap length is.keeps_are in
    let below = planned.keeps_below in
    let few = planned.levels_are.few in
    omega (arith, keeps, below, few)

abbrev shape_with : List (List ℕ) → List ℕ → Shape
shape_with paths keeps = record { paths = paths; keeps = keeps }

-- a plan has one shape
pub shape_same : (described : Description) (plan : Plan) (pus : List ℕ) (one other : Shape) → IsShapeOf described plan pus one
    → IsShapeOf described plan pus other → one ≡ other
shape_same described plan pus one other first second =
    ap (λ (paths : List (List ℕ)). shape_with paths one.keeps) (first.paths_are ∙ sym second.paths_are)
    ∙ ap (shape_with other.paths) (first.keeps_are ∙ sym second.keeps_are)
