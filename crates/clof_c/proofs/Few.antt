-- How many levels texts may tell, so that making never finds a plan too deep.
use Rattle.std.proofs.Common.{◌≡◌, ℕ, ◌+◌, ◌<◌, List, length, ap, ◌∙◌, arith, subst}
use Rattle.std.specs.Prelude.{Option, Some, None}
use Rattle.std.proofs.lemmas.List.{length-replicate}
use Rattle.keep_local.specs.declared.shape.Shape.{Shape}
use Rattle.keep_local.specs.Shapes.{top_of}
use Rattle.lock_plan.specs.Plans.{AreKinds}
use Rattle.lock_plan.specs.declared.kind.LockKind.{LockKind}
use Rattle.lock_plan.specs.declared.kind.LockKind.TheVariants.{Mcs}
use Rattle.lock_plan.specs.declared.plan.Plan.{Plan}
use Rattle.lock_setting.specs.Settings.{IsSettingOf, Texts, locks_given}
use Rattle.level_handles.specs.Making.{Makes}
use Rattle.level_handles.specs.declared.any_depth.AnyDepth.{AnyDepth}
use Rattle.level_handles.specs.declared.making.Made.{Made}
use Rattle.clof_c.specs.Composed.{AreMade, composed_made_code, numbers_by}
use Rattle.clof_c.specs.declared.composed_codes.ClofNumbers.{ClofNumbers}

kinds_each : (levels : ℕ) (locks : Option (List ℕ)) (kinds : List LockKind) → AreKinds levels locks kinds → length kinds ≡ levels
kinds_each levels None kinds are = ap length are ∙ length-replicate levels Mcs
kinds_each levels (Some text) kinds are = are.1

-- a lock of a plan has five levels at most
pub few_levels : (texts : Texts) (plan : Plan) (shape : Shape) → IsSettingOf texts plan shape → length plan.kinds ≡ top_of shape + 1
    → top_of shape < 5
few_levels texts plan shape setting many =
    let few = setting.plan_is.levels_are.few in
    let each = kinds_each (length plan.depths) (locks_given texts.locks) plan.kinds setting.plan_is.kinds_are in
    omega (arith, few, each, many)

-- what making leaves by a setting, and its code
pub made_by : (texts : Texts) (old new : List (Option AnyDepth)) (numbers : ClofNumbers) (code : ℕ) (plan : Plan) (shape : Shape)
    → IsSettingOf texts plan shape → length plan.kinds ≡ top_of shape + 1 → (made : Made) → Makes shape old new made
    → code ≡ composed_made_code made → numbers ≡ numbers_by 0 0 → AreMade texts old new numbers code
made_by texts old new numbers code plan shape setting many made makes coded numbered =
    let few = few_levels texts plan shape setting many in
    record {
      plan = plan;
      shape = shape;
      setting = setting;
      made = made;
      makes = makes;
      fits = λ deep. let at = subst (λ m. Makes shape old new m) deep makes in absurd (omega (arith, few, at.1));
      code_is = coded;
      numbers_are = numbered;
    }
