-- The root that a lock is made around, and the one that a run leaves.
use Rattle.std.proofs.Common.{◌≡◌, ℕ, ◌+◌, ◌<◌, ◌^◌, Bool, List, length, ap, refl, sym, ◌∙◌, Option, Some, None}
use Rattle.std.specs.Prelude.{IfSome}
use Rattle.std.specs.declared.alloc.Global.{Global}
use Rattle.std.specs.declared.vec.Vec.{Vec}
use Rattle.lock_rules.specs.Tag.{Tag, leaf}
use Rattle.keep_local.specs.declared.shape.Shape.{Shape}
use Rattle.keep_local.specs.Shapes.{IsWellFormed, callers_of, top_of}
use Rattle.keep_local.specs.States.{ShareState, new_shares}
use Rattle.lock_plan.specs.declared.kind.LockKind.{LockKind}
use Rattle.clof_compose.specs.Courses.{Course, course_of}
use Rattle.clof_compose.specs.Roots.{root_tag}
use Rattle.clof_compose.specs.declared.root.Root.{Root}
use Rattle.clof_compose.proofs.Tops.{course_is}
use Rattle.lock_rising.specs.Ready.{MayRise}
use Rattle.own_payload.specs.declared.noted.Noted.{Noted}
use Rattle.own_runner.specs.Runs.{AreBrought}

module _ {T : Type 0} (root : Root (Noted T)) (t : Tag) (same : root_tag (λ _. leaf 0) root ≡ t) where
  -- whether a root's trail is recorded, its shape and its quotas are what its tag names
  pub recorded_named : root.trail.recorded ≡ (course_of t).recorded
  recorded_named = sym (ap (λ (c : Course). c.recorded) (course_is (λ n. n.calls.callers) (λ _. leaf 0) t root same))

  pub shape_named : root.trail.shape ≡ (course_of t).shape
  shape_named = sym (ap (λ (c : Course). c.shape) (course_is (λ n. n.calls.callers) (λ _. leaf 0) t root same))

  pub quotas_named : root.trail.quotas ≡ (course_of t).quotas
  quotas_named = sym (ap (λ (c : Course). c.quotas) (course_is (λ n. n.calls.callers) (λ _. leaf 0) t root same))

-- what follows from what a value is known for
pub if_some : {A : Type 0} (P Q : A → Type 0) (o : Option A) → ((a : A) → P a → Q a) → IfSome o P → IfSome o Q
if_some P Q None weaker is = tt
if_some P Q (Some a) weaker is = weaker a is

module _ {T : Type 0} (root : Root (Noted T)) (left : Option (Root (Noted T)))
    (tagged : IfSome left (λ r. root_tag (λ _. leaf 0) r ≡ root_tag (λ _. leaf 0) root)) where
  -- what a run leaves is recorded where the root that its lock was made around was, and has its shape and its quotas
  pub of_recorded : (whether : Bool) → root.trail.recorded ≡ whether → IfSome left (λ r. r.trail.recorded ≡ whether)
  of_recorded whether is = if_some (λ r. root_tag (λ _. leaf 0) r ≡ root_tag (λ _. leaf 0) root) (λ r. r.trail.recorded ≡ whether) left
      (λ r same. recorded_named r _ same ∙ sym (recorded_named root _ refl) ∙ is) tagged

  pub of_shape : (shape : Shape) → root.trail.shape ≡ shape → IfSome left (λ r. r.trail.shape ≡ shape)
  of_shape shape is = if_some (λ r. root_tag (λ _. leaf 0) r ≡ root_tag (λ _. leaf 0) root) (λ r. r.trail.shape ≡ shape) left
      (λ r same. shape_named r _ same ∙ sym (shape_named root _ refl) ∙ is) tagged

  pub of_quotas : (quotas : List ℕ) → root.trail.quotas ≡ quotas → IfSome left (λ r. r.trail.quotas ≡ quotas)
  of_quotas quotas is = if_some (λ r. root_tag (λ _. leaf 0) r ≡ root_tag (λ _. leaf 0) root) (λ r. r.trail.quotas ≡ quotas) left
      (λ r same. quotas_named r _ same ∙ sym (quotas_named root _ refl) ∙ is) tagged

-- a new root with all its shares is one that a run can have
pub may_run : {T : Type 0} (root : Root (Noted T)) (shape : Shape) (quotas : List ℕ) (kinds : List LockKind)
    (shares : Vec ShareState Global) → IsWellFormed shape → callers_of shape < 2 ^ 32 → length kinds ≡ top_of shape + 1
    → length quotas ≡ callers_of shape → root.trail.shape ≡ shape → root.trail.quotas ≡ quotas
    → shares.items ≡ new_shares (course_of (root_tag (λ _. leaf 0) root)).name quotas
    → MayRise (root_tag (λ _. leaf 0) root) shape kinds AreBrought shares
may_run root shape quotas kinds shares formed few each many of_shape of_quotas dealt =
    let named = sym (quotas_named root _ refl) ∙ of_quotas in
    let shaped = sym (shape_named root _ refl) ∙ of_shape in
    record {
      formed = formed;
      few = few;
      shape_is = shaped;
      kinds_each = each;
      dealt_is = record {
        quotas = ap length named ∙ many ∙ sym (ap callers_of shaped);
        dealt = dealt ∙ (λ i. new_shares (course_of (root_tag (λ _. leaf 0) root)).name (sym named i));
      };
    }
