-- A lock as it is made around a new root, whose callers may begin.
use Rattle.std.proofs.Common.{◌≡◌, ℕ, Bool, false, List, length, ap, refl, sym, ◌∙◌, Option, Some, None}
use Rattle.std.specs.Prelude.{IfSome}
use Rattle.std.proofs.lemmas.List.{length-replicate}
use Rattle.lock_rules.specs.Tag.{Tag, leaf}
use Rattle.keep_local.specs.declared.shape.Shape.{Shape}
use Rattle.keep_local.specs.Shapes.{callers_of}
use Rattle.keep_local.specs.States.{ShareState, free_quota, free_quotas, new_shares}
use Rattle.clof_compose.specs.Contexts.{Context}
use Rattle.clof_compose.specs.Courses.{Course, course_of}
use Rattle.clof_compose.specs.Meanings.{Rest}
use Rattle.clof_compose.specs.Roots.{root_course, root_tag}
use Rattle.clof_compose.specs.declared.root.Root.{Root}
use Rattle.clof_compose.proofs.Tops.{course_is}
use Rattle.lock_levels.specs.Raised.{IsRaised}
use Rattle.own_payload.specs.Ready.{IsReady}
use Rattle.own_payload.specs.declared.noted.Noted.{Noted}
use Rattle.level_handles.specs.Making.{IsLockOf, MayMake}

-- a new root is for the callers over its shape
pub may_make : {T : Type 0} (root : Root (Noted T)) (shape : Shape) (shares : List ShareState) → root.trail.shape ≡ shape
    → root.trail.recorded ≡ false → root.trail.quotas ≡ free_quotas (callers_of shape)
    → shares ≡ new_shares (course_of (root_tag (λ _. leaf 0) root)).name (free_quotas (callers_of shape))
    → MayMake (root_tag (λ _. leaf 0) root) shape shares
may_make {T} root shape shares of_shape of_recorded of_quotas dealt =
    let tag : Noted T → Tag = λ _. leaf 0 in
    let is : course_of (root_tag tag root) ≡ root_course tag root = course_is (λ n. n.calls.callers) tag (root_tag tag root) root refl in
    let quotas : (course_of (root_tag tag root)).quotas ≡ free_quotas (callers_of shape) = ap (λ (c : Course). c.quotas) is ∙ of_quotas in
    record {
      lock = record {
        shape_is = ap (λ (c : Course). c.shape) is ∙ of_shape;
        unrecorded = ap (λ (c : Course). c.recorded) is ∙ of_recorded;
        quotas_are = quotas;
      };
      dealt = dealt ∙ (λ i. new_shares (course_of (root_tag tag root)).name (sym quotas i));
    }

-- a lock with all its levels around such a root is ready
pub raised_ready : {P : Type 0} {rest : P → Rest} {has : Context → Type 0} {sound : Type 0} {level count : ℕ} {tag : Tag} {shape : Shape}
    {passes : List P} {shares : List ShareState} → IsRaised rest has sound level count tag shape 0 tag passes → MayMake tag shape shares
    → IsReady rest has sound level count tag passes shares
raised_ready {shape = shape} raised own =
    let callers = callers_of shape in
    record {
      sound_is = raised.sound_is;
      lowest = raised.level_is;
      many = raised.contexts.lowest refl ∙ sym (ap callers_of own.lock.shape_is);
      all = raised.all;
      quotas = ap length own.lock.quotas_are ∙ length-replicate callers (free_quota callers) ∙ sym (ap callers_of own.lock.shape_is);
      dealt = own.dealt;
    }

-- what is told of a lock's callers is told of those of some lock
pub of_lock : {A : Type 0} (shape : Shape) (tag : Tag) (Q : Tag → A → Type 0) (o : Option A) → IsLockOf shape tag → IfSome o (Q tag)
    → IfSome o (λ a. (lock : Tag) × IsLockOf shape lock × Q lock a)
of_lock shape tag Q None is told = tt
of_lock shape tag Q (Some a) is told = (tag, is, told)
