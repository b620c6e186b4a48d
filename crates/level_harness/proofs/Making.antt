-- The course of a lock that is made for a new trail and a new roll.
use Rattle.std.proofs.Common.{◌≡◌, ℕ, ◌≤◌, true, List, ap, sym, ◌∙◌, subst, Option, Some, None, vec_capacity}
use Rattle.std.specs.Prelude.{IfSome, sum}
use Rattle.atomic_table.specs.Seated.{TableId}
use Rattle.lock_rules.specs.Tag.{Tag}
use Rattle.keep_local.specs.declared.shape.Shape.{Shape}
use Rattle.keep_local.specs.States.{TrailState, new_trail}
use Rattle.clof_compose.specs.Courses.{Course, course_of}
use Rattle.clof_compose.specs.Roots.{root_course, root_tag}
use Rattle.clof_compose.specs.declared.root.Root.{Root}
use Rattle.clof_compose.proofs.Tops.{course_is}
use Rattle.level_harness.specs.Rooms.{HasRoom, roll_tag}
use Rattle.level_harness.specs.declared.roll.Roll.{Roll}
use Rattle.level_harness.proofs.Rooms.{calls_of}

-- what follows from what a value is known for
pub if_some : {A : Type 0} (P Q : A → Type 0) (o : Option A) → ((a : A) → P a → Q a) → IfSome o P → IfSome o Q
if_some P Q None weaker is = tt
if_some P Q (Some a) weaker is = weaker a is

module _ (name receipts : TableId) (shape : Shape) (quotas : List ℕ) (t : Tag) (root : Root Roll) (tagged : t ≡ root_tag roll_tag root)
    (trail : root.trail ≡ new_trail name receipts shape quotas) where
  course_made : course_of t ≡ root_course roll_tag root
  course_made = course_is calls_of roll_tag t root (sym tagged)

  pub name_made : (course_of t).name ≡ name
  name_made = ap (λ (c : Course). c.name) course_made ∙ ap (λ (s : TrailState). s.name) trail

  pub shape_made : (course_of t).shape ≡ shape
  shape_made = ap (λ (c : Course). c.shape) course_made ∙ ap (λ (s : TrailState). s.shape) trail

  pub quotas_made : (course_of t).quotas ≡ quotas
  quotas_made = ap (λ (c : Course). c.quotas) course_made ∙ ap (λ (s : TrailState). s.quotas) trail

  recorded_made : (course_of t).recorded ≡ true
  recorded_made = ap (λ (c : Course). c.recorded) course_made ∙ ap (λ (s : TrailState). s.recorded) trail

  pub room_made : (roll : Roll) → root.payload ≡ roll → sum quotas ≤ vec_capacity roll.callers → HasRoom (course_of t)
  room_made roll is enough = record {
    recorded = recorded_made;
    room = vec_capacity roll.callers;
    payload_is = ap (λ (c : Course). c.payload) course_made ∙ ap roll_tag is;
    enough = subst (λ (q : List ℕ). sum q ≤ vec_capacity roll.callers) (sym quotas_made) enough;
  }

-- the shape and the quotas of a root are those that its tag names, and so is whether its trail is recorded
pub shape_named : (r : Root Roll) (t : Tag) → root_tag roll_tag r ≡ t → r.trail.shape ≡ (course_of t).shape
shape_named r t same = sym (ap (λ (c : Course). c.shape) (course_is calls_of roll_tag t r same))

pub quotas_named : (r : Root Roll) (t : Tag) → root_tag roll_tag r ≡ t → r.trail.quotas ≡ (course_of t).quotas
quotas_named r t same = sym (ap (λ (c : Course). c.quotas) (course_is calls_of roll_tag t r same))

pub recorded_named : (r : Root Roll) (t : Tag) → root_tag roll_tag r ≡ t → (course_of t).recorded ≡ true → r.trail.recorded ≡ true
recorded_named r t same is = sym (ap (λ (c : Course). c.recorded) (course_is calls_of roll_tag t r same)) ∙ is
