-- What the levels of a lock for a shape need of the shape and of the root.
use Rattle.std.proofs.Common.{◌≡◌, ℕ, zero, suc, ◌<◌, ap, ◌∙◌, refl, arith}
use Rattle.lock_rules.specs.Tag.{Tag}
use Rattle.keep_local.specs.declared.shape.Shape.{Shape}
use Rattle.keep_local.specs.Shapes.{callers_of, node_of}
use Rattle.clof_compose.specs.Contexts.{AreContexts}
use Rattle.clof_compose.specs.Courses.{course_of}
use Rattle.clof_compose.specs.Roots.{root_course, root_tag}
use Rattle.clof_compose.specs.declared.root.Root.{Root}
use Rattle.clof_compose.proofs.Courses.{course_of-course_tag}

-- a level of a shape with callers has contexts
pub contexts_some : (shape : Shape) (level count : ℕ) → 0 < callers_of shape → AreContexts shape level count → 0 < count
contexts_some shape zero count some are = let all = are.lowest refl in omega (arith, all, some)
contexts_some shape (suc j) count some are =
    let b = (are.higher j (omega arith) (node_of shape 0 j)).1 (0, some, refl) in omega (arith, b)

-- the tag of a root names the shape of its trail
pub shape_named : {P : Type 0} (tag_of : P → Tag) (root : Root P) (shape : Shape) → root.trail.shape ≡ shape
    → (course_of (root_tag tag_of root)).shape ≡ shape
shape_named tag_of root shape same = ap (λ c. c.shape) (course_of-course_tag (root_course tag_of root)) ∙ same
