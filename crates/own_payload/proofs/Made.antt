-- A lock that was made around a new root.
use Rattle.std.proofs.Common.{◌≡◌, ap, sym}
use Rattle.lock_rules.specs.Tag.{Tag, leaf}
use Rattle.clof_compose.specs.Courses.{Course, course_of}
use Rattle.clof_compose.specs.Roots.{root_course, root_tag}
use Rattle.clof_compose.specs.declared.root.Root.{Root}
use Rattle.clof_compose.proofs.Tops.{course_is}
use Rattle.own_payload.specs.declared.noted.Noted.{Noted}

module _ {T : Type 0} (root : Root (Noted T)) (tag : Tag) (tagged : tag ≡ root_tag (λ _. leaf 0) root) where
  course_named : course_of tag ≡ root_course (λ _. leaf 0) root
  course_named = course_is (λ n. n.calls.callers) (λ _. leaf 0) tag root (sym tagged)

  -- the tag of the lock tells the name of the root's trail
  pub name_of : (course_of tag).name ≡ root.trail.name
  name_of = ap (λ (c : Course). c.name) course_named

  -- and its quotas
  pub quotas_of : (course_of tag).quotas ≡ root.trail.quotas
  quotas_of = ap (λ (c : Course). c.quotas) course_named
