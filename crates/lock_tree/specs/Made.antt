-- How a composed lock stands when it is made.
use Rattle.std.specs.Prelude.{◌≡◌, ℕ, List, All}
use Rattle.lock_rules.specs.Tag.{Tag}
use Rattle.keep_local.specs.declared.shape.Shape.{Shape}
use Rattle.keep_local.specs.Shapes.{callers_of}
use Rattle.clof_compose.specs.Contexts.{Context}
use Rattle.clof_compose.specs.Meanings.{Rest}
use Rattle.clof_compose.specs.Passes.{AreAll}

-- a lock with all its levels: it is sound, its root has this tag, and it has a pass for each caller of the shape, in order, as it was
-- made
pub record IsMade {P : Type 0} (rest : P → Rest) (has : Context → Type 0) (sound : Type 0) (level count : ℕ) (tag : Tag) (shape : Shape)
    (root_is : Tag) (passes : List P) : Type 0 where
  pub sound_is : sound
  pub level_is : level ≡ 0
  pub tag_is : tag ≡ root_is
  pub count_is : count ≡ callers_of shape
  pub all : AreAll (λ p. (rest p).context) has level tag count passes
  pub fresh : All (λ p. (rest p).report.tests ≡ 0) passes
