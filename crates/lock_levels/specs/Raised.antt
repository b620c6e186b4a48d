-- How a composed lock stands whose levels are made down to one of them.
use Rattle.std.specs.Prelude.{◌≡◌, ℕ, List, All}
use Rattle.lock_rules.specs.Tag.{Tag}
use Rattle.keep_local.specs.declared.shape.Shape.{Shape}
use Rattle.clof_compose.specs.Contexts.{AreContexts, Context}
use Rattle.clof_compose.specs.Meanings.{Rest}
use Rattle.clof_compose.specs.Passes.{AreAll}

-- a lock whose lowest level is this one of the shape: it is sound, its root has this tag, and it has a pass for each context, as it was
-- made
pub record IsRaised {P : Type 0} (rest : P → Rest) (has : Context → Type 0) (sound : Type 0) (level count : ℕ) (tag : Tag) (shape : Shape)
    (lowest : ℕ) (root_is : Tag) (passes : List P) : Type 0 where
  pub sound_is : sound
  pub level_is : level ≡ lowest
  pub tag_is : tag ≡ root_is
  pub contexts : AreContexts shape lowest count
  pub all : AreAll (λ p. (rest p).context) has level tag count passes
  pub fresh : All (λ p. (rest p).report.tests ≡ 0) passes
