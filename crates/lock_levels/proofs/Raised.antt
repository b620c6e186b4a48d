-- A lock whose levels are made one below the other.
use Rattle.std.proofs.Common.{◌≡◌, ℕ, List, refl, subst}
use Rattle.lock_rules.specs.Tag.{Tag}
use Rattle.keep_local.specs.declared.shape.Shape.{Shape}
use Rattle.lock_levels.specs.Raised.{IsRaised}
use Rattle.clof_compose.specs.Contexts.{Context}
use Rattle.clof_compose.specs.Meanings.{Rest}

module _ {P : Type 0} {rest : P → Rest} {has : Context → Type 0} {sound : Type 0} {level count : ℕ} {tag : Tag} {shape : Shape}
    {high : Tag} {passes : List P} (lowest : ℕ) (raised : IsRaised rest has sound level count tag shape lowest high passes) where
  -- it stands by the tag of its own root
  pub risen : (same : ℕ) → lowest ≡ same → IsRaised rest has sound level count tag shape same tag passes
  risen same is = subst (λ (n : ℕ). IsRaised rest has sound level count tag shape n tag passes) is (record {
    sound_is = raised.sound_is;
    level_is = raised.level_is;
    tag_is = refl;
    contexts = raised.contexts;
    all = raised.all;
    fresh = raised.fresh;
  })
