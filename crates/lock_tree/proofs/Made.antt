-- A lock with all its levels.
use Rattle.std.proofs.Common.{◌≡◌, ℕ, List, refl}
use Rattle.lock_rules.specs.Tag.{Tag}
use Rattle.keep_local.specs.declared.shape.Shape.{Shape}
use Rattle.clof_compose.specs.Contexts.{Context}
use Rattle.clof_compose.specs.Meanings.{Rest}
use Rattle.lock_levels.specs.Raised.{IsRaised}
use Rattle.lock_tree.specs.Made.{IsMade}

-- a lock that is raised from level 0 is made
pub made_of : {P : Type 0} {rest : P → Rest} {has : Context → Type 0} {sound : Type 0} {level count : ℕ} {tag : Tag} {shape : Shape}
    {root_is : Tag} {passes : List P} → IsRaised rest has sound level count tag shape 0 root_is passes
    → IsMade rest has sound level count tag shape root_is passes
made_of r = record {
  sound_is = r.sound_is;
  level_is = r.level_is;
  tag_is = r.tag_is;
  count_is = r.contexts.lowest refl;
  all = r.all;
  fresh = r.fresh;
}
