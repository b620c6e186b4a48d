-- What a trial is made of, and the shape and the quotas of what it leaves.
use Rattle.std.proofs.Common.{◌≡◌, ℕ, ◌+◌, ◌<◌, ◌^◌, true, List, length, ap, refl, sym, ◌∙◌, subst, Option}
use Rattle.std.specs.Prelude.{IfSome}
use Rattle.lock_rules.specs.Tag.{Tag}
use Rattle.keep_local.specs.declared.shape.Shape.{Shape}
use Rattle.keep_local.specs.Shapes.{IsWellFormed, callers_of, top_of}
use Rattle.keep_local.specs.States.{new_shares}
use Rattle.lock_plan.specs.declared.kind.LockKind.{LockKind}
use Rattle.clof_compose.specs.Courses.{course_of}
use Rattle.clof_compose.specs.Roots.{root_tag}
use Rattle.clof_compose.specs.declared.root.Root.{Root}
use Rattle.level_harness.specs.Rooms.{HasRoom, roll_tag}
use Rattle.level_harness.specs.declared.roll.Roll.{Roll}
use Rattle.level_harness.proofs.Making.{if_some, quotas_named, recorded_named, shape_named}
use Rattle.lock_rising.specs.Ready.{MayRise}
use Rattle.tree_harness.specs.declared.given.Brought.{Brought}
use Rattle.tree_harness.specs.declared.outcome.Outcome.{Outcome}
use Rattle.tree_harness.specs.Ready.{IsBrought}

module _ (root : Root Roll) where
  abbrev pub own_tag : Tag
  own_tag = root_tag roll_tag root

  -- a root of this shape and these quotas, with all its shares, is one that a trial can have
  pub may_try : (shape given : Shape) (quotas : List ℕ) (kinds planned : List LockKind) (brought : Brought) → IsWellFormed shape
      → callers_of shape < 2 ^ 32 → length kinds ≡ top_of shape + 1 → length quotas ≡ callers_of shape → given ≡ shape → planned ≡ kinds
      → root.trail.shape ≡ shape → root.trail.quotas ≡ quotas
      → brought.shares.items ≡ new_shares (course_of own_tag).name (course_of own_tag).quotas → HasRoom (course_of own_tag)
      → MayRise own_tag given planned IsBrought brought
  may_try shape given quotas kinds planned brought formed few each many is plan_is of_shape of_quotas dealt room =
      let named : (course_of own_tag).shape ≡ shape = sym (shape_named root own_tag refl) ∙ of_shape in
      record {
        formed = subst IsWellFormed (sym is) formed;
        few = subst (λ (s : Shape). callers_of s < 2 ^ 32) (sym is) few;
        shape_is = named ∙ sym is;
        kinds_each = ap length plan_is ∙ each ∙ ap (λ (s : Shape). top_of s + 1) (sym is);
        dealt_is = record {
          quotas = ap length (sym (quotas_named root own_tag refl) ∙ of_quotas) ∙ many ∙ ap callers_of (sym named);
          dealt = dealt;
          room = room;
        };
      }

  module _ (left : Option (Outcome Roll)) (tagged : IfSome left (λ o. root_tag roll_tag o.root ≡ own_tag)) where
    -- and what the trial leaves has them still
    pub of_shape : (shape : Shape) → root.trail.shape ≡ shape → IfSome left (λ o. o.root.trail.shape ≡ shape)
    of_shape shape is = if_some (λ o. root_tag roll_tag o.root ≡ own_tag) (λ o. o.root.trail.shape ≡ shape) left
        (λ o same. shape_named o.root own_tag same ∙ sym (shape_named root own_tag refl) ∙ is) tagged

    pub of_quotas : (quotas : List ℕ) → root.trail.quotas ≡ quotas → IfSome left (λ o. o.root.trail.quotas ≡ quotas)
    of_quotas quotas is = if_some (λ o. root_tag roll_tag o.root ≡ own_tag) (λ o. o.root.trail.quotas ≡ quotas) left
        (λ o same. quotas_named o.root own_tag same ∙ sym (quotas_named root own_tag refl) ∙ is) tagged

    pub of_recorded : (course_of own_tag).recorded ≡ true → IfSome left (λ o. o.root.trail.recorded ≡ true)
    of_recorded is = if_some (λ o. root_tag roll_tag o.root ≡ own_tag) (λ o. o.root.trail.recorded ≡ true) left
        (λ o same. recorded_named o.root own_tag same is) tagged
