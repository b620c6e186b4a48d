use Rattle.std.proofs.Common.{◌≡◌, ◌+◌, ◌-◌, ◌/◌, ◌==◌, false, cond, Some, None, ap, ◌∙◌, arith}
use Rattle.std.proofs.lemmas.Bool.{ne_eqb}
use Rattle.topo_tree.specs.declared.layer.Layer.TheVariants as layers
use Rattle.topo_tree.specs.Objects.{arity_at}
use Rattle.topo_tree.proofs.CountLaws.{child-parent}
use Rattle.topo_tree.proofs.laws.children_have_their_parent.Goals as goal

pub returns : goal.returns
returns c = λ described depth index child built within below from to.
    let found = child-parent described depth index child built.sound within below from to in
    let deeper : (depth + 1 == 0) ≡ false = ne_eqb (depth + 1) 0 (λ none. absurd (omega arith)) in
    let above : (depth + 1) - 1 ≡ depth = omega arith in (
      found.0,
      ap (λ b. cond b None (Some (record { layer = layers.Depth (depth + 1 - 1); index = child / arity_at described (depth + 1 - 1) })))
          deeper
          ∙ ap (λ d. Some (record { layer = layers.Depth d; index = child / arity_at described d })) above
          ∙ ap (λ n. Some (record { layer = layers.Depth depth; index = n })) found.1,
    )
