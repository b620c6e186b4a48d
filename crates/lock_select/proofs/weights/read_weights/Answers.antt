use Rattle.std.proofs.Common.{◌≤◌, ◌<◌, ◌-◌, ◌^◌, ℕ, sym, ap, ◌∙◌, subst, arith, lit≤}
use Rattle.std.proofs.Math.Nat.{pow-le-pow_right}
use Rattle.std.proofs.lemmas.List.Elements.{All-from_get_or}
use Rattle.std.proofs.lemmas.List.FromFn.{length-map-range_with_len, get_or-map-range_with_len}
use Rattle.synth_text.specs.declared.description.Description.{Description}
use Rattle.synth_text.specs.Sound.{IsSound}
use Rattle.topo_tree.specs.Objects.{depth_count}
use Rattle.lock_select.specs.Texts.{Weighs, default_weights, weight_limit}
use Rattle.lock_select.proofs.weights.read_weights.Goals as goal

-- the weights where none are given are small
default_usable : (described : Description) → IsSound described → Weighs described (default_weights (depth_count described))
unfolding default_weights
default_usable described sound =
    let depths : ℕ = depth_count described in
    let f : ℕ → ℕ = λ depth. 2 ^ (depths - 1 - depth) in
    let few = sound.few in
    let size = length-map-range_with_len f 0 depths in
    record {
      count = size;
      few = All-from_get_or (λ (weight : ℕ). weight ≤ weight_limit) (default_weights depths) 0 (λ i h.
          let here : i < depths = omega (arith, h, size) in
          let at = get_or-map-range_with_len f 0 depths i i 0 here (omega arith) in
          let low : depths - 1 - i ≤ 16 = omega (arith, few) in
          let some : 0 < 2 = omega arith in
          let small : 2 ^ (depths - 1 - i) ≤ 2 ^ 16 = pow-le-pow_right some low in
          let top : 2 ^ 16 ≤ weight_limit = lit≤ tt in
          omega (arith, at, small, top));
    }

pub returns-in_default-clause-usable : goal.returns-in_default-clause-usable
returns-in_default-clause-usable g c =
    let described = g.T.AsTree.described c.args.topology.now in
    let is = c.in_ok-default_weights.ensures ∙ ap default_weights (c.depths-depths.ensures.count ∙ ap depth_count c.as_tree.ensures) in
    subst (Weighs described) (sym is) (default_usable described (subst IsSound c.as_tree.ensures c.depths-depths.ensures.built.sound))
