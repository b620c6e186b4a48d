use Rattle.std.proofs.Common.{◌≡◌, Some, sym, ap, subst, ◌∙◌}
use Rattle.std.specs.List.{AllByRecursion}
use Rattle.topo_tree.specs.Objects.{IsLayer}
use Rattle.calc_query.proofs.PartReadings.{pieces_left, first_of_pieces, pieces_shorter, all_push}
use Rattle.calc_text.specs.Reading.{layers_named, names_in}
use Rattle.calc_text.proofs.LayerReadings.{layers_after, next_layer, no_layer}
use Rattle.calc_text.proofs.reading.read_layers.Goals as goal

pub returns-in-None-clause-layers : goal.returns-in-None-clause-layers
returns-in-None-clause-layers c =
    let now = c.args.tree.now in
    let layers = c.loop-rest.layers.items in
    let so_far = subst (λ rest. layers_after layers (layers_named now (pieces_left rest)) ≡ layers_named now (names_in c.args.names.now))
    c.in-Some.is c.loop-rest.invariant.read in
    let cut = first_of_pieces c.in-Some.pieces.now _ c.first_part.result.1 c.first_part.ensures in
    sym (no_layer now layers c.first_part.result.0.now (pieces_left c.first_part.result.1) (sym c.in-None.ensures.layer))
    ∙ ap (λ pieces. layers_after layers (layers_named now pieces)) (sym cut) ∙ so_far

pub loop-rest-preserved : goal.loop-rest-preserved
loop-rest-preserved c =
    let now = c.args.tree.now in
    let layers = c.loop-rest.layers.items in
    let layer = c.in-Some-layer_named.layer in
    let pushed = c.in_ok-push-in-Some-layer_named.ensures.items in
    let so_far = subst (λ rest. layers_after layers (layers_named now (pieces_left rest)) ≡ layers_named now (names_in c.args.names.now))
    c.in-Some.is c.loop-rest.invariant.read in
    let cut = first_of_pieces c.in-Some.pieces.now _ c.first_part.result.1 c.first_part.ensures in
    let behind = pieces_left c.first_part.result.1 in
    record {
      read =
          ap (λ ls. layers_after ls (layers_named now behind)) pushed
          ∙ sym (next_layer now layers c.first_part.result.0.now behind layer (sym c.in-Some-layer_named.ensures.layer))
          ∙ ap (λ pieces. layers_after layers (layers_named now pieces)) (sym cut) ∙ so_far;
      fit = subst (AllByRecursion (IsLayer now)) (sym pushed)
          (all_push (IsLayer now) layers layer c.loop-rest.invariant.fit c.in-Some-layer_named.ensures.fit);
    }
