-- Names of layers, read one after another.
use Rattle.std.proofs.Common.{◌≡◌, ℕ, List, [], ◌∷◌, ◌++◌, Option, Some, None, refl, sym, ap, ◌∙◌, append_assoc}
use Rattle.std.specs.Option.{option_map, option_and_then}
use Rattle.std.proofs.lemmas.List.{append-nil}
use Rattle.synth_text.specs.declared.description.Description.{Description}
use Rattle.topo_tree.specs.declared.layer.Layer.{Layer}
use Rattle.topo_tree.specs.Naming.{layer_named}
use Rattle.calc_text.specs.Reading.{layers_named}

-- what was read, before what is left
abbrev pub layers_after : List Layer → Option (List Layer) → Option (List Layer)
layers_after layers found = option_map (λ more. layers ++ more) found

pub layers_after-nil : (found : Option (List Layer)) → layers_after [] found ≡ found
layers_after-nil (Some more) = refl
layers_after-nil None = refl

after-cons : (layers : List Layer) (layer : Layer) (found : Option (List Layer))
    → layers_after layers (option_map (λ more. layer ∷ more) found) ≡ layers_after (layers ++ layer ∷ []) found
after-cons layers layer (Some more) = ap Some (sym (append_assoc layers (layer ∷ []) more))
after-cons layers layer None = refl

module _ (described : Description) (layers : List Layer) (name : List ℕ) (names : List (List ℕ)) where
  -- one layer more
  pub next_layer : (layer : Layer) → layer_named described name ≡ Some layer
      → layers_after layers (layers_named described (name ∷ names)) ≡ layers_after (layers ++ layer ∷ []) (layers_named described names)
  next_layer layer names_it =
      ap (λ found. layers_after layers (option_and_then (λ l. option_map (λ more. l ∷ more) (layers_named described names)) found)) names_it
      ∙ after-cons layers layer (layers_named described names)

  -- a name without a layer
  pub no_layer : layer_named described name ≡ None → layers_after layers (layers_named described (name ∷ names)) ≡ None
  no_layer names_none =
      ap (λ found. layers_after layers (option_and_then (λ l. option_map (λ more. l ∷ more) (layers_named described names)) found))
      names_none

pub all_layers : (layers : List Layer) (described : Description) → layers_after layers (layers_named described []) ≡ Some layers
all_layers layers described = ap Some (append-nil layers)
