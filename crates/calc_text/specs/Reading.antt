-- What the words of a calculation say of a topology: the terms of its locations, and the layers of the names that `-H` takes.
use Rattle.std.specs.Prelude.{ℕ, ◌+◌, ◌==◌, List, [], ◌∷◌, Option, Some, None, option_map, option_and_then, Result, Ok, Err}
use Rattle.std.specs.List.{slice_split}
use Rattle.synth_text.specs.declared.description.Description.{Description}
use Rattle.synth_text.specs.Flaws.{◌>>=◌}
use Rattle.topo_tree.specs.declared.layer.Layer.{Layer}
use Rattle.topo_tree.specs.Naming.{layer_named}
use Rattle.calc_query.specs.declared.fault.CalcFault.{CalcFault}
use Rattle.calc_query.specs.declared.query.Term.{Term}
use Rattle.calc_query.specs.Readings.{term_of}

-- what words say as terms, which are numbered from a number on: each in its turn, or the fault of the first bad one
abbrev pub terms_from : Description → ℕ → List (List ℕ) → Result (List Term) CalcFault
terms_from described number [] = Ok []
terms_from described number (word ∷ words) =
    term_of described number word >>= λ term. terms_from described (number + 1) words >>= λ terms. Ok (term ∷ terms)

-- the layers that names name, where each of them names one
abbrev pub layers_named : Description → List (List ℕ) → Option (List Layer)
layers_named described [] = Some []
layers_named described (name ∷ names) =
    option_and_then (λ layer. option_map (λ layers. layer ∷ layers) (layers_named described names)) (layer_named described name)

-- the names that a word has, with a dot between each two
abbrev pub names_in : List ℕ → List (List ℕ)
names_in word = slice_split (λ byte. byte == 46) word
