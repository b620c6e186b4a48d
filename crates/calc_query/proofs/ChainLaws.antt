-- Chains of objects, one step longer at a time.
use Rattle.std.proofs.Common.{◌≡◌, ℕ, suc, ◌+◌, ◌-◌, ◌<◌, Bool, true, false, cond, List, [], ◌∷◌, ◌++◌, length, map, take}
use Rattle.std.proofs.Common.{get_or, slice_index, Some, refl, sym, ap, ◌∙◌, append_assoc, arith}
use Rattle.std.specs.List.{filter, flat_map, range_with_len, slice_get}
use Rattle.std.specs.Option.{option_map, unwrap_or}
use Rattle.std.proofs.lemmas.List.{append-nil, map-append, length_push, take_more, flat_map_more}
use Rattle.std.proofs.lemmas.List.Elements.{filter-append}
use Rattle.std.proofs.lemmas.List.FromFn.{length-range_with_len, get_or-range_with_len}
use Rattle.cpu_set.specs.Tests.{meets}
use Rattle.synth_text.specs.declared.description.Description.{Description}
use Rattle.topo_tree.specs.declared.layer.Layer.{Layer}
use Rattle.topo_tree.specs.declared.layer.Layer.TheVariants as layers
use Rattle.topo_tree.specs.Coverage.{set_of}
use Rattle.calc_query.specs.declared.query.Step2.{Step2}
use Rattle.calc_query.specs.declared.query.Path.{Path}
use Rattle.calc_query.specs.Candidates.{candidates}
use Rattle.calc_query.specs.Answers.{end_of, step_to, with_step, extended}
use Rattle.calc_query.proofs.Ranges.{range_push}

-- ---- a filter of a range, one number more

pub filter_in_range : (test : ℕ → Bool) (count : ℕ) → test count ≡ true
    → filter test (range_with_len 0 count) ++ count ∷ [] ≡ filter test (range_with_len 0 (count + 1))
filter_in_range test count passes =
    let last : 0 + count ≡ count = omega arith in
    sym (ap (filter test) (range_push 0 count) ∙ filter-append test (range_with_len 0 count) ((0 + count) ∷ [])
    ∙ ap (λ n. filter test (range_with_len 0 count) ++ filter test (n ∷ [])) last
    ∙ ap (λ b. filter test (range_with_len 0 count) ++ cond b (count ∷ []) []) passes)

pub filter_out_range : (test : ℕ → Bool) (count : ℕ) → test count ≡ false
    → filter test (range_with_len 0 count) ≡ filter test (range_with_len 0 (count + 1))
filter_out_range test count fails =
    let last : 0 + count ≡ count = omega arith in
    sym (ap (filter test) (range_push 0 count) ∙ filter-append test (range_with_len 0 count) ((0 + count) ∷ [])
    ∙ ap (λ n. filter test (range_with_len 0 count) ++ filter test (n ∷ [])) last
    ∙ ap (λ b. filter test (range_with_len 0 count) ++ cond b (count ∷ []) []) fails ∙ append-nil (filter test (range_with_len 0 count)))

-- ---- the ends of paths

last_pushed : (steps : List Step2) (step : Step2) → slice_get (steps ++ step ∷ []) (length (steps ++ step ∷ []) - 1) ≡ Some step
last_pushed [] step = refl
last_pushed (first ∷ steps) step =
    let long = length_push steps step in
    let more : length (first ∷ (steps ++ step ∷ [])) - 1 ≡ suc (length (steps ++ step ∷ []) - 1) = omega (arith, long) in
    ap (slice_get (first ∷ (steps ++ step ∷ []))) more ∙ last_pushed steps step

-- a path ends with its last step's object
pub end_of-with_step : (path : Path) (step : Step2) → end_of (with_step path step) ≡ step.object
end_of-with_step path step = ap (λ found. unwrap_or (option_map (λ (s : Step2). s.object) found)
    (record { layer = layers.Depth 0; index = 0 })) (last_pushed path.steps step)

-- ---- the paths through the first candidates of a run

module _ (described : Description) (set : List ℕ) (layer : Layer) (path : Path) (first count : ℕ) where
  abbrev through : ℕ → Path
  through place = with_step path (step_to layer (range_with_len first count) place)

  abbrev has_pu : ℕ → Bool
  has_pu place = meets (set_of described layer (slice_index (range_with_len first count) place)) set

  abbrev pub steps_through : ℕ → List Path
  steps_through places = map through (filter has_pu (range_with_len 0 places))

  pub through-more : (out : List Path) (place : ℕ) (found : Bool) (longer : Path) → place < count
      → found ≡ meets (set_of described layer (first + place)) set → found ≡ true
      → longer ≡ with_step path (record { object = record { layer = layer; index = first + place }; position = place })
      → (out ++ steps_through place) ++ longer ∷ [] ≡ out ++ steps_through (place + 1)
  through-more out place found longer within tells yes_a is =
      let here = get_or-range_with_len first count place 0 within in
      let passes : has_pu place ≡ true = ap (λ index. meets (set_of described layer index) set) here ∙ sym tells ∙ yes_a in
      let same : longer ≡ through place = is ∙ ap
      (λ index. with_step path (record { object = record { layer = layer; index = index }; position = place })) (sym here) in
      append_assoc out (steps_through place) (longer ∷ [])
      ∙ ap (λ ps. out ++ ps) (ap (λ p. steps_through place ++ p ∷ []) same
      ∙ sym (map-append through (filter has_pu (range_with_len 0 place)) (place ∷ []))
      ∙ ap (map through) (filter_in_range has_pu place passes))

  pub through-none : (out : List Path) (place : ℕ) (found : Bool) → place < count
      → found ≡ meets (set_of described layer (first + place)) set → found ≡ false
      → out ++ steps_through place ≡ out ++ steps_through (place + 1)
  through-none out place found within tells no_a =
      let here = get_or-range_with_len first count place 0 within in
      ap (λ ps. out ++ map through ps) (filter_out_range has_pu place
      (ap (λ index. meets (set_of described layer index) set) here ∙ sym tells ∙ no_a))

  pub through-all : (places : ℕ) → places ≡ count → candidates described layer (set_of described (end_of path).layer (end_of path).index)
      ≡ range_with_len first count → steps_through places ≡ extended described set layer path
  unfolding extended
  through-all places all run =
      let among = λ (c : List ℕ). map (λ place. with_step path (step_to layer c place))
      (filter (λ place. meets (set_of described layer (slice_index c place)) set) (range_with_len 0 (length c))) in
      ap steps_through (all ∙ sym (length-range_with_len first count)) ∙ sym (ap among run)

-- ---- a path more

pub extended-more : {X : Type 0} (f : X → List Path) (xs : List X) (i : ℕ) (x : X) (out : List Path) → i < length xs → x ≡ get_or xs i x
    → out ≡ flat_map f (take i xs) → out ++ f x ≡ flat_map f (take (i + 1) xs)
extended-more f xs i x out within here so_far =
    ap (λ ys. ys ++ f x) so_far ∙ flat_map_more f [] (take i xs) x ∙ ap (λ y. flat_map f (take i xs ++ y ∷ [])) here
    ∙ ap (flat_map f) (sym (take_more xs i x within))
