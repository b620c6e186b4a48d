-- The answers name objects of the topology alone.
use Rattle.std.proofs.Common.{ℕ, ◌<◌, Bool, List, [], ◌∷◌, length, slice_index, arith}
use Rattle.std.specs.List.{All, AllByRecursion, filter, fold, flat_map, range_with_len}
use Rattle.std.proofs.lemmas.List.Elements.{All-from_recursion, All-get_or, All-nil, All-push}
use Rattle.cpu_set.specs.Tests.{meets, is_inside}
use Rattle.synth_text.specs.declared.description.Description.{Description}
use Rattle.topo_tree.specs.declared.layer.Layer.{Layer}
use Rattle.topo_tree.specs.Objects.{count_of, IsLayer, IsObject}
use Rattle.topo_tree.specs.Coverage.{set_of}
use Rattle.calc_query.specs.declared.query.Step2.{Step2}
use Rattle.calc_query.specs.declared.query.Path.{Path}
use Rattle.calc_query.specs.Candidates.{candidates}
use Rattle.calc_query.specs.Answers.{end_of, step_to, with_step, extended, chains, intersecting}
use Rattle.calc_query.proofs.Kept.{Passes, all_flat, all_mapped, kept_pass}

first_halves : (test : ℕ → Bool) (limit : ℕ) (xs : List ℕ) → AllByRecursion (Passes test limit) xs → AllByRecursion (λ x. x < limit) xs
first_halves test limit [] all = tt
first_halves test limit (x ∷ xs) all = (all.0.0, first_halves test limit xs all.1)

-- what a filter leaves of the numbers below a limit
pub kept_below : (test : ℕ → Bool) (limit : ℕ) → All (λ x. x < limit) (filter test (range_with_len 0 limit))
kept_below test limit =
    All-from_recursion (λ (x : ℕ). x < limit) (filter test (range_with_len 0 limit))
    (first_halves test limit (filter test (range_with_len 0 limit)) (kept_pass test limit 0 limit (omega arith)))

module _ (described : Description) (set : List ℕ) where
  pub intersecting_fit : (layer : Layer) → All (λ index. index < count_of described layer) (intersecting described set layer)
  unfolding intersecting
  intersecting_fit layer = kept_below (λ index. meets (set_of described layer index) set) (count_of described layer)

  abbrev IsStepFit : Step2 → Type 0
  IsStepFit step = IsObject described step.object

  abbrev IsFit : Path → Type 0
  IsFit path = All IsStepFit path.steps

  candidate_fit : (layer : Layer) (outer : List ℕ) (place : ℕ) → place < length (candidates described layer outer)
      → slice_index (candidates described layer outer) place < count_of described layer
  unfolding candidates
  candidate_fit layer outer place within =
      All-get_or (λ (index : ℕ). index < count_of described layer)
      (filter (λ index. is_inside (set_of described layer index) outer) (range_with_len 0 (count_of described layer))) place 0 within
      (kept_below (λ index. is_inside (set_of described layer index) outer) (count_of described layer))

  extended_fit : (layer : Layer) → IsLayer described layer → (path : Path) → IsFit path
      → AllByRecursion IsFit (extended described set layer path)
  unfolding extended
  extended_fit layer is_layer path fit =
      let outer = set_of described (end_of path).layer (end_of path).index in
      let among = candidates described layer outer in
      let test : ℕ → Bool = λ place. meets (set_of described layer (slice_index among place)) set in
      all_mapped (Passes test (length among)) IsFit (λ place. with_step path (step_to layer among place)) (λ place passes.
      All-push IsStepFit path.steps (step_to layer among place) fit
      (record { layer = is_layer; index = candidate_fit layer outer place passes.0 }))
      (filter test (range_with_len 0 (length among))) (kept_pass test (length among) 0 (length among) (omega arith))

  abbrev extend_all : List Path → Layer → List Path
  extend_all paths layer = flat_map (extended described set layer) paths

  fold_fit : (asked : List Layer) → AllByRecursion (IsLayer described) asked → (paths : List Path) → AllByRecursion IsFit paths
      → AllByRecursion IsFit (fold extend_all paths asked)
  fold_fit [] are paths fit = fit
  fold_fit (layer ∷ asked) are paths fit =
      fold_fit asked are.1 (extend_all paths layer)
      (all_flat IsFit IsFit (extended described set layer) (extended_fit layer are.0) paths fit)

  pub chains_fit : (asked : List Layer) → AllByRecursion (IsLayer described) asked
      → All (λ path. All (λ step. IsObject described step.object) path.steps) (chains described set asked)
  unfolding chains
  chains_fit asked are =
      let start : Path = record { steps = [] } in
      All-from_recursion IsFit (fold extend_all (start ∷ []) asked) (fold_fit asked are (start ∷ []) (All-nil IsStepFit, tt))
