-- The paths of a hierarchical answer are chains.
use Rattle.std.proofs.Common.{◌≡◌, ℕ, ◌<◌, Bool, true, List, [], ◌∷◌, ◌++◌, length, slice_index}
use Rattle.std.proofs.Common.{refl, sym, subst, ◌∙◌, arith}
use Rattle.std.specs.List.{All, AllByRecursion, filter, fold, flat_map, range_with_len}
use Rattle.std.proofs.lemmas.List.Elements.{filter_passes, All-from_recursion, All-get_or}
use Rattle.cpu_set.specs.Tests.{meets, is_inside}
use Rattle.synth_text.specs.declared.description.Description.{Description}
use Rattle.topo_tree.specs.declared.layer.Layer.{Layer}
use Rattle.topo_tree.specs.declared.layer.Layer.TheVariants as layers
use Rattle.topo_tree.specs.declared.layer.Object.{Object}
use Rattle.topo_tree.specs.Objects.{count_of}
use Rattle.topo_tree.specs.Coverage.{set_of}
use Rattle.calc_query.specs.declared.query.Step2.{Step2}
use Rattle.calc_query.specs.declared.query.Path.{Path}
use Rattle.calc_query.specs.Candidates.{candidates}
use Rattle.calc_query.specs.Answers.{end_of, step_to, with_step, extended, chains}
use Rattle.calc_query.specs.Laws.{IsChain}
use Rattle.calc_query.proofs.ChainLaws.{end_of-with_step}
use Rattle.calc_query.proofs.Kept.{Passes, all_flat, all_mapped, kept_pass}

-- ---- the object that steps behind another end with

abbrev end_behind : Object → List Step2 → Object
end_behind outer [] = outer
end_behind outer (step ∷ steps) = end_behind step.object steps

end_behind-push : (outer : Object) (steps : List Step2) (step : Step2) → end_behind outer (steps ++ step ∷ []) ≡ step.object
end_behind-push outer [] step = refl
end_behind-push outer (first ∷ steps) step = end_behind-push first.object steps step

abbrev machine : Object
machine = record { layer = layers.Depth 0; index = 0 }

module _ (described : Description) (set : List ℕ) where
  abbrev set_in : Object → List ℕ
  set_in object = set_of described object.layer object.index

  longer_chain : (outer : Object) (steps : List Step2) (step : Step2) → IsChain described set outer steps
      → is_inside (set_in step.object) (set_in (end_behind outer steps)) ≡ true → meets (set_in step.object) set ≡ true
      → IsChain described set outer (steps ++ step ∷ [])
  longer_chain outer [] step chain inside meeting = (inside, meeting, tt)
  longer_chain outer (first ∷ steps) step chain inside meeting =
      (chain.0, chain.1, longer_chain first.object steps step chain.2 inside meeting)

  -- a chain inside Machine, with its end as `end_of` finds it
  abbrev IsGood : Path → Type 0
  IsGood path = IsChain described set machine path.steps × (end_of path ≡ end_behind machine path.steps)

  candidate_inside : (layer : Layer) (outer : List ℕ) (place : ℕ) → place < length (candidates described layer outer)
      → is_inside (set_of described layer (slice_index (candidates described layer outer) place)) outer ≡ true
  unfolding candidates
  candidate_inside layer outer place within =
      All-get_or (λ index. is_inside (set_of described layer index) outer ≡ true)
      (filter (λ index. is_inside (set_of described layer index) outer) (range_with_len 0 (count_of described layer))) place 0 within
      (filter_passes (λ index. is_inside (set_of described layer index) outer) (range_with_len 0 (count_of described layer)))

  good_extended : (layer : Layer) (path : Path) → IsGood path → AllByRecursion IsGood (extended described set layer path)
  unfolding extended
  good_extended layer path good =
      let outer = set_in (end_of path) in
      let among = candidates described layer outer in
      let test : ℕ → Bool = λ place. meets (set_of described layer (slice_index among place)) set in
      all_mapped (Passes test (length among)) IsGood (λ place. with_step path (step_to layer among place)) (λ place passes.
      let step : Step2 = step_to layer among place in (
        longer_chain machine path.steps step good.0
            (subst (λ end. is_inside (set_in step.object) (set_in end) ≡ true) good.1 (candidate_inside layer outer place passes.0))
            passes.1,
        end_of-with_step path step ∙ sym (end_behind-push machine path.steps step),
      ))
      (filter test (range_with_len 0 (length among))) (kept_pass test (length among) 0 (length among) (omega arith))

  abbrev extend_all : List Path → Layer → List Path
  extend_all paths layer = flat_map (extended described set layer) paths

  good_fold : (asked : List Layer) (paths : List Path) → AllByRecursion IsGood paths → AllByRecursion IsGood (fold extend_all paths asked)
  good_fold [] paths good = good
  good_fold (layer ∷ asked) paths good = good_fold asked (extend_all paths layer)
      (all_flat IsGood IsGood (extended described set layer) (good_extended layer) paths good)

  first_parts : (paths : List Path) → AllByRecursion IsGood paths → AllByRecursion (λ path. IsChain described set machine path.steps) paths
  first_parts [] good = tt
  first_parts (path ∷ paths) good = (good.0.0, first_parts paths good.1)

  pub all_chains : (asked : List Layer) → All (λ path. IsChain described set machine path.steps) (chains described set asked)
  unfolding chains
  all_chains asked =
      let start : Path = record { steps = [] } in
      All-from_recursion (λ (path : Path). IsChain described set machine path.steps) (fold extend_all (start ∷ []) asked)
      (first_parts (fold extend_all (start ∷ []) asked) (good_fold asked (start ∷ []) ((tt, refl), tt)))
