-- What the laws of this crate say, each shown by the function that cites it.
use Rattle.std.specs.Prelude.{◌≡◌, ◌&&◌, ℕ, Bool, true, List, [], ◌∷◌, All, count_by, if◌then◌else◌}
use Rattle.std.specs.List.{list_any}
use Rattle.cpu_set.specs.Sets.{has}
use Rattle.cpu_set.specs.Tests.{meets, is_inside}
use Rattle.synth_text.specs.declared.description.Description.{Description}
use Rattle.topo_tree.specs.declared.layer.Layer.{Layer}
use Rattle.topo_tree.specs.declared.layer.Layer.TheVariants as layers
use Rattle.topo_tree.specs.declared.layer.Object.{Object}
use Rattle.topo_tree.specs.Building.{IsBuilt}
use Rattle.topo_tree.specs.Coverage.{set_of}
use Rattle.topo_tree.specs.Order.{tree_order}
use Rattle.calc_query.specs.declared.query.Numbering.{Numbering}
use Rattle.calc_query.specs.declared.query.Step2.{Step2}
use Rattle.calc_query.specs.Selection.{selected}
use Rattle.calc_query.specs.Answers.{chains, largest}

-- No term selects nothing.
abbrev pub NoTermsSelectNothing : Type 0
NoTermsSelectNothing = (described : Description) (numbering : Numbering) → selected described numbering [] ≡ []

-- each step's object lies inside the one before, and has a PU of the set
abbrev pub IsChain : Description → List ℕ → Object → List Step2 → Type 0
IsChain described set outer [] = Unit {0}
IsChain described set outer (step ∷ steps) =
    (is_inside (set_of described step.object.layer step.object.index) (set_of described outer.layer outer.index) ≡ true)
    × (meets (set_of described step.object.layer step.object.index) set ≡ true)
    × IsChain described set step.object steps

-- Each path of a hierarchical answer is a chain inside Machine.
abbrev pub PathsAreChains : Type 0
PathsAreChains =
    (described : Description) (set : List ℕ) (asked : List Layer)
    → All (λ path. IsChain described set (record { layer = layers.Depth 0; index = 0 }) path.steps) (chains described set asked)

-- whether an object has a number and the set has all PUs of it
abbrev pub is_whole : Description → List ℕ → ℕ → Object → Bool
is_whole described set number object =
    is_inside (set_of described object.layer object.index) set && has (set_of described object.layer object.index) number

-- A number that some object has whose PUs the set has all is in just one of the largest objects, and any other number in none:
-- the largest objects are disjoint, and make up all whole objects inside the set.
abbrev pub LargestMakeUpWholeObjects : Type 0
LargestMakeUpWholeObjects =
    (described : Description) (set : List ℕ) (number : ℕ) → IsBuilt described
    → count_by (λ object. has (set_of described object.layer object.index) number) (largest described set)
    ≡ (if list_any (is_whole described set number) (tree_order described) then 1 else 0)
