-- Which answers may be asked for of a topology.
use Rattle.std.specs.List.{AllByRecursion}
use Rattle.synth_text.specs.declared.description.Description.{Description}
use Rattle.topo_tree.specs.Objects.{IsLayer}
use Rattle.calc_text.specs.declared.answer.AnswerKind.{AnswerKind}
use Rattle.calc_text.specs.declared.answer.AnswerKind.TheVariants as answers

-- the layers of an answer are layers of the topology
abbrev pub HasLayers : Description → AnswerKind → Type 0
HasLayers described answers.Set = Unit {0}
HasLayers described (answers.Objects layer) = IsLayer described layer
HasLayers described (answers.Count layer) = IsLayer described layer
HasLayers described (answers.Chains layers) = AllByRecursion (IsLayer described) layers
HasLayers described answers.Largest = Unit {0}
