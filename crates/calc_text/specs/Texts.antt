-- How an answer on a set is printed (after hwloc-calc's `--intersect`, `--number-of`, `--hierarchical`, `--largest`,
-- `--physical`, `--taskset` and `--sep`). 46 is a dot, 58 a colon.
use Rattle.std.specs.Prelude.{ℕ, zero, suc, ◌==◌, ◌++◌, Bool, true, false, List, [], ◌∷◌, length, codes, decimal, Option, unwrap_or}
use Rattle.std.specs.Prelude.{if◌then◌else◌}
use Rattle.std.specs.List.{join_by}
use Rattle.cpu_set.specs.Texts.{hex_text, taskset_text}
use Rattle.synth_text.specs.declared.kind.Kind.{Kind}
use Rattle.synth_text.specs.declared.kind.Kind.TheVariants.{Group, NumaNode}
use Rattle.synth_text.specs.declared.description.Description.{Description}
use Rattle.synth_text.specs.Kinds.{long_name_of}
use Rattle.topo_tree.specs.declared.layer.Layer.{Layer}
use Rattle.topo_tree.specs.declared.layer.Layer.TheVariants as layers
use Rattle.topo_tree.specs.declared.layer.Object.{Object}
use Rattle.topo_tree.specs.Objects.{kind_at}
use Rattle.topo_tree.specs.Coverage.{physical_of}
use Rattle.topo_tree.specs.Lines.{group_number}
use Rattle.calc_query.specs.declared.query.Numbering.{Numbering}
use Rattle.calc_query.specs.declared.query.Numbering.TheVariants as numberings
use Rattle.calc_query.specs.declared.query.Step2.{Step2}
use Rattle.calc_query.specs.declared.query.Path.{Path}
use Rattle.calc_query.specs.Answers.{intersecting, chains, largest}
use Rattle.calc_text.specs.declared.answer.AnswerKind.{AnswerKind}
use Rattle.calc_text.specs.declared.answer.AnswerKind.TheVariants as answers

-- ---- objects

-- the long name of an object; a Group has its level's number behind it
abbrev pub long_name : Kind → ℕ → List ℕ
long_name Group number = long_name_of Group ++ decimal number
long_name kind number = long_name_of kind

-- the name of a layer's objects
abbrev pub layer_name : Description → Layer → List ℕ
layer_name described (layers.Depth depth) = long_name (kind_at described depth) (group_number described depth)
layer_name described layers.Memory = long_name_of NumaNode

-- PUs and nodes of memory have physical numbers of their own
abbrev pub has_numbers : Description → Layer → Bool
has_numbers described (layers.Depth depth) = depth == length described.levels
has_numbers described layers.Memory = true

-- the number that is shown of an object: this one, or its physical one where that is asked for and it has one
abbrev pub shown_number : Description → Numbering → Object → ℕ → ℕ
shown_number described numberings.Logical object number = number
shown_number described numberings.Physical object number =
    if has_numbers described object.layer then physical_of described object.layer object.index else number

-- a name, a colon and the number
unfoldable pub label : Description → Numbering → Object → ℕ → List ℕ
label described numbering object number =
    layer_name described object.layer ++ 58 ∷ decimal (shown_number described numbering object number)

-- ---- items of an answer

-- the number of an object of a layer
abbrev pub index_text : Description → Numbering → Layer → ℕ → List ℕ
index_text described numbering layer index =
    decimal (shown_number described numbering (record { layer = layer; index = index }) index)

abbrev pub object_text : Description → Numbering → Object → List ℕ
object_text described numbering object = label described numbering object object.index

abbrev pub step_text : Description → Numbering → Step2 → List ℕ
step_text described numbering step = label described numbering step.object step.position

-- the steps of a path, with a dot between each two
abbrev pub path_text : Description → Numbering → Path → List ℕ
path_text described numbering path = join_by (step_text described numbering) (46 ∷ []) path.steps

-- what stands before the item at a place: nothing before the first one
abbrev pub gap : ℕ → List ℕ → List ℕ
gap zero separator = []
gap (suc place) separator = separator

-- ---- answers

-- a set, in taskset's form or in hexadecimal
abbrev pub set_text : (taskset : Bool) → List ℕ → List ℕ
set_text false set = hex_text set
set_text true set = taskset_text set

-- what stands between two items where no separator is given: a comma between numbers, and else a space
abbrev pub between : Option (List ℕ) → List ℕ → List ℕ
between separator other = unwrap_or separator other

-- the text of an answer, without a line end
unfoldable pub answer_text : Description → List ℕ → AnswerKind → Numbering → (taskset : Bool) → (separator : Option (List ℕ))
    → List ℕ
answer_text described set answers.Set numbering taskset separator = set_text taskset set
answer_text described set (answers.Objects layer) numbering taskset separator =
    join_by (index_text described numbering layer) (between separator (codes ",")) (intersecting described set layer)
answer_text described set (answers.Count layer) numbering taskset separator = decimal (length (intersecting described set layer))
answer_text described set (answers.Chains layers) numbering taskset separator =
    join_by (path_text described numbering) (between separator (codes " ")) (chains described set layers)
answer_text described set answers.Largest numbering taskset separator =
    join_by (object_text described numbering) (between separator (codes " ")) (largest described set)
