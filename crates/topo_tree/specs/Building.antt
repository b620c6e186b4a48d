-- What a topology is built from, and what is refused.
use Rattle.std.specs.Prelude.{◌≡◌, ℕ, ◌-◌, List, length, map, slice_index_or, Option, Some, None}
use Rattle.synth_text.specs.declared.description.Indexes.{Indexes}
use Rattle.synth_text.specs.declared.description.Indexes.TheVariants as indexes
use Rattle.synth_text.specs.declared.description.Memory.{Memory}
use Rattle.synth_text.specs.declared.description.Description.{Description}
use Rattle.synth_text.specs.Rules.{node_count, pu_count}
use Rattle.synth_text.specs.Sound.{IsSound}
use Rattle.topo_tree.specs.declared.fault.BuildFault.{BuildFault}
use Rattle.topo_tree.specs.Numbers.{numbers_of, indexes_fault}

-- the indexes of the PUs, which are those of the last level
abbrev pub pu_indexes : Description → Indexes
pu_indexes described = slice_index_or (map (λ level. level.indexes) described.levels) (length described.levels - 1) indexes.Ordered

-- the indexes of the nodes of memory
abbrev pub node_indexes : Option Memory → Indexes
node_indexes None = indexes.Ordered
node_indexes (Some memory) = memory.indexes

-- the physical numbers of the PUs, by their positions
unfoldable pub pu_numbers : Description → List ℕ
pu_numbers described = numbers_of (pu_indexes described) (pu_count described)

-- the physical numbers of the nodes of memory, in order
unfoldable pub node_numbers : Description → List ℕ
node_numbers described = numbers_of (node_indexes described.memory) (node_count described.levels described.memory)

-- the one fault, or else the other
abbrev pub or_next : Option BuildFault → Option BuildFault → Option BuildFault
or_next None next = next
or_next (Some fault) next = Some fault

-- the first broken rule; the memory stands before the PUs in each text
unfoldable pub build_fault : Description → Option BuildFault
build_fault described =
    or_next
    (indexes_fault (node_indexes described.memory) (node_count described.levels described.memory))
    (indexes_fault (pu_indexes described) (pu_count described))

-- what each topology is: a description that a text describes, whose numbers break no rule
pub record IsBuilt (described : Description) : Type 0 where
  pub sound : IsSound described
  pub numbered : build_fault described ≡ None
