-- The rules on all items of a text together, and what the items describe.
use Rattle.std.specs.Prelude.{
  ℕ,
  ◌+◌,
  ◌*◌,
  Bool,
  false,
  ◌&&◌,
  ◌||◌,
  not,
  ◌==◌,
  nat_lt,
  List,
  [],
  ◌∷◌,
  ◌++◌,
  length,
  take,
  map,
  Option,
  Some,
  None,
  option_map,
  is_some,
  Result,
  Ok,
  Err,
  if◌then◌else◌,
}
use Rattle.std.specs.List.{list_any, filter_map}
use Rattle.synth_text.specs.declared.kind.Kind.{Kind}
use Rattle.synth_text.specs.declared.kind.Kind.TheVariants.{Group, Pu}
use Rattle.synth_text.specs.declared.description.Level.{Level}
use Rattle.synth_text.specs.declared.description.Memory.{Memory}
use Rattle.synth_text.specs.declared.description.Description.{Description}
use Rattle.synth_text.specs.declared.fault.SynthRule.{SynthRule}
use Rattle.synth_text.specs.declared.fault.SynthRule.TheVariants as rules
use Rattle.synth_text.specs.declared.parts.Nodes.{Nodes}
use Rattle.synth_text.specs.declared.parts.Placed.{Placed}
use Rattle.synth_text.specs.Limits.{level_limit, pu_limit, object_limit}
use Rattle.synth_text.specs.Kinds.{same_kind}

-- ---- what the items describe

-- the levels, in order
abbrev pub levels_of : List Placed → List Level
levels_of parts = filter_map (λ item. item.part.level) parts

-- whether an item gives a level
abbrev pub is_level : Placed → Bool
is_level item = is_some item.part.level

-- whether an item has nodes of memory
abbrev pub has_nodes : Placed → Bool
has_nodes item = is_some item.part.nodes

-- how many levels an item gives
abbrev pub level_count : Option Level → ℕ
level_count None = 0
level_count (Some level) = 1

abbrev pub memory_at : ℕ → Option Nodes → Option Memory → Option Memory
memory_at above None others = others
memory_at above (Some nodes) others = Some (record { above = above; size = nodes.size; indexes = nodes.indexes })

-- the memory of the first item that has one, where so many levels stand before these items
abbrev pub memory_in : ℕ → List Placed → Option Memory
memory_in before [] = None
memory_in before (item ∷ items) =
    memory_at (before + level_count item.part.level) item.part.nodes (memory_in (before + level_count item.part.level) items)

abbrev pub description_of : List Placed → Description
description_of parts = record { levels = levels_of parts; memory = memory_in 0 parts }

-- ---- how many objects there are

abbrev pub arities : List Level → List ℕ
arities levels = map (λ level. level.arity) levels

-- how many objects the last level has under one object above the first
abbrev pub product : List ℕ → ℕ
product [] = 1
product (arity ∷ below) = arity * product below

-- an object and all objects under it, with so many children at each level
abbrev pub tree_size : List ℕ → ℕ
tree_size [] = 1
tree_size (arity ∷ below) = 1 + arity * tree_size below

-- how many nodes of memory there are: one at each object of the level that carries them
abbrev pub node_count : List Level → Option Memory → ℕ
node_count levels None = 0
node_count levels (Some memory) = product (take memory.above (arities levels))

-- how many PUs there are
abbrev pub pu_count : Description → ℕ
pu_count described = product (arities described.levels)

-- how many objects there are, Machine and the nodes of memory included
abbrev pub object_count : Description → ℕ
object_count described = tree_size (arities described.levels) + node_count described.levels described.memory

-- ---- the rules, in their order

-- whether there is a level, of this kind
abbrev pub has_kind : Kind → Option Level → Bool
has_kind kind None = false
has_kind kind (Some level) = same_kind level.kind kind

-- whether one of the items gives a level of this kind
abbrev pub any_of_kind : Kind → List Placed → Bool
any_of_kind kind items = list_any (λ item. has_kind kind item.part.level) items

-- whether a level is of a kind other than Group that a level before it has
abbrev pub is_kind_again : List Placed → Option Level → Bool
is_kind_again before None = false
is_kind_again before (Some level) = not (same_kind level.kind Group) && any_of_kind level.kind before

-- whether an item repeats a kind, or attaches a second memory
abbrev pub is_again : List Placed → Placed → Bool
is_again before item = (has_nodes item && list_any has_nodes before) || is_kind_again before item.part.level

-- where the first such item behind others begins
abbrev pub first_again : List Placed → List Placed → Option ℕ
first_again before [] = None
first_again before (item ∷ items) = if is_again before item then Some item.at else first_again (before ++ item ∷ []) items

-- the items from the last level item on
abbrev pub from_last : List Placed → List Placed
from_last [] = []
from_last (item ∷ items) = if list_any is_level items then from_last items else item ∷ items

-- where the last level item begins if it isn't of PUs, else the memory item behind it
abbrev pub wrong_end : List Placed → Option ℕ
wrong_end [] = None
wrong_end (last ∷ []) = if has_kind Pu last.part.level then None else Some last.at
wrong_end (last ∷ behind ∷ others) = if has_kind Pu last.part.level then Some behind.at else Some last.at

-- a rule is broken where a test says so
abbrev pub when : Bool → SynthRule → Option SynthRule
when test rule = if test then Some rule else None

abbrev pub first_of : List (Option SynthRule) → Option SynthRule
first_of [] = None
first_of (None ∷ others) = first_of others
first_of (Some rule ∷ others) = Some rule

-- too many PUs or objects
abbrev pub is_large : Description → Bool
is_large described = nat_lt pu_limit (pu_count described) || nat_lt object_limit (object_count described)

-- the first broken rule on the items themselves
unfoldable pub broken_items : List Placed → Option SynthRule
broken_items parts =
    first_of
    (when (length (levels_of parts) == 0) rules.Empty
    ∷ option_map (λ at. rules.RepeatedType at) (first_again [] parts)
    ∷ option_map (λ at. rules.LastNotPu at) (wrong_end (from_last parts))
    ∷ when (nat_lt level_limit (length (levels_of parts))) rules.TooManyLevels
    ∷ [])

-- the first broken rule: those on the items go before the one on what they describe
unfoldable pub broken : List Placed → Option SynthRule
broken parts = first_of (broken_items parts ∷ when (is_large (description_of parts)) rules.TooManyObjects ∷ [])

-- the rule that a check found broken, if it found one
abbrev pub found_by : {A : Type 0} → Result A SynthRule → Option SynthRule
found_by (Ok nothing) = None
found_by (Err rule) = Some rule

-- the description, where no rule is broken
abbrev pub unless_broken : Option SynthRule → Description → Result Description SynthRule
unless_broken None described = Ok described
unless_broken (Some rule) described = Err rule
