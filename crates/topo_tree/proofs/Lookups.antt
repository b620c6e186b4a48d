-- What the tables of a topology have at a place.
use Rattle.std.proofs.Common.{
  ◌≡◌,
  ℕ,
  ◌+◌,
  ◌-◌,
  ◌<◌,
  false,
  ◌==◌,
  cond,
  min,
  ◌^◌,
  List,
  length,
  map,
  take,
  get_or,
  slice_index,
  Option,
  Some,
  None,
  IfSome,
  unwrap_or,
  refl,
  sym,
  ap,
  ◌∙◌,
  subst,
  inl,
  inr,
  arith,
}
use Rattle.std.specs.Option.{option_map}
use Rattle.std.proofs.lemmas.Bool.{cases_Bool, eqb-true}
use Rattle.std.proofs.lemmas.List.{length-map, get_or-map}
use Rattle.std.proofs.lemmas.List.FromFn.{length-map-range_with_len, get_or-map-range_with_len}
use Rattle.out_of_memory.specs.Memory.{UnlessMemory}
use Rattle.synth_text.specs.declared.description.Level.{Level}
use Rattle.synth_text.specs.declared.description.Memory.{Memory}
use Rattle.synth_text.specs.declared.description.Description.{Description}
use Rattle.synth_text.specs.declared.description.Indexes.{Indexes}
use Rattle.synth_text.specs.Rules.{arities, product, node_count, pu_count}
use Rattle.synth_text.specs.Sound.{IsSound, IsSoundMemory}
use Rattle.topo_tree.specs.declared.tree.Tree.TheInside.{Inside as TreeInside}
use Rattle.topo_tree.specs.declared.topology.Topology.TheInside.{Inside}
use Rattle.topo_tree.specs.declared.layer.Layer.{Layer}
use Rattle.topo_tree.specs.declared.layer.Layer.TheVariants as layers
use Rattle.topo_tree.specs.declared.fault.BuildFault.{BuildFault}
use Rattle.topo_tree.specs.declared.fault.BuildFault.TheVariants as faults
use Rattle.topo_tree.specs.Objects.{count_of, IsLayer}
use Rattle.topo_tree.specs.Numbers.{numbers_of, index_count, is_bad, first_fault, indexes_fault}
use Rattle.topo_tree.specs.Building.{pu_indexes, node_indexes, pu_numbers, node_numbers, or_next, build_fault, IsBuilt}
use Rattle.topo_tree.specs.Coverage.{set_covered, layer_depth}
use Rattle.topo_tree.specs.TableLists.{depth_counts, sets_covered, depth_sets}
use Rattle.topo_tree.specs.Tables.{IsNumbered, IsTabled}
use Rattle.topo_tree.proofs.Faults.{length-numbers_of, all_good}
use Rattle.topo_tree.proofs.Positions.{good_low}

-- the counts and numbers as those of the description that a tree is seen as
pub record AreNumbered (now : Description) (inside : TreeInside) : Type 0 where
  pub built : IsBuilt now
  pub counts : inside.counts.items ≡ depth_counts now.levels
  pub numbers : inside.numbers.items ≡ pu_numbers now
  pub nodes : inside.nodes.items ≡ node_numbers now

pub numbered : (inside : TreeInside) (now : Description) → IsNumbered inside → inside.description ≡ now → AreNumbered now inside
numbered inside now kept is =
    subst (λ described. AreNumbered described inside) is
    (record { built = kept.built; counts = kept.counts; numbers = kept.numbers; nodes = kept.nodes })

-- the sets as those of the description that a topology is seen as
pub tabled : (inside : Inside) (now : Description) → IsTabled inside → inside.tree ≡ now
    → map (λ depth. depth.items) inside.sets.items ≡ depth_sets (pu_numbers now) now.levels
tabled inside now kept is = subst (λ described. map (λ depth. depth.items) inside.sets.items
    ≡ depth_sets (pu_numbers described) described.levels) is kept

-- ---- how many numbers there are

pub length-pu_numbers : (described : Description) → length (pu_numbers described) ≡ pu_count described
unfolding pu_numbers
length-pu_numbers described = length-numbers_of (pu_indexes described) (pu_count described)

pub length-node_numbers : (described : Description) → length (node_numbers described) ≡ node_count described.levels described.memory
unfolding node_numbers
length-node_numbers described = length-numbers_of (node_indexes described.memory) (node_count described.levels described.memory)

-- ---- the table of counts

pub length-depth_counts : (levels : List Level) → length (depth_counts levels) ≡ length levels + 1
unfolding depth_counts
length-depth_counts levels = length-map-range_with_len (λ depth. product (take depth (arities levels))) 0 (length levels + 1)

pub depth_counts-at : (levels : List Level) (depth d : ℕ) → depth < length levels + 1
    → get_or (depth_counts levels) depth d ≡ product (take depth (arities levels))
unfolding depth_counts
depth_counts-at levels depth d within =
    get_or-map-range_with_len (λ depth. product (take depth (arities levels))) 0 (length levels + 1) depth depth d within (omega arith)

-- ---- the table of sets

pub length-depth_sets : (numbers : List ℕ) (levels : List Level) → length (depth_sets numbers levels) ≡ length levels + 1
unfolding depth_sets
length-depth_sets numbers levels =
    length-map-range_with_len (λ depth. sets_covered numbers (product (take depth (arities levels)))) 0 (length levels + 1)

depth_sets-at : (numbers : List ℕ) (levels : List Level) (depth : ℕ) (d : List (List ℕ)) → depth < length levels + 1
    → get_or (depth_sets numbers levels) depth d ≡ sets_covered numbers (product (take depth (arities levels)))
unfolding depth_sets
depth_sets-at numbers levels depth d within =
    get_or-map-range_with_len (λ depth. sets_covered numbers (product (take depth (arities levels)))) 0
    (length levels + 1) depth depth d within (omega arith)

pub length-sets_covered : (numbers : List ℕ) (count : ℕ) → length (sets_covered numbers count) ≡ count
unfolding sets_covered
length-sets_covered numbers count = length-map-range_with_len (set_covered numbers count) 0 count

pub sets_covered-at : (numbers : List ℕ) (count index : ℕ) (d : List ℕ) → index < count
    → get_or (sets_covered numbers count) index d ≡ set_covered numbers count index
unfolding sets_covered
sets_covered-at numbers count index d within =
    get_or-map-range_with_len (set_covered numbers count) 0 count index index d within (omega arith)

-- how many depths the table has
pub table_length : {V : Type 0} (items : V → List (List ℕ)) (table : List V) (numbers : List ℕ) (levels : List Level)
    → map items table ≡ depth_sets numbers levels → length table ≡ length levels + 1
table_length items table numbers levels same = sym (length-map table items) ∙ ap length same ∙ length-depth_sets numbers levels

-- what the table has at a depth
pub table_at : {V : Type 0} (items : V → List (List ℕ)) (table : List V) (numbers : List ℕ) (levels : List Level) (depth : ℕ) (found : V)
    → map items table ≡ depth_sets numbers levels → depth < length levels + 1 → found ≡ get_or table depth found
    → items found ≡ sets_covered numbers (product (take depth (arities levels)))
table_at items table numbers levels depth found same within here =
    let long = table_length items table numbers levels same in
    ap items here ∙ sym (get_or-map items table depth found (items found) (subst (λ n. depth < n) (sym long) within))
    ∙ ap (λ sets. get_or sets depth (items found)) same ∙ depth_sets-at numbers levels depth (items found) within

-- how many sets the table has at a depth
pub depth_length : {V : Type 0} (items : V → List (List ℕ)) (table : List V) (described : Description) (depth : ℕ) (found : V)
    → map items table ≡ depth_sets (pu_numbers described) described.levels → depth < length described.levels + 1
    → found ≡ get_or table depth found → length (items found) ≡ product (take depth (arities described.levels))
depth_length items table described depth found same within here =
    ap length (table_at items table (pu_numbers described) described.levels depth found same within here)
    ∙ length-sets_covered (pu_numbers described) (product (take depth (arities described.levels)))

-- ---- the places of objects

place_in : (levels : List Level) (memory : Option Memory) (index : ℕ) → IfSome memory (IsSoundMemory (length levels))
    → index < node_count levels memory → (unwrap_or (option_map (λ m. m.above) memory) 0 < length levels + 1)
    × (index < product (take (unwrap_or (option_map (λ m. m.above) memory) 0) (arities levels)))
place_in levels None index sound below = absurd (omega arith)
place_in levels (Some memory) index sound below = (omega (arith, sound.above), below)

pub place_of_object : (described : Description) (layer : Layer) (index : ℕ) → IsSound described → IsLayer described layer
    → index < count_of described layer → (layer_depth described layer < length described.levels + 1)
    × (index < product (take (layer_depth described layer) (arities described.levels)))
place_of_object described (layers.Depth depth) index sound within below = (within, below)
place_of_object described layers.Memory index sound within below = place_in described.levels described.memory index sound.memory below

-- ---- what is known of the numbers

or_next_none : (one next : Option BuildFault) → or_next one next ≡ None → (one ≡ None) × (next ≡ None)
or_next_none None next none = (refl, none)
or_next_none (Some fault) next none = absurd (cc)

counted : (given : Indexes) (count : ℕ) → indexes_fault given count ≡ None → index_count given count ≡ count
unfolding indexes_fault
counted given count none =
    elim (cases_Bool (index_count given count == count)) [
      | inl same ↦ eqb-true (index_count given count) count same
      | inr other ↦
          let refused = sym (ap (λ b. cond b (first_fault (numbers_of given count))
          (Some (faults.IndexCount (min (index_count given count) (2 ^ 32 - 1)) count))) other) ∙ none in
          absurd (cc (refused))
    ]

pub pus_good : (described : Description) → indexes_fault (pu_indexes described) (pu_count described) ≡ None → (k : ℕ)
    → k < length (pu_numbers described) → is_bad (pu_numbers described) k ≡ false
unfolding pu_numbers
pus_good described none k within =
    all_good (pu_indexes described) (pu_count described) (counted (pu_indexes described) (pu_count described) none) none k within

pub pus_numbered : (described : Description) → IsBuilt described → indexes_fault (pu_indexes described) (pu_count described) ≡ None
unfolding build_fault
pus_numbered described built =
    (or_next_none (indexes_fault (node_indexes described.memory) (node_count described.levels described.memory))
    (indexes_fault (pu_indexes described) (pu_count described)) built.numbered).1

pub pus_low : (described : Description) → indexes_fault (pu_indexes described) (pu_count described) ≡ None → (k : ℕ)
    → k < length (pu_numbers described) → slice_index (pu_numbers described) k < 4096
pus_low described none k within = good_low (pu_numbers described) k (pus_good described none k within)

-- ---- refusals

pub first_refused : (described : Description) (fault : BuildFault)
    → UnlessMemory faults.OutOfMemory fault
    (indexes_fault (node_indexes described.memory) (node_count described.levels described.memory) ≡ Some fault)
    → UnlessMemory faults.OutOfMemory fault (build_fault described ≡ Some fault)
unfolding build_fault
first_refused described fault (inl refused) =
    inl (ap (λ one. or_next one (indexes_fault (pu_indexes described) (pu_count described))) refused)
first_refused described fault (inr memory) = inr memory

pub next_refused : (described : Description) (fault : BuildFault)
    → indexes_fault (node_indexes described.memory) (node_count described.levels described.memory) ≡ None
    → UnlessMemory faults.OutOfMemory fault (indexes_fault (pu_indexes described) (pu_count described) ≡ Some fault)
    → UnlessMemory faults.OutOfMemory fault (build_fault described ≡ Some fault)
unfolding build_fault
next_refused described fault none (inl refused) =
    inl (ap (λ one. or_next one (indexes_fault (pu_indexes described) (pu_count described))) none ∙ refused)
next_refused described fault none (inr memory) = inr memory

pub none_refused : (described : Description)
    → indexes_fault (node_indexes described.memory) (node_count described.levels described.memory) ≡ None
    → indexes_fault (pu_indexes described) (pu_count described) ≡ None → build_fault described ≡ None
unfolding build_fault
none_refused described one next = ap (λ o. or_next o (indexes_fault (pu_indexes described) (pu_count described))) one ∙ next
