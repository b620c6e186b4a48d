-- Physical numbers of objects, as `indexes` gives them, and what is wrong with them.
use Rattle.std.specs.Prelude.{
  ℕ,
  ◌-◌,
  ◌*◌,
  ◌/◌,
  ◌%◌,
  ◌^◌,
  ◌==◌,
  ◌||◌,
  Bool,
  nat_le,
  nat_lt,
  min,
  sum,
  filter,
  List,
  [],
  length,
  map,
  take,
  slice_index,
  Option,
  Some,
  option_map,
  find,
  if◌then◌else◌,
}
use Rattle.std.specs.List.{range_with_len}
use Rattle.cpu_set.specs.Sets.{set_limit, has}
use Rattle.synth_text.specs.declared.description.Loop.{Loop}
use Rattle.synth_text.specs.declared.description.Indexes.{Indexes}
use Rattle.synth_text.specs.declared.description.Indexes.TheVariants as indexes
use Rattle.synth_text.specs.Rules.{product}
use Rattle.topo_tree.specs.declared.fault.BuildFault.{BuildFault}
use Rattle.topo_tree.specs.declared.fault.BuildFault.TheVariants as faults

-- the product of the counts of loops
abbrev pub loop_product : List Loop → ℕ
loop_product loops = product (map (λ given. given.count) loops)

-- What the loop at a place adds to the number of object j: ((j / step) mod count) times the product of the counts of the
-- loops before it.
abbrev pub loop_part : List Loop → ℕ → ℕ → ℕ
loop_part loops object place =
    object / slice_index (map (λ given. given.step) loops) place % slice_index (map (λ given. given.count) loops) place * loop_product
    (take place loops)

-- the number that loops give an object: the sum of what each of them adds
unfoldable pub loops_number : List Loop → ℕ → ℕ
loops_number loops object = sum (map (loop_part loops object) (range_with_len 0 (length loops)))

-- the loops of more than one number: the others add nothing
abbrev pub counting_loops : List Loop → List Loop
counting_loops loops = filter (λ given. nat_lt 1 given.count) loops

-- those of indexes, where these are loops
abbrev pub counting_loops_in : Indexes → List Loop
counting_loops_in indexes.Ordered = []
counting_loops_in (indexes.List numbers) = []
counting_loops_in (indexes.Loops loops) = counting_loops loops

-- the physical number of an object
abbrev pub number_of : Indexes → ℕ → ℕ
number_of indexes.Ordered object = object
number_of (indexes.List numbers) object = slice_index numbers object
number_of (indexes.Loops loops) object = loops_number loops object

-- the physical numbers of so many objects, in order
unfoldable pub numbers_of : Indexes → ℕ → List ℕ
numbers_of given count = map (number_of given) (range_with_len 0 count)

-- how many objects the indexes are for, where there are so many
abbrev pub index_count : Indexes → ℕ → ℕ
index_count indexes.Ordered count = count
index_count (indexes.List numbers) count = length numbers
index_count (indexes.Loops loops) count = loop_product loops

-- whether the number at a place is too large, or stood before
abbrev pub is_bad : List ℕ → ℕ → Bool
is_bad numbers place = nat_le set_limit (slice_index numbers place) || has (take place numbers) (slice_index numbers place)

-- that it is too large comes before that it stood before
abbrev pub number_fault : ℕ → BuildFault
number_fault number = if nat_le set_limit number then faults.IndexRange number else faults.IndexTwice number

-- the fault of the first bad number from the left
unfoldable pub first_fault : List ℕ → Option BuildFault
first_fault numbers =
    option_map (λ place. number_fault (slice_index numbers place)) (find (is_bad numbers) (range_with_len 0 (length numbers)))

-- the first broken rule on the indexes of so many objects; a length or product over 4,294,967,295 is given as that
unfoldable pub indexes_fault : Indexes → ℕ → Option BuildFault
indexes_fault given count =
    if index_count given count == count then first_fault (numbers_of given count) else Some
    (faults.IndexCount (min (index_count given count) (2 ^ 32 - 1)) count)
