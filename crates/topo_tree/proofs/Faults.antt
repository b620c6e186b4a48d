-- The first bad number of a list, and the faults of indexes.
use Rattle.std.proofs.Common.{
  ◌≡◌,
  ◌≢◌,
  ℕ,
  zero,
  suc,
  ◌+◌,
  ◌-◌,
  ◌^◌,
  ◌<◌,
  ◌≤◌,
  min,
  Bool,
  true,
  false,
  ◌||◌,
  cond,
  nat_le,
  List,
  length,
  map,
  take,
  slice_index,
  Option,
  Some,
  None,
  refl,
  sym,
  ap,
  ◌∙◌,
  subst,
  inl,
  inr,
  arith,
  eq-eqb,
  Decides,
}
use Rattle.std.specs.Option.{option_map}
use Rattle.std.specs.List.{range_with_len, find, Contains}
use Rattle.std.proofs.lemmas.Bool.{cases_lt, ne_eqb}
use Rattle.std.proofs.lemmas.Bool.Decides.{nat_tests, same_from_decides}
use Rattle.std.proofs.lemmas.List.FromFn.{take-map-range_with_len, get_or-map-range_with_len, length-map-range_with_len}
use Rattle.cpu_set.specs.Sets.{has, numbers_where}
use Rattle.cpu_set.specs.SetLaws.{has-numbers_below, Decides-has}
use Rattle.synth_text.specs.declared.description.Indexes.{Indexes}
use Rattle.synth_text.specs.declared.description.Indexes.TheVariants as indexes
use Rattle.topo_tree.specs.declared.fault.BuildFault.TheVariants as faults
use Rattle.topo_tree.specs.Numbers.{number_of, numbers_of, index_count, is_bad, number_fault, first_fault, indexes_fault}

-- ---- the first place that passes

pub find_first : (p : ℕ → Bool) (count start place : ℕ) → start ≤ place → place < start + count → p place ≡ true
    → ((k : ℕ) → start ≤ k → k < place → p k ≡ false) → find p (range_with_len start count) ≡ Some place
find_first p zero start place low high passes none = absurd (omega arith)
find_first p (suc count) start place low high passes none =
    elim (cases_lt start place) [
      | inl later ↦ ap (λ b. cond b (Some start) (find p (range_with_len (start + 1) count))) (none start (omega arith) later)
          ∙ find_first p count (start + 1) place (omega arith) (omega arith) passes (λ k from to. none k (omega arith) to)
      | inr here ↦ let same : start ≡ place = omega arith in
          ap (λ b. cond b (Some start) (find p (range_with_len (start + 1) count))) (ap p same ∙ passes) ∙ ap (λ k. Some k) same
    ]

pub find_none : (p : ℕ → Bool) (count start : ℕ) → ((k : ℕ) → start ≤ k → k < start + count → p k ≡ false)
    → find p (range_with_len start count) ≡ None
find_none p zero start none = refl
find_none p (suc count) start none =
    ap (λ b. cond b (Some start) (find p (range_with_len (start + 1) count))) (none start (omega arith) (omega arith))
    ∙ find_none p count (start + 1) (λ k from to. none k (omega arith) (omega arith))

-- nothing passes where nothing is found
found_none : (b : Bool) (start : ℕ) (rest : Option ℕ) → cond b (Some start) rest ≡ None → (b ≡ false) × (rest ≡ None)
found_none true start rest none = absurd (cc)
found_none false start rest none = (refl, none)

pub find_none_says : (p : ℕ → Bool) (count start : ℕ) → find p (range_with_len start count) ≡ None → (k : ℕ) → start ≤ k → k < start + count
    → p k ≡ false
find_none_says p zero start none k from to = absurd (omega arith)
find_none_says p (suc count) start none k from to =
    let parts = found_none (p start) start (find p (range_with_len (start + 1) count)) none in
    elim (cases_lt start k) [
      | inl later ↦ find_none_says p count (start + 1) parts.1 k (omega arith) (omega arith)
      | inr here ↦ let same : k ≡ start = omega arith in ap p same ∙ parts.0
    ]

-- ---- the first bad number

pub first_fault_at : (numbers : List ℕ) (place : ℕ) → place < length numbers → is_bad numbers place ≡ true
    → ((k : ℕ) → k < place → is_bad numbers k ≡ false) → first_fault numbers ≡ Some (number_fault (slice_index numbers place))
unfolding first_fault
first_fault_at numbers place within bad good =
    ap (λ found. option_map (λ k. number_fault (slice_index numbers k)) found)
    (find_first (is_bad numbers) (length numbers) 0 place (omega arith) (omega arith) bad (λ k from to. good k to))

pub first_fault_none : (numbers : List ℕ) → ((k : ℕ) → k < length numbers → is_bad numbers k ≡ false) → first_fault numbers ≡ None
unfolding first_fault
first_fault_none numbers good =
    ap (λ found. option_map (λ k. number_fault (slice_index numbers k)) found)
    (find_none (is_bad numbers) (length numbers) 0 (λ k from to. good k (omega arith)))

mapped_none : {A B : Type 0} (f : A → B) (o : Option A) → option_map f o ≡ None → o ≡ None
mapped_none f None none = refl
mapped_none f (Some x) none = absurd (cc)

pub good_numbers : (numbers : List ℕ) → first_fault numbers ≡ None → (k : ℕ) → k < length numbers → is_bad numbers k ≡ false
unfolding first_fault
good_numbers numbers none k within =
    find_none_says (is_bad numbers) (length numbers) 0 (mapped_none (λ place. number_fault (slice_index numbers place)) _ none) k
    (omega arith) (omega arith)

-- ---- numbers of indexes

pub length-numbers_of : (given : Indexes) (count : ℕ) → length (numbers_of given count) ≡ count
unfolding numbers_of
length-numbers_of given count = length-map-range_with_len (number_of given) 0 count

pub number_at : (given : Indexes) (count object : ℕ) → object < count → slice_index (numbers_of given count) object ≡ number_of given object
unfolding numbers_of
number_at given count object within = get_or-map-range_with_len (number_of given) 0 count object object 0 within (omega arith)

pub numbers_before : (given : Indexes) (count object : ℕ) → object < count
    → take object (numbers_of given count) ≡ map (number_of given) (range_with_len 0 object)
unfolding numbers_of
numbers_before given count object within = take-map-range_with_len (number_of given) 0 count object (omega arith)

-- what the loop tests of an object
pub bad_at : (given : Indexes) (count object : ℕ) → object < count
    → is_bad (numbers_of given count) object
    ≡ (nat_le 4096 (number_of given object) || has (map (number_of given) (range_with_len 0 object)) (number_of given object))
bad_at given count object within =
    ap (λ n. nat_le 4096 n || has (take object (numbers_of given count)) n) (number_at given count object within)
    ∙ ap (λ before. nat_le 4096 (number_of given object) || has before (number_of given object)) (numbers_before given count object within)

pub at_least : (n : ℕ) → 4096 ≤ n → nat_le 4096 n ≡ true
at_least n high = grind (arith, nat_tests)

pub at_most : (n : ℕ) → n < 4096 → nat_le 4096 n ≡ false
at_most n low = grind (arith, nat_tests)

-- ---- faults of indexes

pub fault_of_numbers : (given : Indexes) (count : ℕ) → index_count given count ≡ count
    → indexes_fault given count ≡ first_fault (numbers_of given count)
unfolding indexes_fault
fault_of_numbers given count same =
    ap (λ b. cond b (first_fault (numbers_of given count)) (Some (faults.IndexCount (min (index_count given count) (2 ^ 32 - 1)) count)))
    (eq-eqb (index_count given count) count same)

pub fault_of_count : (given : Indexes) (count : ℕ) → count ≤ 4096 → min (index_count given count) (2 ^ 32 - 1) ≢ count
    → indexes_fault given count ≡ Some (faults.IndexCount (min (index_count given count) (2 ^ 32 - 1)) count)
unfolding indexes_fault
fault_of_count given count few other =
    let differ : index_count given count ≢ count = λ same. other (omega arith) in
    ap (λ b. cond b (first_fault (numbers_of given count)) (Some (faults.IndexCount (min (index_count given count) (2 ^ 32 - 1)) count)))
    (ne_eqb (index_count given count) count differ)

-- the count of the indexes, where it isn't over the limit
pub uncapped : (found count : ℕ) → count ≤ 4096 → min found (2 ^ 32 - 1) ≡ count → found ≡ count
uncapped found count few same = omega arith

pub widened : (given : Indexes) (count : ℕ) → count ≤ 4096 → index_count given count ≡ count → (count ≤ index_count given 4096)
    × (index_count given 4096 ≤ 4096)
widened indexes.Ordered count few same = (few, omega arith)
widened (indexes.List numbers) count few same = (omega arith, omega arith)
widened (indexes.Loops loops) count few same = (omega arith, omega arith)

-- a number that is too large, or that stood before
pub range_fault : (given : Indexes) (count object : ℕ) → index_count given count ≡ count → object < count
    → ((k : ℕ) → k < object → is_bad (numbers_of given count) k ≡ false) → 4096 ≤ number_of given object
    → indexes_fault given count ≡ Some (faults.IndexRange (number_of given object))
range_fault given count object same within good high =
    let large = at_least (number_of given object) high in
    fault_of_numbers given count same
    ∙ first_fault_at (numbers_of given count) object (subst (λ n. object < n) (sym (length-numbers_of given count)) within)
    (bad_at given count object within ∙ ap (λ b. b || has (map (number_of given) (range_with_len 0 object)) (number_of given object)) large)
    good
    ∙ ap (λ n. Some (number_fault n)) (number_at given count object within)
    ∙ ap (λ b. Some (cond b (faults.IndexRange (number_of given object)) (faults.IndexTwice (number_of given object)))) large

pub twice_fault : (given : Indexes) (count object : ℕ) → index_count given count ≡ count → object < count
    → ((k : ℕ) → k < object → is_bad (numbers_of given count) k ≡ false) → number_of given object < 4096
    → has (map (number_of given) (range_with_len 0 object)) (number_of given object) ≡ true
    → indexes_fault given count ≡ Some (faults.IndexTwice (number_of given object))
twice_fault given count object same within good low before =
    let small = at_most (number_of given object) low in
    fault_of_numbers given count same
    ∙ first_fault_at (numbers_of given count) object (subst (λ n. object < n) (sym (length-numbers_of given count)) within)
    (bad_at given count object within
    ∙ ap (λ b. b || has (map (number_of given) (range_with_len 0 object)) (number_of given object)) small ∙ before) good
    ∙ ap (λ n. Some (number_fault n)) (number_at given count object within)
    ∙ ap (λ b. Some (cond b (faults.IndexRange (number_of given object)) (faults.IndexTwice (number_of given object)))) small

pub good_more : (given : Indexes) (count object : ℕ) → object < count → ((k : ℕ) → k < object → is_bad (numbers_of given count) k ≡ false)
    → number_of given object < 4096 → has (map (number_of given) (range_with_len 0 object)) (number_of given object) ≡ false → (k : ℕ)
    → k < object + 1 → is_bad (numbers_of given count) k ≡ false
good_more given count object within good low new k to =
    elim (cases_lt k object) [
      | inl before ↦ good k before
      | inr here ↦ let same : k ≡ object = omega arith in
          ap (is_bad (numbers_of given count)) same ∙ bad_at given count object within
          ∙ ap (λ b. b || has (map (number_of given) (range_with_len 0 object)) (number_of given object))
          (at_most (number_of given object) low) ∙ new
    ]

pub no_fault : (given : Indexes) (count : ℕ) → index_count given count ≡ count
    → ((k : ℕ) → k < count → is_bad (numbers_of given count) k ≡ false) → indexes_fault given count ≡ None
no_fault given count same good =
    fault_of_numbers given count same ∙ first_fault_none (numbers_of given count)
    (λ k within. good k (subst (λ n. k < n) (length-numbers_of given count) within))

-- what no fault says
pub all_good : (given : Indexes) (count : ℕ) → index_count given count ≡ count → indexes_fault given count ≡ None → (k : ℕ)
    → k < length (numbers_of given count) → is_bad (numbers_of given count) k ≡ false
all_good given count same none k within = good_numbers (numbers_of given count) (sym (fault_of_numbers given count same) ∙ none) k within

-- a set of the numbers so far has what these have
pub has-so_far : (numbers : List ℕ) (n : ℕ) → n < 4096 → has (numbers_where (has numbers)) n ≡ has numbers n
has-so_far numbers n low = has-numbers_below 4096 (has numbers) n low

-- what a set of the numbers so far says of a number
pub seen_before : (answer : Bool) (seen numbers : List ℕ) (n : ℕ) → Decides answer (Contains seen n) → seen ≡ numbers_where (has numbers)
    → n < 4096 → has numbers n ≡ answer
seen_before answer seen numbers n decides is low =
    sym (has-so_far numbers n low) ∙ ap (λ s. has s n) (sym is) ∙ same_from_decides (has seen n) answer (Decides-has seen n) decides
