-- What the laws of this crate say, each shown by the function that cites it.
use Rattle.std.specs.Prelude.{ℕ, ◌≡◌, ◌+◌, ◌-◌, ◌<◌, ◌≤◌, Bool, ◌⊎◌, ◌↔◌, List, All, Contains, IsTrue, length}
use Rattle.std.specs.List.{AllAdjacentBelow, flat_map, range_with_len}
use Rattle.cpu_set.specs.declared.fault.SetFault.{SetFault}
use Rattle.cpu_set.specs.Sets.{set_limit, IsSet, numbers_where, union, minus, meet, xor}

-- a set has exactly the numbers below the limit that pass its test
pub record HasJust (test : ℕ → Bool) : Type 0 where
  pub set : IsSet (numbers_where test)
  pub members : (number : ℕ) → Contains (numbers_where test) number ↔ ((number < set_limit) × IsTrue (test number))

-- two sets with the same numbers are equal
abbrev pub SameByMembers : List ℕ → List ℕ → Type 0
SameByMembers one other =
    IsSet one → IsSet other → ((number : ℕ) → Contains one number ↔ Contains other number) → one ≡ other

-- the four operations, by membership
pub record CombinesSets (one other : List ℕ) : Type 0 where
  pub union : (number : ℕ) → Contains (union one other) number ↔ (Contains one number ⊎ Contains other number)
  pub minus : (number : ℕ) → Contains (minus one other) number ↔ (Contains one number × ¬ (Contains other number))
  pub meet : (number : ℕ) → Contains (meet one other) number ↔ (Contains one number × Contains other number)
  pub xor : (number : ℕ) → Contains (xor one other) number
      ↔ ((Contains one number × ¬ (Contains other number)) ⊎ (Contains other number × ¬ (Contains one number)))

-- the runs make up the numbers; none is empty, and none goes on in the next
pub record AreMaximalRuns (numbers : List ℕ) (runs : List (ℕ × ℕ)) : Type 0 where
  pub whole : flat_map (λ run. range_with_len run.0 (run.1 + 1 - run.0)) runs ≡ numbers
  pub some : All (λ run. run.0 ≤ run.1) runs
  pub apart : AllAdjacentBelow (λ run next. run.1 + 1 < next.0) runs (length runs)

-- exactly one set or exactly one fault
pub record ExactlyOne (Reads : List ℕ → Type 0) (Refused : SetFault → Type 0) : Type 0 where
  pub some : ((set : List ℕ) × Reads set) ⊎ ((fault : SetFault) × Refused fault)
  pub not_both : (set : List ℕ) (fault : SetFault) → Reads set → ¬ (Refused fault)
  pub one_set : (one other : List ℕ) → Reads one → Reads other → one ≡ other
  pub one_fault : (one other : SetFault) → Refused one → Refused other → one ≡ other

-- what is read is a set
abbrev pub ReadsSets : (List ℕ → Type 0) → Type 0
ReadsSets Reads = (set : List ℕ) → Reads set → IsSet set
