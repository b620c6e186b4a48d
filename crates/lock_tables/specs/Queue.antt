-- The events of the queue of a lock: a list of pass numbers, the head first.
use Rattle.std.specs.Prelude.{◌≡◌, ℕ, List, [], ◌∷◌, ◌++◌, slice_get, Some}

-- p stands in the queue
abbrev pub IsIn : ℕ → List ℕ → Type 0
IsIn p queue = (i : ℕ) × (slice_get queue i ≡ Some p)

-- no pass stands in the queue twice
abbrev pub HasNoRepeats : List ℕ → Type 0
HasNoRepeats queue = (i j p : ℕ) → slice_get queue i ≡ Some p → slice_get queue j ≡ Some p → i ≡ j

-- p is the head
abbrev pub IsHead : ℕ → List ℕ → Type 0
IsHead p queue = slice_get queue 0 ≡ Some p

-- Enter: a pass that is not in the queue goes behind all others
abbrev pub Enters : ℕ → List ℕ → List ℕ → Type 0
Enters p before after = (¬ IsIn p before) × (after ≡ before ++ p ∷ [])

-- Take: the head begins to hold
abbrev pub Takes : ℕ → List ℕ → List ℕ → Type 0
Takes p before after = IsHead p before × (after ≡ before)

-- Enter and Take in one step: the queue was empty
abbrev pub EntersAndTakes : ℕ → List ℕ → List ℕ → Type 0
EntersAndTakes p before after = (before ≡ []) × (after ≡ p ∷ [])

-- Leave: the head, which held, goes
abbrev pub Leaves : ℕ → List ℕ → List ℕ → Type 0
Leaves p before after = before ≡ p ∷ after

-- a step that is no event
abbrev pub Stays : ℕ → List ℕ → List ℕ → Type 0
Stays p before after = after ≡ before
