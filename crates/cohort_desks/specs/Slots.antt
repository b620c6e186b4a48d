-- A slot for each job, in the order of their numbers.
use Rattle.std.specs.Prelude.{◌≡◌, ◌<◌, ◌⊎◌, ◌++◌, ◌∷◌, [], ℕ, List, Option, None, Some, length, map, slice_get, slice_set}
use Rattle.lock_rules.specs.Tag.{Tag}
use Rattle.cohort_queue.specs.Numbers.{AreDistinct, IsIn}

-- a slot was passed by, or found empty, or its job was moved to the end of a list
abbrev pub HasMoved : {J : Type 0} → List (Option J) → List J → ℕ → List (Option J) → List J → Type 0
HasMoved {J} slots list place slots' list' =
    ((slots' ≡ slots) × (list' ≡ list))
    ⊎ (((slice_get slots place ≡ Some None) × (slots' ≡ slice_set slots place None) × (list' ≡ list))
    ⊎ ((job : J) × (slice_get slots place ≡ Some (Some job)) × (slots' ≡ slice_set slots place None) × (list' ≡ list ++ job ∷ [])))

module _ {J : Type 0} (number : J → ℕ) (tag_of : J → Tag) where
  -- the job with this number and this tag is in its slot
  pub record IsFull (tag : Tag) (slots : List (Option J)) (x : ℕ) : Type 0 where
    pub job : J
    pub at : slice_get slots x ≡ Some (Some job)
    pub number_is : number job ≡ x
    pub tag_is : tag_of job ≡ tag

  -- no slot has a job of another number or tag
  abbrev pub AreOwn : Tag → List (Option J) → Type 0
  AreOwn tag slots = (k : ℕ) (job : J) → slice_get slots k ≡ Some (Some job) → (number job ≡ k) × (tag_of job ≡ tag)

  -- each of these jobs has a slot, and this tag
  abbrev pub AreFit : Tag → ℕ → List J → Type 0
  AreFit tag limit jobs = (i : ℕ) (job : J) → slice_get jobs i ≡ Some job → (number job < limit) × (tag_of job ≡ tag)

  -- each job that was in its slot is there still, or among these
  abbrev pub IsThere : Tag → List (Option J) → List J → ℕ → Type 0
  IsThere tag slots jobs x = IsFull tag slots x ⊎ IsIn x (map number jobs)

  -- these jobs were moved out of their slots
  pub record HasGathered (tag : Tag) (old new : List (Option J)) (jobs : List J) : Type 0 where
    pub many : length new ≡ length old
    pub own : AreOwn tag new
    pub fit : AreFit tag (length old) jobs
    pub distinct : AreDistinct (map number jobs)
    pub there : (x : ℕ) → IsFull tag old x → IsThere tag new jobs x
