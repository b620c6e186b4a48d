-- All passes of a composed lock, in the order of their numbers.
use Rattle.std.specs.Prelude.{◌≡◌, ℕ, ◌+◌, List, length, slice_get, Some}
use Rattle.lock_rules.specs.Tag.{Tag}
use Rattle.clof_compose.specs.Contexts.{Context}

-- the context is one of a lock of this level, whose root has this tag, and has this number
pub record IsNumber (has : Context → Type 0) (level : ℕ) (tag : Tag) (number : ℕ) (c : Context) : Type 0 where
  pub own : has c
  pub level_is : c.level ≡ level
  pub tag_is : c.tag ≡ tag
  pub number_is : c.number ≡ number

-- there are `count` passes, and the one at k is that of the context k
pub record AreAll {P : Type 0} (context : P → Context) (has : Context → Type 0) (level : ℕ) (tag : Tag) (count : ℕ) (passes : List P) :
    Type 0 where
  pub all : length passes ≡ count
  pub each : (k : ℕ) (p : P) → slice_get passes k ≡ Some p → IsNumber has level tag k (context p)

-- the passes are those of the contexts from one on, in order
abbrev pub AreFrom : {P : Type 0} → (P → Context) → (Context → Type 0) → ℕ → Tag → ℕ → List P → Type 0
AreFrom {P} context has level tag first passes = (k : ℕ) (p : P) → slice_get passes k ≡ Some p
    → IsNumber has level tag (first + k) (context p)
