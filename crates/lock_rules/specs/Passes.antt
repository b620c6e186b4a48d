-- All passes of a lock, in the order of their numbers.
use Rattle.std.specs.Prelude.{◌≡◌, ℕ, List, length, slice_get, Some}
use Rattle.lock_rules.specs.Tag.{Tag}
use Rattle.lock_rules.specs.Meanings.{Place}

-- a token of the lock with this name and this tag
pub record IsOf (lock tag : Tag) (place : Place) : Type 0 where
  pub lock_is : place.lock ≡ lock
  pub tag_is : place.tag ≡ tag

-- there are `count` passes, and the one at k is that of the number k
pub record AreAll {P : Type 0} (place : P → Place) (lock tag : Tag) (count : ℕ) (passes : List P) : Type 0 where
  pub all : length passes ≡ count
  pub each : (k : ℕ) (p : P) → slice_get passes k ≡ Some p → place p ≡ record { lock = lock; tag = tag; number = k }
