-- What holds of the token of a caller, and what is seen of it.
use Rattle.std.specs.Prelude.{◌≡◌, ℕ}
use Rattle.lock_rules.specs.Tag.{Tag, leaf}
use Rattle.lock_rules.specs.Meanings.{Place, Waiting, Holder}
use Rattle.lock_rules.specs.Passes.{IsOf}
use Rattle.lock_rules.specs.declared.step.Answer.{Answer}
use Rattle.lock_rules.specs.declared.step.Answer.TheVariants.{Open}
use Rattle.lock_callers.specs.declared.standing.Standing.{Standing}
use Rattle.lock_callers.specs.declared.standing.Standing.TheVariants as at
use Rattle.lock_callers.specs.declared.stage.Stage.{Stage}
use Rattle.lock_callers.specs.declared.stage.Stage.TheVariants.{Idle, Queued, Holding, Leaving, Spent}

abbrev pub standing_of : {P Q H L : Type 0} → Stage P Q H L → Standing
standing_of (Idle p) = at.Idle
standing_of (Queued q) = at.Queued
standing_of (Holding h) = at.Holding
standing_of (Leaving l) = at.Leaving
standing_of Spent = at.Spent

module _ {P Q H L V : Type 0} where
  abbrev pub loads_of : (Q → Waiting) → (H → Holder V) → (L → Waiting) → Stage P Q H L → ℕ
  loads_of queue held leave (Idle p) = 0
  loads_of queue held leave (Queued q) = (queue q).loads
  loads_of queue held leave (Holding h) = (held h).loads
  loads_of queue held leave (Leaving l) = (leave l).loads
  loads_of queue held leave Spent = 0

  abbrev pub tested_of : (H → Holder V) → Stage P Q H L → Answer
  tested_of held (Idle p) = Open
  tested_of held (Queued q) = Open
  tested_of held (Holding h) = (held h).tested
  tested_of held (Leaving l) = Open
  tested_of held Spent = Open

  -- the token is of the lock with this name and this tag; what a holder puts back has the lock's tag, and a release owes nothing more
  abbrev pub IsSound : (P → Place) → (Q → Waiting) → (H → Holder V) → (L → Waiting) → (L → Type 0) → Tag → Tag → Stage P Q H L → Type 0
  IsSound pass queue held leave rests lock tag (Idle p) = IsOf lock tag (pass p)
  IsSound pass queue held leave rests lock tag (Queued q) = IsOf lock tag (queue q).place
  IsSound pass queue held leave rests lock tag (Holding h) = IsOf lock tag (held h).place × (leaf 0 ≡ tag)
  IsSound pass queue held leave rests lock tag (Leaving l) = IsOf lock tag (leave l).place × rests l
  IsSound pass queue held leave rests lock tag Spent = Unit {0}
