-- Which pass a token of a script is of.
use Rattle.std.specs.Prelude.{◌≡◌, true}
use Rattle.lock_rules.specs.Tag.{Tag}
use Rattle.lock_rules.specs.Meanings.{Place, Waiting, Holder as Meaning}
use Rattle.lock_rules.specs.declared.step.Answer.TheVariants.{Yes}
use Rattle.lock_harness.specs.declared.script.Holder.{Holder}
use Rattle.lock_harness.specs.declared.script.Token.{Token}
use Rattle.lock_harness.specs.declared.script.Token.TheVariants.{Idle, Queued, Holding, Leaving}

-- a yes is that of the last `waiter`
abbrev pub IsNoted : {H V : Type 0} → (H → Meaning V) → Holder H → Type 0
IsNoted held h = h.told_yes ≡ true → (held h.held).tested ≡ Yes

module _ {P Q H L V : Type 0} (pass : P → Place) (queue : Q → Waiting) (held : H → Meaning V) (leave : L → Waiting)
    (rests : L → Type 0) where
  abbrev pub place_of_token : Token P Q H L → Place
  place_of_token (Idle p) = pass p
  place_of_token (Queued q) = (queue q).place
  place_of_token (Holding h) = (held h.held).place
  place_of_token (Leaving l) = (leave l).place

  abbrev pub IsSound : Token P Q H L → Type 0
  IsSound (Holding h) = IsNoted held h
  IsSound (Leaving l) = rests l
  IsSound _ = Unit {0}

  -- the token is that of this pass
  abbrev pub Stands : Place → Token P Q H L → Type 0
  Stands place token = (place_of_token token ≡ place) × IsSound token

  -- the tokens of the passes 0 and 1 of a lock
  pub record ArePair (lock tag : Tag) (first second : Token P Q H L) : Type 0 where
    pub first_is : Stands record { lock = lock; tag = tag; number = 0 } first
    pub second_is : Stands record { lock = lock; tag = tag; number = 1 } second

module _ {P : Type 0} (pass : P → Place) where
  pub record ArePasses (lock tag : Tag) (first second : P) : Type 0 where
    pub first_is : pass first ≡ record { lock = lock; tag = tag; number = 0 }
    pub second_is : pass second ≡ record { lock = lock; tag = tag; number = 1 }
