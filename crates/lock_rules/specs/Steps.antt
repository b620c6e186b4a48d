-- What holds of the token in a `Step`.
use Rattle.lock_rules.specs.declared.step.Step.{Step}
use Rattle.lock_rules.specs.declared.step.Step.TheVariants.{Not, Got}

module _ {N G : Type 0} where
  abbrev pub IfNot : Step N G → (N → Type 0) → Type 0
  IfNot (Not n) P = P n
  IfNot (Got g) P = Unit {0}

  abbrev pub IfGot : Step N G → (G → Type 0) → Type 0
  IfGot (Not n) P = Unit {0}
  IfGot (Got g) P = P g

  abbrev pub IsNot : Step N G → Type 0
  IsNot (Not n) = Unit {0}
  IsNot (Got g) = ⊥

  abbrev pub IsGot : Step N G → Type 0
  IsGot (Not n) = ⊥
  IsGot (Got g) = Unit {0}
