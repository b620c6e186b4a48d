-- The faults that a reading answers: each tells of one rule.
use Rattle.std.specs.Prelude.{◌≡◌, ℕ, List, Err}
use Rattle.synth_text.specs.declared.fault.SynthRule.{SynthRule}
use Rattle.synth_text.specs.declared.fault.SynthRule.TheVariants as rules
use Rattle.synth_text.specs.declared.fault.SynthFault.{SynthFault}
use Rattle.synth_text.specs.declared.fault.SynthFault.TheVariants as faults
use Rattle.synth_text.specs.Descriptions.{ComesTo}

-- the fault that tells of a broken rule
abbrev pub fault_of : SynthRule → SynthFault
fault_of rules.Empty = faults.Empty
fault_of (rules.BadType at) = faults.BadType at
fault_of (rules.BadArity at) = faults.BadArity at
fault_of (rules.BadAttr at) = faults.BadAttr at
fault_of (rules.BadIndexes at) = faults.BadIndexes at
fault_of (rules.LastNotPu at) = faults.LastNotPu at
fault_of (rules.RepeatedType at) = faults.RepeatedType at
fault_of rules.TooManyLevels = faults.TooManyLevels
fault_of rules.TooManyObjects = faults.TooManyObjects

-- the text is refused for this fault, which tells of the first rule that it breaks
pub record SynthRefused (text : List ℕ) (fault : SynthFault) : Type 0 where
  pub rule : SynthRule
  pub first : ComesTo text (Err rule)
  pub told : fault ≡ fault_of rule
