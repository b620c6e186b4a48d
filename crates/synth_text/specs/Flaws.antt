-- How readings fail: with the first flaw.
use Rattle.std.specs.Prelude.{◌≡◌, ℕ, Option, Some, None, Result, Ok, Err}
use Rattle.synth_text.specs.declared.fault.Unread.{Unread}
use Rattle.synth_text.specs.declared.fault.Unread.TheVariants as unread
use Rattle.synth_text.specs.declared.fault.Flaw.{Flaw}
use Rattle.synth_text.specs.declared.fault.Flaw.TheVariants as flaws
use Rattle.synth_text.specs.declared.fault.SynthRule.{SynthRule}
use Rattle.synth_text.specs.declared.fault.SynthRule.TheVariants as rules

-- one reading and then the next, which is given what the first has read
infixl 10 ◌>>=◌
abbrev pub ◌>>=◌ : {A B E : Type 0} → Result A E → (A → Result B E) → Result B E
(Ok x) >>= next = next x
(Err e) >>= next = Err e

-- what was read, or the flaw where nothing was
abbrev pub or_flaw : {A : Type 0} → Flaw → Option A → Result A Flaw
or_flaw flaw None = Err flaw
or_flaw flaw (Some x) = Ok x

-- what a result has, seen by a function
abbrev pub seen : {A B E : Type 0} → (A → B) → Result A E → Result B E
seen view (Ok x) = Ok (view x)
seen view (Err e) = Err e

-- a function that failed did so with the reading's fault, unless memory was refused
abbrev pub Fails : {A F : Type 0} → Unread F → Result A F → Type 0
Fails (unread.Fault fault) reading = reading ≡ Err fault
Fails unread.OutOfMemory reading = Unit {0}

-- What a function gave, seen by `view`, is what the reading says, unless memory was refused.
abbrev pub GivesAs : {A B F : Type 0} → (A → B) → Result A (Unread F) → Result B F → Type 0
GivesAs view (Ok x) reading = reading ≡ Ok (view x)
GivesAs view (Err failure) reading = Fails failure reading

abbrev pub Gives : {A F : Type 0} → Result A (Unread F) → Result A F → Type 0
Gives result reading = GivesAs (λ x. x) result reading

-- the flaw of an item as a broken rule, with the offset at which the item begins
abbrev pub rule_at : ℕ → Flaw → SynthRule
rule_at at flaws.Name = rules.BadType at
rule_at at flaws.Arity = rules.BadArity at
rule_at at flaws.Attribute = rules.BadAttr at
rule_at at flaws.Indexes = rules.BadIndexes at

abbrev pub placed : {A : Type 0} → ℕ → Result A Flaw → Result A SynthRule
placed at (Ok x) = Ok x
placed at (Err flaw) = Err (rule_at at flaw)
