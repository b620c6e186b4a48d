-- Laws of descriptions and their texts.
use Rattle.std.specs.Prelude.{◌≡◌, ℕ, List, Result}
use Rattle.synth_text.specs.declared.description.Description.{Description}
use Rattle.synth_text.specs.declared.fault.SynthRule.{SynthRule}
use Rattle.synth_text.specs.Descriptions.{ComesTo, Describes, IsDescribed}
use Rattle.synth_text.specs.Sound.{IsSound}
use Rattle.synth_text.specs.Canonical.{canonical}

-- Each text comes to a description or one of the nine rules.
abbrev pub EachTextComesToSomething : Type 0
EachTextComesToSomething = (text : List ℕ) → (outcome : Result Description SynthRule) × ComesTo text outcome

-- No text comes to two.
abbrev pub NoTextComesToTwo : Type 0
NoTextComesToTwo = (text : List ℕ) (one other : Result Description SynthRule) → ComesTo text one → ComesTo text other → one ≡ other

-- What a text describes is sound, and what is sound is described by its canonical text.
abbrev pub DescribedIsSound : Type 0
DescribedIsSound = (described : Description) → IsDescribed described → IsSound described

abbrev pub CanonicalDescribes : Type 0
CanonicalDescribes = (described : Description) → IsSound described → Describes (canonical described) described
