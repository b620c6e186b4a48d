-- Which text describes what, and which rule a text breaks first.
use Rattle.std.specs.Prelude.{◌≡◌, ℕ, ◌+◌, Bool, List, [], ◌∷◌, Result, Ok, if◌then◌else◌}
use Rattle.synth_text.specs.declared.description.Description.{Description}
use Rattle.synth_text.specs.declared.fault.Flaw.{Flaw}
use Rattle.synth_text.specs.declared.fault.SynthRule.{SynthRule}
use Rattle.synth_text.specs.declared.items.Item.{Item}
use Rattle.synth_text.specs.declared.parts.Part.{Part}
use Rattle.synth_text.specs.declared.parts.Placed.{Placed}
use Rattle.synth_text.specs.Items.{AreItems, body_of}
use Rattle.synth_text.specs.Flaws.{◌>>=◌, placed}
use Rattle.synth_text.specs.Parts.{untyped_kind, level_of, memory_of}
use Rattle.synth_text.specs.Rules.{description_of, broken, unless_broken}

-- how many level items there are
abbrev pub level_items : List Item → ℕ
level_items [] = 0
level_items (item ∷ items) = (if item.is_memory then 0 else 1) + level_items items

-- what the bytes of an item say that has so many level items behind it
abbrev pub part_of : List ℕ → Bool → ℕ → Result Part Flaw
part_of body is_memory behind = if is_memory then memory_of body else level_of (untyped_kind behind) body

-- the same, with the item's place
abbrev pub placed_part : List ℕ → Item → ℕ → Result Placed SynthRule
placed_part text item behind =
    placed item.start (part_of (body_of text item) item.is_memory behind) >>= λ part. Ok (record { at = item.start; part = part })

-- what the items say, from the left, or the rule of the first that says nothing
abbrev pub parts_of : List ℕ → List Item → Result (List Placed) SynthRule
parts_of text [] = Ok []
parts_of text (item ∷ items) = placed_part text item (level_items items) >>= λ part. parts_of text items >>= λ parts. Ok (part ∷ parts)

-- what the items describe, or the first rule that they break
abbrev pub meaning : List ℕ → List Item → Result Description SynthRule
meaning text items = parts_of text items >>= λ parts. unless_broken (broken parts) (description_of parts)

-- A text comes to a description or a broken rule where it is a list of items, with gaps of white space, that do.
pub record ComesTo (text : List ℕ) (outcome : Result Description SynthRule) : Type 0 where
  pub items : List Item
  pub cut : AreItems text 0 items
  pub said : meaning text items ≡ outcome

-- the text describes this
abbrev pub Describes : List ℕ → Description → Type 0
Describes text described = ComesTo text (Ok described)

-- some text describes this
abbrev pub IsDescribed : Description → Type 0
IsDescribed described = (text : List ℕ) × Describes text described
