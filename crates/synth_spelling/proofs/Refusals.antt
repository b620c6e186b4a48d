-- The rule that the reading of a text finds broken is the first that the text breaks.
use Rattle.std.proofs.Common.{◌≡◌, ◌⊎◌, ℕ, Bool, true, false, List, [], ◌∷◌, Option, Some, None, Result, Ok, Err, refl, ap, ◌∙◌, inl, inr}
use Rattle.synth_text.specs.declared.description.Description.{Description}
use Rattle.synth_text.specs.declared.fault.Flaw.{Flaw}
use Rattle.synth_text.specs.declared.fault.SynthRule.{SynthRule}
use Rattle.synth_text.specs.declared.fault.SynthFault.{SynthFault}
use Rattle.synth_text.specs.declared.items.Item.{Item}
use Rattle.synth_text.specs.declared.parts.Part.{Part}
use Rattle.synth_text.specs.declared.parts.Placed.{Placed}
use Rattle.synth_text.specs.Items.{body_of}
use Rattle.synth_text.specs.Flaws.{◌>>=◌, placed, rule_at}
use Rattle.synth_text.specs.Parts.{untyped_kind}
use Rattle.synth_text.specs.Rules.{description_of, broken, unless_broken}
use Rattle.synth_text.specs.Descriptions.{level_items, part_of, placed_part, parts_of, meaning, ComesTo}
use Rattle.synth_text.specs.Faults.{SynthRefused}
use Rattle.synth_text.proofs.Bound.{bind_ok, placed-ok}
use Rattle.synth_spelling.specs.Spelling.{SpellsItem}
use Rattle.synth_spelling.specs.Refused.{ItemFlaw, BreaksRule, FirstBreaks, TogetherBreak, BreaksFirst, IsRefused}
use Rattle.synth_spelling.proofs.Failing.{err_is, bind_err}
use Rattle.synth_spelling.proofs.LevelFlaws.{level_flawed, flawed_level}
use Rattle.synth_spelling.proofs.MemoryFlaws.{memory_flawed, flawed_memory}
use Rattle.synth_spelling.proofs.TogetherOrder.{rule_first, first_rule}
use Rattle.synth_spelling.proofs.WholeTexts.{at_place, item_spelled, item_read, items_spelled, items_read}

-- ---- items

item_flawed : (body : List ℕ) (is_memory : Bool) (behind : ℕ) (flaw : Flaw) → part_of body is_memory behind ≡ Err flaw
    → ItemFlaw body is_memory behind flaw
item_flawed body true behind flaw e = memory_flawed body flaw e
item_flawed body false behind flaw e = level_flawed (untyped_kind behind) body flaw e

flawed_item : (body : List ℕ) (is_memory : Bool) (behind : ℕ) (flaw : Flaw) → ItemFlaw body is_memory behind flaw
    → part_of body is_memory behind ≡ Err flaw
flawed_item body true behind flaw h = flawed_memory body flaw h
flawed_item body false behind flaw h = flawed_level (untyped_kind behind) body flaw h

placed_err : {A : Type 0} (at : ℕ) (r : Result A Flaw) (rule : SynthRule) → placed at r ≡ Err rule
    → (flaw : Flaw) × (r ≡ Err flaw) × (rule_at at flaw ≡ rule)
placed_err at (Ok x) rule e = absurd cc
placed_err {A} at (Err flaw) rule e = (flaw, refl, err_is {A = A} (rule_at at flaw) rule e)

-- the item breaks the rule, where its place and what it says come to that
breaks_rule : (text : List ℕ) (item : Item) (behind : ℕ) (rule : SynthRule) → placed_part text item behind ≡ Err rule
    → BreaksRule text item behind rule
breaks_rule text item behind rule e =
    elim (bind_err (placed item.start (part_of (body_of text item) item.is_memory behind)) (λ part. Ok (at_place item.start part)) rule e) [
      | inl wrong ↦
          let told = placed_err item.start (part_of (body_of text item) item.is_memory behind) rule wrong in
          record { flaw = told.0; wrong = item_flawed (body_of text item) item.is_memory behind told.0 told.1; told = told.2 }
      | inr read ↦ let no = read.2 in absurd cc
    ]

-- what an item says that has its place
spells_item : (text : List ℕ) (item : Item) (behind : ℕ) (one : Placed) → placed_part text item behind ≡ Ok one
    → (part : Part) × SpellsItem (body_of text item) item.is_memory behind part
spells_item text item behind one e =
    let read = bind_ok (placed item.start (part_of (body_of text item) item.is_memory behind))
    (λ part. Ok (at_place item.start part)) one e in (
      read.0,
      item_spelled (body_of text item) item.is_memory behind read.0
          (placed-ok item.start (part_of (body_of text item) item.is_memory behind) read.0 read.1),
    )

first_breaks : (text : List ℕ) (items : List Item) (rule : SynthRule) → parts_of text items ≡ Err rule → FirstBreaks text items rule
first_breaks text [] rule e = absurd cc
first_breaks text (item ∷ items) rule e =
    elim (bind_err (placed_part text item (level_items items)) (λ part. parts_of text items >>= λ others. Ok (part ∷ others)) rule e) [
      | inl wrong ↦ inl (breaks_rule text item (level_items items) rule wrong)
      | inr read ↦
          let here = spells_item text item (level_items items) read.0 read.1 in
          elim (bind_err (parts_of text items) (λ others. Ok (read.0 ∷ others)) rule read.2) [
            | inl behind ↦ inr (here.0, here.1, first_breaks text items rule behind)
            | inr others ↦ let no = others.2 in absurd cc
          ]
    ]

breaks_first : (text : List ℕ) (items : List Item) (rule : SynthRule) → FirstBreaks text items rule → parts_of text items ≡ Err rule
breaks_first text [] rule h = absurd h
breaks_first text (item ∷ items) rule (inl h) =
    rw (flawed_item (body_of text item) item.is_memory (level_items items) h.flaw h.wrong) (ap Err h.told)
breaks_first text (item ∷ items) rule (inr h) =
    rw (item_read (body_of text item) item.is_memory (level_items items) h.0 h.1, breaks_first text items rule h.2) refl

-- ---- texts

rule_found : (parts : List Placed) (o : Option SynthRule) (rule : SynthRule) → broken parts ≡ o
    → unless_broken o (description_of parts) ≡ Err rule → broken parts ≡ Some rule
rule_found parts None rule is e = absurd cc
rule_found parts (Some found) rule is e = is ∙ ap Some (err_is {A = Description} found rule e)

pub text_breaks : (text : List ℕ) (rule : SynthRule) → ComesTo text (Err rule) → BreaksFirst text rule
text_breaks text rule h = record { items = h.items; cut = h.cut; broken = by }
  where
    by : FirstBreaks text h.items rule ⊎ TogetherBreak text h.items rule
    by = elim (bind_err (parts_of text h.items) (λ parts. unless_broken (broken parts) (description_of parts)) rule h.said) [
      | inl wrong ↦ inl (first_breaks text h.items rule wrong)
      | inr read ↦ inr (record {
        parts = read.0;
        spelled = items_spelled text h.items read.0 read.1;
        broken = rule_first read.0 rule (rule_found read.0 (broken read.0) rule refl read.2);
      })
    ]

pub breaks_text : (text : List ℕ) (rule : SynthRule) → BreaksFirst text rule → ComesTo text (Err rule)
breaks_text text rule h = record { items = h.items; cut = h.cut; said = by h.broken }
  where
    by : FirstBreaks text h.items rule ⊎ TogetherBreak text h.items rule → meaning text h.items ≡ Err rule
    by (inl wrong) = rw (breaks_first text h.items rule wrong) refl
    by (inr together) =
        rw (items_read text h.items together.parts together.spelled, first_rule together.parts rule together.broken) refl

pub refused_first : (text : List ℕ) (fault : SynthFault) → SynthRefused text fault → IsRefused text fault
refused_first text fault h = record { rule = h.rule; first = text_breaks text h.rule h.first; told = h.told }

pub first_refused : (text : List ℕ) (fault : SynthFault) → IsRefused text fault → SynthRefused text fault
first_refused text fault h = record { rule = h.rule; first = breaks_text text h.rule h.first; told = h.told }
