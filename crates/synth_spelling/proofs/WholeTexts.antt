-- What a text describes is how it is spelled.
use Rattle.std.proofs.Common.{◌≡◌, ℕ, Bool, true, false, List, [], ◌∷◌, Option, Some, None, Ok, refl, ap, subst}
use Rattle.synth_text.specs.declared.description.Description.{Description}
use Rattle.synth_text.specs.declared.fault.SynthRule.{SynthRule}
use Rattle.synth_text.specs.declared.items.Item.{Item}
use Rattle.synth_text.specs.declared.parts.Part.{Part}
use Rattle.synth_text.specs.declared.parts.Placed.{Placed}
use Rattle.synth_text.specs.Items.{body_of}
use Rattle.synth_text.specs.Flaws.{◌>>=◌, placed}
use Rattle.synth_text.specs.Parts.{untyped_kind}
use Rattle.synth_text.specs.Rules.{description_of, broken, unless_broken}
use Rattle.synth_text.specs.Descriptions.{level_items, part_of, placed_part, parts_of, Describes}
use Rattle.synth_text.proofs.Bound.{ok_is, bind_ok, placed-ok}
use Rattle.synth_spelling.specs.Spelling.{SpellsItem, SpellItems, SpellsDescription}
use Rattle.synth_spelling.proofs.LevelItems.{level_spelled, level_read}
use Rattle.synth_spelling.proofs.MemoryItems.{memory_spelled, memory_read}
use Rattle.synth_spelling.proofs.TogetherOrder.{rules_kept, kept_rules}

-- a part with the place of its item
abbrev pub at_place : ℕ → Part → Placed
at_place at part = record { at = at; part = part }

pub item_spelled : (body : List ℕ) (is_memory : Bool) (behind : ℕ) (part : Part) → part_of body is_memory behind ≡ Ok part
    → SpellsItem body is_memory behind part
item_spelled body true behind part e = memory_spelled body part e
item_spelled body false behind part e = level_spelled (untyped_kind behind) body part e

pub item_read : (body : List ℕ) (is_memory : Bool) (behind : ℕ) (part : Part) → SpellsItem body is_memory behind part
    → part_of body is_memory behind ≡ Ok part
item_read body true behind part h = memory_read body part h
item_read body false behind part h = level_read (untyped_kind behind) body part h

pub items_spelled : (text : List ℕ) (items : List Item) (parts : List Placed) → parts_of text items ≡ Ok parts → SpellItems text items parts
items_spelled text [] parts e = subst (SpellItems text []) (ok_is [] parts e) tt
items_spelled text (item ∷ items) parts e =
    let first = bind_ok (placed_part text item (level_items items)) (λ part. parts_of text items >>= λ others. Ok (part ∷ others)) parts e
    in
    let rest = bind_ok (parts_of text items) (λ others. Ok (first.0 ∷ others)) parts first.2 in
    let read = bind_ok (placed item.start (part_of (body_of text item) item.is_memory (level_items items)))
    (λ part. Ok (at_place item.start part)) first.0 first.1 in
    let here = item_spelled (body_of text item) item.is_memory (level_items items) read.0 (placed-ok item.start _ read.0 read.1) in
    let one : at_place item.start read.0 ≡ first.0 = ok_is (at_place item.start read.0) first.0 read.2 in
    subst (SpellItems text (item ∷ items)) (ok_is (first.0 ∷ rest.0) parts rest.2)
    (subst (λ (p : Placed). SpellItems text (item ∷ items) (p ∷ rest.0)) one (refl, here, items_spelled text items rest.0 rest.1))

pub items_read : (text : List ℕ) (items : List Item) (parts : List Placed) → SpellItems text items parts → parts_of text items ≡ Ok parts
items_read text [] [] h = refl
items_read text [] (part ∷ parts) h = absurd h
items_read text (item ∷ items) [] h = absurd h
items_read text (item ∷ items) (part ∷ parts) h =
    rw (item_read (body_of text item) item.is_memory (level_items items) part.part h.1, items_read text items parts h.2)
    (ap (λ at. Ok (at_place at part.part ∷ parts)) h.0)

-- a text whose items are read, and break no rule
unbroken : (parts : List Placed) (o : Option SynthRule) (described : Description) → broken parts ≡ o
    → unless_broken o (description_of parts) ≡ Ok described → (broken parts ≡ None) × (description_of parts ≡ described)
unbroken parts None described is e = (is, ok_is (description_of parts) described e)
unbroken parts (Some rule) described is e = absurd cc

pub described_spelled : (text : List ℕ) (described : Description) → Describes text described → SpellsDescription text described
described_spelled text described h =
    let read = bind_ok (parts_of text h.items) (λ parts. unless_broken (broken parts) (description_of parts)) described h.said in
    let kept = unbroken read.0 (broken read.0) described refl read.2 in
    record {
      items = h.items;
      parts = read.0;
      cut = h.cut;
      spelled = items_spelled text h.items read.0 read.1;
      kept = rules_kept read.0 kept.0;
      says = kept.1;
    }

pub described_read : (text : List ℕ) (described : Description) → SpellsDescription text described → Describes text described
described_read text described h = record {
  items = h.items;
  cut = h.cut;
  said = rw (items_read text h.items h.parts h.spelled, kept_rules h.parts h.kept) (ap Ok h.says);
}
