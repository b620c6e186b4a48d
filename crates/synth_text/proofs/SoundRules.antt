-- What the items describe is sound, where each says something sound and no rule is broken.
use Rattle.std.proofs.Common.{
  ◌≡◌,
  ◌≢◌,
  ℕ,
  ◌+◌,
  ◌<◌,
  ◌≤◌,
  Bool,
  true,
  false,
  ◌&&◌,
  List,
  [],
  ◌∷◌,
  ◌++◌,
  length,
  Option,
  Some,
  None,
  Ok,
  refl,
  sym,
  ap,
  subst,
  ◌∙◌,
  zero-add,
  arith,
  inl,
  inr,
}
use Rattle.std.specs.Prelude.{IfSome, IsSome, is_some, nat_lt}
use Rattle.std.specs.List.{AllByRecursion, list_any, cons_option}
use Rattle.std.proofs.lemmas.Bool.{cases_Bool, both_ways, or_cases, or_parts, or_left, or_right, ltb-false}
use Rattle.std.proofs.lemmas.List.Folds.{list_any-append}
use Rattle.synth_text.specs.declared.kind.Kind.{Kind}
use Rattle.synth_text.specs.declared.kind.Kind.TheVariants.{Group, Pu}
use Rattle.synth_text.specs.declared.description.Level.{Level}
use Rattle.synth_text.specs.declared.description.Memory.{Memory}
use Rattle.synth_text.specs.declared.description.Description.{Description}
use Rattle.synth_text.specs.declared.items.Item.{Item}
use Rattle.synth_text.specs.declared.parts.Nodes.{Nodes}
use Rattle.synth_text.specs.declared.parts.Part.{Part}
use Rattle.synth_text.specs.declared.parts.Placed.{Placed}
use Rattle.synth_text.specs.declared.fault.SynthRule.{SynthRule}
use Rattle.synth_text.specs.Items.{body_of}
use Rattle.synth_text.specs.Kinds.{same_kind}
use Rattle.synth_text.specs.Flaws.{◌>>=◌, placed}
use Rattle.synth_text.specs.Parts.{untyped_kind}
use Rattle.synth_text.specs.Rules.{
  is_level,
  has_nodes,
  levels_of,
  level_count,
  memory_at,
  memory_in,
  description_of,
  pu_count,
  object_count,
  has_kind,
  any_of_kind,
  is_kind_again,
  is_again,
  first_again,
  from_last,
  wrong_end,
  broken,
  unless_broken,
}
use Rattle.synth_text.specs.Descriptions.{level_items, part_of, placed_part, parts_of, meaning}
use Rattle.synth_text.specs.Sound.{IsSoundLevel, KindsDiffer, EndsInPus, IsSoundMemory, IsSound}
use Rattle.synth_text.proofs.Bound.{ok_is, bind_ok, placed-ok}
use Rattle.synth_text.proofs.KindLaws.{same_kind-true, same_kind-refl, same_kind-equal, same_kind-false}
use Rattle.synth_text.proofs.RuleLaws.{items_hold, nothing_broken}
use Rattle.synth_text.proofs.SoundParts.{SoundNodes, SoundPart, level_sound, memory_sound, untyped_no_machine}

-- ---- each item

abbrev pub SoundParts : List Placed → Type 0
SoundParts parts = AllByRecursion (λ item. SoundPart item.part) parts

body_sound : (body : List ℕ) (is_memory : Bool) (behind : ℕ) (part : Part) → part_of body is_memory behind ≡ Ok part → SoundPart part
body_sound body true behind part e = memory_sound body part e
body_sound body false behind part e = level_sound (untyped_kind behind) body part (untyped_no_machine behind) e

pub parts_sound : (text : List ℕ) (items : List Item) (parts : List Placed) → parts_of text items ≡ Ok parts → SoundParts parts
parts_sound text [] parts e = subst SoundParts (ok_is [] parts e) tt
parts_sound text (item ∷ items) parts e =
    let first = bind_ok (placed_part text item (level_items items))
    (λ part. parts_of text items >>= λ others. Ok (part ∷ others)) parts e in
    let rest = bind_ok (parts_of text items) (λ others. Ok (first.0 ∷ others)) parts first.2 in
    let read = bind_ok (placed item.start (part_of (body_of text item) item.is_memory (level_items items)))
    (λ part. Ok (at_place item.start part)) first.0 first.1 in
    let sound = body_sound (body_of text item) item.is_memory (level_items items) read.0 (placed-ok item.start _ read.0 read.1) in
    let here : SoundPart first.0.part = subst (λ (p : Placed). SoundPart p.part)
    (ok_is (at_place item.start read.0) first.0 read.2) sound in
    subst SoundParts (ok_is (first.0 ∷ rest.0) parts rest.2) (here, parts_sound text items rest.0 rest.1)
  where
    at_place : ℕ → Part → Placed
    at_place at part = record { at = at; part = part }

levels_more : (level : Option Level) (levels : List Level) → IfSome level IsSoundLevel → AllByRecursion IsSoundLevel levels
    → AllByRecursion IsSoundLevel (cons_option level levels)
levels_more None levels h k = k
levels_more (Some level) levels h k = (h, k)

pub levels_sound : (parts : List Placed) → SoundParts parts → AllByRecursion IsSoundLevel (levels_of parts)
levels_sound [] h = tt
levels_sound (item ∷ items) h = levels_more item.part.level (levels_of items) h.0.level (levels_sound items h.1)

-- ---- kinds

-- a kind that an item before has isn't met again
later_differ : (before items : List Placed) (kind : Kind) → any_of_kind kind before ≡ true → kind ≢ Group → first_again before items ≡ None
    → AllByRecursion (λ level. level.kind ≢ kind) (levels_of items)
later_differ before [] kind had other h = tt
later_differ before (item ∷ items) kind had other h =
    elim (cases_Bool (is_again before item)) [
      | inl again ↦ let s = rw again at h in absurd cc
      | inr first ↦
          let rest = later_differ (before ++ item ∷ []) items kind (rw list_any-append (or_left _ _ had)) other (rw first at h) in
          not_again item.part.level (or_parts (has_nodes item && list_any has_nodes before) _ first).1 rest
    ]
  where
    not_again : (level : Option Level) → is_kind_again before level ≡ false → AllByRecursion (λ level. level.kind ≢ kind) (levels_of items)
        → AllByRecursion (λ level. level.kind ≢ kind) (cons_option level (levels_of items))
    not_again None h rest = rest
    not_again (Some level) h rest = (
      (λ e. let seen : any_of_kind level.kind before ≡ true = ap (λ k. any_of_kind k before) e ∙ had in
          let apart : same_kind level.kind Group ≡ false = same_kind-false level.kind Group (λ g. other (sym e ∙ g)) in
          both_ways _ h (rw (apart, seen) refl)),
      rest,
    )

level_differs : (before items : List Placed) (item : Placed) (level : Option Level) → level ≡ item.part.level
    → first_again (before ++ item ∷ []) items ≡ None
    → KindsDiffer (levels_of items) → KindsDiffer (cons_option level (levels_of items))
level_differs before items item None is h rest = rest
level_differs before items item (Some level) is h rest =
    elim (cases_Bool (same_kind level.kind Group)) [
      | inl group ↦ (inl (same_kind-true level.kind Group group), rest)
      | inr other ↦
          let own : has_kind level.kind item.part.level ≡ true = rw (sym is) (same_kind-refl level.kind) in
          let had : any_of_kind level.kind (before ++ item ∷ []) ≡ true = rw list_any-append (or_right _ _ (or_left _ _ own)) in (
            inr (later_differ (before ++ item ∷ []) items level.kind had (λ g. both_ways _ other (same_kind-equal level.kind Group g)) h),
            rest,
          )
    ]

pub kinds_differ : (before items : List Placed) → first_again before items ≡ None → KindsDiffer (levels_of items)
kinds_differ before [] h = tt
kinds_differ before (item ∷ items) h =
    elim (cases_Bool (is_again before item)) [
      | inl again ↦ let s = rw again at h in absurd cc
      | inr first ↦ let k = rw first at h in
          level_differs before items item item.part.level refl k (kinds_differ (before ++ item ∷ []) items k)
    ]

-- ---- the end, and the memory

none_left : (items : List Placed) → list_any is_level items ≡ false → levels_of items ≡ []
none_left [] h = refl
none_left (item ∷ items) h =
    let p = or_parts (is_level item) (list_any is_level items) h in no_level item.part.level p.0 (none_left items p.1)
  where
    no_level : (level : Option Level) → is_some level ≡ false → levels_of items ≡ [] → cons_option level (levels_of items) ≡ []
    no_level None h rest = rest
    no_level (Some level) h rest = absurd cc

some_more : (level : Option Level) (levels : List Level) → 0 < length levels → 0 < length (cons_option level levels)
some_more None levels h = h
some_more (Some level) levels h = omega arith

some_here : (level : Option Level) (levels : List Level) → is_some level ≡ true → 0 < length (cons_option level levels)
some_here None levels h = absurd cc
some_here (Some level) levels h = omega arith

some_left : (items : List Placed) → list_any is_level items ≡ true → 0 < length (levels_of items)
some_left [] h = absurd cc
some_left (item ∷ items) h =
    elim (or_cases (is_level item) (list_any is_level items) h) [
      | inl here ↦ some_here item.part.level (levels_of items) here
      | inr below ↦ some_more item.part.level (levels_of items) (some_left items below)
    ]

-- how these items end, where so many levels stand before them
record EndsWell (before : ℕ) (parts : List Placed) : Type 0 where
  ends : EndsInPus (levels_of parts)
  memory : IfSome (memory_in before parts) (IsSoundMemory (before + length (levels_of parts)))

ends_more : (level : Option Level) (levels : List Level) → EndsInPus levels → EndsInPus (cons_option level levels)
ends_more None levels h = h
ends_more (Some level) [] h = absurd h
ends_more (Some level) (next ∷ levels) h = h

count_more : (before : ℕ) (level : Option Level) (levels : List Level)
    → before + level_count level + length levels ≡ before + length (cons_option level levels)
count_more before None levels = omega arith
count_more before (Some level) levels = omega arith

memory_more : (above total : ℕ) (nodes : Option Nodes) (others : Option Memory) → above < total → IfSome nodes SoundNodes
    → IfSome others (IsSoundMemory total)
    → IfSome (memory_at above nodes others) (IsSoundMemory total)
memory_more above total None others lt h k = k
memory_more above total (Some nodes) others lt h k = record { above = lt; size = h.size; given = h.given }

more_before : (before : ℕ) (item : Placed) (items : List Placed) → SoundPart item.part → 0 < length (levels_of items)
    → EndsWell (before + level_count item.part.level) items → EndsWell before (item ∷ items)
more_before before item items sound some rest =
    let total = count_more before item.part.level (levels_of items) in
    record {
      ends = ends_more item.part.level (levels_of items) rest.ends;
      memory =
          memory_more (before + level_count item.part.level) _ item.part.nodes _ (omega (arith, total)) sound.nodes
          (rw total at rest.memory);
    }

last_level : (level : Option Level) → has_kind Pu level ≡ true → EndsInPus (cons_option level [])
last_level None h = absurd cc
last_level (Some level) h = same_kind-true level.kind Pu h

no_nodes : (before : ℕ) (level : Option Level) (nodes : Option Nodes) (total : ℕ) → has_kind Pu level ≡ true
    → IfSome level (λ l. IsSome nodes → l.kind ≡ Group) → IfSome (memory_at before nodes None) (IsSoundMemory total)
no_nodes before None nodes total h grouped = absurd cc
no_nodes before (Some level) None total h grouped = tt
no_nodes before (Some level) (Some nodes) total h grouped =
    let pu = same_kind-true level.kind Pu h in
    let group = grouped refl in
    absurd cc

last_alone : (before : ℕ) (item : Placed) (items : List Placed) → SoundPart item.part → wrong_end (item ∷ items) ≡ None
    → EndsWell before (item ∷ items)
last_alone before item [] sound h =
    elim (cases_Bool (has_kind Pu item.part.level)) [
      | inl pu ↦ record {
        ends = last_level item.part.level pu;
        memory =
            no_nodes (before + level_count item.part.level) item.part.level item.part.nodes _ pu sound.grouped;
      }
      | inr other ↦ let s = rw other at h in absurd cc
    ]
last_alone before item (next ∷ items) sound h =
    elim (cases_Bool (has_kind Pu item.part.level)) [
      | inl pu ↦ let s = rw pu at h in absurd cc
      | inr other ↦ let s = rw other at h in absurd cc
    ]

ends_well : (before : ℕ) (parts : List Placed) → SoundParts parts → 0 < length (levels_of parts) → wrong_end (from_last parts) ≡ None
    → EndsWell before parts
ends_well before [] sound some h = absurd (omega arith)
ends_well before (item ∷ items) sound some h =
    elim (cases_Bool (list_any is_level items)) [
      | inl more ↦
          let left = some_left items more in
          more_before before item items sound.0 left (ends_well (before + level_count item.part.level) items sound.1 left (rw more at h))
      | inr none ↦ last_alone before item items sound.0 (rw none at h)
    ]

-- ---- the whole

rules_sound : (parts : List Placed) → SoundParts parts → broken parts ≡ None → IsSound (description_of parts)
rules_sound parts sound h =
    let kept = nothing_broken parts h in
    let hold = items_hold parts kept.0 in
    let small = or_parts (nat_lt 4096 (pu_count (description_of parts))) (nat_lt 16384 (object_count (description_of parts))) kept.1 in
    let ends = ends_well 0 parts sound hold.some hold.ends in
    record {
      few = hold.few;
      levels = levels_sound parts sound;
      differ = kinds_differ [] parts hold.differ;
      ends = ends.ends;
      memory = rw zero-add at ends.memory;
      pus = ltb-false 4096 _ small.0;
      objects = ltb-false 16384 _ small.1;
    }

outcome_sound : (parts : List Placed) (o : Option SynthRule) (described : Description) → o ≡ broken parts → SoundParts parts
    → unless_broken o (description_of parts) ≡ Ok described → IsSound described
outcome_sound parts None described is sound e = subst IsSound (ok_is (description_of parts) described e) (rules_sound parts sound (sym is))
outcome_sound parts (Some fault) described is sound e = absurd cc

pub meaning_sound : (text : List ℕ) (items : List Item) (described : Description) → meaning text items ≡ Ok described → IsSound described
meaning_sound text items described e =
    let parts = bind_ok (parts_of text items) (λ parts. unless_broken (broken parts) (description_of parts)) described e in
    outcome_sound parts.0 (broken parts.0) described refl (parts_sound text items parts.0 parts.1) parts.2

some_each : (levels : List Level) → AllByRecursion IsSoundLevel levels → AllByRecursion (λ level. 1 ≤ level.arity) levels
some_each [] h = tt
some_each (level ∷ levels) h = (h.0.arity.0, some_each levels h.1)

-- each level of items that say something has one object at least
pub arities_some : (text : List ℕ) (items : List Item) (parts : List Placed) → parts_of text items ≡ Ok parts
    → AllByRecursion (λ level. 1 ≤ level.arity) (levels_of parts)
arities_some text items parts e = some_each (levels_of parts) (levels_sound parts (parts_sound text items parts e))
