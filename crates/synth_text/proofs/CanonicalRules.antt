-- A canonical text describes what it was written from.
use Rattle.std.proofs.Common.{
  ◌≡◌,
  ◌≢◌,
  ℕ,
  zero,
  suc,
  ◌+◌,
  ◌-◌,
  ◌<◌,
  Bool,
  true,
  false,
  ◌||◌,
  ◌&&◌,
  eqb,
  List,
  [],
  ◌∷◌,
  ◌++◌,
  length,
  get_or,
  take,
  drop,
  map,
  Option,
  Some,
  None,
  Ok,
  refl,
  sym,
  ap,
  subst,
  ◌∙◌,
  arith,
  inl,
  inr,
}
use Rattle.std.specs.Prelude.{IfSome, is_some, codes, decimal}
use Rattle.std.specs.List.{AllByRecursion, join_with_byte, list_any, cons_option}
use Rattle.std.proofs.lemmas.Bool.{cases_Bool, cases_lt, cases_eq, both_ways, or_cases, or_left, or_right, or_from, eqb-true, le-ltb}
use Rattle.std.proofs.lemmas.List.{length-append, append-nil, take-append-drop, length-take}
use Rattle.std.proofs.lemmas.List.Folds.{list_any-append}
use Rattle.synth_text.specs.declared.kind.Kind.{Kind}
use Rattle.synth_text.specs.declared.kind.Kind.TheVariants.{Group, Pu}
use Rattle.synth_text.specs.declared.description.Level.{Level}
use Rattle.synth_text.specs.declared.description.Memory.{Memory}
use Rattle.synth_text.specs.declared.description.Description.{Description}
use Rattle.synth_text.specs.declared.parts.Placed.{Placed}
use Rattle.synth_text.specs.Kinds.{same_kind, long_name_of}
use Rattle.byte_text.specs.Classes.{is_white}
use Rattle.synth_text.specs.Parts.{untyped_kind}
use Rattle.synth_text.specs.Rules.{
  is_level,
  has_nodes,
  levels_of,
  memory_in,
  description_of,
  pu_count,
  object_count,
  has_kind,
  any_of_kind,
  is_kind_again,
  is_again,
  first_again,
  from_last,
  wrong_end,
  is_large,
  broken,
}
use Rattle.synth_text.specs.Descriptions.{Describes}
use Rattle.synth_text.specs.Canonical.{size_texts, indexes_texts, in_parentheses, level_text, memory_text, item_texts, canonical}
use Rattle.synth_text.specs.Sound.{IsSoundLevel, KindsDiffer, EndsInPus, IsSoundMemory, IsSound}
use Rattle.synth_text.proofs.KindLaws.{same_kind-equal, same_kind-false}
use Rattle.synth_text.proofs.RuleLaws.{refused_none, broken_none}
use Rattle.synth_text.proofs.Texts.{each_weaker, each_at, each_joined, IsSolid, IsInner, solid_not_white, solid_is_inner}
use Rattle.synth_text.proofs.CanonicalReading.{
  names_kind,
  head_text,
  head_solid,
  level_texts_solid,
  memory_texts_solid,
  no_bracket,
  reads_level,
  reads_memory,
}
use Rattle.synth_text.proofs.CanonicalItems.{
  at_front,
  at_part,
  IsLevelText,
  IsMemoryText,
  Entry,
  IsEntry,
  texts_of,
  items_at,
  placed_at,
  EndsWith,
  are_items,
  reads_items,
}

-- ---- the shapes of the texts

-- parentheses behind a head, with no `)` between them
level_shape : (head inner : List ℕ) → 0 < length head → AllByRecursion IsSolid head → AllByRecursion IsInner inner
    → IsLevelText (head ++ 40 ∷ (inner ++ 41 ∷ []))
level_shape head inner some solid h =
    let text = head ++ 40 ∷ (inner ++ 41 ∷ []) in
    let long : length text ≡ length head + (length inner + 2) =
    omega (arith, length-append head (40 ∷ (inner ++ 41 ∷ [])), length-append inner (41 ∷ [])) in
    let first = at_part head (40 ∷ (inner ++ 41 ∷ [])) 0 some in
    let begin = each_at IsSolid head solid 0 some in
    record {
      some = omega arith;
      first = rw first (solid_not_white _ begin);
      level = rw first begin.1;
      whole = λ k lt cuts. elim (cases_lt k (length head)) [
        | inl low ↦ absurd (not_cut _ (each_at IsSolid head solid k low) (rw (at_part head (40 ∷ (inner ++ 41 ∷ [])) k low) at cuts))
        | inr high ↦ elim (cases_eq k (length head)) [
          | inl here ↦ absurd (opens_not_cut (rw (here, opening head inner) at cuts))
          | inr behind ↦ (
            length head,
            omega arith,
            omega arith,
            opening head inner,
            λ j above below. inner_byte head inner h j above (omega arith),
          )
        ]
      ];
      closed = λ inside. elim (cases_lt inside.0 (length head)) [
        | inl low ↦ let b = each_at IsSolid head solid inside.0 low in let e = at_part head (40 ∷ (inner ++ 41 ∷ [])) inside.0 low in
            let at_open = rw e at inside.3 in omega (arith, b.0, at_open)
        | inr high ↦ elim (cases_eq inside.0 (length head + (length inner + 1))) [
          | inl last ↦ let e = inside.3 in let f = rw (last, closing head inner) at e in absurd (omega (arith, f))
          | inr before ↦ inside.4 (length head + (length inner + 1)) (omega (arith, inside.2)) (omega arith) (closing head inner)
        ]
      ];
    }
  where
    not_cut : (b : ℕ) → IsSolid b → (is_white b || eqb b 91) ≡ true → ⊥
    not_cut b s e =
        elim (or_cases (is_white b) (eqb b 91) e)
        [ inl white ↦ both_ways _ (solid_not_white b s) white | inr bracket ↦ s.1 (eqb-true b 91 bracket) ]

    opens_not_cut : (is_white 40 || eqb 40 91) ≡ true → ⊥
    opens_not_cut e = absurd cc

    opening : (head inner : List ℕ) → get_or (head ++ 40 ∷ (inner ++ 41 ∷ [])) (length head) 0 ≡ 40
    opening head inner =
        let n : length head + 0 ≡ length head = omega arith in let e = at_front head (40 ∷ (inner ++ 41 ∷ [])) 0 in rw n at e

    closing : (head inner : List ℕ) → get_or (head ++ 40 ∷ (inner ++ 41 ∷ [])) (length head + (length inner + 1)) 0 ≡ 41
    closing head inner =
        let n : length inner + 1 ≡ suc (length inner) = omega arith in
        let m : length inner + 0 ≡ length inner = omega arith in
        let e = at_front inner (41 ∷ []) 0 in
        at_front head (40 ∷ (inner ++ 41 ∷ [])) (length inner + 1) ∙ rw n (rw m at e)

    inner_byte : (head inner : List ℕ) → AllByRecursion IsInner inner → (j : ℕ) → length head < j → j < length head + (length inner + 1)
        → get_or (head ++ 40 ∷ (inner ++ 41 ∷ [])) j 0 ≢ 41
    inner_byte head inner h j above below =
        let place : length head + suc (j - length head - 1) ≡ j = omega arith in
        let e = at_front head (40 ∷ (inner ++ 41 ∷ [])) (suc (j - length head - 1)) in
        let f = rw place at e in
        let lt : j - length head - 1 < length inner = omega arith in
        let g = at_part inner (41 ∷ []) (j - length head - 1) lt in
        subst (λ (b : ℕ). b ≢ 41) (sym (f ∙ g)) (each_at IsInner inner h (j - length head - 1) lt).0

plain_shape : (head : List ℕ) → 0 < length head → AllByRecursion IsSolid head → IsLevelText (head ++ [])
plain_shape head some solid = rw append-nil (record {
  some = some;
  first = solid_not_white _ (each_at IsSolid head solid 0 some);
  level = (each_at IsSolid head solid 0 some).1;
  whole = λ k lt cuts. absurd (not_cut _ (each_at IsSolid head solid k lt) cuts);
  closed = λ inside. let b = each_at IsSolid head solid inside.0 inside.2 in omega (arith, b.0, inside.3);
})
  where
    not_cut : (b : ℕ) → IsSolid b → (is_white b || eqb b 91) ≡ true → ⊥
    not_cut b s e =
        elim (or_cases (is_white b) (eqb b 91) e)
        [ inl white ↦ both_ways _ (solid_not_white b s) white | inr bracket ↦ s.1 (eqb-true b 91 bracket) ]

texts_shape : (head : List ℕ) (texts : List (List ℕ)) → 0 < length head → AllByRecursion IsSolid head
    → AllByRecursion (AllByRecursion IsSolid) texts → IsLevelText (head ++ in_parentheses texts)
texts_shape head [] some solid h = plain_shape head some solid
texts_shape head (first ∷ texts) some solid h =
    level_shape head (join_with_byte 32 (first ∷ texts)) some solid
    (each_joined IsInner 32 (first ∷ texts) ((λ e. absurd (omega arith), λ e. absurd (omega arith)))
    (each_weaker (AllByRecursion IsSolid) (AllByRecursion IsInner) (λ text t. each_weaker IsSolid IsInner solid_is_inner text t)
    (first ∷ texts) h))

memory_shape : (inner : List ℕ) → AllByRecursion (λ b. b ≢ 93) inner → IsMemoryText (91 ∷ (inner ++ 93 ∷ []))
memory_shape inner h =
    let long : length (inner ++ 93 ∷ []) ≡ length inner + 1 = length-append inner (93 ∷ []) in
    record {
      some = omega arith;
      first = refl;
      whole = λ k low high.
          let place : suc (k - 1) ≡ k = omega arith in
          let lt : k - 1 < length inner = omega arith in
          let byte : get_or (91 ∷ (inner ++ 93 ∷ [])) (suc (k - 1)) 0 ≢ 93 =
          subst (λ (b : ℕ). b ≢ 93) (sym (at_part inner (93 ∷ []) (k - 1) lt)) (each_at (λ b. b ≢ 93) inner h (k - 1) lt) in
          subst (λ (n : ℕ). get_or (91 ∷ (inner ++ 93 ∷ [])) n 0 ≢ 93) place byte;
      last =
          let place : suc (length inner + 0) ≡ length (91 ∷ (inner ++ 93 ∷ [])) - 1 = omega arith in
          let byte : get_or (91 ∷ (inner ++ 93 ∷ [])) (suc (length inner + 0)) 0 ≡ 93 = at_front inner (93 ∷ []) 0 in
          subst (λ (n : ℕ). get_or (91 ∷ (inner ++ 93 ∷ [])) n 0 ≡ 93) place byte;
    }

-- ---- the entries of a description

abbrev level_entry : Level → Entry
level_entry level = record { text = level_text level; is_memory = false; part = record { level = Some level; nodes = None } }

abbrev memory_entry : Memory → Entry
memory_entry memory =
    record {
      text = memory_text memory;
      is_memory = true;
      part =
          record { level = None; nodes = Some (record { size = memory.size; indexes = memory.indexes }) };
    }

abbrev entries_of : List Level → Option Memory → List Entry
entries_of levels None = map level_entry levels
entries_of levels (Some memory) =
    map level_entry (take memory.above levels) ++ memory_entry memory ∷ map level_entry (drop memory.above levels)

level_is_entry : (level : Level) → IsSoundLevel level → IsEntry (level_entry level)
level_is_entry level h =
    let names = names_kind level.kind h.no_machine h.no_node in
    let some : 0 < length (head_text level.kind level.arity) =
    omega (arith, length-append (long_name_of level.kind) (58 ∷ decimal level.arity)) in
    record {
      shape =
          texts_shape (head_text level.kind level.arity) (size_texts (codes "size") level.size ++ indexes_texts level.indexes) some
          (head_solid level.kind level.arity names h.arity.1) (level_texts_solid level h);
      read = λ behind. reads_level (untyped_kind behind) level h;
    }

memory_is_entry : (total : ℕ) (memory : Memory) → IsSoundMemory total memory → IsEntry (memory_entry memory)
memory_is_entry total memory h =
    let texts = size_texts (codes "memory") memory.size ++ indexes_texts memory.indexes in
    record {
      shape =
          memory_shape (codes "NUMANode" ++ in_parentheses texts)
          (no_bracket texts (memory_texts_solid memory.size memory.indexes h.size h.given));
      read = λ behind. reads_memory 0 total memory h;
    }

each_level_entry : (levels : List Level) → AllByRecursion IsSoundLevel levels → AllByRecursion IsEntry (map level_entry levels)
each_level_entry [] h = tt
each_level_entry (level ∷ levels) h = (level_is_entry level h.0, each_level_entry levels h.1)

each_take : (n : ℕ) (levels : List Level) → AllByRecursion IsSoundLevel levels → AllByRecursion IsSoundLevel (take n levels)
each_take zero levels h = tt
each_take (suc n) [] h = tt
each_take (suc n) (level ∷ levels) h = (h.0, each_take n levels h.1)

each_drop : (n : ℕ) (levels : List Level) → AllByRecursion IsSoundLevel levels → AllByRecursion IsSoundLevel (drop n levels)
each_drop zero levels h = h
each_drop (suc n) [] h = tt
each_drop (suc n) (level ∷ levels) h = each_drop n levels h.1

each_around : (above below : List Entry) (entry : Entry) → AllByRecursion IsEntry above → IsEntry entry → AllByRecursion IsEntry below
    → AllByRecursion IsEntry (above ++ entry ∷ below)
each_around [] below entry a e b = (e, b)
each_around (first ∷ above) below entry a e b = (a.0, each_around above below entry a.1 e b)

each_entry : (levels : List Level) (memory : Option Memory) → AllByRecursion IsSoundLevel levels
    → IfSome memory (IsSoundMemory (length levels)) → AllByRecursion IsEntry (entries_of levels memory)
each_entry levels None h k = each_level_entry levels h
each_entry levels (Some memory) h k =
    each_around (map level_entry (take memory.above levels)) (map level_entry (drop memory.above levels)) (memory_entry memory)
    (each_level_entry (take memory.above levels) (each_take memory.above levels h)) (memory_is_entry (length levels) memory k)
    (each_level_entry (drop memory.above levels) (each_drop memory.above levels h))

level_texts_are : (levels : List Level) → texts_of (map level_entry levels) ≡ map level_text levels
level_texts_are [] = refl
level_texts_are (level ∷ levels) = ap (λ (ts : List (List ℕ)). level_text level ∷ ts) (level_texts_are levels)

texts_around : (above : List Level) (memory : Memory) (below : List Level)
    → texts_of (map level_entry above ++ memory_entry memory ∷ map level_entry below) ≡ map level_text above
    ++ memory_text memory ∷ map level_text below
texts_around [] memory below = ap (λ (ts : List (List ℕ)). memory_text memory ∷ ts) (level_texts_are below)
texts_around (level ∷ above) memory below = ap (λ (ts : List (List ℕ)). level_text level ∷ ts) (texts_around above memory below)

entry_texts_are : (levels : List Level) (memory : Option Memory) → texts_of (entries_of levels memory) ≡ item_texts levels memory
entry_texts_are levels None = level_texts_are levels
entry_texts_are levels (Some memory) = texts_around (take memory.above levels) memory (drop memory.above levels)

-- ---- what the entries describe

placed_levels : (at : ℕ) (levels : List Level) → levels_of (placed_at at (map level_entry levels)) ≡ levels
placed_levels at [] = refl
placed_levels at (level ∷ levels) = ap (λ (ls : List Level). level ∷ ls) (placed_levels (at + length (level_text level) + 1) levels)

levels_around : (at : ℕ) (above : List Level) (memory : Memory) (below : List Level)
    → levels_of (placed_at at (map level_entry above ++ memory_entry memory ∷ map level_entry below)) ≡ above ++ below
levels_around at [] memory below = placed_levels (at + length (memory_text memory) + 1) below
levels_around at (level ∷ above) memory below =
    ap (λ (ls : List Level). level ∷ ls) (levels_around (at + length (level_text level) + 1) above memory below)

entry_levels : (levels : List Level) (memory : Option Memory) → levels_of (placed_at 0 (entries_of levels memory)) ≡ levels
entry_levels levels None = placed_levels 0 levels
entry_levels levels (Some memory) =
    levels_around 0 (take memory.above levels) memory (drop memory.above levels) ∙ take-append-drop memory.above levels

no_memory : (before at : ℕ) (levels : List Level) → memory_in before (placed_at at (map level_entry levels)) ≡ None
no_memory before at [] = refl
no_memory before at (level ∷ levels) = no_memory (before + 1) (at + length (level_text level) + 1) levels

memory_around : (before at : ℕ) (above : List Level) (memory : Memory) (below : List Level) → before + length above ≡ memory.above
    → memory_in before (placed_at at (map level_entry above ++ memory_entry memory ∷ map level_entry below)) ≡ Some memory
memory_around before at [] memory below h =
    let e : before + 0 ≡ memory.above = h in ap (λ (n : ℕ). Some (record memory { above = n })) e
memory_around before at (level ∷ above) memory below h =
    memory_around (before + 1) (at + length (level_text level) + 1) above memory below (omega arith)

entry_memory : (levels : List Level) (memory : Option Memory) → IfSome memory (IsSoundMemory (length levels))
    → memory_in 0 (placed_at 0 (entries_of levels memory)) ≡ memory
entry_memory levels None h = no_memory 0 0 levels
entry_memory levels (Some memory) h =
    memory_around 0 0 (take memory.above levels) memory (drop memory.above levels) (omega (arith, length-take memory.above levels, h.above))

-- ---- no rule is broken

-- nodes of memory come at most once, and not at all where they were seen
abbrev NodesOnce : Bool → List Placed → Type 0
NodesOnce seen [] = Unit {0}
NodesOnce seen (item ∷ items) = (has_nodes item ≡ true → seen ≡ false) × NodesOnce (seen || has_nodes item) items

levels_later : (before items : List Placed) (item : Placed) → levels_of (before ++ item ∷ []) ++ levels_of items ≡ levels_of before
    ++ levels_of (item ∷ items)
levels_later [] items item = only item.part.level
  where
    only : (level : Option Level) → cons_option level [] ++ levels_of items ≡ cons_option level (levels_of items)
    only None = refl
    only (Some level) = refl
levels_later (first ∷ before) items item = one first.part.level (levels_later before items item)
  where
    one : (level : Option Level) → levels_of (before ++ item ∷ []) ++ levels_of items ≡ levels_of before ++ levels_of (item ∷ items)
        → cons_option level (levels_of (before ++ item ∷ [])) ++ levels_of items ≡ cons_option level (levels_of before)
        ++ levels_of (item ∷ items)
    one None h = h
    one (Some level) h = ap (λ (ls : List Level). level ∷ ls) h

-- no level before one is of its kind, unless that is Group
differs_before : (before : List Level) (level : Level) (rest : List Level) → KindsDiffer (before ++ level ∷ rest) → level.kind ≢ Group
    → AllByRecursion (λ other. other.kind ≢ level.kind) before
differs_before [] level rest h apart = tt
differs_before (first ∷ before) level rest h apart = (
  elim h.0 [
    | inl group ↦ (λ e. apart (sym e ∙ group))
    | inr others ↦ (λ e. met before level rest others (sym e))
  ],
  differs_before before level rest h.1 apart,
)
  where
    met : (before : List Level) (level : Level) (rest : List Level)
        → AllByRecursion (λ other. other.kind ≢ first.kind) (before ++ level ∷ rest) → level.kind ≢ first.kind
    met [] level rest h = h.0
    met (other ∷ before) level rest h = met before level rest h.1

none_of_kind : (kind : Kind) (before : List Placed) → AllByRecursion (λ other. other.kind ≢ kind) (levels_of before)
    → any_of_kind kind before ≡ false
none_of_kind kind [] h = refl
none_of_kind kind (item ∷ before) h = one item.part.level h (none_of_kind kind before)
  where
    one : (level : Option Level) → AllByRecursion (λ other. other.kind ≢ kind) (cons_option level (levels_of before))
        → (AllByRecursion (λ other. other.kind ≢ kind) (levels_of before) → any_of_kind kind before ≡ false)
        → (has_kind kind level || any_of_kind kind before) ≡ false
    one None h rest = rest h
    one (Some level) h rest = or_from _ _ (same_kind-false level.kind kind h.0) (rest h.1)

kind_first : (before items : List Placed) (level : Option Level) → KindsDiffer (levels_of before ++ cons_option level (levels_of items))
    → is_kind_again before level ≡ false
kind_first before items None h = refl
kind_first before items (Some level) h =
    elim (cases_Bool (same_kind level.kind Group)) [
      | inl group ↦ rw group refl
      | inr other ↦
          let none = none_of_kind level.kind before
          (differs_before (levels_of before) level (levels_of items) h (λ g. both_ways _ other (same_kind-equal level.kind Group g))) in
          rw (other, none) refl
    ]

nodes_first : (has seen : Bool) → (has ≡ true → seen ≡ false) → (has && seen) ≡ false
nodes_first true seen h = h refl
nodes_first false seen h = refl

or_false : (a : Bool) → (a || false) ≡ a
or_false true = refl
or_false false = refl

none_again : (before items : List Placed) → KindsDiffer (levels_of before ++ levels_of items) → NodesOnce (list_any has_nodes before) items
    → first_again before items ≡ None
none_again before [] h once = refl
none_again before (item ∷ items) h once =
    let first : is_again before item ≡ false =
    or_from _ _ (nodes_first (has_nodes item) (list_any has_nodes before) once.0) (kind_first before items item.part.level h) in
    let seen : list_any has_nodes (before ++ item ∷ []) ≡ (list_any has_nodes before || has_nodes item) =
    list_any-append has_nodes before (item ∷ []) ∙ ap (λ b. list_any has_nodes before || b) (or_false (has_nodes item))
    in
    rw first (none_again (before ++ item ∷ []) items (rw levels_later h) (rw seen once.1))

once_levels : (seen : Bool) (at : ℕ) (levels : List Level) → NodesOnce seen (placed_at at (map level_entry levels))
once_levels seen at [] = tt
once_levels seen at (level ∷ levels) = ((λ e. absurd cc), once_levels (seen || false) (at + length (level_text level) + 1) levels)

once_around : (at : ℕ) (above : List Level) (memory : Memory) (below : List Level)
    → NodesOnce false (placed_at at (map level_entry above ++ memory_entry memory ∷ map level_entry below))
once_around at [] memory below = ((λ e. refl), once_levels true (at + length (memory_text memory) + 1) below)
once_around at (level ∷ above) memory below = ((λ e. refl), once_around (at + length (level_text level) + 1) above memory below)

entry_nodes : (levels : List Level) (memory : Option Memory) → NodesOnce false (placed_at 0 (entries_of levels memory))
entry_nodes levels None = once_levels false 0 levels
entry_nodes levels (Some memory) = once_around 0 (take memory.above levels) memory (drop memory.above levels)

-- the last item is a level of PUs
abbrev LastIsPu : List Placed → Type 0
LastIsPu [] = ⊥
LastIsPu (item ∷ []) = has_kind Pu item.part.level ≡ true
LastIsPu (item ∷ next ∷ items) = LastIsPu (next ∷ items)

last_later : (item : Placed) (items : List Placed) → LastIsPu items → LastIsPu (item ∷ items)
last_later item [] h = absurd h
last_later item (next ∷ items) h = h

last_any : (items : List Placed) → LastIsPu items → list_any is_level items ≡ true
last_any [] h = absurd h
last_any (item ∷ []) h = or_left _ _ (has_level item.part.level h)
  where
    has_level : (level : Option Level) → has_kind Pu level ≡ true → is_some level ≡ true
    has_level None h = absurd cc
    has_level (Some level) h = refl
last_any (item ∷ next ∷ items) h = or_right _ _ (last_any (next ∷ items) h)

ends_right : (items : List Placed) → LastIsPu items → wrong_end (from_last items) ≡ None
ends_right [] h = absurd h
ends_right (item ∷ []) h = rw h refl
ends_right (item ∷ next ∷ items) h = rw (last_any (next ∷ items) h) (ends_right (next ∷ items) h)

last_levels : (at : ℕ) (levels : List Level) → EndsInPus levels → LastIsPu (placed_at at (map level_entry levels))
last_levels at [] h = absurd h
last_levels at (level ∷ []) h = same_kind-equal level.kind Pu h
last_levels at (level ∷ next ∷ levels) h = last_levels (at + length (level_text level) + 1) (next ∷ levels) h

last_around : (at : ℕ) (above : List Level) (memory : Memory) (below : List Level) → EndsInPus below
    → LastIsPu (placed_at at (map level_entry above ++ memory_entry memory ∷ map level_entry below))
last_around at [] memory below h =
    last_later (record { at = at; part = (memory_entry memory).part })
    (placed_at (at + length (memory_text memory) + 1) (map level_entry below))
    (last_levels (at + length (memory_text memory) + 1) below h)
last_around at (level ∷ above) memory below h =
    last_later (record { at = at; part = (level_entry level).part })
    (placed_at (at + length (level_text level) + 1) (map level_entry above ++ memory_entry memory ∷ map level_entry below))
    (last_around (at + length (level_text level) + 1) above memory below h)

ends_below : (n : ℕ) (levels : List Level) → n < length levels → EndsInPus levels → EndsInPus (drop n levels)
ends_below zero levels lt h = h
ends_below (suc n) [] lt h = absurd h
ends_below (suc n) (level ∷ []) lt h = absurd (omega arith)
ends_below (suc n) (level ∷ next ∷ levels) lt h = ends_below n (next ∷ levels) (omega arith) h

entry_last : (levels : List Level) (memory : Option Memory) → EndsInPus levels → IfSome memory (IsSoundMemory (length levels))
    → LastIsPu (placed_at 0 (entries_of levels memory))
entry_last levels None h k = last_levels 0 levels h
entry_last levels (Some memory) h k =
    last_around 0 (take memory.above levels) memory (drop memory.above levels) (ends_below memory.above levels k.above h)

some_levels : (levels : List Level) → EndsInPus levels → length levels ≢ 0
some_levels [] h e = h
some_levels (level ∷ levels) h e = omega arith

-- ---- the whole

abbrev parts_for : Description → List Placed
parts_for described = placed_at 0 (entries_of described.levels described.memory)

described_again : (described : Description) → IsSound described → description_of (parts_for described) ≡ described
described_again described h =
    ap (λ (ls : List Level). made ls (memory_in 0 (parts_for described))) (entry_levels described.levels described.memory)
    ∙ ap (λ (m : Option Memory). made described.levels m) (entry_memory described.levels described.memory h.memory)
  where
    made : List Level → Option Memory → Description
    made levels memory = record { levels = levels; memory = memory }

unbroken : (described : Description) → IsSound described → broken (parts_for described) ≡ None
unbroken described h =
    let levels = entry_levels described.levels described.memory in
    let again = described_again described h in
    broken_none (parts_for described)
    (refused_none (parts_for described) (rw levels (some_levels described.levels h.ends))
    (none_again [] (parts_for described) (rw levels h.differ) (entry_nodes described.levels described.memory))
    (ends_right (parts_for described) (entry_last described.levels described.memory h.ends h.memory)) (rw levels h.few))
    (subst (λ (d : Description). is_large d ≡ false) (sym again)
    (or_from _ _ (le-ltb 4096 (pu_count described) h.pus) (le-ltb 16384 (object_count described) h.objects)))

pub canonical_describes : (described : Description) → IsSound described → Describes (canonical described) described
unfolding canonical
canonical_describes described h =
    let entries = entries_of described.levels described.memory in
    let each = each_entry described.levels described.memory h.levels h.memory in
    let ends : EndsWith (canonical described) 0 entries =
    record { front = []; long = refl; parts = ap (join_with_byte 32) (sym (entry_texts_are described.levels described.memory)) } in
    record {
      items = items_at 0 entries;
      cut = are_items (canonical described) 0 0 entries each (omega arith) (λ k low high. absurd (omega arith)) ends;
      said = rw (reads_items (canonical described) 0 entries each ends, unbroken described h) (ap Ok (described_again described h));
    }
