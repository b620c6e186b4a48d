-- A canonical text is the list of the items that it was written from.
use Rattle.std.proofs.Common.{
  ◌≡◌,
  ◌≢◌,
  ◌⊎◌,
  ℕ,
  zero,
  suc,
  ◌+◌,
  ◌-◌,
  ◌<◌,
  ◌≤◌,
  Bool,
  true,
  false,
  ◌||◌,
  eqb,
  List,
  [],
  ◌∷◌,
  ◌++◌,
  length,
  get_or,
  map,
  Ok,
  refl,
  sym,
  ap,
  subst,
  ◌∙◌,
  append_assoc,
  arith,
  inl,
  inr,
}
use Rattle.std.specs.Bool.{MatchBool}
use Rattle.std.specs.List.{AllByRecursion, join_with_byte}
use Rattle.std.proofs.lemmas.Bool.{ne_eqb}
use Rattle.std.proofs.lemmas.List.{length-append, append-nil, take_at, drop_at}
use Rattle.synth_text.specs.declared.items.Item.{Item}
use Rattle.synth_text.specs.declared.parts.Part.{Part}
use Rattle.synth_text.specs.declared.parts.Placed.{Placed}
use Rattle.byte_text.specs.Classes.{is_white}
use Rattle.synth_text.specs.Items.{IsGap, IsInside, IsItem, AreItems, body_of}
use Rattle.synth_text.specs.Descriptions.{level_items, part_of, placed_part, parts_of}

-- ---- places in a longer text

-- a byte of a text that stands behind others
pub at_front : (front text : List ℕ) (k : ℕ) → get_or (front ++ text) (length front + k) 0 ≡ get_or text k 0
at_front [] text k = ap (λ (n : ℕ). get_or text n 0) (omega arith)
at_front (b ∷ front) text k = let e : suc (length front) + k ≡ suc (length front + k) = omega arith in rw e (at_front front text k)

-- a byte of a text that stands before others
pub at_part : (text behind : List ℕ) (k : ℕ) → k < length text → get_or (text ++ behind) k 0 ≡ get_or text k 0
at_part [] behind k lt = absurd (omega arith)
at_part (b ∷ text) behind zero lt = refl
at_part (b ∷ text) behind (suc k) lt = at_part text behind k (omega arith)

-- a text that stands in another one, from a place on
pub record StandsAt (whole : List ℕ) (at : ℕ) (text behind : List ℕ) : Type 0 where
  pub front : List ℕ
  pub long : length front ≡ at
  pub parts : whole ≡ front ++ (text ++ behind)

byte_at : (whole : List ℕ) (at : ℕ) (text behind : List ℕ) → StandsAt whole at text behind → (k : ℕ) → k < length text
    → get_or whole (at + k) 0 ≡ get_or text k 0
byte_at whole at text behind h k lt =
    rw (h.parts, ← h.long) (at_front h.front (text ++ behind) k ∙ at_part text behind k lt)

byte_behind : (whole : List ℕ) (at : ℕ) (text behind : List ℕ) → StandsAt whole at text behind
    → get_or whole (at + length text) 0 ≡ get_or behind 0 0
byte_behind whole at text behind h =
    let e = at_front text behind 0 in
    let n : length text + 0 ≡ length text = omega arith in
    rw (h.parts, ← h.long) (at_front h.front (text ++ behind) (length text) ∙ (rw n at e))

whole_length : (whole : List ℕ) (at : ℕ) (text behind : List ℕ) → StandsAt whole at text behind
    → length whole ≡ at + (length text + length behind)
whole_length whole at text behind h = rw h.parts (omega (arith, length-append h.front (text ++ behind), length-append text behind, h.long))

pub same_body : (whole : List ℕ) (at : ℕ) (text behind : List ℕ) (item : Item) → StandsAt whole at text behind → item.start ≡ at
    → item.end ≡ at + length text → body_of whole item ≡ text
same_body whole at text behind item h starts ends =
    let n : item.end - item.start ≡ length text = omega arith in
    rw (n, starts, h.parts, drop_at h.front (text ++ behind) at h.long) (take_at text behind (length text) refl)

-- parentheses in the part are parentheses in the whole
inside_whole : (whole : List ℕ) (at : ℕ) (text behind : List ℕ) → StandsAt whole at text behind → (k : ℕ) → k ≤ length text
    → IsInside text 0 k → IsInside whole at (at + k)
inside_whole whole at text behind h k within inside = (
  at + inside.0,
  omega arith,
  omega (arith, inside.2),
  byte_at whole at text behind h inside.0 (omega (arith, inside.2)) ∙ inside.3,
  λ j low high.
      let same : at + (j - at) ≡ j = omega (arith, low) in
      let e = byte_at whole at text behind h (j - at) (omega (arith, low)) in
      let f = rw same at e in
      subst (λ (b : ℕ). b ≢ 41) (sym f) (inside.4 (j - at) (omega (arith, low)) (omega (arith, low))),
)

inside_part : (whole : List ℕ) (at : ℕ) (text behind : List ℕ) → StandsAt whole at text behind → (k : ℕ) → k ≤ length text
    → IsInside whole at (at + k) → IsInside text 0 k
inside_part whole at text behind h k within inside =
    let opened = inside.0 - at in
    let place : at + opened ≡ inside.0 = omega (arith, inside.1) in
    let lt : opened < k = omega (arith, inside.1, inside.2) in
    let e = byte_at whole at text behind h opened (omega arith) in (
      opened,
      omega arith,
      lt,
      sym (rw place at e) ∙ inside.3,
      λ j low high. subst (λ (b : ℕ). b ≢ 41) (byte_at whole at text behind h j (omega arith))
          (inside.4 (at + j) (omega (arith, inside.1)) (omega arith)),
    )

-- ---- items

-- a text that is a level item, whatever stands around it
pub record IsLevelText (text : List ℕ) : Type 0 where
  pub some : 0 < length text
  pub first : is_white (get_or text 0 0) ≡ false
  pub level : get_or text 0 0 ≢ 91
  pub whole : (k : ℕ) → k < length text → (is_white (get_or text k 0) || eqb (get_or text k 0) 91) ≡ true → IsInside text 0 k
  pub closed : IsInside text 0 (length text) → ⊥

-- a text that is a memory item
pub record IsMemoryText (text : List ℕ) : Type 0 where
  pub some : 1 < length text
  pub first : get_or text 0 0 ≡ 91
  pub whole : (k : ℕ) → 0 < k → k + 1 < length text → get_or text k 0 ≢ 93
  pub last : get_or text (length text - 1) 0 ≡ 93

abbrev pub item_of : ℕ → List ℕ → Bool → Item
item_of at text is_memory = record { start = at; end = at + length text; is_memory = is_memory }

-- nothing or a space follows
abbrev pub IsFollowed : List ℕ → Type 0
IsFollowed behind = (behind ≡ []) ⊎ ((0 < length behind) × (get_or behind 0 0 ≡ 32))

pub is_level_item : (whole : List ℕ) (at : ℕ) (text behind : List ℕ) → StandsAt whole at text behind → IsLevelText text → IsFollowed behind
    → IsItem whole (item_of at text false)
is_level_item whole at text behind h t follows =
    let n : at + 0 ≡ at = omega arith in
    let first = byte_at whole at text behind h 0 t.some in
    let here = rw n at first in
    record {
      long = omega (arith, t.some);
      within = omega (arith, whole_length whole at text behind h);
      first = rw here t.first;
      kind = sym (rw here (ne_eqb (get_or text 0 0) 91 t.level));
      body = record {
        whole = λ k low high ends.
            let place : at + (k - at) ≡ k = omega arith in
            let e = byte_at whole at text behind h (k - at) (omega arith) in
            let same = rw place at e in
            let inside = inside_whole whole at text behind h (k - at) (omega arith)
            (t.whole (k - at) (omega arith) (rw same at ends.byte)) in
            ends.outside (subst (IsInside whole at) place inside);
        ended = elim follows [
          | inl nothing ↦ inl (omega (arith, whole_length whole at text behind h, ap length nothing))
          | inr space ↦ inr (record {
            byte = let e = byte_behind whole at text behind h in rw (e, space.1) refl;
            outside = λ inside. t.closed (inside_part whole at text behind h (length text) (omega arith) inside);
          })
        ];
      };
    }

pub is_memory_item : (whole : List ℕ) (at : ℕ) (text behind : List ℕ) → StandsAt whole at text behind → IsMemoryText text
    → IsItem whole (item_of at text true)
is_memory_item whole at text behind h t =
    let n : at + 0 ≡ at = omega arith in
    let first = byte_at whole at text behind h 0 (omega (arith, t.some)) in
    let here = rw n at first in
    let last = byte_at whole at text behind h (length text - 1) (omega (arith, t.some)) in
    let place : at + (length text - 1) ≡ at + length text - 1 = omega (arith, t.some) in
    let close = rw place at last in
    record {
      long = omega (arith, t.some);
      within = omega (arith, whole_length whole at text behind h);
      first = rw (here, t.first) refl;
      kind = sym (rw (here, t.first) refl);
      body = record {
        whole = λ k low high.
            let place : at + (k - at) ≡ k = omega arith in
            let e = byte_at whole at text behind h (k - at) (omega arith) in
            let same = rw place at e in
            subst (λ (b : ℕ). b ≢ 93) (sym same) (t.whole (k - at) (omega arith) (omega arith));
        ended = inr (omega (arith, t.some), close ∙ t.last);
      };
    }

-- ---- the whole text

-- what an item was written from: its text, and what is read from it
pub record Entry : Type 0 where
  pub text : List ℕ
  pub is_memory : Bool
  pub part : Part

pub record IsEntry (entry : Entry) : Type 0 where
  pub shape : MatchBool entry.is_memory (IsMemoryText entry.text) (IsLevelText entry.text)
  pub read : (behind : ℕ) → part_of entry.text entry.is_memory behind ≡ Ok entry.part

abbrev pub texts_of : List Entry → List (List ℕ)
texts_of entries = map (λ entry. entry.text) entries

-- the items of entries with one space between them, from a place on
abbrev pub items_at : ℕ → List Entry → List Item
items_at at [] = []
items_at at (entry ∷ entries) = item_of at entry.text entry.is_memory ∷ items_at (at + length entry.text + 1) entries

abbrev pub placed_at : ℕ → List Entry → List Placed
placed_at at [] = []
placed_at at (entry ∷ entries) = record { at = at; part = entry.part } ∷ placed_at (at + length entry.text + 1) entries

is_item : (whole : List ℕ) (at : ℕ) (text : List ℕ) (is_memory : Bool) (behind : List ℕ) → StandsAt whole at text behind
    → MatchBool is_memory (IsMemoryText text) (IsLevelText text) → IsFollowed behind
    → IsItem whole (item_of at text is_memory)
is_item whole at text true behind h t follows = is_memory_item whole at text behind h t
is_item whole at text false behind h t follows = is_level_item whole at text behind h t follows

-- what follows the first of the texts
abbrev behind_first : List Entry → List ℕ
behind_first [] = []
behind_first (entry ∷ entries) = 32 ∷ join_with_byte 32 (texts_of (entry ∷ entries))

joined_first : (entry : Entry) (entries : List Entry) → join_with_byte 32 (texts_of (entry ∷ entries)) ≡ entry.text ++ behind_first entries
joined_first entry [] = sym (append-nil entry.text)
joined_first entry (next ∷ entries) = refl

follows_first : (entries : List Entry) → IsFollowed (behind_first entries)
follows_first [] = inl refl
follows_first (entry ∷ entries) = inr (omega arith, refl)

-- the texts of the entries stand in a text from a place on, to its end
pub record EndsWith (whole : List ℕ) (at : ℕ) (entries : List Entry) : Type 0 where
  pub front : List ℕ
  pub long : length front ≡ at
  pub parts : whole ≡ front ++ join_with_byte 32 (texts_of entries)

first_stands : (whole : List ℕ) (at : ℕ) (entry : Entry) (entries : List Entry) → EndsWith whole at (entry ∷ entries)
    → StandsAt whole at entry.text (behind_first entries)
first_stands whole at entry entries h =
    record { front = h.front; long = h.long; parts = h.parts ∙ ap (λ (xs : List ℕ). h.front ++ xs) (joined_first entry entries) }

rest_ends : (whole : List ℕ) (at : ℕ) (entry next : Entry) (entries : List Entry) → EndsWith whole at (entry ∷ next ∷ entries)
    → EndsWith whole (at + length entry.text + 1) (next ∷ entries)
rest_ends whole at entry next entries h = record {
  front = (h.front ++ entry.text) ++ 32 ∷ [];
  long = omega (arith, length-append (h.front ++ entry.text) (32 ∷ []), length-append h.front entry.text, h.long);
  parts =
      h.parts ∙ sym (append_assoc h.front entry.text (32 ∷ join_with_byte 32 (texts_of (next ∷ entries))))
      ∙ sym (append_assoc (h.front ++ entry.text) (32 ∷ []) (join_with_byte 32 (texts_of (next ∷ entries))));
}

one_space : (whole : List ℕ) (at : ℕ) (text behind : List ℕ) → StandsAt whole at text behind → get_or behind 0 0 ≡ 32
    → IsGap whole (at + length text) (at + length text + 1)
one_space whole at text behind h space k low high =
    let here : k ≡ at + length text = omega arith in
    let e = byte_behind whole at text behind h in
    rw (here, e, space) refl

pub are_items : (whole : List ℕ) (from at : ℕ) (entries : List Entry) → AllByRecursion IsEntry entries → from ≤ at → IsGap whole from at
    → EndsWith whole at entries
    → AreItems whole from (items_at at entries)
are_items whole from at [] each after gap h =
    let end : at ≡ length whole = omega (arith, ap length h.parts, length-append h.front [], h.long) in
    subst (IsGap whole from) end gap
are_items whole from at (entry ∷ []) each after gap h =
    let stands = first_stands whole at entry [] h in (
      after,
      gap,
      is_item whole at entry.text entry.is_memory [] stands each.0.shape (inl refl),
      λ k low high. absurd (omega (arith, whole_length whole at entry.text [] stands)),
    )
are_items whole from at (entry ∷ next ∷ entries) each after gap h =
    let stands = first_stands whole at entry (next ∷ entries) h in (
      after,
      gap,
      is_item whole at entry.text entry.is_memory (behind_first (next ∷ entries)) stands each.0.shape (follows_first (next ∷ entries)),
      are_items whole (at + length entry.text) (at + length entry.text + 1) (next ∷ entries) each.1 (omega arith)
          (one_space whole at entry.text (behind_first (next ∷ entries)) stands refl)
          (rest_ends whole at entry next entries h),
    )

first_read : (whole : List ℕ) (at : ℕ) (entry : Entry) (behind : List ℕ) (left : ℕ) → StandsAt whole at entry.text behind → IsEntry entry
    → placed_part whole (item_of at entry.text entry.is_memory) left ≡ Ok (record { at = at; part = entry.part })
first_read whole at entry behind left stands good =
    rw (same_body whole at entry.text behind (item_of at entry.text entry.is_memory) stands refl refl, good.read left) refl

pub reads_items : (whole : List ℕ) (at : ℕ) (entries : List Entry) → AllByRecursion IsEntry entries → EndsWith whole at entries
    → parts_of whole (items_at at entries) ≡ Ok (placed_at at entries)
reads_items whole at [] each h = refl
reads_items whole at (entry ∷ []) each h = rw (first_read whole at entry [] 0 (first_stands whole at entry [] h) each.0) refl
reads_items whole at (entry ∷ next ∷ entries) each h =
    rw (
      first_read whole at entry (behind_first (next ∷ entries)) (level_items (items_at (at + length entry.text + 1) (next ∷ entries)))
          (first_stands whole at entry (next ∷ entries) h) each.0,
      reads_items whole (at + length entry.text + 1) (next ∷ entries) each.1 (rest_ends whole at entry next entries h),
    ) refl
