-- How a text is cut into items. All places are offsets in the whole text.
use Rattle.std.specs.Prelude.{◌≡◌, ◌≢◌, ◌⊎◌, ℕ, ◌+◌, ◌-◌, ◌<◌, ◌≤◌, true, false, ◌||◌, ◌==◌, List, [], ◌∷◌, length, take, drop, slice_index}
use Rattle.std.specs.Bool.{MatchBool}
use Rattle.byte_text.specs.Classes.{is_white}
use Rattle.synth_text.specs.declared.items.Item.{Item}

-- From one place up to another there is white space alone.
abbrev pub IsGap : List ℕ → ℕ → ℕ → Type 0
IsGap text from to = (k : ℕ) → from ≤ k → k < to → is_white (slice_index text k) ≡ true

-- A place is inside parentheses where a `(` stands before it, not before the item's start, and no `)` between them.
abbrev pub IsInside : List ℕ → ℕ → ℕ → Type 0
IsInside text start place =
    (opened : ℕ) × (start ≤ opened) × (opened < place) × (slice_index text opened ≡ 40)
    × ((k : ℕ) → opened < k → k < place → slice_index text k ≢ 41)

-- A level item ends at white space or `[` outside parentheses.
pub record EndsLevel (text : List ℕ) (start place : ℕ) : Type 0 where
  pub byte : (is_white (slice_index text place) || slice_index text place == 91) ≡ true
  pub outside : ¬ (IsInside text start place)

-- A level item runs to its first such place, or to the end of the text.
pub record IsLevelItem (text : List ℕ) (start end : ℕ) : Type 0 where
  pub whole : (k : ℕ) → start ≤ k → k < end → ¬ (EndsLevel text start k)
  pub ended : (end ≡ length text) ⊎ EndsLevel text start end

-- A memory item runs through its first `]`, or to the end of the text.
pub record IsMemoryItem (text : List ℕ) (start end : ℕ) : Type 0 where
  pub whole : (k : ℕ) → start < k → k + 1 < end → slice_index text k ≢ 93
  pub ended : (end ≡ length text) ⊎ ((start + 1 < end) × (slice_index text (end - 1) ≡ 93))

-- An item begins at a byte that is no white space. One that begins with `[` is a memory item, every other a level item.
pub record IsItem (text : List ℕ) (item : Item) : Type 0 where
  pub long : item.start < item.end
  pub within : item.end ≤ length text
  pub first : is_white (slice_index text item.start) ≡ false
  pub kind : item.is_memory ≡ (slice_index text item.start == 91)
  pub body : MatchBool item.is_memory (IsMemoryItem text item.start item.end) (IsLevelItem text item.start item.end)

-- From a place on, the text is these items with gaps of white space before, between and behind them.
abbrev pub AreItems : List ℕ → ℕ → List Item → Type 0
AreItems text from [] = IsGap text from (length text)
AreItems text from (item ∷ items) = (from ≤ item.start) × IsGap text from item.start × IsItem text item × AreItems text item.end items

-- the bytes of an item
abbrev pub body_of : List ℕ → Item → List ℕ
body_of text item = take (item.end - item.start) (drop item.start text)
