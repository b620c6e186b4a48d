-- What the hexadecimal and the list text of a set mean, and which fault a text has. The forms are those of hwloc 2's manual, "The
-- bitmap API"; the limit of 4,096, the digits of a word, the faults and their order are this project's profile. 44 is a comma, 45 a dash.
use Rattle.std.specs.Prelude.{
  ℕ,
  ◌≡◌,
  ◌+◌,
  ◌/◌,
  ◌%◌,
  Bool,
  not,
  ◌&&◌,
  ◌||◌,
  ◌==◌,
  nat_eq,
  nat_lt,
  nat_le,
  if◌then◌else◌,
  List,
  [],
  ◌∷◌,
  length,
  drop,
  codes,
  Option,
  Some,
  None,
}
use Rattle.std.specs.Int.{bit_at}
use Rattle.std.specs.List.{list_any, starts_with, slice_split, before_first, after_first}
use Rattle.std.specs.Option.{option_or}
use Rattle.std.specs.Str.Parse.{digits_value}
use Rattle.byte_text.specs.Numerals.{is_numeral}
use Rattle.cpu_set.specs.declared.fault.SetFault.{SetFault}
use Rattle.cpu_set.specs.declared.fault.SetFault.TheVariants.{Form, TooLarge, Infinite}
use Rattle.cpu_set.specs.Sets.{set_limit, numbers_where}
use Rattle.cpu_set.specs.Bits.{word_count}

-- The rule of a form tells the fault of one part of a text, by its offset, by how many parts stand behind it, and by
-- its bytes.
abbrev pub Rule : Type 0
Rule = ℕ → ℕ → List ℕ → Option SetFault

-- the fault of the leftmost part that breaks the rule, where the parts begin at that offset and a comma stands between
-- each two
abbrev pub leftmost : Rule → ℕ → List (List ℕ) → Option SetFault
leftmost rule at [] = None
leftmost rule at (part ∷ parts) =
    option_or (rule at (length parts) part) (leftmost rule (at + length part + 1) parts)

abbrev pub parts_of : List ℕ → List (List ℕ)
parts_of text = slice_split (λ byte. byte == 44) text

-- ---- hexadecimal (`hwloc_bitmap_sscanf`)

-- a word without the `0x` or `0X` that it may begin with
abbrev pub without_prefix : List ℕ → List ℕ
without_prefix word =
    if starts_with nat_eq word (codes "0x") || starts_with nat_eq word (codes "0X") then drop 2 word else word

abbrev pub word_value : List ℕ → ℕ
word_value word = digits_value 16 (without_prefix word)

-- one to eight digits, with or without prefix
abbrev pub is_word : List ℕ → Bool
is_word word = is_numeral 16 (without_prefix word) && nat_le (length (without_prefix word)) 8

-- an empty word is good, and zero, where it is neither the first nor the last: the first begins at offset 0
abbrev pub is_gap : ℕ → ℕ → List ℕ → Bool
is_gap at behind word = length word == 0 && (nat_lt 0 at && nat_lt 0 behind)

-- a word with as many behind it as have all numbers of a set is to be zero
abbrev pub hex_rule : Rule
hex_rule at behind word =
    if is_word word || is_gap at behind word
    then (if nat_le word_count behind && not (word_value word == 0) then Some (TooLarge at) else None)
    else Some (Form at)

-- `0xf...f` begins hwloc's text of an infinite set
abbrev pub hex_fault : List ℕ → Option SetFault
hex_fault text =
    if starts_with nat_eq text (codes "0xf...f") then Some (Infinite 0) else leftmost hex_rule 0 (parts_of text)

-- the word at a place, counted from the last, and 0 where there is none
abbrev pub word_at : List (List ℕ) → ℕ → ℕ
word_at [] place = 0
word_at (word ∷ words) place = if place == length words then word_value word else word_at words place

abbrev pub is_in_hex : List ℕ → ℕ → Bool
is_in_hex text number = bit_at (word_at (parts_of text) (number / 32)) (number % 32) == 1

-- the text breaks no rule, and the set has 32i + b exactly where word i, counted from the last, has bit b
pub record ReadsHex (text set : List ℕ) : Type 0 where
  pub good : hex_fault text ≡ None
  pub numbers : set ≡ numbers_where (is_in_hex text)

abbrev pub HexRefused : List ℕ → SetFault → Type 0
HexRefused text fault = hex_fault text ≡ Some fault

-- ---- lists (`hwloc_bitmap_list_sscanf`)

abbrev pub has_dash : List ℕ → Bool
has_dash item = list_any (λ byte. byte == 45) item

-- an item's first end stands before its first dash, and its second behind it; `a` alone has both ends a
abbrev pub low_end : List ℕ → List ℕ
low_end item = before_first (λ byte. byte == 45) item

abbrev pub high_end : List ℕ → List ℕ
high_end item = if has_dash item then after_first (λ byte. byte == 45) item else item

abbrev pub low_value : List ℕ → ℕ
low_value item = digits_value 10 (low_end item)

abbrev pub high_value : List ℕ → ℕ
high_value item = digits_value 10 (high_end item)

-- two numerals, the first not above the second, however long they are
abbrev pub is_range : List ℕ → List ℕ → Bool
is_range low high =
    is_numeral 10 low && (is_numeral 10 high && nat_le (digits_value 10 low) (digits_value 10 high))

-- `a-`
abbrev pub is_open : List ℕ → Bool
is_open item = is_numeral 10 (low_end item) && (has_dash item && (length (high_end item) == 0))

-- the fault of the ends of an item that begins at that offset: the first of the two that is 4,096 or more
abbrev pub range_fault : ℕ → List ℕ → List ℕ → Option SetFault
range_fault at low high =
    if not (is_range low high) then Some (Form at)
    else (if nat_le set_limit (digits_value 10 low) then Some (TooLarge at)
    else (if nat_le set_limit (digits_value 10 high) then Some (TooLarge (at + length low + 1))
    else None))

-- an item is `a`, `a-b` or `a-`; what is none of these is no range
abbrev pub list_rule : Rule
list_rule at behind item = if is_open item then Some (Infinite at) else range_fault at (low_end item) (high_end item)

-- the empty text has no item
abbrev pub items_of : List ℕ → List (List ℕ)
items_of [] = []
items_of (byte ∷ bytes) = parts_of (byte ∷ bytes)

abbrev pub list_fault : List ℕ → Option SetFault
list_fault text = leftmost list_rule 0 (items_of text)

abbrev pub covers : ℕ → List ℕ → Bool
covers number item = nat_le (low_value item) number && nat_le number (high_value item)

abbrev pub is_in_list : List ℕ → ℕ → Bool
is_in_list text number = list_any (covers number) (items_of text)

-- the text breaks no rule, and the set has exactly the numbers that some item covers
pub record ReadsList (text set : List ℕ) : Type 0 where
  pub good : list_fault text ≡ None
  pub numbers : set ≡ numbers_where (is_in_list text)

abbrev pub ListRefused : List ℕ → SetFault → Type 0
ListRefused text fault = list_fault text ≡ Some fault
