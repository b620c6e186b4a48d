-- The printed texts of a set: those of hwloc 2's manual, "The bitmap API", in this project's profile, which is of finite sets.
-- 44 is a comma, 45 a dash, and `0x` stands before hexadecimal digits.
use Rattle.std.specs.Prelude.{ℕ, ◌+◌, ◌/◌, ◌%◌, suc, zero, if◌then◌else◌, ◌==◌, nat_le, List, [], ◌∷◌, ◌++◌, map, codes, None, unwrap_or}
use Rattle.std.specs.Char.{digit_char}
use Rattle.std.specs.Fmt.{decimal}
use Rattle.std.specs.Int.Digits.{digits_of}
use Rattle.std.specs.List.{join_with_byte, filter, last_or}
use Rattle.cpu_set.specs.Bits.{word_of, mask_of}

-- the highest number of a set, or 0 of the empty one
abbrev pub highest : List ℕ → ℕ
highest set = unwrap_or (last_or None set) 0

-- the last so many hexadecimal digits of a number, in lower case
unfoldable pub hex_digits : ℕ → ℕ → List ℕ
hex_digits zero number = []
hex_digits (suc count) number = hex_digits count (number / 16) ++ digit_char (number % 16) ∷ []

-- a word at its place, counted from the last: nothing where it is zero, unless it is the last
abbrev pub word_text : ℕ → ℕ → List ℕ
word_text place word =
    if word == 0 then (if place == 0 then codes "0x0" else []) else codes "0x" ++ hex_digits 8 word

-- so many places, the highest first
abbrev pub places_down : ℕ → List ℕ
places_down zero = []
places_down (suc place) = place ∷ places_down place

-- hexadecimal (`hwloc_bitmap_snprintf`): the words from the highest that isn't zero down to word 0
abbrev pub hex_text : List ℕ → List ℕ
hex_text set =
    join_with_byte 44 (map (λ place. word_text place (word_of set place)) (places_down (highest set / 32 + 1)))

-- the number before the others: at the front of their first run where that begins with the next number, else as a run
-- of its own
abbrev pub onto_runs : ℕ → List (ℕ × ℕ) → List (ℕ × ℕ)
onto_runs number [] = (number, number) ∷ []
onto_runs number ((first, last) ∷ runs) =
    if first == number + 1 then (number, last) ∷ runs else (number, number) ∷ (first, last) ∷ runs

-- the maximal runs of consecutive numbers of an ascending list, each by its first and its last number
abbrev pub runs_of : List ℕ → List (ℕ × ℕ)
runs_of [] = []
runs_of (number ∷ numbers) = onto_runs number (runs_of numbers)

-- the numbers of a list that are not below the first
abbrev pub numbers_from : ℕ → List ℕ → List ℕ
numbers_from first numbers = filter (λ number. nat_le first number) numbers

-- a run of one number is that number, a longer one its ends with a dash between
abbrev pub run_text : ℕ × ℕ → List ℕ
run_text run = if run.0 == run.1 then decimal run.0 else decimal run.0 ++ 45 ∷ decimal run.1

-- the list form (`hwloc_bitmap_list_snprintf`): the runs, ascending
abbrev pub list_text : List ℕ → List ℕ
list_text set = join_with_byte 44 (map run_text (runs_of set))

-- a number in base 16, without leading zeros
abbrev pub hex_number : ℕ → List ℕ
hex_number number = if number == 0 then codes "0" else map digit_char (digits_of 16 number)

-- the taskset form (`hwloc_bitmap_taskset_snprintf`): the whole set as one number in base 16
abbrev pub taskset_text : List ℕ → List ℕ
taskset_text set = codes "0x" ++ hex_number (mask_of set)
