-- Numbers and their bits: how words of 32 bits, and one number of 4,096 bits, stand for a set.
use Rattle.std.specs.Prelude.{ℕ, ◌≡◌, ◌+◌, ◌*◌, ◌/◌, ◌%◌, ◌^◌, ◌<◌, Bool, if◌then◌else◌, ◌==◌, List, length, map, slice_index}
use Rattle.std.specs.Int.{bit_at}
use Rattle.std.specs.List.{All, range_with_len, sum_by}
use Rattle.cpu_set.specs.Sets.{set_limit, has, numbers_where}

-- the number whose bit at each place below that many is set where the place passes the test
unfoldable pub number_with_bits : (ℕ → Bool) → ℕ → ℕ
number_with_bits test places = sum_by (λ place. if test place then 2 ^ place else 0) (range_with_len 0 places)

-- word i of a set has the numbers from 32i to 32i + 31, the lowest number in the lowest bit
abbrev pub word_of : List ℕ → ℕ → ℕ
word_of set place = number_with_bits (λ bit. has set (32 * place + bit)) 32

-- the whole set as one number, in which bit n stands for the number n
abbrev pub mask_of : List ℕ → ℕ
mask_of set = number_with_bits (has set) set_limit

-- whether the words have the bit of a number
abbrev pub is_bit_of : List ℕ → ℕ → Bool
is_bit_of words number = bit_at (slice_index words (number / 32)) (number % 32) == 1

-- so many words have all numbers of a set
abbrev pub word_count : ℕ
word_count = 128

-- all words of a set, each of 32 bits
pub record AreWords (words : List ℕ) : Type 0 where
  pub count : length words ≡ word_count
  pub narrow : All (λ word. word < 2 ^ 32) words

-- the set that words stand for, and the words of a set
abbrev pub set_of_words : List ℕ → List ℕ
set_of_words words = numbers_where (is_bit_of words)

unfoldable pub first_words_of_set : ℕ → List ℕ → List ℕ
first_words_of_set count set = map (word_of set) (range_with_len 0 count)

abbrev pub words_of_set : List ℕ → List ℕ
words_of_set set = first_words_of_set word_count set
