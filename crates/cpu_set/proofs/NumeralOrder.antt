-- Decimal numerals of any length, compared.
use Rattle.std.proofs.Common.{
  ◌≡◌,
  ◌≢◌,
  ℕ,
  zero,
  suc,
  ◌+◌,
  ◌*◌,
  ◌^◌,
  ◌<◌,
  ◌≤◌,
  Bool,
  false,
  nat_lt,
  List,
  [],
  ◌∷◌,
  length,
  map,
  get_or,
  lit<,
  sym,
  ap,
  ◌∙◌,
  arith,
  inl,
  inr,
}
use Rattle.std.specs.Bool.{Decides}
use Rattle.std.specs.Char.{digit_value}
use Rattle.std.specs.Int.Digits.{number_from_digits, number_from_digits_after, AllBelowBase}
use Rattle.std.specs.Str.Parse.{AllDigits, digits_value}
use Rattle.std.proofs.Math.Nat.{pow-suc, mul-le-mul_left, pow-le-pow_right}
use Rattle.std.proofs.lemmas.Bool.{cases_lt, false≢true, lt-ltb, ltb-true}
use Rattle.std.proofs.lemmas.Int.Digits.{number_lt, digits_value_is, all_below_base_from_digits}
use Rattle.std.proofs.lemmas.List.{length-map, get_or-map, ext_get_or}
use Rattle.std.proofs.lemmas.Str.{digit_value_digit}
use Rattle.std.proofs.lemmas.Str.Parse.{digit_from_value}
use Rattle.byte_text.proofs.Digits.{digit_at}

-- ---- lists of digits

number_after : (n : ℕ) (ds : List ℕ) → number_from_digits_after 10 n ds ≡ n * 10 ^ length ds + number_from_digits 10 ds
number_after n [] = omega arith
number_after n (d ∷ ds) = rw (pow-suc 10 (length ds)) (omega (arith, number_after (n * 10 + d) ds, number_after (0 * 10 + d) ds))

number_cons : (d : ℕ) (ds : List ℕ) → number_from_digits 10 (d ∷ ds) ≡ d * 10 ^ length ds + number_from_digits 10 ds
number_cons d ds = omega (arith, number_after (0 * 10 + d) ds)

higher_first : (d e v w p : ℕ) → e < d → w < p → e * p + w < d * p + v
higher_first d e v w p less below = omega (arith, mul-le-mul_left p less)

-- the first digit that differs decides
higher : (ds es : List ℕ) (i : ℕ) → AllBelowBase 10 es → length ds ≡ length es → i < length ds
    → ((k : ℕ) → k < i → get_or ds k 0 ≡ get_or es k 0) → get_or es i 0 < get_or ds i 0
    → number_from_digits 10 es < number_from_digits 10 ds
higher [] es i digits long within same less = absurd (omega arith)
higher (d ∷ ds) [] i digits long within same less = absurd (omega arith)
higher (d ∷ ds) (e ∷ es) zero digits long within same less =
    let count : length ds ≡ length es = omega arith in
    rw (number_cons, number_cons) (rw count
    (higher_first d e (number_from_digits 10 ds) (number_from_digits 10 es) (10 ^ length es) less (number_lt 10 es digits.1)))
higher (d ∷ ds) (e ∷ es) (suc i) digits long within same less =
    let first : d ≡ e = same 0 (omega arith) in
    let rest = higher ds es i digits.1 (omega arith) (omega arith) (λ k below. same (suc k) (omega arith)) less in
    let count : length ds ≡ length es = omega arith in
    rw (number_cons, number_cons) (rw (first, count) (omega arith))

-- more digits, of which the first isn't zero, are more
longer : (d : ℕ) (ds es : List ℕ) → AllBelowBase 10 es → 0 < d → length es ≤ length ds
    → number_from_digits 10 es < number_from_digits 10 (d ∷ ds)
longer d ds es digits some more =
    let most : 10 ^ length es ≤ 10 ^ length ds = pow-le-pow_right {n = 10} (lit< tt) more in
    omega (arith, number_lt 10 es digits, number_cons d ds, mul-le-mul_left (10 ^ length ds) some)

-- ---- numerals

value_is : (text : List ℕ) → digits_value 10 text ≡ number_from_digits 10 (map digit_value text)
value_is text = digits_value_is 10 text

code_order : (a b : ℕ) → digit_value a < 10 → digit_value b < 10 → a < b → digit_value a < digit_value b
code_order a b a_digit b_digit less =
    by_sums (digit_value a) (digit_value b) a b (digit_value_digit a (digit_from_value a a_digit))
    (digit_value_digit b (digit_from_value b b_digit)) less
  where
    by_sums : (x y p q : ℕ) → x + 48 ≡ p → y + 48 ≡ q → p < q → x < y
    by_sums x y p q x_is y_is order = omega arith

-- two numerals of one length
module _ (one other : List ℕ) (digits : AllDigits 10 one) (other_digits : AllDigits 10 other) (long : length one ≡ length other) where
  decided : (i : ℕ) → i < length one → ((k : ℕ) → k < i → get_or one k 0 ≡ get_or other k 0) → get_or other i 0 < get_or one i 0
      → digits_value 10 other < digits_value 10 one
  decided i within same less = rw (value_is other, value_is one)
      (higher (map digit_value one) (map digit_value other) i (all_below_base_from_digits 10 other other_digits)
      (length-map one digit_value ∙ long ∙ sym (length-map other digit_value)) (omega (arith, length-map one digit_value))
      (λ k below. get_or-map digit_value one k 0 0 (omega arith) ∙ ap digit_value (same k below)
      ∙ sym (get_or-map digit_value other k 0 0 (omega arith)))
      (rw (get_or-map digit_value other i 0 0 (omega arith), get_or-map digit_value one i 0 0 within)
      (code_order (get_or other i 0) (get_or one i 0) (digit_at 10 other i other_digits (omega arith))
      (digit_at 10 one i digits within) less)))

pub above_at : (one other : List ℕ) (i : ℕ) → AllDigits 10 one → AllDigits 10 other → length one ≡ length other → i < length one
    → ((k : ℕ) → k < i → get_or one k 0 ≡ get_or other k 0) → get_or one i 0 ≢ get_or other i 0
    → Decides (nat_lt (get_or other i 0) (get_or one i 0)) (digits_value 10 other < digits_value 10 one)
above_at one other i digits other_digits long within same differs = elim (cases_lt (get_or other i 0) (get_or one i 0)) [
  | inl less ↦ (
    λ yes_less. decided one other digits other_digits long i within same less,
    λ more. lt-ltb (get_or other i 0)
        (get_or one i 0) less,
  )
  | inr at_most ↦
      let under = decided other one other_digits digits (sym long) i (omega arith) (λ k below. sym (same k below)) (omega arith) in
      (λ yes_less. absurd (omega (arith, ltb-true (get_or other i 0) (get_or one i 0) yes_less)), λ more. absurd (omega arith))
]

pub above_nowhere : (one other : List ℕ) (place : ℕ) → length one ≡ length other → length one ≤ place
    → ((k : ℕ) → k < place → get_or one k 0 ≡ get_or other k 0) → Decides false (digits_value 10 other < digits_value 10 one)
above_nowhere one other place long all same =
    let equal : one ≡ other = ext_get_or 0 one other long (λ k within. same k (omega arith)) in
    (λ never. absurd (false≢true never), λ less. absurd (omega (arith, ap (digits_value 10) equal)))

-- two numerals without zeros in front, of different lengths
first_digit : (c : ℕ) → digit_value c < 10 → c ≢ 48 → 0 < digit_value c
first_digit c digit other = by_sum (digit_value c) c (digit_value_digit c (digit_from_value c digit)) other
  where
    by_sum : (x p : ℕ) → x + 48 ≡ p → p ≢ 48 → 0 < x
    by_sum x p is not_zero = omega arith

text_longer : (one other : List ℕ) → AllDigits 10 one → AllDigits 10 other → (0 < length one → get_or one 0 0 ≢ 48)
    → length other < length one → digits_value 10 other < digits_value 10 one
text_longer [] other digits other_digits first more = absurd (omega arith)
text_longer (c ∷ cs) other digits other_digits first more = rw (value_is other, value_is (c ∷ cs))
    (longer (digit_value c) (map digit_value cs) (map digit_value other) (all_below_base_from_digits 10 other other_digits)
    (first_digit c digits.0 (first (omega arith))) (omega (arith, length-map cs digit_value, length-map other digit_value)))

pub above_by_length : (one other : List ℕ) → AllDigits 10 one → AllDigits 10 other → (0 < length one → get_or one 0 0 ≢ 48)
    → (0 < length other → get_or other 0 0 ≢ 48) → length one ≢ length other
    → Decides (nat_lt (length other) (length one)) (digits_value 10 other < digits_value 10 one)
above_by_length one other digits other_digits first other_first differs = elim (cases_lt (length other) (length one)) [
  | inl shorter ↦ (λ yes_less. text_longer one other digits other_digits first shorter, λ more. lt-ltb (length other) (length one) shorter)
  | inr at_most ↦
      let under = text_longer other one other_digits digits other_first (omega arith) in
      (λ yes_less. absurd (omega (arith, ltb-true (length other) (length one) yes_less)), λ more. absurd (omega arith))
]

pub above_same_values : (answer : Bool) (one other first second : ℕ) → one ≡ first → other ≡ second → Decides answer (other < one)
    → Decides answer (second < first)
above_same_values answer one other first second one_is other_is decides = (λ h. omega (arith, decides.0 h), λ less. decides.1 (omega arith))
