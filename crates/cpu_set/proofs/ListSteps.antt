-- Reading a list, item by item from the left.
use Rattle.std.proofs.Common.{
  ◌≡◌,
  ℕ,
  ◌+◌,
  ◌<◌,
  ◌≤◌,
  Bool,
  true,
  false,
  cond,
  not,
  ◌&&◌,
  ◌||◌,
  ◌==◌,
  nat_le,
  List,
  [],
  ◌∷◌,
  ◌++◌,
  length,
  take,
  drop,
  Option,
  Some,
  None,
  refl,
  sym,
  ap,
  ◌∙◌,
  add_assoc,
  arith,
  ◌⊎◌,
  inl,
  inr,
}
use Rattle.std.specs.Bool.{if◌then◌else◌}
use Rattle.std.specs.Borrow.{Bor}
use Rattle.std.specs.List.{All, Contains, list_any, before_first, after_first, position_or_len}
use Rattle.std.specs.Str.Parse.{IsNumeral, digits_value}
use Rattle.std.proofs.lemmas.Bool.{
  cond-true,
  cond-false,
  false_from_ne_true,
  and_from,
  and_left,
  and_right,
  le-leb,
  lt-leb,
  or_left,
  or_right,
  eqb-true,
  false≢true,
}
use Rattle.std.proofs.lemmas.List.{take_at, drop_at, take_all, length-append, length_push, get_or_append_left, get_or_at, append_assoc}
use Rattle.std.proofs.lemmas.List.Folds.{list_any_none}
use Rattle.std.proofs.lemmas.List.Sums.{position_or_len_is}
use Rattle.byte_text.specs.Cuts.{IsCutAt}
use Rattle.byte_text.specs.declared.numerals.Numeral.{Numeral}
use Rattle.byte_text.specs.declared.numerals.Numeral.TheVariants.{Number, TooLarge as Over}
use Rattle.byte_text.specs.Numerals.{Reads, is_numeral}
use Rattle.byte_text.proofs.NumeralLaws.{Decides-is_numeral}
use Rattle.cpu_set.specs.declared.fault.SetFault.{SetFault}
use Rattle.cpu_set.specs.declared.fault.SetFault.TheVariants.{Form, TooLarge, Infinite}
use Rattle.cpu_set.specs.Readings.{
  is_range,
  range_fault,
  has_dash,
  low_end,
  high_end,
  low_value,
  high_value,
  is_open,
  list_rule,
  parts_of,
  items_of,
  leftmost,
  list_fault,
  covers,
  is_in_list,
  ReadsList,
}
use Rattle.cpu_set.specs.Sets.{has, numbers_where, IsSet}
use Rattle.cpu_set.specs.SetLaws.{has-numbers_below, numbers_below-same, IsSet-numbers_where, numbers_where-has}
use Rattle.cpu_set.proofs.PartLemmas.{parts_left, none_is, spanned, spanned-parts_of, leftmost-good}
use Rattle.cpu_set.proofs.SetSteps.{and_true, or_false, or_assoc}

-- ---- numerals of an item

no_numeral : (radix : ℕ) (text : List ℕ) → ¬ (IsNumeral radix text) → is_numeral radix text ≡ false
no_numeral radix text lacks = false_from_ne_true (is_numeral radix text) (λ found. lacks ((Decides-is_numeral radix text).0 found))

pub open_numeral : (at : ℕ) (low : List ℕ) (found : Numeral) → Reads 10 4095 low found → ((n : ℕ) × (found ≡ Number n)) ⊎ (found ≡ Over)
    → Infinite at ≡ (if is_numeral 10 low then Infinite at else Form at)
open_numeral at low found reads is =
    sym (cond-true (is_numeral 10 low) (Infinite at) (Form at) ((Decides-is_numeral 10 low).1 (numeral is)))
  where
    numeral : ((n : ℕ) × (found ≡ Number n)) ⊎ (found ≡ Over) → IsNumeral 10 low
    numeral (inl number) = let says : Reads 10 4095 low (Number number.0) = rw number.1 at reads in says.0
    numeral (inr over) = let says : Reads 10 4095 low Over = rw over at reads in says.0

pub open_other : (at : ℕ) (low : List ℕ) → ¬ (IsNumeral 10 low) → Form at ≡ (if is_numeral 10 low then Infinite at else Form at)
open_other at low lacks = sym (cond-false (is_numeral 10 low) (Infinite at) (Form at) (no_numeral 10 low lacks))

-- ---- the ends of an item

module _ (at : ℕ) (low high : List ℕ) where
  by_range : (answer : Bool) (good : Option SetFault) → is_range low high ≡ answer
      → cond (not answer) (Some (Form at))
      (cond (nat_le 4096 (digits_value 10 low)) (Some (TooLarge at))
      (cond (nat_le 4096 (digits_value 10 high)) (Some (TooLarge (at + length low + 1))) None)) ≡ good
      → range_fault at low high ≡ good
  by_range answer good is rest =
      ap (λ t. cond (not t) (Some (Form at))
      (cond (nat_le 4096 (digits_value 10 low)) (Some (TooLarge at))
      (cond (nat_le 4096 (digits_value 10 high)) (Some (TooLarge (at + length low + 1))) None))) is ∙ rest

  ranges : IsNumeral 10 low → IsNumeral 10 high → digits_value 10 low ≤ digits_value 10 high → is_range low high ≡ true
  ranges low_is high_is order =
      and_from (is_numeral 10 low) (is_numeral 10 high && nat_le (digits_value 10 low) (digits_value 10 high))
      ((Decides-is_numeral 10 low).1 low_is)
      (and_from (is_numeral 10 high) (nat_le (digits_value 10 low) (digits_value 10 high)) ((Decides-is_numeral 10 high).1 high_is)
      (le-leb (digits_value 10 low) (digits_value 10 high) order))

  chosen : (first second : Bool) → nat_le 4096 (digits_value 10 low) ≡ first → nat_le 4096 (digits_value 10 high) ≡ second
      → cond (nat_le 4096 (digits_value 10 low)) (Some (TooLarge at))
      (cond (nat_le 4096 (digits_value 10 high)) (Some (TooLarge (at + length low + 1))) None) ≡ cond first (Some (TooLarge at))
      (cond second (Some (TooLarge (at + length low + 1))) None)
  chosen first second first_is second_is =
      ap (λ t. cond t (Some (TooLarge at)) (cond (nat_le 4096 (digits_value 10 high)) (Some (TooLarge (at + length low + 1))) None))
      first_is
      ∙ ap (λ t. cond first (Some (TooLarge at)) (cond t (Some (TooLarge (at + length low + 1))) None)) second_is

  pub range_good : (first last : ℕ) → Reads 10 4095 low (Number first) → Reads 10 4095 high (Number last) → first ≤ last
      → range_fault at low high ≡ None
  range_good first last low_reads high_reads order =
      by_range true None (ranges low_reads.0 high_reads.0 (omega (arith, low_reads.1, high_reads.1)))
      (chosen false false (lt-leb 4096 (digits_value 10 low) (omega (arith, low_reads.1, low_reads.2)))
      (lt-leb 4096 (digits_value 10 high) (omega (arith, high_reads.1, high_reads.2))))

  pub range_high : (first : ℕ) → Reads 10 4095 low (Number first) → Reads 10 4095 high Over
      → range_fault at low high ≡ Some (TooLarge (at + length low + 1))
  range_high first low_reads high_reads =
      by_range true _ (ranges low_reads.0 high_reads.0 (omega (arith, low_reads.1, low_reads.2, high_reads.1)))
      (chosen false true (lt-leb 4096 (digits_value 10 low) (omega (arith, low_reads.1, low_reads.2)))
      (le-leb 4096 (digits_value 10 high) (omega (arith, high_reads.1))))

  pub range_low : Reads 10 4095 low Over → Reads 10 4095 high Over → ¬ (digits_value 10 high < digits_value 10 low)
      → range_fault at low high ≡ Some (TooLarge at)
  range_low low_reads high_reads order =
      by_range true _ (ranges low_reads.0 high_reads.0 (omega (arith, order)))
      (chosen true true (le-leb 4096 (digits_value 10 low) (omega (arith, low_reads.1)))
      (le-leb 4096 (digits_value 10 high) (omega (arith, high_reads.1))))

  pub range_not_low : ¬ (IsNumeral 10 low) → range_fault at low high ≡ Some (Form at)
  range_not_low lacks =
      by_range false _ (and_left (is_numeral 10 low) (is_numeral 10 high && nat_le (digits_value 10 low) (digits_value 10 high))
      (no_numeral 10 low lacks)) refl

  pub range_not_high : ¬ (IsNumeral 10 high) → range_fault at low high ≡ Some (Form at)
  range_not_high lacks =
      by_range false _ (and_right (is_numeral 10 low) (is_numeral 10 high && nat_le (digits_value 10 low) (digits_value 10 high))
      (and_left (is_numeral 10 high) (nat_le (digits_value 10 low) (digits_value 10 high)) (no_numeral 10 high lacks))) refl

-- ---- an item cut at its first dash

-- what stands before and behind the first byte that passes, where it is known
module _ (p : ℕ → Bool) (front : List ℕ) (byte : ℕ) (back : List ℕ) (none : All (λ other. p other ≡ false) front)
    (passes : p byte ≡ true) where
  place_is : position_or_len p (front ++ byte ∷ back) ≡ length front
  place_is = position_or_len_is p (front ++ byte ∷ back) (length front) 0 (omega (arith, length-append front (byte ∷ back)))
      (λ k below. ap p (get_or_append_left front (byte ∷ back) 0 k below) ∙ none k 0 below)
      (λ within. ap p (get_or_at front byte back 0 (length front) refl) ∙ passes)

  pub before_is : before_first p (front ++ byte ∷ back) ≡ front
  before_is = ap (λ n. take n (front ++ byte ∷ back)) place_is ∙ take_at front (byte ∷ back) (length front) refl

  pub after_is : after_first p (front ++ byte ∷ back) ≡ back
  after_is =
      ap (λ n. drop (n + 1) (front ++ byte ∷ back)) place_is
      ∙ ap (λ text. drop (length front + 1) text) (sym (append_assoc front (byte ∷ []) back))
      ∙ drop_at (front ++ byte ∷ []) back (length front + 1) (length_push front byte)

  pub any_is : list_any p (front ++ byte ∷ back) ≡ true
  any_is = any_in_front front
    where
      any_in_front : (bytes : List ℕ) → list_any p (bytes ++ byte ∷ back) ≡ true
      any_in_front [] = or_left (p byte) (list_any p back) passes
      any_in_front (b ∷ bs) = or_right (p b) (list_any p (bs ++ byte ∷ back)) (any_in_front bs)

pub before_none : (p : ℕ → Bool) (text : List ℕ) → All (λ byte. p byte ≡ false) text → before_first p text ≡ text
before_none p text none =
    ap (λ n. take n text) (position_or_len_is p text (length text) 0 (omega arith) (λ k below. none k 0 below)
    (λ within. absurd (omega arith))) ∙ take_all (length text) text (omega arith)

pub record Ends (item low high : List ℕ) : Type 0 where
  pub low_is : low_end item ≡ low
  pub high_is : high_end item ≡ high

whole_dash : (item : List ℕ) → ¬ (Contains item 45) → has_dash item ≡ false
whole_dash item lacks = list_any_none (λ byte. byte == 45) item (none_is 45 item lacks)

pub whole_ends : (item : List ℕ) → ¬ (Contains item 45) → Ends item item item
whole_ends item lacks = record {
  low_is = before_none (λ byte. byte == 45) item (none_is 45 item lacks);
  high_is = ap (λ t. cond t (after_first (λ byte. byte == 45) item) item) (whole_dash item lacks);
}

cut_dash : (item low high : List ℕ) → IsCutAt 45 item low high → has_dash item ≡ true
cut_dash item low high cut = ap has_dash cut.parts ∙ any_is (λ byte. byte == 45) low 45 high (none_is 45 low cut.first) refl

pub cut_ends : (item low high : List ℕ) → IsCutAt 45 item low high → Ends item low high
cut_ends item low high cut = record {
  low_is = ap low_end cut.parts ∙ before_is (λ byte. byte == 45) low 45 high (none_is 45 low cut.first) refl;
  high_is =
      ap (λ t. cond t (after_first (λ byte. byte == 45) item) item) (cut_dash item low high cut)
      ∙ ap (after_first (λ byte. byte == 45)) cut.parts ∙ after_is (λ byte. byte == 45) low 45 high (none_is 45 low cut.first) refl;
}

-- ---- the rule of an item

rule_at : (at : ℕ) (item low high : List ℕ) → Ends item low high → is_open item ≡ false → list_rule at 0 item ≡ range_fault at low high
rule_at at item low high ends closed =
    ap (λ t. cond t (Some (Infinite at)) (range_fault at (low_end item) (high_end item))) closed
    ∙ ap (λ end. range_fault at end (high_end item)) ends.low_is ∙ ap (λ end. range_fault at low end) ends.high_is

pub rule_whole : (at : ℕ) (item : List ℕ) → ¬ (Contains item 45) → list_rule at 0 item ≡ range_fault at item item
rule_whole at item lacks =
    rule_at at item item item (whole_ends item lacks)
    (and_right (is_numeral 10 (low_end item)) (has_dash item && (length (high_end item) == 0))
    (and_left (has_dash item) (length (high_end item) == 0) (whole_dash item lacks)))

pub rule_cut : (at : ℕ) (item low high : List ℕ) → IsCutAt 45 item low high → (length high == 0) ≡ false
    → list_rule at 0 item ≡ range_fault at low high
rule_cut at item low high cut some =
    rule_at at item low high (cut_ends item low high cut)
    (and_right (is_numeral 10 (low_end item)) (has_dash item && (length (high_end item) == 0))
    (and_right (has_dash item) (length (high_end item) == 0) (ap (λ end. length end == 0) (cut_ends item low high cut).high_is ∙ some)))

pub rule_open : (at : ℕ) (item low high : List ℕ) → IsCutAt 45 item low high → (length high == 0) ≡ true
    → list_rule at 0 item ≡ Some (if is_numeral 10 low then Infinite at else Form at)
rule_open at item low high cut none =
    ap (λ t. cond t (Some (Infinite at)) (range_fault at (low_end item) (high_end item))) opens
    ∙ ap (λ end. cond (is_numeral 10 low) (Some (Infinite at)) (range_fault at end (high_end item))) ends.low_is
    ∙ ap (λ end. cond (is_numeral 10 low) (Some (Infinite at)) (range_fault at low end)) ends.high_is
    ∙ ap (λ fault. cond (is_numeral 10 low) (Some (Infinite at)) fault)
    (range_not_high at low high (λ numeral. absurd (omega (arith, numeral.0, eqb-true (length high) 0 none))))
    ∙ inside (is_numeral 10 low)
  where
    ends : Ends item low high
    ends = cut_ends item low high cut

    opens : is_open item ≡ is_numeral 10 low
    opens = ap (λ t. is_numeral 10 (low_end item) && (t && (length (high_end item) == 0))) (cut_dash item low high cut)
        ∙ ap (λ end. is_numeral 10 (low_end item) && (length end == 0)) ends.high_is
        ∙ ap (λ t. is_numeral 10 (low_end item) && t) none ∙ ap (λ end. is_numeral 10 end && true) ends.low_is
        ∙ and_true (is_numeral 10 low)

    inside : (numeral : Bool) → cond numeral (Some (Infinite at)) (Some (Form at)) ≡ Some (cond numeral (Infinite at) (Form at))
    inside true = refl
    inside false = refl

-- ---- the items so far

pub items_some : (text : List ℕ) → (length text == 0) ≡ false → parts_of text ≡ items_of text
items_some [] empty = absurd (false≢true (sym empty))
items_some (byte ∷ bytes) some = refl

items_none : (text : List ℕ) → (length text == 0) ≡ true → text ≡ []
items_none [] empty = refl
items_none (byte ∷ bytes) empty = absurd (omega (arith, eqb-true (length (byte ∷ bytes)) 0 empty))

-- what the loop of `read_list` keeps: what is left and the set so far make up the whole
pub record ListSoFar (text : List ℕ) (rest : Option (Bor (List ℕ))) (at : ℕ) (set : List ℕ) : Type 0 where
  pub place : at + spanned (parts_left rest) ≤ length text + 1
  pub fault : leftmost list_rule at (parts_left rest) ≡ list_fault text
  pub is_set : IsSet set
  pub members : (number : ℕ) → number < 4096 → (has set number || list_any (covers number) (parts_left rest)) ≡ is_in_list text number

empty_set : IsSet []
empty_set = record { ascending = λ k within. absurd (omega arith); below = λ k d within. absurd (omega arith) }

pub list_empty : (text : List ℕ) → (length text == 0) ≡ true → ListSoFar text None 0 []
list_empty text empty =
    rw (items_none text empty) (record { place = omega arith; fault = refl; is_set = empty_set; members = λ number below. refl })

pub list_start : (text : Bor (List ℕ)) → (length text.now == 0) ≡ false → ListSoFar text.now (Some text) 0 []
list_start text some = record {
  place = omega (arith, spanned-parts_of text.now);
  fault = ap (leftmost list_rule 0) (items_some text.now some);
  is_set = empty_set;
  members = λ number below. ap (list_any (covers number)) (items_some text.now some);
}

module _ (text : List ℕ) (rest : Bor (List ℕ)) (at : ℕ) (set : List ℕ) (item : List ℕ) (behind : Option (Bor (List ℕ)))
    (so_far : ListSoFar text (Some rest) at set) (first : parts_of rest.now ≡ item ∷ parts_left behind) where
  pub list_more : (low high : ℕ) (new : List ℕ) → list_rule at 0 item ≡ None → low ≡ low_value item → high ≡ high_value item
      → new ≡ numbers_where (λ number. has set number || (nat_le low number && nat_le number high))
      → ListSoFar text behind (at + (length item + 1)) new
  list_more low high new good low_is high_is new_is = record {
    place = omega (arith, so_far.place, ap spanned first);
    fault = ap (λ n. leftmost list_rule n (parts_left behind)) (sym (add_assoc at (length item) 1))
        ∙ sym (leftmost-good list_rule at item (parts_left behind) good) ∙ ap (leftmost list_rule at) (sym first) ∙ so_far.fault;
    is_set = rw new_is (IsSet-numbers_where (λ number. has set number || (nat_le low number && nat_le number high)));
    members = λ number below.
        ap (λ s. has s number || list_any (covers number) (parts_left behind)) new_is
        ∙ ap (λ t. t || list_any (covers number) (parts_left behind))
        (has-numbers_below 4096 (λ n. has set n || (nat_le low n && nat_le n high)) number below)
        ∙ or_assoc (has set number) (nat_le low number && nat_le number high) (list_any (covers number) (parts_left behind))
        ∙ ap (λ n. has set number || ((nat_le n number && nat_le number high) || list_any (covers number) (parts_left behind))) low_is
        ∙ ap (λ n. has set number || ((nat_le (low_value item) number && nat_le number n) || list_any (covers number) (parts_left behind)))
        high_is
        ∙ ap (λ parts. has set number || list_any (covers number) parts) (sym first)
        ∙ so_far.members number below;
  }

pub list_all_read : (text : List ℕ) (at : ℕ) (set : List ℕ) → ListSoFar text None at set → ReadsList text set
list_all_read text at set so_far = record {
  good = sym so_far.fault;
  numbers =
      sym (numbers_where-has set so_far.is_set)
      ∙ numbers_below-same 4096 (has set) (is_in_list text) (λ number below. or_false (has set number) ∙ so_far.members number below);
}
