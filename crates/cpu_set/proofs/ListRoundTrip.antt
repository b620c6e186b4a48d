-- The list text of a set is read as that set.
use Rattle.std.proofs.Common.{
  ◌≡◌,
  ℕ,
  ◌+◌,
  ◌<◌,
  ◌≤◌,
  Bool,
  true,
  false,
  cond,
  ◌&&◌,
  ◌||◌,
  ◌==◌,
  nat_le,
  List,
  [],
  ◌∷◌,
  ◌++◌,
  length,
  map,
  get_or,
  None,
  refl,
  sym,
  ap,
  ◌∙◌,
  arith,
  decimal,
}
use Rattle.std.specs.List.{All, AllByRecursion, Contains, flat_map, join_with_byte, list_any}
use Rattle.std.specs.Str.Parse.{AllDigits, digits_value}
use Rattle.std.proofs.lemmas.Bool.{ne_eqb, eqb-true, eqb-false}
use Rattle.std.proofs.lemmas.Bool.Decides.{nat_tests}
use Rattle.std.proofs.lemmas.Fmt.{decimal_is_IsNumeral}
use Rattle.std.proofs.lemmas.List.{length-append}
use Rattle.std.proofs.lemmas.List.Elements.{All-append, All-cons, All-from_get_or, recursion_from_All}
use Rattle.std.proofs.lemmas.Str.Parse.{digit_from_value}
use Rattle.byte_text.proofs.Digits.{digit_at}
use Rattle.byte_text.specs.declared.numerals.Numeral.TheVariants.{Number}
use Rattle.byte_text.specs.Cuts.{IsCutAt}
use Rattle.byte_text.specs.Numerals.{Reads}
use Rattle.cpu_set.specs.Sets.{has, IsSet}
use Rattle.cpu_set.specs.SetLaws.{numbers_below-same, numbers_where-has}
use Rattle.cpu_set.specs.Texts.{runs_of, onto_runs, run_text, list_text}
use Rattle.cpu_set.specs.Readings.{items_of, leftmost, list_rule, covers, is_in_list, low_value, high_value, ReadsList}
use Rattle.cpu_set.proofs.HexRoundTrip.{NoComma, parts_of-join}
use Rattle.cpu_set.proofs.ListSteps.{whole_ends, cut_ends, rule_whole, rule_cut, range_good, items_some}
use Rattle.cpu_set.proofs.ListText.{run_some}
use Rattle.cpu_set.proofs.HexText.{join_first}
use Rattle.cpu_set.proofs.PartLemmas.{leftmost-good}
use Rattle.cpu_set.proofs.SetSteps.{or_assoc}

-- ---- runs

abbrev pub GoodRun : ℕ × ℕ → Type 0
GoodRun run = (run.0 ≤ run.1) × (run.1 < 4096)

abbrev pub in_run : ℕ → ℕ × ℕ → Bool
in_run number run = nat_le run.0 number && nat_le number run.1

one_in : (n number : ℕ) → (nat_le number n && nat_le n number) ≡ (number == n)
one_in n number = grind (arith, nat_tests)

grown_in : (n number first last : ℕ) → first ≡ number + 1 → first ≤ last
    → (nat_le number n && nat_le n last) ≡ (number == n || (nat_le first n && nat_le n last))
grown_in n number first last follows order = grind (arith, nat_tests)

-- a number before the others makes good runs, and they have it besides
module _ (number : ℕ) (low : number < 4096) where
  onto_good : (runs : List (ℕ × ℕ)) → AllByRecursion GoodRun runs → AllByRecursion GoodRun (onto_runs number runs)
  onto_good [] good = ((omega arith, low), tt)
  onto_good ((first, last) ∷ runs) good = pick (first == number + 1) refl
    where
      pick : (next : Bool) → (first == number + 1) ≡ next
          → AllByRecursion GoodRun (cond next ((number, last) ∷ runs) ((number, number) ∷ (first, last) ∷ runs))
      pick true is = ((omega (arith, good.0.0, eqb-true first (number + 1) is), good.0.1), good.1)
      pick false is = ((omega arith, low), good)

  onto_any : (n : ℕ) (runs : List (ℕ × ℕ)) → AllByRecursion GoodRun runs
      → list_any (in_run n) (onto_runs number runs) ≡ (number == n || list_any (in_run n) runs)
  onto_any n [] good = ap (λ t. t || false) (one_in n number)
  onto_any n ((first, last) ∷ runs) good = pick (first == number + 1) refl
    where
      pick : (next : Bool) → (first == number + 1) ≡ next
          → list_any (in_run n) (cond next ((number, last) ∷ runs) ((number, number) ∷ (first, last) ∷ runs))
          ≡ (number == n || (in_run n (first, last) || list_any (in_run n) runs))
      pick true is =
          ap (λ t. t || list_any (in_run n) runs) (grown_in n number first last (eqb-true first (number + 1) is) good.0.0)
          ∙ or_assoc (number == n) (in_run n (first, last)) (list_any (in_run n) runs)
      pick false is = ap (λ t. t || (in_run n (first, last) || list_any (in_run n) runs)) (one_in n number)

runs_good : (numbers : List ℕ) → AllByRecursion (λ n. n < 4096) numbers → AllByRecursion GoodRun (runs_of numbers)
runs_good [] below = tt
runs_good (number ∷ numbers) below = onto_good number below.0 (runs_of numbers) (runs_good numbers below.1)

runs_any : (n : ℕ) (numbers : List ℕ) → AllByRecursion (λ n. n < 4096) numbers → list_any (in_run n) (runs_of numbers) ≡ has numbers n
runs_any n [] below = refl
runs_any n (number ∷ numbers) below =
    onto_any number below.0 n (runs_of numbers) (runs_good numbers below.1) ∙ ap (λ t. number == n || t) (runs_any n numbers below.1)

-- ---- the text of a run

number_text : (n : ℕ) → n < 4096 → Reads 10 4095 (decimal n) (Number n)
number_text n low = let facts = decimal_is_IsNumeral n (omega arith) in (facts.0, facts.1, omega arith)

-- a digit is neither a comma nor a dash
not_digit : (text : List ℕ) (byte : ℕ) → AllDigits 10 text → byte < 48 → All (λ other. (other == byte) ≡ false) text
not_digit text byte digits low = All-from_get_or (λ other. (other == byte) ≡ false) text 0 (λ i within.
    let range = digit_from_value (get_or text i 0) (digit_at 10 text i digits within) in
    ne_eqb (get_or text i 0) byte (λ same. omega (arith, range.0)))

lacks : (text : List ℕ) (byte : ℕ) → All (λ other. (other == byte) ≡ false) text → ¬ (Contains text byte)
lacks text byte none found = eqb-false (get_or text found.0 byte) byte (none found.0 byte found.1) found.2

-- what the text of a run says
record RunText (first last : ℕ) (text : List ℕ) : Type 0 where
  no_comma : NoComma text
  rule : (at : ℕ) → list_rule at 0 text ≡ None
  low : low_value text ≡ first
  high : high_value text ≡ last

one_number : (n : ℕ) → n < 4096 → RunText n n (decimal n)
one_number n low =
    let reads = number_text n low in
    let no_dash = lacks (decimal n) 45 (not_digit (decimal n) 45 reads.0.1 (omega arith)) in
    let ends = whole_ends (decimal n) no_dash in
    record {
      no_comma = not_digit (decimal n) 44 reads.0.1 (omega arith);
      rule = λ at. rule_whole at (decimal n) no_dash ∙ range_good at (decimal n) (decimal n) n n reads reads (omega arith);
      low = ap (digits_value 10) ends.low_is ∙ reads.1;
      high = ap (digits_value 10) ends.high_is ∙ reads.1;
    }

two_numbers : (first last : ℕ) → first ≤ last → last < 4096 → RunText first last (decimal first ++ 45 ∷ decimal last)
two_numbers first last order low =
    let first_reads = number_text first (omega arith) in
    let last_reads = number_text last low in
    let cut : IsCutAt 45 (decimal first ++ 45 ∷ decimal last) (decimal first) (decimal last) =
    record { parts = refl; first = lacks (decimal first) 45 (not_digit (decimal first) 45 first_reads.0.1 (omega arith)) } in
    let ends = cut_ends (decimal first ++ 45 ∷ decimal last) (decimal first) (decimal last) cut in
    record {
      no_comma =
          All-append (λ byte. (byte == 44) ≡ false) (decimal first) (45 ∷ decimal last)
          (not_digit (decimal first) 44 first_reads.0.1 (omega arith))
          (All-cons (λ byte. (byte == 44) ≡ false) 45 (decimal last) refl (not_digit (decimal last) 44 last_reads.0.1 (omega arith)));
      rule =
          λ at. rule_cut at (decimal first ++ 45 ∷ decimal last) (decimal first) (decimal last) cut
          (ne_eqb (length (decimal last)) 0 (λ none. omega (arith, last_reads.0.0)))
          ∙ range_good at (decimal first) (decimal last) first last first_reads last_reads order;
      low = ap (digits_value 10) ends.low_is ∙ first_reads.1;
      high = ap (digits_value 10) ends.high_is ∙ last_reads.1;
    }

run_reads : (first last : ℕ) → first ≤ last → last < 4096 → RunText first last (run_text (first, last))
run_reads first last order low = pick (first == last) refl
  where
    pick : (one : Bool) → (first == last) ≡ one → RunText first last (cond one (decimal first) (decimal first ++ 45 ∷ decimal last))
    pick true is =
        let only = one_number first (omega arith) in
        record { no_comma = only.no_comma; rule = only.rule; low = only.low; high = only.high ∙ eqb-true first last is }
    pick false is = two_numbers first last order low

-- ---- all runs

no_commas : (runs : List (ℕ × ℕ)) → AllByRecursion GoodRun runs → AllByRecursion NoComma (map run_text runs)
no_commas [] good = tt
no_commas ((first, last) ∷ runs) good = ((run_reads first last good.0.0 good.0.1).no_comma, no_commas runs good.1)

no_faults : (at : ℕ) (runs : List (ℕ × ℕ)) → AllByRecursion GoodRun runs → leftmost list_rule at (map run_text runs) ≡ None
no_faults at [] good = refl
no_faults at ((first, last) ∷ runs) good =
    leftmost-good list_rule at (run_text (first, last)) (map run_text runs) ((run_reads first last good.0.0 good.0.1).rule at)
    ∙ no_faults (at + length (run_text (first, last)) + 1) runs good.1

covered : (n : ℕ) (runs : List (ℕ × ℕ)) → AllByRecursion GoodRun runs → list_any (covers n) (map run_text runs) ≡ list_any (in_run n) runs
covered n [] good = refl
covered n ((first, last) ∷ runs) good =
    let reads = run_reads first last good.0.0 good.0.1 in
    ap (λ t. covers n (run_text (first, last)) || t) (covered n runs good.1)
    ∙ ap (λ end. (nat_le end n && nat_le n (high_value (run_text (first, last)))) || list_any (in_run n) runs) reads.low
    ∙ ap (λ end. (nat_le first n && nat_le n end) || list_any (in_run n) runs) reads.high

items_back : (runs : List (ℕ × ℕ)) → AllByRecursion GoodRun runs → items_of (join_with_byte 44 (map run_text runs)) ≡ map run_text runs
items_back [] good = refl
items_back ((first, last) ∷ runs) good =
    let one = run_text (first, last) in
    let long : 0 < length (join_with_byte 44 (one ∷ map run_text runs)) =
    omega (
      arith,
      ap length (join_first one (map run_text runs)),
      length-append one
          (flat_map (λ part. 44 ∷ part) (map run_text runs)),
      run_some first last (omega (arith, good.0.0, good.0.1)),
    ) in
    sym (items_some (join_with_byte 44 (one ∷ map run_text runs))
    (ne_eqb (length (join_with_byte 44 (one ∷ map run_text runs))) 0 (λ none. omega arith)))
    ∙ parts_of-join one (map run_text runs) (run_reads first last good.0.0 good.0.1).no_comma (no_commas runs good.1)

pub list_read_back : (set : List ℕ) → IsSet set → ReadsList (list_text set) set
list_read_back set ok =
    let below = recursion_from_All (λ n. n < 4096) set ok.below in
    let good = runs_good set below in
    let items = items_back (runs_of set) good in
    record {
      good = ap (leftmost list_rule 0) items ∙ no_faults 0 (runs_of set) good;
      numbers = sym (numbers_where-has set ok) ∙ numbers_below-same 4096 (has set) (is_in_list (list_text set)) (λ n low.
          sym (ap (list_any (covers n)) items ∙ covered n (runs_of set) good ∙ runs_any n set below));
    }
