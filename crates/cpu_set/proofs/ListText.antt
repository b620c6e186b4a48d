-- Writing the list text, run by run from the lowest.
use Rattle.std.proofs.Common.{
  ◌≡◌,
  ◌≢◌,
  ℕ,
  ◌+◌,
  ◌*◌,
  ◌/◌,
  ◌<◌,
  ◌≤◌,
  Bool,
  true,
  false,
  cond,
  ◌==◌,
  nat_le,
  List,
  [],
  ◌∷◌,
  ◌++◌,
  length,
  map,
  refl,
  sym,
  ap,
  ◌∙◌,
  append_assoc,
  arith,
  ◌⊎◌,
  inl,
  inr,
  decimal,
}
use Rattle.std.specs.Bool.{Decides}
use Rattle.std.specs.List.{Contains, join_with_byte, flat_map}
use Rattle.std.proofs.lemmas.Bool.{eq-eqb, ne_eqb, and_parts, leb-true, false≢true, false_from_ne_true}
use Rattle.std.proofs.lemmas.Fmt.{decimal_digit, decimal_step, decimal_nonempty, length-decimal-le}
use Rattle.std.proofs.lemmas.List.{length-append}
use Rattle.cpu_set.specs.Sets.{has, IsSet}
use Rattle.cpu_set.specs.SetLaws.{has-filter, has_first, has-past, Decides-has}
use Rattle.cpu_set.specs.Texts.{numbers_from, runs_of, onto_runs, run_text, list_text}
use Rattle.cpu_set.proofs.Ends.{numbers_from-found, numbers_from-zero}
use Rattle.cpu_set.proofs.HexText.{join_first, flat_map-map}

-- ---- runs

-- a run before the others begins with its number
runs_begin : (number : ℕ) (runs : List (ℕ × ℕ)) → (last : ℕ) × (rest : List (ℕ × ℕ)) × (onto_runs number runs ≡ (number, last) ∷ rest)
runs_begin number [] = (number, [], refl)
runs_begin number ((first, last) ∷ runs) = begin_at (first == number + 1)
  where
    begin_at : (next : Bool) → (e : ℕ) × (rest : List (ℕ × ℕ))
        × (cond next ((number, last) ∷ runs) ((number, number) ∷ (first, last) ∷ runs) ≡ (number, e) ∷ rest)
    begin_at true = (last, runs, refl)
    begin_at false = (number, (first, last) ∷ runs, refl)

onto_next : (number last : ℕ) (runs : List (ℕ × ℕ)) → onto_runs number ((number + 1, last) ∷ runs) ≡ (number, last) ∷ runs
onto_next number last runs =
    ap (λ t. cond t ((number, last) ∷ runs) ((number, number) ∷ (number + 1, last) ∷ runs)) (eq-eqb (number + 1) (number + 1) refl)

onto_apart : (number first last : ℕ) (runs : List (ℕ × ℕ)) → first ≢ number + 1
    → onto_runs number ((first, last) ∷ runs) ≡ (number, number) ∷ (first, last) ∷ runs
onto_apart number first last runs apart =
    ap (λ t. cond t ((number, last) ∷ runs) ((number, number) ∷ (first, last) ∷ runs)) (ne_eqb first (number + 1) apart)

-- a number that the next of the others doesn't follow is a run of its own
alone : (number : ℕ) (others : List ℕ) → ((x : ℕ) (xs : List ℕ) → others ≡ x ∷ xs → x ≢ number + 1)
    → runs_of (number ∷ others) ≡ (number, number) ∷ runs_of others
alone number [] apart = refl
alone number (x ∷ xs) apart =
    let begins = runs_begin x (runs_of xs) in
    ap (onto_runs number) begins.2 ∙ onto_apart number x begins.0 begins.1 (apart x xs refl)
    ∙ ap (λ runs. (number, number) ∷ runs) (sym begins.2)

-- what the loop of `run_from` keeps: the run of the first number goes on as that of the last
pub record RunSoFar (set : List ℕ) (first last : ℕ) : Type 0 where
  pub order : first ≤ last
  pub limit : last < 4096
  pub goes_on : (end : ℕ) (rest : List (ℕ × ℕ)) → runs_of (last ∷ numbers_from (last + 1) set) ≡ (last, end) ∷ rest
      → runs_of (first ∷ numbers_from (first + 1) set) ≡ (first, end) ∷ rest

module _ (set : List ℕ) (ok : IsSet set) where
  pub run_begin : (first : ℕ) → first < 4096 → RunSoFar set first first
  run_begin first low = record { order = omega arith; limit = low; goes_on = λ end rest is. is }

  pub run_more : (first last : ℕ) → RunSoFar set first last → last < 4095 → has set (last + 1) ≡ true → RunSoFar set first (last + 1)
  run_more first last so_far low found = record {
    order = omega (arith, so_far.order);
    limit = omega arith;
    goes_on = λ end rest is. so_far.goes_on end rest
        (ap (onto_runs last) (ap runs_of
        (numbers_from-found (last + 1) (last + 1) set ok found (omega arith) (λ n low high. absurd (omega arith))) ∙ is)
        ∙ onto_next last end rest);
  }

  head_among : (from x : ℕ) (xs : List ℕ) → numbers_from from set ≡ x ∷ xs → (has set x ≡ true) × (from ≤ x)
  head_among from x xs is =
      let kept = and_parts (has set x) (nat_le from x)
      (sym (has-filter (λ n. nat_le from n) set x) ∙ ap (λ ns. has ns x) is ∙ has_first x x xs refl) in
      (kept.0, leb-true from x kept.1)

  pub run_end : (from first last : ℕ) → RunSoFar set first last → has set (last + 1) ≡ false
      → numbers_from from set ≡ first ∷ numbers_from (first + 1) set
      → runs_of (numbers_from from set) ≡ (first, last) ∷ runs_of (numbers_from (last + 1) set)
  run_end from first last so_far none is =
      ap runs_of is ∙ so_far.goes_on last (runs_of (numbers_from (last + 1) set))
      (alone last (numbers_from (last + 1) set) (λ x xs begins same.
      false≢true (sym none ∙ ap (has set) (sym same) ∙ (head_among (last + 1) x xs begins).0)))

  pub run_end_past : (last : ℕ) → 4095 ≤ last → has set (last + 1) ≡ false
  run_end_past last past = has-past set (last + 1) ok (omega arith)

-- what `has` answered
pub has_if : (answer : Bool) (set : List ℕ) (number : ℕ) → Decides answer (Contains set number) → answer ≡ true → has set number ≡ true
has_if answer set number decides found = (Decides-has set number).1 (decides.0 found)

pub has_unless : (answer : Bool) (set : List ℕ) (number : ℕ) → Decides answer (Contains set number) → answer ≡ false
    → has set number ≡ false
has_unless answer set number decides missing =
    false_from_ne_true (has set number) (λ found. false≢true (sym missing ∙ decides.1 ((Decides-has set number).0 found)))

-- ---- their texts

decimal_1 : (n : ℕ) → n < 10 → length (decimal n) ≡ 1
decimal_1 n low = ap length (decimal_digit n low)

decimal_more : (n k : ℕ) → 10 ≤ n → n < 4096 → length (decimal (n / 10)) ≡ k → length (decimal n) ≡ k + 1
decimal_more n k high low rest = ap length (decimal_step n high (omega arith)) ∙ length-append (decimal (n / 10)) _ ∙ ap (λ m. m + 1) rest

pub decimal_2 : (n : ℕ) → 10 ≤ n → n < 100 → length (decimal n) ≡ 2
decimal_2 n high low = decimal_more n 1 high (omega arith) (decimal_1 (n / 10) (omega arith))

pub decimal_3 : (n : ℕ) → 100 ≤ n → n < 1000 → length (decimal n) ≡ 3
decimal_3 n high low = decimal_more n 2 (omega arith) (omega arith) (decimal_2 (n / 10) (omega arith) (omega arith))

pub decimal_4 : (n : ℕ) → 1000 ≤ n → n < 4096 → length (decimal n) ≡ 4
decimal_4 n high low = decimal_more n 3 (omega arith) low (decimal_3 (n / 10) (omega arith) (omega arith))

-- how long the text of a number is
pub decimal_is : (n count : ℕ) → n < 4096 → ((n < 10) × (count ≡ 1))
    ⊎ (((10 ≤ n) × (n < 100) × (count ≡ 2)) ⊎ (((100 ≤ n) × (n < 1000) × (count ≡ 3)) ⊎ ((1000 ≤ n) × (count ≡ 4))))
    → count ≡ length (decimal n)
decimal_is n count low (inl one) = one.1 ∙ sym (decimal_1 n one.0)
decimal_is n count low (inr (inl two)) = two.2 ∙ sym (decimal_2 n two.0 two.1)
decimal_is n count low (inr (inr (inl three))) = three.2 ∙ sym (decimal_3 n three.0 three.1)
decimal_is n count low (inr (inr (inr four))) = four.1 ∙ sym (decimal_4 n four.0 low)

decimal_short : (n : ℕ) → n < 4096 → length (decimal n) ≤ 4
decimal_short n low = length-decimal-le 4 n (omega arith) (omega arith) (omega arith)

run_short : (first last : ℕ) → first < 4096 → last < 4096 → length (run_text (first, last)) ≤ 9
run_short first last first_low last_low = pick (first == last)
  where
    pick : (one : Bool) → length (cond one (decimal first) (decimal first ++ 45 ∷ decimal last)) ≤ 9
    pick true = omega (arith, decimal_short first first_low)
    pick false =
        omega (arith, decimal_short first first_low, decimal_short last last_low, length-append (decimal first) (45 ∷ decimal last))

pub run_some : (first last : ℕ) → first < 4096 → 0 < length (run_text (first, last))
run_some first last low = pick (first == last)
  where
    pick : (one : Bool) → 0 < length (cond one (decimal first) (decimal first ++ 45 ∷ decimal last))
    pick true = decimal_nonempty first (omega arith)
    pick false = omega (arith, decimal_nonempty first (omega arith), length-append (decimal first) (45 ∷ decimal last))

-- what the loop of `write_list` keeps: the text so far and the runs from a number on make up the whole
pub record ListWritten (set : List ℕ) (from : ℕ) (text : List ℕ) : Type 0 where
  pub whole : ((text ≡ []) × (runs_of (numbers_from from set) ≡ runs_of set))
      ⊎ ((0 < length text) × (text ++ flat_map (λ run. 44 ∷ run_text run) (runs_of (numbers_from from set)) ≡ list_text set))
  pub bound : length text ≤ 10 * from
  pub limit : from ≤ 4096

pub list_begin : (set : List ℕ) → ListWritten set 0 []
list_begin set = record { whole = inl (refl, ap runs_of (numbers_from-zero set)); bound = omega arith; limit = omega arith }

module _ (set : List ℕ) (from first last : ℕ) (text : List ℕ) (written : ListWritten set from text)
    (run_is : runs_of (numbers_from from set) ≡ (first, last) ∷ runs_of (numbers_from (last + 1) set))
    (order : first ≤ last) (at : from ≤ first) (low : last < 4096) where
  pub list_first : length text ≡ 0 → ListWritten set (last + 1) (text ++ run_text (first, last))
  list_first empty = record {
    whole = inr (omega (arith, run_some first last (omega arith), length-append text (run_text (first, last))), first_whole written.whole);
    bound = omega (arith, run_short first last (omega arith) low, length-append text (run_text (first, last)));
    limit = omega arith;
  }
    where
      first_whole : ((text ≡ []) × (runs_of (numbers_from from set) ≡ runs_of set))
          ⊎ ((0 < length text) × (text ++ flat_map (λ run. 44 ∷ run_text run) (runs_of (numbers_from from set)) ≡ list_text set))
          → (text ++ run_text (first, last)) ++ flat_map (λ run. 44 ∷ run_text run) (runs_of (numbers_from (last + 1) set)) ≡ list_text set
      first_whole (inl begun) =
          ap (λ t. (t ++ run_text (first, last)) ++ flat_map (λ run. 44 ∷ run_text run) (runs_of (numbers_from (last + 1) set))) begun.0
          ∙ ap (λ parts. run_text (first, last) ++ parts) (sym (flat_map-map run_text (runs_of (numbers_from (last + 1) set))))
          ∙ sym (join_first (run_text (first, last)) (map run_text (runs_of (numbers_from (last + 1) set))))
          ∙ ap (λ runs. join_with_byte 44 (map run_text runs)) (sym run_is ∙ begun.1)
      first_whole (inr some) = absurd (omega (arith, some.0))

  pub list_next : 0 < length text → ListWritten set (last + 1) ((text ++ 44 ∷ []) ++ run_text (first, last))
  list_next some = record {
    whole =
        inr (
          omega (arith, length-append (text ++ 44 ∷ []) (run_text (first, last)), length-append text (44 ∷ [])),
          next_whole
              written.whole,
        );
    bound =
        omega (
          arith,
          written.bound,
          run_short first last (omega arith) low,
          length-append (text ++ 44 ∷ [])
              (run_text (first, last)),
          length-append text (44 ∷ []),
        );
    limit = omega arith;
  }
    where
      next_whole : ((text ≡ []) × (runs_of (numbers_from from set) ≡ runs_of set))
          ⊎ ((0 < length text) × (text ++ flat_map (λ run. 44 ∷ run_text run) (runs_of (numbers_from from set)) ≡ list_text set))
          → ((text ++ 44 ∷ []) ++ run_text (first, last))
          ++ flat_map (λ run. 44 ∷ run_text run) (runs_of (numbers_from (last + 1) set)) ≡ list_text set
      next_whole (inl begun) = absurd (omega (arith, ap length begun.0))
      next_whole (inr more) =
          append_assoc (text ++ 44 ∷ []) (run_text (first, last))
          (flat_map (λ run. 44 ∷ run_text run) (runs_of (numbers_from (last + 1) set)))
          ∙ append_assoc text (44 ∷ []) (run_text (first, last)
          ++ flat_map (λ run. 44 ∷ run_text run) (runs_of (numbers_from (last + 1) set)))
          ∙ ap (λ runs. text ++ flat_map (λ run. 44 ∷ run_text run) runs) (sym run_is) ∙ more.1
