-- How large a drill is.
use Rattle.std.proofs.Common.{
  ◌≡◌,
  ℕ,
  ◌+◌,
  ◌*◌,
  ◌%◌,
  ◌^◌,
  ◌<◌,
  ◌≤◌,
  List,
  [],
  ◌∷◌,
  ◌++◌,
  length,
  map,
  codes,
  Vec,
  refl,
  sym,
  ap,
  ◌∙◌,
  subst,
  arith,
}
use Rattle.std.specs.Prelude.{All, decimal, filter, flat_map, sum_by, ◌==◌}
use Rattle.std.specs.declared.alloc.Global.{Global}
use Rattle.std.specs.List.{range_with_len}
use Rattle.std.proofs.lemmas.Fmt.{length-decimal-le}
use Rattle.std.proofs.lemmas.List.{length-append}
use Rattle.std.proofs.lemmas.List.Concat.{length-flat_map}
use Rattle.std.proofs.lemmas.List.Elements.{All-from_recursion, All-map, All-weaker}
use Rattle.std.proofs.lemmas.List.FromFn.{length-map-range_with_len, length-range_with_len}
use Rattle.std.proofs.lemmas.List.Sums.{count_by-le-length, length-filter, sum_by-le}
use Rattle.drill_text.specs.Drill.{
  addition,
  additions,
  below,
  callers,
  delta,
  drill_section,
  drill_sections,
  key_name,
  keys,
  of_caller,
  opening,
}
use Rattle.drill_text.proofs.Numbers.{below_within, sum_by-map}

pub callers_are : callers ≡ 64
unfolding callers
callers_are = refl

pub keys_are : keys ≡ 8
unfolding keys
keys_are = refl

pub additions_are : additions ≡ 20000
unfolding additions
additions_are = refl

-- the sections of 64 callers
pub all_sections : (drill n : ℕ) → n ≡ 64 → map (drill_section drill) (below n) ≡ drill_sections drill
unfolding drill_sections
all_sections drill n is =
    let same : n ≡ callers = omega (arith, is, callers_are) in
    ap (λ (k : ℕ). map (drill_section drill) (below k)) same

-- ---- bounds on bytes

digits_few : (n : ℕ) → n < 2 ^ 64 → length (decimal n) ≤ 20
digits_few n small = length-decimal-le 20 n (omega arith) (omega (arith, small)) small

opening_few : (key : ℕ) → key < keys → length (opening key) ≤ 60
unfolding opening
opening_few key small =
    let tail = codes " 0 0 1 noreply\r\n0\r\n" in
    let size : length (decimal key ++ tail) ≡ length (decimal key) + length tail = length-append (decimal key) tail in
    let digits = digits_few key (omega (arith, small, keys_are)) in
    omega (arith, size, digits)

addition_few : (drill j : ℕ) → length (addition drill j) ≤ 60
unfolding addition
addition_few drill j =
    let end = codes " noreply\r\n" in
    let rest = codes " " ++ (decimal (delta drill j) ++ end) in
    let front : length (decimal (j % 8) ++ rest) ≡ length (decimal (j % 8)) + length rest = length-append (decimal (j % 8)) rest in
    let size : length (decimal (delta drill j) ++ end) ≡ length (decimal (delta drill j)) + length end =
    length-append (decimal (delta drill j)) end in
    let key = digits_few (j % 8) (omega arith) in
    let digits = digits_few (delta drill j) (omega arith) in
    omega (arith, front, size, key, digits)

of_caller_few : (caller : ℕ) → length (of_caller caller) ≤ 20000
of_caller_few caller =
    let count = length-filter (λ (j : ℕ). j % 64 == caller) (below additions) in
    let bound = count_by-le-length (λ (j : ℕ). j % 64 == caller) (below additions) in
    let size = length-range_with_len 0 additions in
    omega (arith, count, bound, size, additions_are)

section_few : (drill caller : ℕ) → length (drill_section drill caller) ≤ 1300000
unfolding drill_section
section_few drill caller =
    let both = length-append (flat_map opening (below keys)) (flat_map (addition drill) (of_caller caller)) in
    let front = length-flat_map opening (below keys) in
    let behind = length-flat_map (addition drill) (of_caller caller) in
    let openings = sum_by-le (λ (key : ℕ). length (opening key)) 60 (below keys)
    (All-weaker (λ (key : ℕ). key < keys) (λ (key : ℕ). length (opening key) ≤ 60) opening_few (below keys)
    (All-from_recursion (λ (key : ℕ). key < keys) (below keys) (below_within keys))) in
    let more = sum_by-le (λ (j : ℕ). length (addition drill j)) 60 (of_caller caller) (λ k d within. addition_few drill _) in
    let size = length-range_with_len 0 keys in
    let few = of_caller_few caller in
    omega (arith, both, front, behind, openings, more, size, few, keys_are)

-- the sections together have fewer bytes than 2^32
all_few : (drill : ℕ) → sum_by (λ (section : List ℕ). length section) (drill_sections drill) < 2 ^ 32
unfolding drill_sections
all_few drill =
    let bound = sum_by-le (λ (section : List ℕ). length section) 1300000 (drill_sections drill)
    (All-map (λ (section : List ℕ). length section ≤ 1300000) (drill_section drill) (below callers) (λ k d within. section_few drill _)) in
    let size = length-map-range_with_len (drill_section drill) 0 callers in
    omega (arith, bound, size, callers_are)

pub sections_few : (drill : ℕ) (sections : List (Vec ℕ Global))
    → map (λ (section : Vec ℕ Global). section.items) sections ≡ drill_sections drill
    → sum_by (λ (section : Vec ℕ Global). length section.items) sections < 2 ^ 32
sections_few drill sections are =
    subst (λ (n : ℕ). n < 2 ^ 32)
    (ap (sum_by (λ (section : List ℕ). length section)) (sym are)
    ∙ sum_by-map (λ (section : Vec ℕ Global). section.items) (λ (section : List ℕ). length section) sections)
    (all_few drill)
