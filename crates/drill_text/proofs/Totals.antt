-- What a drill's journal leaves in the store, whatever the order of its callers.
use Rattle.std.proofs.Common.{
  ◌≡◌,
  ℕ,
  ◌+◌,
  ◌-◌,
  ◌*◌,
  ◌%◌,
  ◌^◌,
  ◌<◌,
  ◌≤◌,
  true,
  false,
  cond,
  List,
  [],
  ◌∷◌,
  ◌++◌,
  length,
  map,
  get_or,
  Some,
  inl,
  inr,
  refl,
  sym,
  ap,
  ◌∙◌,
  subst,
  append-nil,
  zero-add,
  arith,
}
use Rattle.std.specs.Prelude.{All, decimal, filter, option_map, slice_get, sum_by, ◌==◌}
use Rattle.std.specs.List.{AllByRecursion, count_by, range_with_len}
use Rattle.std.proofs.lemmas.Bool.{cases_lt, eq-eqb}
use Rattle.std.proofs.lemmas.List.{get_or-append_right, get_or-map, get_or_append_left, length-append, length-map}
use Rattle.std.proofs.lemmas.List.Elements.{All-filter, All-from_recursion, All-map, recursion_from_All}
use Rattle.std.proofs.lemmas.List.FromFn.{get_or-map-range_with_len, length-map-range_with_len, length-range_with_len}
use Rattle.std.proofs.lemmas.List.Sums.{count_by-le-length, length-filter, sum_by-append, sum_by-cons, sum_by-le}
use Rattle.std.proofs.lemmas.Option.{slice_get-get_or}
use Rattle.mc_text.specs.Request.{Quit, WholeCommand}
use Rattle.mc_text.specs.Reading.{commands_of}
use Rattle.kv_history.specs.Contents.{Item}
use Rattle.kv_history.specs.Log.{
  EachHasSection,
  EachOwnFirst,
  IsHistory,
  Log,
  Logged,
  Turn,
  applied_entry,
  calls,
  entries_from,
  history,
  next_command,
  next_entry,
  own,
  store_now,
}
use Rattle.kv_history.proofs.Next.{count-own}
use Rattle.drill_text.specs.Drill.{
  HaveGivenAll,
  additions,
  below,
  callers,
  delta,
  drill_section,
  drill_sections,
  drill_sum,
  key_name,
  keys,
  of_caller,
  of_key,
}
use Rattle.drill_text.specs.Sums.{HoldsSums}
use Rattle.drill_text.proofs.Numbers.{below_within, by_class, same_sum, same_up, sum_by-filter, sum_by-map, sum_up, zero_sum}
use Rattle.drill_text.proofs.Readings.{addition_command, commands_in, opening_command}
use Rattle.drill_text.proofs.Sizes.{additions_are, callers_are, keys_are}
use Rattle.drill_text.proofs.Replays.{
  Counted,
  added_by,
  counted_addition,
  counted_none,
  counted_opening,
  own_more,
  same_names,
  total,
}

-- ---- the commands of a caller, by their places

abbrev none : WholeCommand
none = record { request = Quit; spelling = [] }

openings_count : length (map opening_command (below keys)) ≡ 8
openings_count = length-map-range_with_len opening_command 0 keys ∙ keys_are

opening_at : (drill w n : ℕ) → n < 8 → get_or (commands_in drill w) n none ≡ opening_command n
opening_at drill w n small =
    get_or_append_left (map opening_command (below keys)) _ none n (omega (arith, small, openings_count))
    ∙ get_or-map-range_with_len opening_command 0 keys n n none (omega (arith, small, keys_are)) (omega arith)

addition_at : (drill w n : ℕ) → 8 ≤ n → n < length (commands_in drill w)
    → get_or (commands_in drill w) n none ≡ addition_command drill (get_or (of_caller w) (n - 8) 0)
addition_at drill w n high within =
    let size = length-append (map opening_command (below keys)) (map (addition_command drill) (of_caller w)) in
    let rest = length-map (of_caller w) (addition_command drill) in
    get_or-append_right (map opening_command (below keys)) (map (addition_command drill) (of_caller w)) 8 n none openings_count high
    ∙ get_or-map (addition_command drill) (of_caller w) (n - 8) 0 none (omega (arith, within, size, rest, openings_count, high))

-- ---- the turns of all callers, in any order

-- the commands that are read of the sections
abbrev AreRead : ℕ → Type 0
AreRead drill = (w : ℕ) → commands_of (drill_section drill w) ≡ commands_in drill w

section_at : (drill w : ℕ) → w < callers → get_or (drill_sections drill) w [] ≡ drill_section drill w
unfolding drill_sections
section_at drill w within = get_or-map-range_with_len (drill_section drill) 0 callers w w [] within (omega arith)

command_is : (drill : ℕ) (before : List Logged) (w : ℕ) → AreRead drill → w < callers
    → next_command (drill_sections drill) before w ≡ get_or (commands_in drill w) (length (own before w)) none
command_is drill before w read within =
    ap (λ (section : List ℕ). get_or (commands_of section) (length (own before w)) none) (section_at drill w within)
    ∙ ap (λ (all : List WholeCommand). get_or all (length (own before w)) none) (read w)

turn_for : ℕ → Turn
turn_for w = record { caller = w; void = false }

next_counted : (drill : ℕ) (before : List Logged) (w : ℕ) → AreRead drill → w < callers → Counted before
    → length (own before w) < length (commands_in drill w)
    → Counted (before ++ next_entry (drill_sections drill) before (turn_for w) ∷ [])
unfolding turn_for
next_counted drill before w read within counted left =
    elim (cases_lt (length (own before w)) 8) [
      | inl small ↦ subst (λ (command : WholeCommand). Counted (before ++ applied_entry before w command ∷ []))
          (sym (command_is drill before w read within ∙ opening_at drill w (length (own before w)) small))
          (counted_opening before w counted (length (own before w)) small refl)
      | inr high ↦ subst (λ (command : WholeCommand). Counted (before ++ applied_entry before w command ∷ []))
          (sym (command_is drill before w read within ∙ addition_at drill w (length (own before w)) high left))
          (counted_addition before w counted drill (get_or (of_caller w) (length (own before w) - 8) 0) high)
    ]

caller_of : (drill : ℕ) (before : List Logged) (w : ℕ) → (next_entry (drill_sections drill) before (turn_for w)).caller ≡ w
unfolding turn_for
caller_of drill before w = refl

replayed : (drill : ℕ) → AreRead drill → (before : List Logged) (left : List ℕ) → Counted before
    → AllByRecursion (λ w. w < callers) left
    → ((w : ℕ) → w < callers → length (own before w) + count_by (λ other. other == w) left ≤ length (commands_in drill w))
    → Counted (entries_from (drill_sections drill) before (map turn_for left))
replayed drill read before [] counted within few = counted
replayed drill read before (w ∷ left) counted within few =
    replayed drill read (before ++ next_entry (drill_sections drill) before (turn_for w) ∷ []) left
    (next_counted drill before w read within.0 counted (omega (arith, few w within.0, one w, here)))
    within.1
    (λ other there. omega (arith, few other there, one other, more other))
  where
    one : (other : ℕ) → count_by (λ x. x == other) (w ∷ left) ≡ cond (w == other) 1 0 + count_by (λ x. x == other) left
    one other = sum_by-cons (λ (x : ℕ). cond (x == other) 1 0) w left

    here : cond {A = ℕ} (w == w) 1 0 ≡ 1
    here = ap (λ b. cond b 1 0) (eq-eqb w w refl)

    more : (other : ℕ) → length (own (before ++ next_entry (drill_sections drill) before (turn_for w) ∷ []) other)
        ≡ length (own before other) + cond (w == other) 1 0
    more other = own_more before (next_entry (drill_sections drill) before (turn_for w)) other
        ∙ ap (λ (n : ℕ). length (own before other) + cond (n == other) 1 0) (caller_of drill before w)

-- ---- the sums

-- what the commands of a caller add to a key
caller_adds : (drill w k : ℕ) → k < 8
    → sum_by (λ command. added_by (key_name k) command.request) (commands_in drill w)
    ≡ sum_by (λ j. cond (j % 8 == k) (delta drill j) 0) (of_caller w)
caller_adds drill w k small =
    let f = λ (command : WholeCommand). added_by (key_name k) command.request in
    let openings : sum_by f (map opening_command (below keys)) ≡ 0 = sum_by-map opening_command f (below keys) ∙ zero_sum (below keys) in
    let rest = sum_by-map (addition_command drill) f (of_caller w)
    ∙ same_sum (λ (j : ℕ). f (addition_command drill j)) (λ (j : ℕ). cond (j % 8 == k) (delta drill j) 0) (of_caller w)
    (λ j. ap (λ b. cond b (delta drill j) 0) (same_names (j % 8) k (omega arith) small)) in
    sum_by-append f (map opening_command (below keys)) (map (addition_command drill) (of_caller w))
    ∙ ap (λ (n : ℕ). n + sum_by f (map (addition_command drill) (of_caller w))) openings
    ∙ zero-add (sum_by f (map (addition_command drill) (of_caller w)))
    ∙ rest

all_below : (n : ℕ) (some : List ℕ) → n ≡ 64 → AllByRecursion (λ j. j % 64 < n) some
all_below n [] is = tt
all_below n (j ∷ more) is = (omega (arith, is), all_below n more is)

-- what all callers add to a key is its plain sum
total_is : (drill k : ℕ) (entries : List Logged) → k < 8 → AllByRecursion (λ entry. entry.caller < callers) entries
    → ((w : ℕ) → w < callers → own entries w ≡ commands_in drill w) → total k entries ≡ drill_sum drill k
unfolding drill_sum
total_is drill k entries small within whole =
    let f = λ (entry : Logged). added_by (key_name k) entry.command.request in
    let g = λ (command : WholeCommand). added_by (key_name k) command.request in
    let h = λ (j : ℕ). cond (j % 8 == k) (delta drill j) 0 in
    sym (by_class (λ (entry : Logged). entry.caller) f callers entries within)
    ∙ same_up callers (λ w. sum_by f (filter (λ (entry : Logged). entry.caller == w) entries)) (λ w. sum_by h (of_caller w))
    (λ w there.
    sym (sum_by-map (λ (entry : Logged). entry.command) g (filter (λ (entry : Logged). entry.caller == w) entries))
    ∙ ap (sum_by g) (whole w there)
    ∙ caller_adds drill w k small)
    ∙ by_class (λ (j : ℕ). j % 64) h callers (below additions) (all_below callers (below additions) callers_are)
    ∙ sym (sum_by-filter (λ (j : ℕ). j % 8 == k) (delta drill) (below additions))

-- which has 64 bits
sum_small : (drill k : ℕ) → drill_sum drill k < 2 ^ 64
unfolding drill_sum
sum_small drill k =
    let few = sum_by-le (delta drill) 999 (of_key k) (λ j d within. omega arith) in
    let count = length-filter (λ (j : ℕ). j % 8 == k) (below additions) in
    let bound = count_by-le-length (λ (j : ℕ). j % 8 == k) (below additions) in
    let size = length-range_with_len 0 additions in
    omega (arith, few, count, bound, size, additions_are)

-- ---- a journal of a drill in which all callers have given their commands

no_rest : (front rest : List WholeCommand) → length (front ++ rest) ≡ length front → front ++ rest ≡ front
no_rest front [] same = append-nil front
no_rest front (one ∷ rest) same = absurd (omega (arith, same, length-append front (one ∷ rest)))

module _ (drill : ℕ) (read : AreRead drill) (log : Log) (sections : log.sections ≡ drill_sections drill) (given : HaveGivenAll log) where
  place : (w : ℕ) → w < callers → slice_get log.sections w ≡ Some (drill_section drill w)
  unfolding drill_sections
  place w within =
      ap (λ (all : List (List ℕ)). slice_get all w) sections
      ∙ slice_get-get_or (drill_sections drill) w []
      (omega (arith, within, length-map-range_with_len (drill_section drill) 0 callers))
      ∙ ap Some (section_at drill w within)

  counts : (w : ℕ) → w < callers → count_by (λ other. other == w) (calls log) ≡ length (commands_in drill w)
  counts w within = given w (drill_section drill w) (place w within) ∙ ap length (read w)

  own_all : EachOwnFirst log → (w : ℕ) → w < callers → own log.entries w ≡ commands_in drill w
  own_all first w within =
      let found = first w (drill_section drill w) (place w within) in
      let same : length (own log.entries w ++ found.0) ≡ length (own log.entries w) =
      sym (ap length found.1)
      ∙ ap length (read w)
      ∙ sym (counts w within)
      ∙ count-own log.entries w in
      sym (no_rest (own log.entries w) found.0 same) ∙ sym found.1 ∙ read w

  sections_count : length log.sections ≡ callers
  unfolding drill_sections
  sections_count = ap length sections ∙ length-map-range_with_len (drill_section drill) 0 callers

  callers_within : EachHasSection log → All (λ entry. entry.caller < callers) log.entries
  callers_within each = subst (λ (n : ℕ). All (λ (entry : Logged). entry.caller < n) log.entries) sections_count each

  counted : EachHasSection log → IsHistory log → Counted log.entries
  unfolding turn_for
  counted each is =
      subst Counted (sym (is ∙ ap (λ (all : List (List ℕ)). history all (calls log)) sections))
      (replayed drill read [] (calls log) counted_none
      (recursion_from_All (λ w. w < callers) (calls log)
      (All-map (λ (w : ℕ). w < callers) (λ (entry : Logged). entry.caller) log.entries (callers_within each)))
      (λ w within. omega (arith, counts w within)))

  -- the store holds the drill's sums
  pub sums_held : EachHasSection log → EachOwnFirst log → IsHistory log → HoldsSums drill (store_now log.entries)
  sums_held each first is = λ key small.
      let few : key < 8 = omega (arith, small, keys_are) in
      let size = length-append (map opening_command (below keys)) (map (addition_command drill) (of_caller 0)) in
      let one : 0 < callers = omega (arith, callers_are) in
      let opened : 8 ≤ length (own log.entries 0) =
      omega (arith, ap length (own_all first 0 one), size, openings_count) in
      let holds = (counted each is).opened 0 key few (omega (arith, few, opened)) in
      let total_of = total_is drill key log.entries few
      (recursion_from_All (λ (entry : Logged). entry.caller < callers) log.entries (callers_within each)) (own_all first) in
      let whole : total key log.entries % 2 ^ 64 ≡ drill_sum drill key = omega (arith, total_of, sum_small drill key) in
      ap (option_map (λ (item : Item). item.block)) holds.there ∙ ap (λ (n : ℕ). Some (decimal n)) whole
