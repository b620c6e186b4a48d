-- What an accepted walk comes to: each word that goes to a positional finds one, and words before `--` leave the walk as it stood.
use Rattle.std.proofs.Common.{◌≡◌, ℕ, ◌+◌, ◌<◌, ◌≤◌, zero, suc, Bool, cond, true, false, List, [], ◌∷◌, Option, Some, None}
use Rattle.std.proofs.Common.{refl, sym, ap, subst, ◌∙◌, inl, inr, arith, drop, true≢false}
use Rattle.std.specs.Prelude.{◌≢◌, ◌==◌, is_some, unwrap_or, nat_lt, min, fold, find}
use Rattle.std.specs.List.{filter, list_all}
use Rattle.std.specs.Option.{option_map_or}
use Rattle.std.specs.Str.{bytes_eq}
use Rattle.std.proofs.lemmas.Bool.{and_parts, both_ways, cases_Bool, false_from_ne_true, eq-eqb, eqb-true, ltb-true}
use Rattle.std.proofs.lemmas.Slice.Eq.{bytes_eq-Decides}
use Rattle.clap.specs.Faults.{step_fault, stray_fault, turn_fault, walk_fault, word_fault}
use Rattle.clap.specs.Kinds.{Kinds, or_else}
use Rattle.clap.specs.Lexer.{long_of, short_of, usize_max}
use Rattle.clap.specs.Simple.{Shape}
use Rattle.clap.specs.Walk.{Held, Outcome, Rule, Step, Text, Waiting, Walk, done, idle, next, option, plain, positional, refused}
use Rattle.clap.specs.Walk.{subcommand, trailing, value, waits, after_flag, after_step, arg_by_index, bundle, arg_by_long}
use Rattle.clap.specs.Walk.{is_multiple, long_met, long_or_other, plain_word, short_or_plain, to_positional, walked, word_met}
use Rattle.word_laws.specs.Laws.{LackDashes}
use Rattle.word_laws.specs.Positionals.{are_counted, dashes, have_own_ids, positionals, takes_all, takes_one}
use Rattle.word_laws.proofs.Turns.{Fit}
use Rattle.word_laws.proofs.Steps.{Follow, Goes, follow_once, gone, gone_goes, met_value, taken, takes_single}

-- ---- faults

pub or_none : (one other : Kinds) → or_else one other ≡ [] → (one ≡ []) × (other ≡ [])
or_none [] other e = (refl, e)
or_none (kind ∷ kinds) other e = absurd cc

pub stray_is_fault : (s : Shape) → stray_fault s ≡ [] → ⊥
stray_is_fault s e = by s.is_leaf refl
  where
    by : (b : Bool) → s.is_leaf ≡ b → ⊥
    by true is = let wrong = rw is at e in absurd cc
    by false is = let wrong = rw is at e in absurd cc

module _ (s : Shape) where
  -- no word and no step of an accepted walk is at fault
  pub step_passes : (w : Walk) (word : Text) (words : List Text) → w.stopped ≡ None → walk_fault s [] w (word ∷ words) ≡ []
      → (turn_fault s [] w word ≡ []) × (walk_fault s [] (walked s.rules [] w word) words ≡ [])
  unfolding walk_fault
  step_passes w word words still e = or_none (turn_fault s [] w word) _ e

  pub turn_value : (w : Walk) (word : Text) (words : List Text) → w.stopped ≡ None → Goes w (word ∷ words) → turn_fault s [] w word ≡ []
      → step_fault s w.position w.held value ≡ []
  turn_value w word words still goes e =
      (or_none (word_fault s [] w.is_trailing w.waiting word w.held) _ (rw (still, met_value s.rules w word words goes) at e)).1

  module _ (ones : list_all takes_one s.rules ≡ true) (own : have_own_ids s.rules ≡ true) where
    -- each word that goes to a positional finds one
    pub walk_fits : (rules : List Rule) (words : List Text) (w : Walk) → Follow s.rules w.position rules → w.stopped ≡ None
        → Goes w words → walk_fault s [] w words ≡ [] → Fit rules words
    walk_fits rules [] w follow still goes passes = tt
    walk_fits [] (word ∷ words) w follow still goes passes =
        let here = turn_value w word words still goes (step_passes w word words still passes).0 in
        stray_is_fault s (rw follow at here)
    walk_fits (rule ∷ rules) (word ∷ words) w follow still goes passes =
        elim (cases_Bool (takes_all rule)) [
          | inl all ↦ rw all tt
          | inr once ↦
              let rest = (step_passes w word words still passes).1 in
              let step = taken s.rules ones own rule w word words follow.0 still goes in
              rw once (
              walk_fits rules words (gone s.rules rule word w) (follow_once s.rules ones own rule rules w word once follow) refl
              (gone_goes s.rules ones own rule word w follow.0 words goes)
              (subst (λ (v : Walk). walk_fault s [] v words ≡ []) step rest)
              )
        ]

-- ---- places

abbrev at_place : ℕ → Rule → Bool
at_place place rule = option_map_or (λ k. k == place) rule.index false

nil_not_cons : (rule : Rule) (rules : List Rule) → [] ≡ rule ∷ rules → ⊥
nil_not_cons rule rules is = absurd (true≢false (ap (λ (rs : List Rule). by rs) is))
  where
    by : List Rule → Bool
    by [] = true
    by (r ∷ rs) = false

-- an argument with a place is one that has any
find_filtered : (p test : Rule → Bool) → ((rule : Rule) → p rule ≡ true → test rule ≡ true) → (c : List Rule)
    → find p c ≡ find p (filter test c)
find_filtered p test sub [] = refl
find_filtered p test sub (rule ∷ c) =
    elim (cases_Bool (test rule)) [
      | inl in_it ↦ rw in_it (by (p rule) (find_filtered p test sub c))
      | inr out ↦
          let no = false_from_ne_true (p rule) (λ yes_it. both_ways (test rule) out (sub rule yes_it)) in
          rw (out, no) (find_filtered p test sub c)
    ]
  where
    by : (b : Bool) → find p c ≡ find p (filter test c) → cond b (Some rule) (find p c) ≡ cond b (Some rule) (find p (filter test c))
    by true e = refl
    by false e = e

has_place : (place : ℕ) (rule : Rule) → at_place place rule ≡ true → is_some rule.index ≡ true
has_place place rule = by rule.index
  where
    by : (o : Option ℕ) → option_map_or (λ k. k == place) o false ≡ true → is_some o ≡ true
    by None e = absurd cc
    by (Some k) e = refl

abbrev head_of : List Rule → Option Rule
head_of [] = None
head_of (rule ∷ rules) = Some rule

index_is : (place : ℕ) (o : Option ℕ) → 1 ≤ place → (unwrap_or o 0 == place) ≡ true → o ≡ Some place
index_is place None some e = let zero_is = eqb-true 0 place e in absurd (omega arith)
index_is place (Some k) some e = ap Some (eqb-true k place e)

later_number : (k n : ℕ) → (k == (k + suc n)) ≡ false
later_number k n = false_from_ne_true (k == (k + suc n)) (λ same. let e = eqb-true k (k + suc n) same in absurd (omega arith))

counted_parts : (start : ℕ) (rule : Rule) (rules : List Rule) → 1 ≤ start → are_counted start (rule ∷ rules) ≡ true
    → (rule.index ≡ Some start) × (start < usize_max) × (are_counted (start + 1) rules ≡ true)
counted_parts start rule rules some counted =
    let parts = and_parts (unwrap_or rule.index 0 == start) _ counted in
    let more = and_parts (nat_lt start usize_max) _ parts.1 in
    (index_is start rule.index some parts.0, ltb-true start usize_max more.0, more.1)

-- the positional at a place
nth_place : (start : ℕ) (rules : List Rule) → 1 ≤ start → are_counted start rules ≡ true → (n : ℕ)
    → find (at_place (start + n)) rules ≡ head_of (drop n rules)
nth_place start [] some counted zero = refl
nth_place start [] some counted (suc n) = refl
nth_place start (rule ∷ rules) some counted zero =
    let parts = counted_parts start rule rules some counted in
    let place : start + 0 ≡ start = omega arith in
    let here : at_place (start + 0) rule ≡ true =
    ap (λ o. option_map_or (λ k. k == (start + 0)) o false) parts.0 ∙ ap (λ m. start == m) place ∙ eq-eqb start start refl in
    rw here refl
nth_place start (rule ∷ rules) some counted (suc n) =
    let parts = counted_parts start rule rules some counted in
    let other : at_place (start + suc n) rule ≡ false =
    ap (λ o. option_map_or (λ k. k == (start + suc n)) o false) parts.0 ∙ later_number start n in
    let same : start + suc n ≡ start + 1 + n = omega arith in
    rw other (ap (λ m. find (at_place m) rules) same ∙ nth_place (start + 1) rules (omega arith) parts.2 n)

-- its place is a number of the machine's
nth_small : (start : ℕ) (rules : List Rule) → 1 ≤ start → are_counted start rules ≡ true → (n : ℕ) (rule : Rule) (behind : List Rule)
    → drop n rules ≡ rule ∷ behind → start + n < usize_max
nth_small start [] some counted zero rule behind is = absurd (nil_not_cons rule behind is)
nth_small start [] some counted (suc n) rule behind is = absurd (nil_not_cons rule behind is)
nth_small start (first ∷ rules) some counted zero rule behind is =
    let parts = counted_parts start first rules some counted in omega (arith, parts.1)
nth_small start (first ∷ rules) some counted (suc n) rule behind is =
    let parts = counted_parts start first rules some counted in
    let rest = nth_small (start + 1) rules (omega arith) parts.2 n rule behind is in
    omega (arith, rest)

drop_more : (n : ℕ) (rules : List Rule) (rule : Rule) (behind : List Rule) → drop n rules ≡ rule ∷ behind → drop (suc n) rules ≡ behind
drop_more zero [] rule behind is = absurd (nil_not_cons rule behind is)
drop_more (suc n) [] rule behind is = absurd (nil_not_cons rule behind is)
drop_more zero (first ∷ rules) rule behind is = cc
drop_more (suc n) (first ∷ rules) rule behind is = drop_more n rules rule behind is

-- the positionals from a place on follow each other
pub follow_from : (c : List Rule) → are_counted 1 (positionals c) ≡ true → (n : ℕ) (rules : List Rule) → drop n (positionals c) ≡ rules
    → Follow c (1 + n) rules
follow_from c counted n [] is =
    find_filtered (at_place (1 + n)) (λ rule. is_some rule.index) (has_place (1 + n)) c
    ∙ nth_place 1 (positionals c) (omega arith) counted n ∙ ap head_of is
follow_from c counted n (rule ∷ rules) is =
    let next_is : 1 + n + 1 ≡ 1 + suc n = omega arith in (
      find_filtered (at_place (1 + n)) (λ rule. is_some rule.index) (has_place (1 + n)) c
          ∙ nth_place 1 (positionals c) (omega arith) counted n ∙ ap head_of is,
      nth_small 1 (positionals c) (omega arith) counted n rule rules is,
      subst (λ place. Follow c place rules) (sym next_is)
          (follow_from c counted (suc n) rules (drop_more n (positionals c) rule rules is)),
    )

-- ---- words before the first `--`

-- the step is a flag's or a value's
abbrev Flat : Step → Type 0
Flat (next waiting) = Unit {0}
Flat value = Unit {0}
Flat (trailing place) = ⊥
Flat (subcommand name) = ⊥

module _ (c : List Rule) (word : Text) where
  plain_flat : (waiting : Waiting) (h : Held) → Flat (plain_word c waiting word h).1
  plain_flat idle h = tt
  plain_flat positional h = tt
  plain_flat (option id) h = tt

  flag_flat : (waiting : Waiting) (o : Outcome) (h : Held) → Flat (after_flag c waiting word h o).1
  flag_flat waiting done h = tt
  flag_flat waiting (waits id) h = tt
  flag_flat waiting plain h = plain_flat waiting h
  flag_flat waiting refused h = plain_flat waiting h

  short_flat : (waiting : Waiting) (flags : Option Text) (h : Held) → Flat (short_or_plain c waiting word flags h).1
  short_flat waiting None h = plain_flat waiting h
  short_flat waiting (Some flags) h = flag_flat waiting (bundle c flags h).1 (bundle c flags h).0

  long_flat : (waiting : Waiting) (parts : Option (Text × Option Text)) (h : Held) → Flat (long_or_other c waiting word parts h).1
  long_flat waiting None h = short_flat waiting (short_of word) h
  long_flat waiting (Some p) h = flag_flat waiting (long_met c (arg_by_long c p.0) p.1 h).1 (long_met c (arg_by_long c p.0) p.1 h).0

  word_flat : (waiting : Waiting) (place : ℕ) (h : Held) → bytes_eq word dashes ≡ false → Flat (word_met c [] false waiting place word h).1
  word_flat idle place h differ = rw differ (long_flat idle (long_of word) h)
  word_flat positional place h differ = rw differ (long_flat positional (long_of word) h)
  word_flat (option id) place h differ = rw differ (long_flat (option id) (long_of word) h)

-- the walk stands before any `--`
pub record Stands (w : Walk) : Type 0 where
  pub still : w.stopped ≡ None
  pub before : w.is_trailing ≡ false
  pub place : 1 ≤ w.position

pub walked_is : (c : List Rule) (w : Walk) (word : Text) → w.stopped ≡ None
    → walked c [] w word ≡ after_step c word w (word_met c [] w.is_trailing w.waiting w.position word w.held).0
    (word_met c [] w.is_trailing w.waiting w.position word w.held).1
unfolding walked
walked_is c w word still = rw still refl

module _ (c : List Rule) (ones : list_all takes_one c ≡ true) (own : have_own_ids c ≡ true) where
  stands_behind : (w : Walk) (word : Text) (h : Held) (step : Step) → Flat step → Stands w → Stands (after_step c word w h step)
  stands_behind w word h (next waiting) flat s = record { still = s.still; before = s.before; place = s.place }
  stands_behind w word h (trailing place) flat s = absurd flat
  stands_behind w word h (subcommand name) flat s = absurd flat
  stands_behind w word h value flat s = by (arg_by_index c w.position) refl
    where
      by : (o : Option Rule) → arg_by_index c w.position ≡ o → Stands (to_positional c o word w h)
      by None is = record { still = s.still; before = s.before; place = s.place }
      by (Some rule) is =
          let one = takes_single c ones own (at_place w.position) rule is in
          record {
            still = refl;
            before = rw (s.before, one.1) refl;
            place = go (is_multiple rule);
          }
        where
          go : (b : Bool) → 1 ≤ cond b w.position (min (w.position + 1) usize_max)
          go true = s.place
          go false = omega arith

  pub stands_step : (w : Walk) (word : Text) → word ≢ dashes → Stands w → Stands (walked c [] w word)
  stands_step w word differ s =
      subst Stands (sym (walked_is c w word s.still))
      (stands_behind w word _ _ (
      subst (λ b. Flat (word_met c [] b w.waiting w.position word w.held).1) (sym s.before)
      (word_flat c word w.waiting w.position w.held
      (false_from_ne_true (bytes_eq word dashes) (λ same. differ ((bytes_eq-Decides word dashes).0 same))))
      ) s)

  pub stands : (words : List Text) (w : Walk) → LackDashes words → Stands w → Stands (fold (walked c []) w words)
  stands [] w lack s = s
  stands (word ∷ words) w lack s = stands words (walked c [] w word) lack.1 (stands_step w word lack.0 s)
