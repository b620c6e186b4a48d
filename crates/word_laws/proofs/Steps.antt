-- The walk over words, a step at a time, for a command in which no use of an argument takes two words.
use Rattle.std.proofs.Common.{◌≡◌, ◌⊎◌, ℕ, ◌+◌, ◌<◌, Bool, cond, true, false, List, [], ◌∷◌, Some, None}
use Rattle.std.proofs.Common.{refl, sym, ap, subst, ◌∙◌, inl, inr, arith}
use Rattle.std.specs.Prelude.{◌==◌, ◌&&◌, ◌||◌, not, min, fold, find}
use Rattle.std.specs.List.{AllByRecursion, list_all}
use Rattle.std.specs.Option.{option_map_or}
use Rattle.std.specs.Str.{bytes_eq}
use Rattle.std.proofs.lemmas.Bool.{and_parts, cases_Bool, false_from_ne_true, eqb-true, not-true}
use Rattle.std.proofs.lemmas.Slice.Eq.{bytes_eq-Decides}
use Rattle.clap.specs.Lexer.{long_of, short_of, usize_max}
use Rattle.clap.specs.Walk.{Held, Row, Rule, Text, Waiting, Walk, idle, option, positional, value, arg_by_id, arg_by_index}
use Rattle.clap.specs.Walk.{is_pending, is_multiple, next_position, positional_held, pushed, settled, subcommand_met}
use Rattle.clap.specs.Walk.{takes_several, to_positional, used, used_by_id, walked, word_met}
use Rattle.word_laws.specs.Positionals.{dashes, given, have_own_ids, takes_all, takes_one, IsPlain}
use Rattle.word_laws.proofs.Rows.{same_text}
use Rattle.word_laws.proofs.Turns.{lack_id}

-- ---- words

pub plain_not_dashes : (word : Text) → IsPlain word → bytes_eq word dashes ≡ false
plain_not_dashes [] plain = refl
plain_not_dashes (byte ∷ bytes) plain = false_from_ne_true (bytes_eq (byte ∷ bytes) dashes)
    (λ same. plain (by ((bytes_eq-Decides (byte ∷ bytes) dashes).0 same)))
  where
    by : byte ∷ bytes ≡ dashes → byte ≡ 45
    by same = cc

pub plain_long : (word : Text) → IsPlain word → long_of word ≡ None
plain_long [] plain = refl
plain_long (byte ∷ bytes) plain = rw (false_from_ne_true (byte == 45) (λ same. plain (eqb-true byte 45 same))) refl

pub plain_short : (word : Text) → IsPlain word → short_of word ≡ None
plain_short [] plain = refl
plain_short (byte ∷ bytes) plain = rw (false_from_ne_true (byte == 45) (λ same. plain (eqb-true byte 45 same))) refl

-- no word is a subcommand's name where there is none
pub no_subcommand : (waiting : Waiting) (word : Text) → subcommand_met [] waiting word ≡ None
no_subcommand idle word = refl
no_subcommand positional word = refl
no_subcommand (option id) word = refl

-- no option waits for a value
abbrev pub WaitsNot : Waiting → Type 0
WaitsNot idle = Unit {0}
WaitsNot (option id) = ⊥
WaitsNot positional = Unit {0}

-- the words go to positionals: they are behind a `--`, or don't begin with `-` where no option waits
abbrev pub Goes : Walk → List Text → Type 0
Goes w words = (w.is_trailing ≡ true) ⊎ (WaitsNot w.waiting × AllByRecursion IsPlain words)

pub plain_met : (c : List Rule) (waiting : Waiting) (position : ℕ) (word : Text) (h : Held) → WaitsNot waiting → IsPlain word
    → word_met c [] false waiting position word h ≡ (h, value)
plain_met c idle position word h still plain = rw (plain_not_dashes word plain, plain_long word plain, plain_short word plain) refl
plain_met c positional position word h still plain = rw (plain_not_dashes word plain, plain_long word plain, plain_short word plain) refl
plain_met c (option id) position word h still plain = absurd still

pub met_value : (c : List Rule) (w : Walk) (word : Text) (words : List Text) → Goes w (word ∷ words)
    → word_met c [] w.is_trailing w.waiting w.position word w.held ≡ (w.held, value)
met_value c w word words (inl behind) = rw behind refl
met_value c w word words (inr plain) = by w.is_trailing
  where
    by : (b : Bool) → word_met c [] b w.waiting w.position word w.held ≡ (w.held, value)
    by true = refl
    by false = plain_met c w.waiting w.position word w.held plain.0 plain.1.0

pub goes_step : (c : List Rule) (w : Walk) (word : Text) → w.stopped ≡ None
    → word_met c [] w.is_trailing w.waiting w.position word w.held ≡ (w.held, value)
    → walked c [] w word ≡ to_positional c (arg_by_index c w.position) word w w.held
unfolding walked
goes_step c w word still met = rw (still, met) refl

-- ---- arguments that are found

pub some_is : {X : Type 0} (x y : X) → Some x ≡ Some y → x ≡ y
some_is x y e = cc

-- what is found is one of the arguments
pub found_passes : (p q : Rule → Bool) (c : List Rule) (rule : Rule) → list_all q c ≡ true → find p c ≡ Some rule → q rule ≡ true
found_passes p q [] rule all found = absurd cc
found_passes p q (first ∷ c) rule all found =
    let both = and_parts (q first) _ all in
    elim (cases_Bool (p first)) [
      | inl here ↦ ap q (sym (some_is first rule (rw here at found))) ∙ both.0
      | inr behind ↦ found_passes p q c rule both.1 (rw behind at found)
    ]

-- and is found by its id
pub found_again : (p : Rule → Bool) (c : List Rule) (rule : Rule) → have_own_ids c ≡ true → find p c ≡ Some rule
    → arg_by_id c rule.id ≡ Some rule
found_again p [] rule own found = absurd cc
found_again p (first ∷ c) rule own found =
    let both = and_parts (lack_id first.id c) _ own in
    elim (cases_Bool (p first)) [
      | inl here ↦
          let is = some_is first rule (rw here at found) in
          let same : bytes_eq first.id rule.id ≡ true = ap (λ (r : Rule). bytes_eq first.id r.id) (sym is) ∙ same_text first.id in
          rw same (ap Some is)
      | inr behind ↦
          let other = not-true _ (found_passes p (λ o. not (bytes_eq first.id o.id)) c rule both.0 (rw behind at found)) in
          rw other (found_again p c rule both.1 (rw behind at found))
    ]

pub and_no : (b : Bool) → (b && false) ≡ false
and_no true = refl
and_no false = refl

pub or_no : (b : Bool) → (b || false) ≡ b
or_no true = refl
or_no false = refl

-- ---- positionals, one behind the other

-- the positionals from a place on
abbrev pub Follow : List Rule → ℕ → List Rule → Type 0
Follow c place [] = arg_by_index c place ≡ None
Follow c place (rule ∷ rules) = (arg_by_index c place ≡ Some rule) × (place < usize_max) × Follow c (place + 1) rules

-- the matches so far
abbrev pub rows_at : List Rule → Walk → List Row
rows_at c w = (settled c w.held).rows

-- the walk behind a word that went to the positional
abbrev pub gone : List Rule → Rule → Text → Walk → Walk
gone c rule word w = to_positional c (Some rule) word w w.held

-- without positionals, words give nothing
pub given_nothing : (words : List Text) (rows : List Row) → given [] words rows ≡ rows
given_nothing [] rows = refl
given_nothing (word ∷ words) rows = refl

module _ (c : List Rule) (ones : list_all takes_one c ≡ true) (own : have_own_ids c ≡ true) where
  pub takes_single : (p : Rule → Bool) (rule : Rule) → find p c ≡ Some rule → (takes_several rule ≡ false) × (rule.trailing_var_arg ≡ false)
  takes_single p rule found =
      let both = and_parts (not (takes_several rule)) _ (found_passes p takes_one c rule ones found) in
      (not-true _ both.0, not-true _ both.1)

  -- what was pending is settled first
  pub settled_first : (rule : Rule) (word : Text) (h : Held) → takes_several rule ≡ false
      → positional_held c rule word h ≡ pushed rule.id word (settled c h)
  settled_first rule word h single = rw (single, and_no (is_pending rule h.pending)) refl

  module _ (rule : Rule) (word : Text) (w : Walk) (found : arg_by_index c w.position ≡ Some rule) where
    pub single : (takes_several rule ≡ false) × (rule.trailing_var_arg ≡ false)
    single = takes_single (λ a. option_map_or (λ k. k == w.position) a.index false) rule found

    pub gone_rows : rows_at c (gone c rule word w) ≡ used rule (word ∷ []) (rows_at c w)
    gone_rows =
        ap (λ h. (settled c h).rows) (settled_first rule word w.held single.0)
        ∙ ap (λ o. used_by_id o (word ∷ []) (rows_at c w))
        (found_again (λ a. option_map_or (λ k. k == w.position) a.index false) c rule own found)

    pub gone_place : next_position rule w.position ≡ cond (takes_all rule) w.position (min (w.position + 1) usize_max)
    gone_place = rw single.0 refl

    pub gone_goes : (words : List Text) → Goes w (word ∷ words) → Goes (gone c rule word w) words
    gone_goes words (inl behind) = inl (rw behind refl)
    gone_goes words (inr plain) = inr (by (is_multiple rule), plain.1.1)
      where
        by : (b : Bool) → WaitsNot (cond b positional idle)
        by true = tt
        by false = tt

  pub goes_rest : (w : Walk) (word : Text) (words : List Text) → Goes w (word ∷ words) → Goes w words
  goes_rest w word words (inl behind) = inl behind
  goes_rest w word words (inr plain) = inr (plain.0, plain.1.1)

  -- a word that no positional takes changes nothing
  pub stray : (w : Walk) (word : Text) (words : List Text) → arg_by_index c w.position ≡ None → w.stopped ≡ None
      → Goes w (word ∷ words) → walked c [] w word ≡ w
  stray w word words none still goes =
      goes_step c w word still (met_value c w word words goes) ∙ ap (λ o. to_positional c o word w w.held) none

  pub taken : (rule : Rule) (w : Walk) (word : Text) (words : List Text) → arg_by_index c w.position ≡ Some rule → w.stopped ≡ None
      → Goes w (word ∷ words) → walked c [] w word ≡ gone c rule word w
  taken rule w word words found still goes =
      goes_step c w word still (met_value c w word words goes) ∙ ap (λ o. to_positional c o word w w.held) found

  pub follow_all : (rule : Rule) (rules : List Rule) (w : Walk) (word : Text) → takes_all rule ≡ true → Follow c w.position (rule ∷ rules)
      → Follow c (gone c rule word w).position (rule ∷ rules)
  follow_all rule rules w word all follow =
      subst (λ place. Follow c place (rule ∷ rules)) (sym (gone_place rule word w follow.0 ∙ rw all refl)) follow

  pub follow_once : (rule : Rule) (rules : List Rule) (w : Walk) (word : Text) → takes_all rule ≡ false → Follow c w.position (rule ∷ rules)
      → Follow c (gone c rule word w).position rules
  follow_once rule rules w word once follow =
      let small : min (w.position + 1) usize_max ≡ w.position + 1 = omega (arith, follow.1) in
      subst (λ place. Follow c place rules) (sym (gone_place rule word w follow.0 ∙ rw once small)) follow.2

  -- the matches behind words that go to positionals
  pub walk_given : (rules : List Rule) (words : List Text) (w : Walk) → Follow c w.position rules → w.stopped ≡ None → Goes w words
      → rows_at c (fold (walked c []) w words) ≡ given rules words (rows_at c w)
  walk_given rules [] w follow still goes = refl
  walk_given [] (word ∷ words) w follow still goes =
      ap (λ (v : Walk). rows_at c (fold (walked c []) v words)) (stray w word words follow still goes)
      ∙ walk_given [] words w follow still (goes_rest w word words goes) ∙ given_nothing words (rows_at c w)
  walk_given (rule ∷ rules) (word ∷ words) w follow still goes =
      let step = ap (λ (v : Walk). rows_at c (fold (walked c []) v words)) (taken rule w word words follow.0 still goes) in
      let rest = gone_goes rule word w follow.0 words goes in
      let rows = gone_rows rule word w follow.0 in
      elim (cases_Bool (takes_all rule)) [
        | inl all ↦ rw all (
            step ∙ walk_given (rule ∷ rules) words (gone c rule word w) (follow_all rule rules w word all follow) refl rest
            ∙ ap (given (rule ∷ rules) words) rows
            )
        | inr once ↦ rw once (
            step ∙ walk_given rules words (gone c rule word w) (follow_once rule rules w word once follow) refl rest
            ∙ ap (given rules words) rows
            )
      ]
