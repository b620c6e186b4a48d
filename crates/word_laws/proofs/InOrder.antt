-- Plain words, and words behind `--`, are the positionals of an accepted command.
use Rattle.std.proofs.Common.{◌≡◌, ℕ, ◌+◌, ◌-◌, true, false, List, [], ◌∷◌, ◌++◌, Option, Some, None}
use Rattle.std.proofs.Common.{refl, sym, ap, subst, ◌∙◌, inl, inr, arith, map}
use Rattle.std.specs.Prelude.{is_some, fold}
use Rattle.std.specs.List.{AllByRecursion, list_all}
use Rattle.std.proofs.lemmas.Bool.{and_parts, both_ways, not-true}
use Rattle.std.proofs.lemmas.List.Sums.{fold-append}
use Rattle.clap.specs.Faults.{fault_of, turn_fault, walk_fault}
use Rattle.clap.specs.Kinds.{Kinds}
use Rattle.clap.specs.Simple.{App, argument_words, built, label_of, matches_of, names_of}
use Rattle.clap.specs.Walk.{Held, Names, Row, Rule, Text, Waiting, Walk, idle, option, positional, trailing, arg_by_index}
use Rattle.clap.specs.Walk.{nothing_held, rows_after, settled, to_positional, walk_from, walked, word_met}
use Rattle.command_words.specs.Commands.{if_taken, matched}
use Rattle.word_laws.specs.Laws.{IsSingle, LackDashes, reached}
use Rattle.word_laws.specs.Positionals.{are_counted, dashes, from_place, given, have_own_ids, keeps_words, positionals, rules_of}
use Rattle.word_laws.specs.Positionals.{takes_one, with_defaults, IsPlain, StandInOrder}
use Rattle.word_laws.proofs.Turns.{EndWith, Fit, HaveNone, empty_is, end_with, in_order, own_filtered}
use Rattle.word_laws.proofs.Steps.{Follow, Goes, WaitsNot, goes_step, gone_goes, met_value, rows_at, single, walk_given}
use Rattle.word_laws.proofs.Accepted.{Stands, follow_from, or_none, stands, step_passes, turn_value, walk_fits, walked_is}

-- ---- what the test of a command says

pub record Parts (command : App) : Type 0 where
  pub alone : (built command).subs ≡ []
  pub named : command.top.no_binary_name ≡ false
  pub ones : list_all takes_one (rules_of command) ≡ true
  pub own : have_own_ids (rules_of command) ≡ true
  pub keeps : list_all keeps_words (positionals (rules_of command)) ≡ true
  pub counted : are_counted 1 (positionals (rules_of command)) ≡ true

pub parts_of : (command : App) → IsSingle command → Parts command
parts_of command single =
    let a = and_parts _ _ single in
    let b = and_parts _ _ a.1 in
    let d = and_parts _ _ b.1 in
    let e = and_parts _ _ d.1 in
    let f = and_parts _ _ e.1 in
    record {
      alone = empty_is _ a.0;
      named = not-true _ b.0;
      ones = d.0;
      own = e.0;
      keeps = f.0;
      counted = f.1;
    }

-- ---- acceptance

taken_is : (kinds : Kinds) (found rows : List Row) → if_taken kinds found ≡ Some rows → (kinds ≡ []) × (found ≡ rows)
taken_is [] found rows e = (refl, cc)
taken_is (kind ∷ kinds) found rows e = absurd cc

module _ (command : App) (p : Parts command) where
  pub no_names : names_of (built command) ≡ []
  no_names = ap (map label_of) p.alone

  pub words_behind : (name : Text) (words : List Text) → argument_words command (name ∷ words) ≡ words
  words_behind name words = rw p.named refl

  pub matches_are : (name : Text) (words : List Text)
      → matches_of command (name ∷ words)
      ≡ with_defaults (rules_of command) (rows_at (rules_of command) (fold (walked (rules_of command) []) (walk_from nothing_held) words))
  matches_are name words =
      ap (λ (names : Names). rows_after (rules_of command) names (argument_words command (name ∷ words))) no_names
      ∙ ap (λ (ws : List Text). rows_after (rules_of command) [] ws) (words_behind name words)

  pub walk_passes : (name : Text) (words : List Text) → fault_of command (name ∷ words) ≡ []
      → walk_fault (built command).top [] (walk_from nothing_held) words ≡ []
  walk_passes name words e =
      subst (λ (ws : List Text). walk_fault (built command).top [] (walk_from nothing_held) ws ≡ []) (words_behind name words)
      (subst (λ (names : Names). walk_fault (built command).top names (walk_from nothing_held) (argument_words command (name ∷ words)) ≡ [])
      no_names (or_none _ _ e).0)

  -- the words of a command that is accepted pass, and these are its matches
  pub accepted : (name : Text) (words : List Text) (rows : List Row) → matched command (name ∷ words) ≡ Some rows
      → (walk_fault (built command).top [] (walk_from nothing_held) words ≡ [])
      × (with_defaults (rules_of command) (rows_at (rules_of command) (fold (walked (rules_of command) []) (walk_from nothing_held) words))
      ≡ rows)
  unfolding matched
  accepted name words rows e =
      let both = taken_is (fault_of command (name ∷ words)) _ rows e in
      (walk_passes name words both.0, sym (matches_are name words) ∙ both.1)

  -- ---- plain words

  pub nothing_yet : (rules : List Rule) → HaveNone [] rules
  nothing_yet [] = tt
  nothing_yet (rule ∷ rules) = (refl, nothing_yet rules)

  pub first_place : Follow (rules_of command) 1 (positionals (rules_of command))
  first_place = follow_from (rules_of command) p.counted 0 (positionals (rules_of command)) refl

  -- words that fit and give these rows stand in order
  stand : (words : List Text) (rows made : List Row) → Fit (positionals (rules_of command)) words
      → made ≡ given (positionals (rules_of command)) words [] → with_defaults (rules_of command) made ≡ rows
      → StandInOrder rows (positionals (rules_of command)) words
  stand words rows made fit is made_rows =
      let c = rules_of command in
      let ends = end_with (λ rule. is_some rule.index) c made p.own p.keeps in
      in_order rows (positionals c) words [] p.keeps (own_filtered (λ rule. is_some rule.index) c p.own) (nothing_yet (positionals c)) fit
      (subst (λ (final : List Row). EndWith final (given (positionals c) words []) (positionals c)) made_rows
      (subst (λ (rs : List Row). EndWith (with_defaults c made) rs (positionals c)) is ends))

  pub plain_in_order : (name : Text) (words : List Text) (rows : List Row) → AllByRecursion IsPlain words
      → matched command (name ∷ words) ≡ Some rows → StandInOrder rows (positionals (rules_of command)) words
  plain_in_order name words rows plain e =
      let c = rules_of command in
      let both = accepted name words rows e in
      let goes : Goes (walk_from nothing_held) words = inr (tt, plain) in
      stand words rows _
      (walk_fits (built command).top p.ones p.own (positionals c) words (walk_from nothing_held) first_place refl goes both.0)
      (walk_given c p.ones p.own (positionals c) words (walk_from nothing_held) first_place refl goes) both.1

-- ---- `--`

-- the walk behind a `--`
abbrev pub behind_dashes : Walk → Walk
behind_dashes w = record w { is_trailing = true }

dashes_met : (c : List Rule) (waiting : Waiting) (place : ℕ) (h : Held) → word_met c [] false waiting place dashes h ≡ (h, trailing place)
dashes_met c idle place h = refl
dashes_met c positional place h = refl
dashes_met c (option id) place h = refl

pub dashes_step : (c : List Rule) (w : Walk) → w.stopped ≡ None → w.is_trailing ≡ false → walked c [] w dashes ≡ behind_dashes w
dashes_step c w still before =
    walked_is c w dashes still
    ∙ rw (before, dashes_met c w.waiting w.position w.held) refl

module _ (command : App) (p : Parts command) where
  abbrev c : List Rule
  c = rules_of command

  pub start_stands : Stands (walk_from nothing_held)
  start_stands = record { still = refl; before = refl; place = omega arith }

  -- the words behind the first `--` go to positionals in turn
  pub dashes_in_turn : (name : Text) (before behind : List Text) (rows : List Row) → LackDashes before
      → matched command (name ∷ (before ++ dashes ∷ behind)) ≡ Some rows
      → rows ≡ with_defaults (rules_of command) (given (from_place (rules_of command) (reached command before).position) behind
      (settled (rules_of command) (reached command before).held).rows)
  dashes_in_turn name before behind rows lack e =
      let both = accepted command p name (before ++ dashes ∷ behind) rows e in
      let w = reached command before in
      let s = stands c p.ones p.own before (walk_from nothing_held) lack start_stands in
      let place : 1 + (w.position - 1) ≡ w.position = omega (arith, s.place) in
      let follow = subst (λ n. Follow c n (from_place c w.position)) place
      (follow_from c p.counted (w.position - 1) (from_place c w.position) refl) in
      let all = fold-append (walked c []) (walk_from nothing_held) before (dashes ∷ behind) in
      let step = ap (λ (v : Walk). fold (walked c []) v behind) (dashes_step c w s.still s.before) in
      sym both.1
      ∙ ap (λ (v : Walk). with_defaults c (rows_at c v)) (all ∙ step)
      ∙ ap (with_defaults c) (walk_given c p.ones p.own (from_place c w.position) behind (behind_dashes w) follow s.still (inl refl))

-- ---- plain words before a `--`

module _ (c : List Rule) where
  behind_gone : (o : Option Rule) (word : Text) (w : Walk) (h : Held)
      → behind_dashes (to_positional c o word w h) ≡ to_positional c o word (behind_dashes w) h
  behind_gone None word w h = refl
  behind_gone (Some rule) word w h = refl

  gone_still : (o : Option Rule) (word : Text) (w : Walk) (h : Held) → w.stopped ≡ None → (to_positional c o word w h).stopped ≡ None
  gone_still None word w h still = still
  gone_still (Some rule) word w h still = refl

-- a word goes to a positional before a `--` as it does behind
module _ (command : App) (p : Parts command) where
  -- where a walk goes with plain words, before a `--`
  abbrev Plainly : Walk → List Text → Type 0
  Plainly w words = (w.stopped ≡ None) × (w.is_trailing ≡ false) × WaitsNot w.waiting × AllByRecursion IsPlain words

  step_of : (w : Walk) (word : Text) (words : List Text) → Plainly w (word ∷ words)
      → walked (rules_of command) [] w word ≡ to_positional (rules_of command) (arg_by_index (rules_of command) w.position) word w w.held
  step_of w word words h =
      goes_step (rules_of command) w word h.0 (met_value (rules_of command) w word words (inr (h.2, h.3)))

  step_behind : (w : Walk) (word : Text) (words : List Text) → Plainly w (word ∷ words)
      → walked (rules_of command) [] (behind_dashes w) word ≡ behind_dashes (walked (rules_of command) [] w word)
  step_behind w word words h =
      goes_step (rules_of command) (behind_dashes w) word h.0 (met_value (rules_of command) (behind_dashes w) word words (inl refl))
      ∙ sym (behind_gone (rules_of command) (arg_by_index (rules_of command) w.position) word w w.held)
      ∙ ap behind_dashes (sym (step_of w word words h))

  plainly_rest : (w : Walk) (word : Text) (words : List Text) → Plainly w (word ∷ words)
      → Plainly (walked (rules_of command) [] w word) words
  plainly_rest w word words h =
      subst (λ (v : Walk). Plainly v words) (sym (step_of w word words h)) (by (arg_by_index (rules_of command) w.position) refl)
    where
      by : (o : Option Rule) → arg_by_index (rules_of command) w.position ≡ o
          → Plainly (to_positional (rules_of command) o word w w.held) words
      by None is = (h.0, h.1, h.2, h.3.1)
      by (Some rule) is =
          let one = single (rules_of command) p.ones p.own rule word w is in
          let rest = gone_goes (rules_of command) p.ones p.own rule word w is words (inr (h.2, h.3)) in
          (refl, rw (h.1, one.1) refl, waits rest, h.3.1)
        where
          waits : Goes (to_positional (rules_of command) (Some rule) word w w.held) words
              → WaitsNot (to_positional (rules_of command) (Some rule) word w w.held).waiting
          waits (inl behind) = absurd (both_ways _ (rw (h.1, (single (rules_of command) p.ones p.own rule word w is).1) refl) behind)
          waits (inr plain) = plain.0

  -- the `--` may stand before them
  dashes_first : (before : List Text) (w : Walk) → Plainly w before
      → walked (rules_of command) [] (fold (walked (rules_of command) []) w before) dashes
      ≡ fold (walked (rules_of command) []) (behind_dashes w) before
  dashes_first [] w h = dashes_step (rules_of command) w h.0 h.1
  dashes_first (word ∷ before) w h =
      dashes_first before (walked (rules_of command) [] w word) (plainly_rest w word before h)
      ∙ ap (λ (v : Walk). fold (walked (rules_of command) []) v before) (sym (step_behind w word before h))

  fault_first : (before behind : List Text) (w : Walk) → Plainly w before
      → walk_fault (built command).top [] w (before ++ dashes ∷ behind) ≡ []
      → walk_fault (built command).top [] (behind_dashes w) (before ++ behind) ≡ []
  unfolding walk_fault
  fault_first [] behind w h e =
      subst (λ (v : Walk). walk_fault (built command).top [] v behind ≡ []) (dashes_step (rules_of command) w h.0 h.1)
      (step_passes (built command).top w dashes behind h.0 e).1
  fault_first (word ∷ before) behind w h e =
      let s = (built command).top in
      let both = step_passes s w word (before ++ dashes ∷ behind) h.0 e in
      let rest = fault_first before behind (walked (rules_of command) [] w word) (plainly_rest w word before h) both.1 in
      let here : turn_fault s [] (behind_dashes w) word ≡ [] =
      rw h.0 (turn_value s w word before h.0 (inr (h.2, h.3)) both.0) in
      rw here (subst (λ (v : Walk). walk_fault s [] v (before ++ behind) ≡ []) (sym (step_behind w word before h)) rest)

  -- plain words, and those behind the `--`, stand in order
  pub dashes_in_order : (name : Text) (before behind : List Text) (rows : List Row) → AllByRecursion IsPlain before
      → matched command (name ∷ (before ++ dashes ∷ behind)) ≡ Some rows
      → StandInOrder rows (positionals (rules_of command)) (before ++ behind)
  dashes_in_order name before behind rows plain e =
      let both = accepted command p name (before ++ dashes ∷ behind) rows e in
      let first = behind_dashes (walk_from nothing_held) in
      let h : Plainly (walk_from nothing_held) before = (refl, refl, tt, plain) in
      let walk_is = fold-append (walked (rules_of command) []) (walk_from nothing_held) before (dashes ∷ behind)
      ∙ ap (λ (v : Walk). fold (walked (rules_of command) []) v behind) (dashes_first before (walk_from nothing_held) h)
      ∙ sym (fold-append (walked (rules_of command) []) first before behind) in
      let goes : Goes first (before ++ behind) = inl refl in
      let place = first_place command p in
      let fits = walk_fits (built command).top p.ones p.own (positionals (rules_of command)) (before ++ behind) first place refl goes
      (fault_first before behind (walk_from nothing_held) h both.0) in
      let given_is = walk_given (rules_of command) p.ones p.own (positionals (rules_of command)) (before ++ behind) first place refl goes in
      stand command p (before ++ behind) rows _ fits (ap (rows_at (rules_of command)) walk_is ∙ given_is) both.1
