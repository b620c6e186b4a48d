-- A walk whose pending option has its value goes on as one in which it is settled.
use Rattle.std.proofs.Common.{◌≡◌, ◌⊎◌, ℕ, zero, suc, Bool, cond, true, false, List, [], ◌∷◌, Option, Some, None}
use Rattle.std.proofs.Common.{refl, sym, ap, subst, ◌∙◌, inl, inr, length, drop}
use Rattle.std.specs.Prelude.{◌↔◌, ◌==◌, ◌||◌, fold, slice_get, encode_utf8}
use Rattle.std.specs.List.{list_all}
use Rattle.std.specs.Option.{option_map_or}
use Rattle.std.specs.Str.{bytes_eq, chars}
use Rattle.std.proofs.lemmas.Bool.{cases_Bool}
use Rattle.clap.specs.Faults.{bundle_fault, bundle_step_fault, flag_word_fault, flags_fault, long_fault, option_fault}
use Rattle.clap.specs.Faults.{positional_fault, settle_fault, short_fault, step_fault, stray_fault, turn_fault, use_fault}
use Rattle.clap.specs.Faults.{walk_fault, word_fault}
use Rattle.clap.specs.Kinds.{Kinds, or_else}
use Rattle.clap.specs.Lexer.{long_of, short_of}
use Rattle.clap.specs.Simple.{Shape}
use Rattle.clap.specs.Walk.{Held, Outcome, Rule, Step, Text, Waiting, Walk, done, idle, next, option, plain, positional, refused}
use Rattle.clap.specs.Walk.{subcommand, trailing, value, waits, after_flag, after_step, arg_by_index, arg_by_long, arg_by_short}
use Rattle.clap.specs.Walk.{attached_value, bundle, bundle_met, bundle_step, is_multiple, is_pending, long_met, long_or_other}
use Rattle.clap.specs.Walk.{long_word, next_position, option_met, plain_word, reacted, settled, short_met, short_or_plain}
use Rattle.clap.specs.Walk.{takes_several, takes_values, to_positional, walked, word_met}
use Rattle.word_laws.specs.Positionals.{dashes, have_own_ids, takes_one}
use Rattle.word_laws.proofs.Steps.{WaitsNot, and_no, no_subcommand, rows_at, settled_first, takes_single}
use Rattle.word_laws.proofs.Accepted.{or_none, stray_is_fault, walked_is}

-- ---- lists of faults

pub none_or : (one other : Kinds) → one ≡ [] → other ≡ [] → or_else one other ≡ []
none_or [] other one_is other_is = other_is
none_or (kind ∷ kinds) other one_is other_is = absurd cc

-- neither has a fault, or both have
abbrev BothFail : Kinds → Kinds → Type 0
BothFail one other = ((one ≡ []) × (other ≡ [])) ⊎ ((one ≡ [] → ⊥) × (other ≡ [] → ⊥))

module _ (s : Shape) (ones : list_all takes_one s.rules ≡ true) (own : have_own_ids s.rules ≡ true) where
  -- the fault of what is pending
  abbrev pub owed : Held → Kinds
  owed h = settle_fault s.rules s.args_override_self h

  -- the walk with what is pending settled
  abbrev pub rested : Walk → Walk
  rested w = record w { held = settled s.rules w.held }

  -- ---- flags

  abbrev Unready : Outcome → Type 0
  Unready plain = Unit {0}
  Unready refused = Unit {0}
  Unready done = ⊥
  Unready (waits id) = ⊥

  -- A flag settles what is pending, so it comes to the same where that is settled; or it touches nothing.
  abbrev Flagged : Held → Held × Outcome → Kinds → Held × Outcome → Kinds → Type 0
  Flagged h met fault met' fault' =
      ((met' ≡ met) × ((fault ≡ []) ↔ ((owed h ≡ []) × (fault' ≡ []))))
      ⊎ (Unready met.1 × (met ≡ (h, met.1)) × (met' ≡ (settled s.rules h, met.1)) × BothFail fault fault')

  or_parts_of : (one other : Kinds) → (or_else one other ≡ []) ↔ ((one ≡ []) × (other ≡ []))
  or_parts_of one other = (or_none one other, λ both. none_or one other both.0 both.1)

  with_option : (rule : Rule) (v : Option Text) (h : Held)
      → Flagged h (option_met s.rules rule v h) (option_fault s.rules s.args_override_self rule v h)
      (option_met s.rules rule v (settled s.rules h)) (option_fault s.rules s.args_override_self rule v (settled s.rules h))
  with_option rule (Some v) h = inl (refl, or_parts_of (owed h) (use_fault s.args_override_self rule (v ∷ []) (settled s.rules h).rows))
  with_option rule None h = inl (refl, (λ e. (e, refl), λ both. both.0))

  with_long : (o : Option Rule) (v : Option Text) (h : Held)
      → Flagged h (long_met s.rules o v h) (long_fault s.rules s.args_override_self o v h)
      (long_met s.rules o v (settled s.rules h)) (long_fault s.rules s.args_override_self o v (settled s.rules h))
  with_long None v h = inr (tt, refl, refl, inr (λ e. absurd cc, λ e. absurd cc))
  with_long (Some rule) (Some v) h =
      elim (cases_Bool (takes_values rule)) [
        | inl valued ↦ rw valued (with_option rule (Some v) h)
        | inr flag ↦ rw flag (inr (tt, refl, refl, inr (λ e. absurd cc, λ e. absurd cc)))
      ]
  with_long (Some rule) None h =
      elim (cases_Bool (takes_values rule)) [
        | inl valued ↦ rw valued (with_option rule None h)
        | inr flag ↦ rw flag (inl (refl, or_parts_of (owed h) (use_fault s.args_override_self rule [] (settled s.rules h).rows)))
      ]

  regrouped : (one two three : Kinds) → (or_else (or_else one two) three ≡ []) ↔ ((one ≡ []) × (or_else two three ≡ []))
  regrouped [] two three = (λ e. (refl, e), λ both. both.1)
  regrouped (kind ∷ kinds) two three = (λ e. absurd cc, λ both. absurd (not_empty kind kinds both.0))
    where
      not_empty : (k : _) (ks : Kinds) → k ∷ ks ≡ [] → ⊥
      not_empty k ks e = absurd cc

  with_short : (o : Option Rule) (rest : Text) (h : Held) (after : Held → Held × Outcome) (fault : Held → Kinds)
      → Flagged h (short_met s.rules o rest h after) (short_fault s.rules s.args_override_self o rest h fault)
      (short_met s.rules o rest (settled s.rules h) after) (short_fault s.rules s.args_override_self o rest (settled s.rules h) fault)
  with_short None rest h after fault = inr (tt, refl, refl, inr (λ e. absurd cc, λ e. absurd cc))
  with_short (Some rule) rest h after fault =
      elim (cases_Bool (takes_values rule)) [
        | inl valued ↦ rw valued (with_option rule (attached_value rest) h)
        | inr flag ↦ rw flag (
            inl (
              refl,
              regrouped (owed h) (use_fault s.args_override_self rule [] (settled s.rules h).rows) (fault (reacted s.rules rule [] h)),
            )
            )
      ]

  with_bundle : (k : ℕ) (flags : Text) (skip : ℕ) (o : Outcome) (h : Held) → Unready o
      → Flagged h (bundle_met s.rules k flags skip o h) (flags_fault s.rules s.args_override_self k flags skip h)
      (bundle_met s.rules k flags skip o (settled s.rules h)) (flags_fault s.rules s.args_override_self k flags skip (settled s.rules h))
  unfolding bundle_met flags_fault
  with_bundle zero flags skip o h unready = inr (unready, refl, refl, inl (refl, refl))
  with_bundle (suc k) flags skip o h unready = by (slice_get (chars flags) 0) skip (with_bundle k)
    where
      by : (x : Option ℕ) (skip : ℕ)
          → ((flags : Text) (skip : ℕ) (o : Outcome) (h : Held) → Unready o
          → Flagged h (bundle_met s.rules k flags skip o h) (flags_fault s.rules s.args_override_self k flags skip h)
          (bundle_met s.rules k flags skip o (settled s.rules h))
          (flags_fault s.rules s.args_override_self k flags skip (settled s.rules h)))
          → Flagged h (bundle_step s.rules x flags skip o h (bundle_met s.rules k))
          (bundle_step_fault s.rules s.args_override_self x flags skip h (flags_fault s.rules s.args_override_self k))
          (bundle_step s.rules x flags skip o (settled s.rules h) (bundle_met s.rules k))
          (bundle_step_fault s.rules s.args_override_self x flags skip (settled s.rules h) (flags_fault s.rules s.args_override_self k))
      by None skip rest = inr (unready, refl, refl, inl (refl, refl))
      by (Some x) zero rest =
          with_short (arg_by_short s.rules x) (drop (length (encode_utf8 x)) flags) h
          (bundle_met s.rules k (drop (length (encode_utf8 x)) flags) 0 done)
          (flags_fault s.rules s.args_override_self k (drop (length (encode_utf8 x)) flags) 0)
      by (Some x) (suc skip) rest = rest (drop (length (encode_utf8 x)) flags) skip o h unready

  -- ---- one word

  -- One more word comes to the same where what is pending is settled; or it leaves it pending, and no option waits.
  abbrev Turned : Walk → Walk → Walk → Kinds → Kinds → Type 0
  Turned w after after' fault fault' =
      ((after' ≡ after) × ((fault ≡ []) ↔ ((owed w.held ≡ []) × (fault' ≡ []))))
      ⊎ ((after' ≡ rested after) × WaitsNot after.waiting × (after.stopped ≡ None) × ((fault ≡ []) ↔ (fault' ≡ []))
      × (fault ≡ [] → owed after.held ≡ owed w.held))

  module _ (w : Walk) (word : Text) (still : w.stopped ≡ None) (waits_not : WaitsNot w.waiting) where
    -- a value of a positional, behind a word that has a fault or none
    with_value : (o : Option Rule) → arg_by_index s.rules w.position ≡ o → (h : Held) → owed h ≡ owed w.held
        → (fault fault' : Kinds) → BothFail fault fault'
        → Turned w (to_positional s.rules o word w h) (to_positional s.rules o word (rested w) (settled s.rules h))
        (or_else fault (option_map_or (λ a. positional_fault s.rules s.args_override_self a h) o (stray_fault s)))
        (or_else fault' (option_map_or (λ a. positional_fault s.rules s.args_override_self a (settled s.rules h)) o (stray_fault s)))
    with_value None is h same fault fault' both =
        inr (
          refl,
          waits_not,
          still,
          (λ e. absurd (stray_is_fault s (or_none fault _ e).1), λ e. absurd (stray_is_fault s (or_none fault' _ e).1)),
          λ e. absurd (stray_is_fault s (or_none fault _ e).1),
        )
    with_value (Some rule) is h same fault fault' both =
        let one = (takes_single s.rules ones own (λ a. option_map_or (λ k. k == w.position) a.index false) rule is).0 in
        let settles = settled_first s.rules ones own rule word h one in
        let settles' = settled_first s.rules ones own rule word (settled s.rules h) one in
        inl (ap going (settles' ∙ sym settles), by one both)
      where
        going : Held → Walk
        going x = record {
          held = x;
          waiting = cond (is_multiple rule) positional idle;
          position = next_position rule w.position;
          is_trailing = w.is_trailing || rule.trailing_var_arg;
          stopped = None;
        }

        by : takes_several rule ≡ false → BothFail fault fault'
            → (or_else fault (positional_fault s.rules s.args_override_self rule h) ≡ [])
            ↔ ((owed w.held ≡ []) × (or_else fault' (positional_fault s.rules s.args_override_self rule (settled s.rules h)) ≡ []))
        by one (inl none) =
            rw (one, and_no (is_pending rule h.pending), none.0, none.1) (λ e. (sym same ∙ e, refl), λ parts. same ∙ parts.0)
        by one (inr fails) = (λ e. absurd (fails.0 (or_none fault _ e).0), λ parts. absurd (fails.1 (or_none fault' _ parts.1).0))

    -- the step behind what is held does not depend on what was held before
    same_step : (h : Held) (step : Step) → after_step s.rules word (rested w) h step ≡ after_step s.rules word w h step
    same_step h (next waiting) = refl
    same_step h (trailing place) = refl
    same_step h (subcommand name) = refl
    same_step h value = by (arg_by_index s.rules w.position)
      where
        by : (o : Option Rule) → to_positional s.rules o word (rested w) h ≡ to_positional s.rules o word w h
        by None = refl
        by (Some rule) = refl

    plain_value : (waiting : Waiting) (h : Held) → WaitsNot waiting → plain_word s.rules waiting word h ≡ (h, value)
    plain_value idle h not_waiting = refl
    plain_value positional h not_waiting = refl
    plain_value (option id) h not_waiting = absurd not_waiting

    -- the walk and the fault of a flag word
    abbrev flag_step : Held × Outcome → Held × Step
    flag_step met = after_flag s.rules w.waiting word met.0 met.1

    abbrev flag_walk : Walk → Held × Outcome → Walk
    flag_walk v met = after_step s.rules word v (flag_step met).0 (flag_step met).1

    abbrev flag_turn : Held × Outcome → Kinds → Kinds
    flag_turn met fault = or_else fault (step_fault s w.position (flag_step met).0 (flag_step met).1)

    with_flag : (h : Held) → owed h ≡ owed w.held → (met met' : Held × Outcome) (fault fault' : Kinds)
        → Flagged h met fault met' fault'
        → Turned w (flag_walk w met) (flag_walk (rested w) met') (flag_turn met fault) (flag_turn met' fault')
    with_flag h same met met' fault fault' (inl alike) =
        subst (λ (m : Held × Outcome). Turned w (flag_walk w met) (flag_walk (rested w) m) (flag_turn met fault) (flag_turn m fault'))
        (sym alike.0)
        (inl (
          same_step (flag_step met).0 (flag_step met).1,
          (
            λ e.
                let parts = or_none fault _ e in
                let here = alike.1.0 parts.0 in (sym same ∙ here.0, none_or fault' _ here.1 parts.1),
            λ both.
                let parts = or_none fault' _ both.1 in none_or fault _ (alike.1.1 (same ∙ both.0, parts.0)) parts.1,
          ),
        ))
    with_flag h same met met' fault fault' (inr apart) =
        subst (λ (m : Held × Outcome). Turned w (flag_walk w m) (flag_walk (rested w) met') (flag_turn m fault) (flag_turn met' fault'))
        (sym apart.1)
        (subst (λ (m : Held × Outcome). Turned w (flag_walk w (h, met.1)) (flag_walk (rested w) m) (flag_turn (h, met.1) fault)
        (flag_turn m fault'))
        (sym apart.2) (by met.1 apart.0))
      where
        plainly : Turned w (after_step s.rules word w (plain_word s.rules w.waiting word h).0 (plain_word s.rules w.waiting word h).1)
            (after_step s.rules word (rested w) (plain_word s.rules w.waiting word (settled s.rules h)).0
            (plain_word s.rules w.waiting word (settled s.rules h)).1)
            (or_else fault (step_fault s w.position (plain_word s.rules w.waiting word h).0 (plain_word s.rules w.waiting word h).1))
            (or_else fault' (step_fault s w.position (plain_word s.rules w.waiting word (settled s.rules h)).0
            (plain_word s.rules w.waiting word (settled s.rules h)).1))
        plainly =
            rw (plain_value w.waiting h waits_not, plain_value w.waiting (settled s.rules h) waits_not)
            (with_value (arg_by_index s.rules w.position) refl h same fault fault' apart.3)

        by : (o : Outcome) → Unready o
            → Turned w (flag_walk w (h, o)) (flag_walk (rested w) (settled s.rules h, o)) (flag_turn (h, o) fault)
            (flag_turn (settled s.rules h, o) fault')
        by plain unready = plainly
        by refused unready = plainly
        by done unready = absurd unready
        by (waits id) unready = absurd unready

    abbrev other_met : Option (Text × Option Text) → Option Text → Held → Held × Step
    other_met (Some p) flags h = long_word s.rules w.waiting word p.0 p.1 h
    other_met None flags h = short_or_plain s.rules w.waiting word flags h

    abbrev other_is : Option (Text × Option Text) → Option Text → Held → Kinds
    other_is (Some p) flags h = long_fault s.rules s.args_override_self (arg_by_long s.rules p.0) p.1 h
    other_is None flags h = option_map_or (λ f. bundle_fault s.rules s.args_override_self f h) flags []

    abbrev met_at : Bool → Held → Held × Step
    met_at b h = word_met s.rules [] b w.waiting w.position word h

    abbrev fault_at : Bool → Held → Kinds
    fault_at b h = word_fault s [] b w.waiting word h

    -- a word that isn't `--`, before any
    flag_or_plain : (parts : Option (Text × Option Text)) (flags : Option Text)
        → Turned w (after_step s.rules word w (other_met parts flags w.held).0 (other_met parts flags w.held).1)
        (after_step s.rules word (rested w) (other_met parts flags (settled s.rules w.held)).0
        (other_met parts flags (settled s.rules w.held)).1)
        (or_else (other_is parts flags w.held) (step_fault s w.position (other_met parts flags w.held).0 (other_met parts flags w.held).1))
        (or_else (other_is parts flags (settled s.rules w.held)) (step_fault s w.position (other_met parts flags (settled s.rules w.held)).0
        (other_met parts flags (settled s.rules w.held)).1))
    flag_or_plain (Some p) flags =
        with_flag w.held refl (long_met s.rules (arg_by_long s.rules p.0) p.1 w.held)
        (long_met s.rules (arg_by_long s.rules p.0) p.1 (settled s.rules w.held)) _ _ (with_long (arg_by_long s.rules p.0) p.1 w.held)
    flag_or_plain None (Some flags) =
        with_flag (record w.held { skip = 0 }) refl (bundle s.rules flags w.held) (bundle s.rules flags (settled s.rules w.held)) _ _
        (with_bundle (length flags) flags w.held.skip plain (record w.held { skip = 0 }) tt)
    flag_or_plain None None =
        rw (plain_value w.waiting w.held waits_not, plain_value w.waiting (settled s.rules w.held) waits_not)
        (with_value (arg_by_index s.rules w.position) refl w.held refl [] [] (inl (refl, refl)))

    by_parts : (parts : Option (Text × Option Text))
        → Turned w (after_step s.rules word w (long_or_other s.rules w.waiting word parts w.held).0
        (long_or_other s.rules w.waiting word parts w.held).1)
        (after_step s.rules word (rested w) (long_or_other s.rules w.waiting word parts (settled s.rules w.held)).0
        (long_or_other s.rules w.waiting word parts (settled s.rules w.held)).1)
        (or_else (flag_word_fault s.rules s.args_override_self parts word w.held) (step_fault s w.position
        (long_or_other s.rules w.waiting word parts w.held).0 (long_or_other s.rules w.waiting word parts w.held).1))
        (or_else (flag_word_fault s.rules s.args_override_self parts word (settled s.rules w.held)) (step_fault s w.position
        (long_or_other s.rules w.waiting word parts (settled s.rules w.held)).0
        (long_or_other s.rules w.waiting word parts (settled s.rules w.held)).1))
    by_parts (Some p) = flag_or_plain (Some p) None
    by_parts None = flag_or_plain None (short_of word)

    turn_by : (b : Bool)
        → Turned w (after_step s.rules word w (met_at b w.held).0 (met_at b w.held).1)
        (after_step s.rules word (rested w) (met_at b (settled s.rules w.held)).0 (met_at b (settled s.rules w.held)).1)
        (or_else (fault_at b w.held) (step_fault s w.position (met_at b w.held).0 (met_at b w.held).1))
        (or_else (fault_at b (settled s.rules w.held)) (step_fault s w.position (met_at b (settled s.rules w.held)).0
        (met_at b (settled s.rules w.held)).1))
    turn_by true = with_value (arg_by_index s.rules w.position) refl w.held refl [] [] (inl (refl, refl))
    turn_by false =
        rw (no_subcommand w.waiting word) (
        elim (cases_Bool (bytes_eq word dashes)) [
          | inl first ↦ rw first (inr (refl, waits_not, still, (λ e. e, λ e. e), λ e. refl))
          | inr other ↦ rw other (by_parts (long_of word))
        ]
        )

    turn_is : (v : Walk) → v.stopped ≡ None
        → turn_fault s [] v word
        ≡ or_else (word_fault s [] v.is_trailing v.waiting word v.held)
        (step_fault s v.position (word_met s.rules [] v.is_trailing v.waiting v.position word v.held).0
        (word_met s.rules [] v.is_trailing v.waiting v.position word v.held).1)
    turn_is v rests = rw rests refl

    pub word_turn : Turned w (walked s.rules [] w word) (walked s.rules [] (rested w) word) (turn_fault s [] w word)
        (turn_fault s [] (rested w) word)
    word_turn =
        rw (walked_is s.rules w word still, walked_is s.rules (rested w) word still, turn_is w still, turn_is (rested w) still)
        (turn_by w.is_trailing)

  -- ---- many words

  -- the words of a walk pass, and so does what is pending behind them
  abbrev pub Passes : Walk → List Text → Type 0
  Passes w words = (walk_fault s [] w words ≡ []) × (owed (fold (walked s.rules []) w words).held ≡ [])

  -- the walk goes on as the one in which what is pending is settled
  pub record GoesOn (w : Walk) (words : List Text) : Type 0 where
    pub rows : rows_at s.rules (fold (walked s.rules []) w words) ≡ rows_at s.rules (fold (walked s.rules []) (rested w) words)
    pub passes : Passes w words ↔ ((owed w.held ≡ []) × Passes (rested w) words)

  pub goes_on : (words : List Text) (w : Walk) → w.stopped ≡ None → WaitsNot w.waiting → GoesOn w words
  unfolding walk_fault
  goes_on [] w still waits_not = record { rows = refl; passes = (λ p. (p.1, (refl, refl)), λ p. (refl, p.0)) }
  goes_on (word ∷ words) w still waits_not = by (word_turn w word still waits_not) (goes_on words (walked s.rules [] w word))
    where
      by : Turned w (walked s.rules [] w word) (walked s.rules [] (rested w) word) (turn_fault s [] w word)
          (turn_fault s [] (rested w) word)
          → ((walked s.rules [] w word).stopped ≡ None → WaitsNot (walked s.rules [] w word).waiting
          → GoesOn (walked s.rules [] w word) words)
          → GoesOn w (word ∷ words)
      by (inl alike) rest = record {
        rows = ap (λ (v : Walk). rows_at s.rules (fold (walked s.rules []) v words)) (sym alike.0);
        passes = (
          λ p.
              let parts = or_none (turn_fault s [] w word) _ p.0 in
              let here = alike.1.0 parts.0 in
              let behind = subst (λ (v : Walk). Passes v words) (sym alike.0) (parts.1, p.1) in
              (here.0, (none_or (turn_fault s [] (rested w) word) _ here.1 behind.0, behind.1)),
          λ p.
              let parts = or_none (turn_fault s [] (rested w) word) _ p.1.0 in
              let behind = subst (λ (v : Walk). Passes v words) alike.0 (parts.1, p.1.1) in
              (none_or (turn_fault s [] w word) _ (alike.1.1 (p.0, parts.0)) behind.0, behind.1),
        );
      }
      by (inr apart) rest =
          let g = rest apart.2 apart.1 in
          record {
            rows = g.rows ∙ ap (λ (v : Walk). rows_at s.rules (fold (walked s.rules []) v words)) (sym apart.0);
            passes = (
              λ p.
                  let parts = or_none (turn_fault s [] w word) _ p.0 in
                  let here = g.passes.0 (parts.1, p.1) in
                  let behind = subst (λ (v : Walk). Passes v words) (sym apart.0) here.1 in
                  (sym (apart.4 parts.0) ∙ here.0, (none_or (turn_fault s [] (rested w) word) _ (apart.3.0 parts.0) behind.0, behind.1)),
              λ p.
                  let parts = or_none (turn_fault s [] (rested w) word) _ p.1.0 in
                  let here = apart.3.1 parts.0 in
                  let behind = g.passes.1 (apart.4 here ∙ p.0, subst (λ (v : Walk). Passes v words) apart.0 (parts.1, p.1.1)) in
                  (none_or (turn_fault s [] w word) _ here behind.0, behind.1),
            );
          }
