-- Words before `--`, options among them, give positionals their words in order, and options theirs.
use Rattle.std.proofs.Common.{◌≡◌, ℕ, zero, suc, Bool, cond, true, false, List, [], ◌∷◌, ◌++◌, Option, Some, None}
use Rattle.std.proofs.Common.{refl, sym, ap, ◌∙◌, inl, inr, length, drop}
use Rattle.std.specs.Prelude.{◌&&◌, nat_lt, not, is_some, find, slice_get, encode_utf8}
use Rattle.std.specs.Str.{bytes_eq, chars}
use Rattle.std.proofs.lemmas.Bool.{and_parts, and_from, cases_Bool, not-true, not_from_false}
use Rattle.std.proofs.lemmas.Slice.Eq.{bytes_eq-Decides}
use Rattle.clap.specs.Walk.{Held, Outcome, Row, Rule, Step, Text, Waiting, done, idle, next, option, plain, positional, refused}
use Rattle.clap.specs.Walk.{subcommand, trailing, value, waits, after_flag, arg_by_id, arg_by_long, arg_by_short, attached_value}
use Rattle.clap.specs.Walk.{bundle, bundle_met, bundle_step, has_long, has_short, long_met, long_or_other, option_met, option_word}
use Rattle.clap.specs.Walk.{plain_word, pushed, reacted, settled, settled_rows, short_met, short_or_plain, takes_values, used, used_by_id}
use Rattle.clap.specs.Walk.{word_met, pending_count, most_values}
use Rattle.clap.specs.Lexer.{long_of, short_of}
use Rattle.word_laws.specs.Positionals.{dashes, have_own_ids, positionals}
use Rattle.word_laws.proofs.Rows.{used_other}
use Rattle.word_laws.proofs.Turns.{EndWith, all_filtered, lack_id, turned}
use Rattle.word_laws.proofs.Steps.{WaitsNot, found_passes, no_subcommand, some_is}

-- ---- what the positionals have

pub ends_same : (rows : List Row) (rules : List Rule) → EndWith rows rows rules
ends_same rows [] = tt
ends_same rows (rule ∷ rules) = (refl, ends_same rows rules)

pub ends_back : (one two : List Row) (rules : List Rule) → EndWith one two rules → EndWith two one rules
ends_back one two [] ends = tt
ends_back one two (rule ∷ rules) ends = (sym ends.0, ends_back one two rules ends.1)

pub ends_then : (one two three : List Row) (rules : List Rule) → EndWith one two rules → EndWith two three rules → EndWith one three rules
ends_then one two three [] first second = tt
ends_then one two three (rule ∷ rules) first second = (first.0 ∙ second.0, ends_then one two three rules first.1 second.1)

-- a use of an argument with another id changes nothing of them
used_ends : (rule : Rule) (values : List Text) (rows : List Row) (rules : List Rule) → lack_id rule.id rules ≡ true
    → EndWith (used rule values rows) rows rules
used_ends rule values rows [] differ = tt
used_ends rule values rows (other ∷ rules) differ =
    let both = and_parts (not (bytes_eq rule.id other.id)) _ differ in
    (used_other rule values other.id rows (not-true _ both.0), used_ends rule values rows rules both.1)

-- ---- options

found_itself : (p : Rule → Bool) (c : List Rule) (rule : Rule) → find p c ≡ Some rule → p rule ≡ true
found_itself p [] rule found = absurd cc
found_itself p (first ∷ c) rule found =
    elim (cases_Bool (p first)) [
      | inl here ↦ ap p (sym (some_is first rule (rw here at found))) ∙ here
      | inr behind ↦ found_itself p c rule (rw behind at found)
    ]

-- an argument without a place has no positional's id
no_positional : (p : Rule → Bool) (c : List Rule) (rule : Rule) → have_own_ids c ≡ true → find p c ≡ Some rule
    → is_some rule.index ≡ false → lack_id rule.id (positionals c) ≡ true
no_positional p [] rule own found placeless = absurd cc
no_positional p (first ∷ c) rule own found placeless =
    let both = and_parts (lack_id first.id c) _ own in
    elim (cases_Bool (p first)) [
      | inl here ↦
          let is = some_is first rule (rw here at found) in
          let out : is_some first.index ≡ false = ap (λ (r : Rule). is_some r.index) is ∙ placeless in
          rw out (ap (λ (r : Rule). lack_id r.id (positionals c)) (sym is)
          ∙ all_filtered (λ r. is_some r.index) (λ other. not (bytes_eq first.id other.id)) c both.0)
      | inr behind ↦
          let differ = not-true _ (found_passes p (λ o. not (bytes_eq first.id o.id)) c rule both.0 (rw behind at found)) in
          let rest = no_positional p c rule both.1 (rw behind at found) placeless in
          elim (cases_Bool (is_some first.index)) [
            | inl in_it ↦ rw in_it (and_from _ _ (not_from_false _ (turned first.id rule.id differ)) rest)
            | inr out ↦ rw out rest
          ]
    ]

module _ (c : List Rule) (own : have_own_ids c ≡ true) where
  -- no positional has the id
  abbrev pub Foreign : Text → Type 0
  Foreign id = lack_id id (positionals c) ≡ true

  -- what is pending, if anything is, is an option
  abbrev pub PendsForeign : Option (Text × List Text) → Type 0
  PendsForeign None = Unit {0}
  PendsForeign (Some p) = Foreign p.0

  -- the positionals have what they had
  abbrev pub Keeps : Held → Held → Type 0
  Keeps before after = EndWith (settled c after).rows (settled c before).rows (positionals c)

  by_id_ends : (id : Text) (values : List Text) (rows : List Row) → Foreign id
      → EndWith (used_by_id (arg_by_id c id) values rows) rows (positionals c)
  by_id_ends id values rows foreign = by (arg_by_id c id) refl
    where
      by : (o : Option Rule) → arg_by_id c id ≡ o → EndWith (used_by_id o values rows) rows (positionals c)
      by None is = ends_same rows (positionals c)
      by (Some rule) is =
          let same = (bytes_eq-Decides rule.id id).0 (found_itself (λ a. bytes_eq a.id id) c rule is) in
          used_ends rule values rows (positionals c) (ap (λ text. lack_id text (positionals c)) same ∙ foreign)

  pending_ends : (pending : Option (Text × List Text)) (rows : List Row) → PendsForeign pending
      → EndWith (settled_rows c pending rows) rows (positionals c)
  pending_ends None rows foreign = ends_same rows (positionals c)
  pending_ends (Some p) rows foreign = by_id_ends p.0 p.1 rows foreign

  -- an option that waits for its value
  abbrev Waited : Outcome → Held → Type 0
  Waited done h = Unit {0}
  Waited plain h = Unit {0}
  Waited refused h = Unit {0}
  Waited (waits id) h = Foreign id × PendsForeign h.pending

  -- what a flag comes to
  abbrev FlagKeeps : Held → Held × Outcome → Type 0
  FlagKeeps h met = Keeps h met.0 × Waited met.1 met.0 × (PendsForeign h.pending → PendsForeign met.0.pending)

  with_option : (rule : Rule) → Foreign rule.id → (v : Option Text) (h : Held) → FlagKeeps h (option_met c rule v h)
  with_option rule foreign (Some v) h = (used_ends rule (v ∷ []) (settled c h).rows (positionals c) foreign, tt, λ p. tt)
  with_option rule foreign None h = (by_id_ends rule.id [] (settled c h).rows foreign, (foreign, foreign), λ p. foreign)

  with_flag : (rule : Rule) → Foreign rule.id → (h : Held) → FlagKeeps h (reacted c rule [] h, done)
  with_flag rule foreign h = (used_ends rule [] (settled c h).rows (positionals c) foreign, tt, λ p. tt)

  with_nothing : (h : Held) (o : Outcome) → Waited o h → FlagKeeps h (h, o)
  with_nothing h o waited = (ends_same (settled c h).rows (positionals c), waited, λ p. p)

  by_long : (name : Text) (rule : Rule) → arg_by_long c name ≡ Some rule → Foreign rule.id
  by_long name rule found =
      let p = λ (a : Rule). not (is_some a.index) && has_long a name in
      no_positional p c rule own found (not-true _ (and_parts (not (is_some rule.index)) _ (found_itself p c rule found)).0)

  by_short : (x : ℕ) (rule : Rule) → arg_by_short c x ≡ Some rule → Foreign rule.id
  by_short x rule found =
      let p = λ (a : Rule). not (is_some a.index) && has_short a x in
      no_positional p c rule own found (not-true _ (and_parts (not (is_some rule.index)) _ (found_itself p c rule found)).0)

  with_long : (name : Text) (v : Option Text) (h : Held) → FlagKeeps h (long_met c (arg_by_long c name) v h)
  with_long name v h = by (arg_by_long c name) refl v
    where
      by : (o : Option Rule) → arg_by_long c name ≡ o → (v : Option Text) → FlagKeeps h (long_met c o v h)
      by None is v = with_nothing h refused tt
      by (Some rule) is (Some v) = elim (cases_Bool (takes_values rule)) [
        | inl valued ↦ rw valued (with_option rule (by_long name rule is) (Some v) h)
        | inr flag ↦ rw flag (with_nothing h refused tt)
      ]
      by (Some rule) is None = elim (cases_Bool (takes_values rule)) [
        | inl valued ↦ rw valued (with_option rule (by_long name rule is) None h)
        | inr flag ↦ rw flag (with_flag rule (by_long name rule is) h)
      ]

  flags_then : (h middle : Held) (met : Held × Outcome) → FlagKeeps h (middle, done) → FlagKeeps middle met → FlagKeeps h met
  flags_then h middle met first second = (
    ends_then (settled c met.0).rows (settled c middle).rows (settled c h).rows (positionals c) second.0 first.0,
    second.1,
    λ p. second.2 (first.2 p),
  )

  -- no option waits
  abbrev Free : Outcome → Type 0
  Free plain = Unit {0}
  Free refused = Unit {0}
  Free done = Unit {0}
  Free (waits id) = ⊥

  free_waits : (o : Outcome) (h : Held) → Free o → Waited o h
  free_waits plain h free = tt
  free_waits refused h free = tt
  free_waits done h free = tt
  free_waits (waits id) h free = absurd free

  with_bundle : (k : ℕ) (flags : Text) (skip : ℕ) (o : Outcome) (h : Held) → Free o → FlagKeeps h (bundle_met c k flags skip o h)
  unfolding bundle_met
  with_bundle zero flags skip o h free = with_nothing h o (free_waits o h free)
  with_bundle (suc k) flags skip o h free = by (slice_get (chars flags) 0) skip (with_bundle k)
    where
      by : (x : Option ℕ) (skip : ℕ)
          → ((flags : Text) (skip : ℕ) (o : Outcome) (h : Held) → Free o → FlagKeeps h (bundle_met c k flags skip o h))
          → FlagKeeps h (bundle_step c x flags skip o h (bundle_met c k))
      by None skip rest = with_nothing h o (free_waits o h free)
      by (Some x) (suc skip) rest = rest (drop (length (encode_utf8 x)) flags) skip o h free
      by (Some x) zero rest = at (arg_by_short c x) refl
        where
          left : Text
          left = drop (length (encode_utf8 x)) flags

          at : (o : Option Rule) → arg_by_short c x ≡ o
              → FlagKeeps h (short_met c o (drop (length (encode_utf8 x)) flags) h
              (bundle_met c k (drop (length (encode_utf8 x)) flags) 0 done))
          at None is = with_nothing h refused tt
          at (Some rule) is = elim (cases_Bool (takes_values rule)) [
            | inl valued ↦
                rw valued (with_option rule (by_short x rule is) (attached_value (drop (length (encode_utf8 x)) flags)) h)
            | inr flag ↦
                rw flag (flags_then h (reacted c rule [] h) _ (with_flag rule (by_short x rule is) h)
                (rest (drop (length (encode_utf8 x)) flags) 0 done (reacted c rule [] h) tt))
          ]

  -- ---- one word

  -- what waits is an option, which is no positional
  abbrev pub WaitsWell : Waiting → Held → Type 0
  WaitsWell idle h = Unit {0}
  WaitsWell positional h = Unit {0}
  WaitsWell (option id) h = Foreign id × PendsForeign h.pending

  -- what a step leaves: an option may wait behind a flag, and none does at a positional's word
  abbrev pub StepKeeps : Waiting → Held → Held × Step → Type 0
  StepKeeps waiting h (after, next then) = Keeps h after × WaitsWell then after
  StepKeeps waiting h (after, value) = Keeps h after × WaitsNot waiting
  StepKeeps waiting h (after, trailing place) = ⊥
  StepKeeps waiting h (after, subcommand name) = ⊥

  module _ (word : Text) where
    -- one more value of an option that waits
    pushed_keeps : (id : Text) (h : Held) → Foreign id → PendsForeign h.pending
        → Keeps h (pushed id word h) × PendsForeign (pushed id word h).pending
    pushed_keeps id h foreign pends = by h.pending pends
      where
        by : (pending : Option (Text × List Text)) → PendsForeign pending
            → Keeps (record h { pending = pending }) (pushed id word (record h { pending = pending }))
            × PendsForeign (pushed id word (record h { pending = pending })).pending
        by None p = (by_id_ends id (word ∷ []) h.rows foreign, foreign)
        by (Some pending) p = (
          ends_then _ h.rows _ (positionals c) (by_id_ends pending.0 (pending.1 ++ word ∷ []) h.rows p)
              (ends_back _ h.rows (positionals c) (by_id_ends pending.0 pending.1 h.rows p)),
          p,
        )

    option_keeps : (o : Option Rule) (id : Text) (h : Held) → Foreign id → PendsForeign h.pending
        → Keeps h (option_word o id word h).0 × WaitsWell (option_word o id word h).1 (option_word o id word h).0
    option_keeps None id h foreign pends = (ends_same (settled c h).rows (positionals c), (foreign, pends))
    option_keeps (Some rule) id h foreign pends =
        let both = pushed_keeps id h foreign pends in
        (both.0, by (nat_lt (pending_count rule (pushed id word h).pending) (most_values rule)) both.1)
      where
        by : (b : Bool) → PendsForeign (pushed id word h).pending → WaitsWell (cond b (option id) idle) (pushed id word h)
        by true p = (foreign, p)
        by false p = tt

    plain_keeps : (waiting : Waiting) (h : Held) → WaitsWell waiting h → StepKeeps waiting h (plain_word c waiting word h)
    plain_keeps idle h well = (ends_same (settled c h).rows (positionals c), tt)
    plain_keeps positional h well = (ends_same (settled c h).rows (positionals c), tt)
    plain_keeps (option id) h well = option_keeps (arg_by_id c id) id h well.0 well.1

    step_then : (waiting : Waiting) (h middle : Held) (met : Held × Step) → Keeps h middle → StepKeeps waiting middle met
        → StepKeeps waiting h met
    step_then waiting h middle (after, next then) first second =
        (ends_then (settled c after).rows (settled c middle).rows (settled c h).rows (positionals c) second.0 first, second.1)
    step_then waiting h middle (after, value) first second =
        (ends_then (settled c after).rows (settled c middle).rows (settled c h).rows (positionals c) second.0 first, second.1)
    step_then waiting h middle (after, trailing place) first second = absurd second
    step_then waiting h middle (after, subcommand name) first second = absurd second

    well_then : (waiting : Waiting) (h after : Held) → WaitsWell waiting h → (PendsForeign h.pending → PendsForeign after.pending)
        → WaitsWell waiting after
    well_then idle h after well pends = tt
    well_then positional h after well pends = tt
    well_then (option id) h after well pends = (well.0, pends well.1)

    flag_keeps : (waiting : Waiting) (h : Held) (met : Held × Outcome) → WaitsWell waiting h → FlagKeeps h met
        → StepKeeps waiting h (after_flag c waiting word met.0 met.1)
    flag_keeps waiting h (after, done) well keeps = (keeps.0, tt)
    flag_keeps waiting h (after, waits id) well keeps = (keeps.0, keeps.1)
    flag_keeps waiting h (after, plain) well keeps =
        step_then waiting h after (plain_word c waiting word after) keeps.0
        (plain_keeps waiting after (well_then waiting h after well keeps.2))
    flag_keeps waiting h (after, refused) well keeps =
        step_then waiting h after (plain_word c waiting word after) keeps.0
        (plain_keeps waiting after (well_then waiting h after well keeps.2))

    short_keeps : (waiting : Waiting) (flags : Option Text) (h : Held) → WaitsWell waiting h
        → StepKeeps waiting h (short_or_plain c waiting word flags h)
    short_keeps waiting None h well = plain_keeps waiting h well
    short_keeps waiting (Some flags) h well =
        flag_keeps waiting h (bundle c flags h) well (with_bundle (length flags) flags h.skip plain (record h { skip = 0 }) tt)

    long_keeps : (waiting : Waiting) (parts : Option (Text × Option Text)) (h : Held) → WaitsWell waiting h
        → StepKeeps waiting h (long_or_other c waiting word parts h)
    long_keeps waiting None h well = short_keeps waiting (short_of word) h well
    long_keeps waiting (Some p) h well = flag_keeps waiting h (long_met c (arg_by_long c p.0) p.1 h) well (with_long p.0 p.1 h)

    -- a word before any `--`, which is none
    pub word_keeps : (waiting : Waiting) (place : ℕ) (h : Held) → WaitsWell waiting h → bytes_eq word dashes ≡ false
        → StepKeeps waiting h (word_met c [] false waiting place word h)
    word_keeps waiting place h well differ =
        rw (no_subcommand waiting word, differ) (long_keeps waiting (long_of word) h well)
