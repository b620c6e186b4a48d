-- A value behind `=` comes to the same as one that is the next word.
use Rattle.std.proofs.Common.{◌≡◌, ◌<◌, zero, suc, true, false, List, [], ◌∷◌, ◌++◌, Option, Some, None}
use Rattle.std.proofs.Common.{refl, sym, ap, subst, ◌∙◌, arith, length, map}
use Rattle.std.specs.Prelude.{◌↔◌, ◌==◌, ◌&&◌, not, is_some, nat_lt, fold}
use Rattle.std.specs.List.{list_all, list_any}
use Rattle.std.specs.Option.{option_map_or}
use Rattle.std.specs.Str.{bytes_eq}
use Rattle.std.proofs.lemmas.Bool.{and_parts, both_ways, eq-eqb, eqb-true, not-false, not-true, or_parts}
use Rattle.std.proofs.lemmas.List.Sums.{fold-append}
use Rattle.clap.specs.Facts.{unwrap_or_range}
use Rattle.clap.specs.Faults.{built_fault, check_fault, defaults_fault, entered_fault, fault_of, level_fault, turn_fault}
use Rattle.clap.specs.Faults.{use_fault, walk_fault}
use Rattle.clap.specs.Kinds.{Kinds, or_else}
use Rattle.clap.specs.Lexer.{long_of}
use Rattle.clap.specs.Simple.{App, Shape, built, entered, label_of, names_of}
use Rattle.clap.specs.Walk.{Held, Row, Rule, Text, Walk, idle, option, arg_by_id, arg_by_long, has_long, is_empty, most_values}
use Rattle.clap.specs.Walk.{nothing_held, reacted, settled, takes_several, takes_values, walk, walk_from, walked, with_default}
use Rattle.clap.proofs.CutLemmas.{Lacks, after_first-at, before_first-Lacks, before_first-at, list_any-Lacks, list_any-at}
use Rattle.command_words.specs.Commands.{if_taken, matched}
use Rattle.word_laws.specs.Laws.{LackDashes, attached, long_word, names_value}
use Rattle.word_laws.specs.Positionals.{dashes, have_own_ids, rules_of, takes_one, IsPlain}
use Rattle.word_laws.proofs.Rows.{same_text}
use Rattle.word_laws.proofs.Steps.{found_again, no_subcommand, plain_long, plain_not_dashes, plain_short, rows_at, takes_single}
use Rattle.word_laws.proofs.Accepted.{Stands, or_none, stands, walked_is}
use Rattle.word_laws.proofs.Settling.{GoesOn, Passes, goes_on, none_or, owed, rested}
use Rattle.word_laws.proofs.InOrder.{Parts, matches_are, words_behind}

-- ---- the words

lacks_is : (text : Text) → list_any (λ x. x == 61) text ≡ false → Lacks 61 text
lacks_is [] none place within = absurd (omega arith)
lacks_is (byte ∷ bytes) none zero within =
    let parts = or_parts (byte == 61) _ none in λ same. both_ways (byte == 61) parts.0 (eq-eqb byte 61 same)
lacks_is (byte ∷ bytes) none (suc place) within =
    let parts = or_parts (byte == 61) _ none in lacks_is bytes parts.1 place (omega arith)

module _ (long value : Text) (some : 0 < length long) (lacks : list_any (λ x. x == 61) long ≡ false) where
  long_not_dashes : bytes_eq (long_word long) dashes ≡ false
  long_not_dashes = by long some
    where
      by : (text : Text) → 0 < length text → bytes_eq (long_word text) dashes ≡ false
      by [] one = absurd (omega arith)
      by (byte ∷ bytes) one = refl

  attached_not_dashes : bytes_eq (attached long value) dashes ≡ false
  attached_not_dashes = by long some
    where
      by : (text : Text) → 0 < length text → bytes_eq (attached text value) dashes ≡ false
      by [] one = absurd (omega arith)
      by (byte ∷ bytes) one = refl

  parts_lack : Lacks 61 long
  parts_lack = lacks_is long lacks

  long_is : long_of (long_word long) ≡ Some (long, None)
  long_is = by long some parts_lack
    where
      by : (text : Text) → 0 < length text → Lacks 61 text → long_of (long_word text) ≡ Some (text, None)
      by [] one lack = absurd (omega arith)
      by (byte ∷ bytes) one lack = rw (before_first-Lacks 61 (byte ∷ bytes) lack, list_any-Lacks 61 (byte ∷ bytes) lack) refl

  attached_is : long_of (attached long value) ≡ Some (long, Some value)
  attached_is = by long some parts_lack
    where
      by : (text : Text) → 0 < length text → Lacks 61 text → long_of (attached text value) ≡ Some (text, Some value)
      by [] one lack = absurd (omega arith)
      by (byte ∷ bytes) one lack =
          let front = before_first-at 61 (byte ∷ bytes) value lack in
          let behind = after_first-at 61 (byte ∷ bytes) value lack in
          rw (front, list_any-at 61 (byte ∷ bytes) value, behind) refl

-- ---- one option

-- one word is no more than the most of an option whose uses take one
most_one : (rule : Rule) → takes_several rule ≡ false → nat_lt 1 (most_values rule) ≡ false
most_one rule single =
    let both = or_parts (not ((unwrap_or_range rule.range).start_inclusive == most_values rule)) _ single in
    let same = eqb-true (unwrap_or_range rule.range).start_inclusive (most_values rule) (not-false _ both.0) in
    ap (nat_lt 1) (sym same) ∙ both.1

module _ (s : Shape) (ones : list_all takes_one s.rules ≡ true) (own : have_own_ids s.rules ≡ true)
    (rule : Rule) (long value : Text) (found : arg_by_long s.rules long ≡ Some rule) (valued : takes_values rule ≡ true)
    (some : 0 < length long) (lacks : list_any (λ x. x == 61) long ≡ false) (value_plain : IsPlain value) where
  by_id : arg_by_id s.rules rule.id ≡ Some rule
  by_id = found_again (λ a. not (is_some a.index) && has_long a long) s.rules rule own found

  -- the fault of a use
  abbrev use_of : Held → Kinds
  use_of h = use_fault s.args_override_self rule (value ∷ []) (settled s.rules h).rows

  -- the walk behind `--name=value`
  abbrev pub behind_one : Walk → Walk
  behind_one w = record w { held = reacted s.rules rule (value ∷ []) w.held; waiting = idle }

  one_walk : (w : Walk) → Stands w → walked s.rules [] w (attached long value) ≡ behind_one w
  one_walk w stand =
      walked_is s.rules w (attached long value) stand.still
      ∙ rw (
        stand.before,
        no_subcommand w.waiting (attached long value),
        attached_not_dashes long value some lacks,
        attached_is long value some lacks,
        found,
        valued,
      ) refl

  one_turn : (w : Walk) → Stands w
      → turn_fault s [] w (attached long value) ≡ or_else (or_else (owed s ones own w.held) (use_of w.held)) []
  one_turn w stand =
      rw (
        stand.still,
        stand.before,
        no_subcommand w.waiting (attached long value),
        attached_not_dashes long value some lacks,
        attached_is long value some lacks,
        found,
        valued,
      ) refl

  -- the walk behind `--name`, and behind the value
  abbrev pub pending_none : Walk → Walk
  pending_none w = record w { held = record (settled s.rules w.held) { pending = Some (rule.id, []) }; waiting = option rule.id }

  abbrev pub pending_one : Walk → Walk
  pending_one w = record w { held = record (settled s.rules w.held) { pending = Some (rule.id, value ∷ []) }; waiting = idle }

  two_walk : (w : Walk) → Stands w → walked s.rules [] w (long_word long) ≡ pending_none w
  two_walk w stand =
      walked_is s.rules w (long_word long) stand.still
      ∙ rw (
        stand.before,
        no_subcommand w.waiting (long_word long),
        long_not_dashes long value some lacks,
        long_is long value some lacks,
        found,
        valued,
      ) refl

  two_turn : (w : Walk) → Stands w → turn_fault s [] w (long_word long) ≡ or_else (owed s ones own w.held) []
  two_turn w stand =
      rw (
        stand.still,
        stand.before,
        no_subcommand w.waiting (long_word long),
        long_not_dashes long value some lacks,
        long_is long value some lacks,
        found,
        valued,
      ) refl

  value_walk : (w : Walk) → Stands w → walked s.rules [] (pending_none w) value ≡ pending_one w
  value_walk w stand =
      let single = (takes_single s.rules ones own (λ a. not (is_some a.index) && has_long a long) rule found).0 in
      walked_is s.rules (pending_none w) value stand.still
      ∙ rw (
        stand.before,
        plain_not_dashes value value_plain,
        plain_long value value_plain,
        plain_short value value_plain,
        by_id,
        same_text rule.id,
        most_one rule single,
      ) refl

  value_turn : (w : Walk) → Stands w → turn_fault s [] (pending_none w) value ≡ []
  value_turn w stand =
      rw (
        stand.still,
        stand.before,
        plain_not_dashes value value_plain,
        plain_long value value_plain,
        plain_short value value_plain,
      ) refl

  -- settled, the two come to the same
  settles : (w : Walk) → rested s ones own (pending_one w) ≡ behind_one w
  settles w = rw by_id refl

  owes : (w : Walk) → owed s ones own (pending_one w).held ≡ use_of w.held
  owes w = rw by_id refl

-- ---- a whole command

module _ (s : Shape) (ones : list_all takes_one s.rules ≡ true) (own : have_own_ids s.rules ≡ true) where
  pub faults_cut : (before behind : List Text) (w : Walk)
      → (walk_fault s [] w (before ++ behind) ≡ [])
      ↔ ((walk_fault s [] w before ≡ []) × (walk_fault s [] (fold (walked s.rules []) w before) behind ≡ []))
  unfolding walk_fault
  faults_cut [] behind w = (λ e. (refl, e), λ both. both.1)
  faults_cut (word ∷ before) behind w =
      let rest = faults_cut before behind (walked s.rules [] w word) in (
        λ e.
            let parts = or_none (turn_fault s [] w word) _ e in
            let cut = rest.0 parts.1 in
            (none_or (turn_fault s [] w word) _ parts.0 cut.0, cut.1),
        λ both.
            let parts = or_none (turn_fault s [] w word) _ both.0 in
            none_or (turn_fault s [] w word) _ parts.0 (rest.1 (parts.1, both.1)),
      )

  -- the faults behind the walk, by the matches
  abbrev tail_fault : List Row → Kinds
  tail_fault rows = or_else (defaults_fault rows s.rules) (check_fault s (fold with_default rows s.rules) false)

  level_is : (words : List Text)
      → (level_fault s [] nothing_held words false [] ≡ [])
      ↔ (Passes s ones own (walk_from nothing_held) words
      × (tail_fault (rows_at s.rules (fold (walked s.rules []) (walk_from nothing_held) words)) ≡ []))
  level_is words =
      let end = (fold (walked s.rules []) (walk_from nothing_held) words).held in (
        λ e.
            let first = or_none (walk_fault s [] (walk_from nothing_held) words) _ e in
            let second = or_none (owed s ones own end) _ first.1 in
            ((first.0, second.0), second.1),
        λ both.
            none_or (walk_fault s [] (walk_from nothing_held) words) _ both.0.0 (none_or (owed s ones own end) _ both.0.1 both.1),
      )

  -- walks with the same matches, of which one passes where the other does, have a fault or none together
  same_level : (one two : List Text)
      → (Passes s ones own (walk_from nothing_held) one ↔ Passes s ones own (walk_from nothing_held) two)
      → rows_at s.rules (fold (walked s.rules []) (walk_from nothing_held) one)
      ≡ rows_at s.rules (fold (walked s.rules []) (walk_from nothing_held) two)
      → (level_fault s [] nothing_held one false [] ≡ []) ↔ (level_fault s [] nothing_held two false [] ≡ [])
  same_level one two passes rows = (
    λ e.
        let both = (level_is one).0 e in
        (level_is two).1 (passes.0 both.0, ap tail_fault (sym rows) ∙ both.1),
    λ e.
        let both = (level_is two).0 e in
        (level_is one).1 (passes.1 both.0, ap tail_fault rows ∙ both.1),
  )

  module _ (rule : Rule) (long value : Text) (found : arg_by_long s.rules long ≡ Some rule) (valued : takes_values rule ≡ true)
      (some : 0 < length long) (lacks : list_any (λ x. x == 61) long ≡ false) (value_plain : IsPlain value) (behind : List Text) (w : Walk)
      (stand : Stands w) where
    abbrev one : Walk
    one = behind_one s ones own rule long value found valued some lacks value_plain w

    abbrev waiting_one : Walk
    waiting_one = pending_none s ones own rule long value found valued some lacks value_plain w

    abbrev two : Walk
    two = pending_one s ones own rule long value found valued some lacks value_plain w

    one_is : walked s.rules [] w (attached long value) ≡ one
    one_is = one_walk s ones own rule long value found valued some lacks value_plain w stand

    waiting_is : walked s.rules [] w (long_word long) ≡ waiting_one
    waiting_is = two_walk s ones own rule long value found valued some lacks value_plain w stand

    two_is : walked s.rules [] waiting_one value ≡ two
    two_is = value_walk s ones own rule long value found valued some lacks value_plain w stand

    rests_is : rested s ones own two ≡ one
    rests_is = settles s ones own rule long value found valued some lacks value_plain w

    goes : GoesOn s ones own two behind
    goes = goes_on s ones own behind two stand.still tt

    -- what passes and what is matched from here on, where the value is behind `=`
    one_passes : Passes s ones own w (attached long value ∷ behind)
        ↔ ((owed s ones own w.held ≡ []) × (owed s ones own two.held ≡ []) × Passes s ones own one behind)
    unfolding walk_fault
    one_passes =
        let turn = one_turn s ones own rule long value found valued some lacks value_plain w stand in
        let uses = owes s ones own rule long value found valued some lacks value_plain w in (
          λ p.
              let parts = or_none (turn_fault s [] w (attached long value)) _ p.0 in
              let first = or_none (or_else (owed s ones own w.held) _) [] (sym turn ∙ parts.0) in
              let both = or_none (owed s ones own w.held) _ first.0 in
              (both.0, uses ∙ both.1, subst (λ (v : Walk). Passes s ones own v behind) one_is (parts.1, p.1)),
          λ p.
              let both = none_or (owed s ones own w.held) _ p.0 (sym uses ∙ p.1) in
              let here = turn ∙ none_or (or_else (owed s ones own w.held) _) [] both refl in
              let rest = subst (λ (v : Walk). Passes s ones own v behind) (sym one_is) p.2 in
              (none_or (turn_fault s [] w (attached long value)) _ here rest.0, rest.1),
        )

    -- and where it is the next word
    two_passes : Passes s ones own w (long_word long ∷ value ∷ behind)
        ↔ ((owed s ones own w.held ≡ []) × Passes s ones own two behind)
    unfolding walk_fault
    two_passes =
        let turn = two_turn s ones own rule long value found valued some lacks value_plain w stand in
        let next_turn = value_turn s ones own rule long value found valued some lacks value_plain w stand in (
          λ p.
              let parts = or_none (turn_fault s [] w (long_word long)) _ p.0 in
              let first = or_none (owed s ones own w.held) [] (sym turn ∙ parts.0) in
              let waiting = subst (λ (v : Walk). Passes s ones own v (value ∷ behind)) waiting_is (parts.1, p.1) in
              let rest = or_none (turn_fault s [] waiting_one value) _ waiting.0 in
              (first.0, subst (λ (v : Walk). Passes s ones own v behind) two_is (rest.1, waiting.1)),
          λ p.
              let here = turn ∙ none_or (owed s ones own w.held) [] p.0 refl in
              let rest = subst (λ (v : Walk). Passes s ones own v behind) (sym two_is) p.1 in
              let waiting = subst (λ (v : Walk). Passes s ones own v (value ∷ behind)) (sym waiting_is)
              (none_or (turn_fault s [] waiting_one value) _ next_turn rest.0, rest.1) in
              (none_or (turn_fault s [] w (long_word long)) _ here waiting.0, waiting.1),
        )

    pub same_passes : Passes s ones own w (attached long value ∷ behind) ↔ Passes s ones own w (long_word long ∷ value ∷ behind)
    same_passes = (
      λ p.
          let parts = one_passes.0 p in
          two_passes.1 (parts.0, goes.passes.1 (parts.1, subst (λ (v : Walk). Passes s ones own v behind) (sym rests_is) parts.2)),
      λ p.
          let parts = two_passes.0 p in
          let rest = goes.passes.0 parts.1 in
          one_passes.1 (parts.0, rest.0, subst (λ (v : Walk). Passes s ones own v behind) rests_is rest.1),
    )

    pub same_rows : rows_at s.rules (fold (walked s.rules []) w (attached long value ∷ behind))
        ≡ rows_at s.rules (fold (walked s.rules []) w (long_word long ∷ value ∷ behind))
    same_rows =
        let rows = λ (v : Walk). rows_at s.rules (fold (walked s.rules []) v behind) in
        let next_rows = λ (v : Walk). rows_at s.rules (fold (walked s.rules []) v (value ∷ behind)) in
        ap rows one_is ∙ ap rows (sym rests_is) ∙ sym goes.rows ∙ ap rows (sym two_is) ∙ ap next_rows (sym waiting_is)

  -- the same behind other words
  pub same_behind : (before one two : List Text)
      → (Passes s ones own (fold (walked s.rules []) (walk_from nothing_held) before) one
      ↔ Passes s ones own (fold (walked s.rules []) (walk_from nothing_held) before) two)
      → Passes s ones own (walk_from nothing_held) (before ++ one) ↔ Passes s ones own (walk_from nothing_held) (before ++ two)
  same_behind before one two passes = (over one two passes.0, over two one passes.1)
    where
      over : (one two : List Text)
          → (Passes s ones own (fold (walked s.rules []) (walk_from nothing_held) before) one
          → Passes s ones own (fold (walked s.rules []) (walk_from nothing_held) before) two)
          → Passes s ones own (walk_from nothing_held) (before ++ one) → Passes s ones own (walk_from nothing_held) (before ++ two)
      over one two from p =
          let first = fold-append (walked s.rules []) (walk_from nothing_held) before one in
          let second = fold-append (walked s.rules []) (walk_from nothing_held) before two in
          let cut = (faults_cut before one (walk_from nothing_held)).0 p.0 in
          let next = from (cut.1, ap (λ (v : Walk). owed s ones own v.held) (sym first) ∙ p.1) in (
            (faults_cut before two (walk_from nothing_held)).1 (cut.0, next.0),
            ap (λ (v : Walk). owed s ones own v.held) second ∙ next.1,
          )

-- ---- the command

entered_none : (a : App) → a.subs ≡ [] → (stop : Option (Text × List Text)) → entered a stop ≡ None
entered_none a alone None = refl
entered_none a alone (Some p) = rw alone refl

entered_fault_none : (a : App) → a.subs ≡ [] → (stop : Option (Text × List Text)) → entered_fault a stop ≡ []
entered_fault_none a alone None = refl
entered_fault_none a alone (Some p) = rw alone refl

built_is : (a : App) → a.subs ≡ [] → (words : List Text)
    → built_fault a nothing_held words ≡ level_fault a.top [] nothing_held words false []
built_is a alone words =
    let names : names_of a ≡ [] = ap (map label_of) alone in
    rw (
      entered_none a alone (walk a.top.rules (names_of a) nothing_held words).stopped,
      entered_fault_none a alone (walk a.top.rules (names_of a) nothing_held words).stopped,
      names,
    ) refl

same_taken : (one two : Kinds) (found found' : List Row) → ((one ≡ []) ↔ (two ≡ [])) → found ≡ found'
    → if_taken one found ≡ if_taken two found'
same_taken [] [] found found' both same = ap Some same
same_taken (kind ∷ kinds) (other ∷ others) found found' both same = refl
same_taken [] (other ∷ others) found found' both same = let wrong = both.0 refl in absurd cc
same_taken (kind ∷ kinds) [] found found' both same = let wrong = both.1 refl in absurd cc

-- the option that a long name names
record NamesValue (command : App) (long : Text) : Type 0 where
  pub rule : Rule
  pub found : arg_by_long (rules_of command) long ≡ Some rule
  pub valued : takes_values rule ≡ true
  pub some : 0 < length long
  pub lacks : list_any (λ x. x == 61) long ≡ false

named : (command : App) (long : Text) → names_value command long ≡ true → NamesValue command long
named command long e =
    let both = and_parts (option_map_or takes_values (arg_by_long (rules_of command) long) false) _ e in
    let rest = and_parts (not (is_empty long)) _ both.1 in
    by (arg_by_long (rules_of command) long) refl both.0 (longer long rest.0) (not-true _ rest.1)
  where
    longer : (text : Text) → not (is_empty text) ≡ true → 0 < length text
    longer [] some = absurd cc
    longer (byte ∷ bytes) some = omega arith

    by : (o : Option Rule) → arg_by_long (rules_of command) long ≡ o → option_map_or takes_values o false ≡ true → 0 < length long
        → list_any (λ x. x == 61) long ≡ false → NamesValue command long
    by None is valued some lacks = absurd cc
    by (Some rule) is valued some lacks = record { rule = rule; found = is; valued = valued; some = some; lacks = lacks }

pub equals_same : (command : App) → Parts command → (name long value : Text) (before behind : List Text)
    → names_value command long ≡ true → IsPlain value → LackDashes before
    → matched command (name ∷ (before ++ attached long value ∷ behind))
    ≡ matched command (name ∷ (before ++ long_word long ∷ value ∷ behind))
unfolding matched
equals_same command p name long value before behind names value_plain lack =
    same_taken _ _ _ _ (
      λ e. (is two_words) ∙ levels.0 (sym (is one_words) ∙ e),
      λ e. (is one_words) ∙ levels.1 (sym (is two_words) ∙ e),
    ) (
    matches_are command p name one_words
    ∙ ap (λ (rows : List Row). fold with_default rows (rules_of command)) rows
    ∙ sym (matches_are command p name two_words)
    )
  where
    n : NamesValue command long
    n = named command long names

    s : Shape
    s = (built command).top

    one_words : List Text
    one_words = before ++ attached long value ∷ behind

    two_words : List Text
    two_words = before ++ long_word long ∷ value ∷ behind

    at : Walk
    at = fold (walked (rules_of command) []) (walk_from nothing_held) before

    stand : Stands at
    stand =
        stands (rules_of command) p.ones p.own before (walk_from nothing_held) lack
        (record { still = refl; before = refl; place = omega arith })

    is : (words : List Text) → fault_of command (name ∷ words) ≡ level_fault (built command).top [] nothing_held words false []
    is words =
        ap (built_fault (built command) nothing_held) (words_behind command p name words) ∙ built_is (built command) p.alone words

    rows : rows_at (rules_of command) (fold (walked (rules_of command) []) (walk_from nothing_held) one_words)
        ≡ rows_at (rules_of command) (fold (walked (rules_of command) []) (walk_from nothing_held) two_words)
    rows =
        ap (rows_at (rules_of command))
        (fold-append (walked (rules_of command) []) (walk_from nothing_held) before (attached long value ∷ behind))
        ∙ same_rows s p.ones p.own n.rule long value n.found n.valued n.some n.lacks value_plain behind at stand
        ∙ ap (rows_at (rules_of command))
        (sym (fold-append (walked (rules_of command) []) (walk_from nothing_held) before (long_word long ∷ value ∷ behind)))

    levels : (level_fault (built command).top [] nothing_held one_words false [] ≡ [])
        ↔ (level_fault (built command).top [] nothing_held two_words false [] ≡ [])
    levels =
        same_level s p.ones p.own one_words two_words
        (same_behind s p.ones p.own before (attached long value ∷ behind) (long_word long ∷ value ∷ behind)
        (same_passes s p.ones p.own n.rule long value n.found n.valued n.some n.lacks value_plain behind at stand)) rows
