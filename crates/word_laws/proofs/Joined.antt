-- The words that positionals have before a `--`, and those behind it, stand in order.
use Rattle.std.proofs.Common.{◌≡◌, Bool, cond, true, false, List, [], ◌∷◌, ◌++◌, Option, Some, None, append-nil, append_assoc}
use Rattle.std.proofs.Common.{refl, sym, ap, subst, ◌∙◌, inl, inr}
use Rattle.std.specs.Prelude.{◌≢◌, is_some, unwrap_or, fold}
use Rattle.std.specs.List.{list_all}
use Rattle.std.specs.Str.{bytes_eq}
use Rattle.std.proofs.lemmas.Bool.{and_parts, both_ways, cases_Bool, false_from_ne_true}
use Rattle.std.proofs.lemmas.List.Sums.{fold-append}
use Rattle.std.proofs.lemmas.Slice.Eq.{bytes_eq-Decides}
use Rattle.clap.specs.Faults.{walk_fault}
use Rattle.clap.specs.Simple.{App, Shape, built}
use Rattle.clap.specs.Walk.{Held, Row, Rule, Step, Text, Waiting, Walk, idle, next, option, positional, subcommand, trailing, value}
use Rattle.clap.specs.Walk.{after_step, all_of, arg_by_index, is_multiple, nothing_held, settled, to_positional, used, walk_from}
use Rattle.clap.specs.Walk.{walked, word_met}
use Rattle.command_words.specs.Commands.{matched}
use Rattle.word_laws.specs.Laws.{LackDashes}
use Rattle.word_laws.specs.Positionals.{StandInOrder, dashes, given, have_own_ids, keeps_words, positionals, rules_of, takes_all, takes_one}
use Rattle.word_laws.specs.Positionals.{with_defaults}
use Rattle.word_laws.proofs.Rows.{kinds_of, used_behind, used_once, used_other}
use Rattle.word_laws.proofs.Turns.{EndWith, Fit, HaveNone, end_with, have_none, in_order, lack_id, own_filtered}
use Rattle.word_laws.proofs.Steps.{Follow, WaitsNot, follow_all, follow_once, gone, gone_rows, rows_at, taken, given_nothing}
use Rattle.word_laws.proofs.Accepted.{Stands, stands, stands_step, step_passes, stray_is_fault, turn_value, walked_is}
use Rattle.word_laws.proofs.Ahead.{Keeps, StepKeeps, WaitsWell, ends_same, ends_then, word_keeps}
use Rattle.word_laws.proofs.InOrder.{Parts, accepted, behind_dashes, dashes_step, first_place, nothing_yet, start_stands}
use Rattle.word_laws.proofs.Equals.{faults_cut}

-- ---- positionals that have no word yet

-- the positionals on whose turn it is behind words
abbrev pub left_rules : List Rule → List Text → List Rule
left_rules rules [] = rules
left_rules [] (word ∷ words) = []
left_rules (rule ∷ rules) (word ∷ words) = cond (takes_all rule) (rule ∷ rules) (left_rules rules words)

left_all : (rule : Rule) (rules : List Rule) (words : List Text) → takes_all rule ≡ true → left_rules (rule ∷ rules) words ≡ rule ∷ rules
left_all rule rules [] all = refl
left_all rule rules (word ∷ words) all = rw all refl

given_more : (rules : List Rule) (words more : List Text) (rows : List Row)
    → given rules (words ++ more) rows ≡ given (left_rules rules words) more (given rules words rows)
given_more rules [] more rows = refl
given_more [] (word ∷ words) more rows = sym (given_nothing more rows)
given_more (rule ∷ rules) (word ∷ words) more rows =
    elim (cases_Bool (takes_all rule)) [
      | inl all ↦ rw all (
          given_more (rule ∷ rules) words more (used rule (word ∷ []) rows)
          ∙ ap (λ rs. given rs more (given (rule ∷ rules) words (used rule (word ∷ []) rows))) (left_all rule rules words all)
          )
      | inr once ↦ rw once (given_more rules words more (used rule (word ∷ []) rows))
    ]

left_nothing : (words : List Text) → left_rules [] words ≡ []
left_nothing [] = refl
left_nothing (word ∷ words) = refl

left_more : (rules : List Rule) (words more : List Text) → left_rules rules (words ++ more) ≡ left_rules (left_rules rules words) more
left_more rules [] more = refl
left_more [] (word ∷ words) more = sym (left_nothing more)
left_more (rule ∷ rules) (word ∷ words) more =
    elim (cases_Bool (takes_all rule)) [
      | inl all ↦ rw all (sym (left_all rule rules more all))
      | inr once ↦ rw once (left_more rules words more)
    ]

fit_more : (rules : List Rule) (words more : List Text) → Fit rules words → Fit (left_rules rules words) more → Fit rules (words ++ more)
fit_more rules [] more fit rest = rest
fit_more [] (word ∷ words) more fit rest = absurd fit
fit_more (rule ∷ rules) (word ∷ words) more fit rest =
    elim (cases_Bool (takes_all rule)) [
      | inl all ↦ rw all tt
      | inr once ↦ rw once (fit_more rules words more (rw once at fit) (rw once at rest))
    ]

-- the next positional is one of them, and has what it had
next_ends : (one two : List Row) (rules : List Rule) (words : List Text) (rule : Rule) (rest : List Rule) → EndWith one two rules
    → left_rules rules words ≡ rule ∷ rest → all_of rule.id one ≡ all_of rule.id two
next_ends one two [] [] rule rest ends is = absurd cc
next_ends one two [] (word ∷ words) rule rest ends is = absurd cc
next_ends one two (first ∷ rules) [] rule rest ends is =
    let same : first ≡ rule = cc in subst (λ (r : Rule). all_of r.id one ≡ all_of r.id two) same ends.0
next_ends one two (first ∷ rules) (word ∷ words) rule rest ends is =
    elim (cases_Bool (takes_all first)) [
      | inl all ↦
          let whole = rw all at is in
          let same : first ≡ rule = cc in
          subst (λ (r : Rule). all_of r.id one ≡ all_of r.id two) same ends.0
      | inr once ↦ next_ends one two rules words rule rest ends.1 (rw once at is)
    ]

-- and if it takes one word, it has none yet
next_none : (rules : List Rule) (words : List Text) (rows : List Row) (rule : Rule) (rest : List Rule) → takes_all rule ≡ false
    → list_all keeps_words rules ≡ true → have_own_ids rules ≡ true → HaveNone rows rules → left_rules rules words ≡ rule ∷ rest
    → all_of rule.id (given rules words rows) ≡ None
next_none [] [] rows rule rest one keeps own none is = absurd cc
next_none [] (word ∷ words) rows rule rest one keeps own none is = absurd cc
next_none (first ∷ rules) [] rows rule rest one keeps own none is =
    let same : first ≡ rule = cc in subst (λ (r : Rule). all_of r.id rows ≡ None) same none.0
next_none (first ∷ rules) (word ∷ words) rows rule rest one keeps own none is =
    let keep = and_parts (keeps_words first) _ keeps in
    let ids = and_parts (lack_id first.id rules) _ own in
    elim (cases_Bool (takes_all first)) [
      | inl all ↦
          let whole = rw all at is in
          let same : first ≡ rule = cc in
          absurd (both_ways (takes_all rule) one (ap takes_all (sym same) ∙ all))
      | inr once ↦
          rw once (next_none rules words (used first (word ∷ []) rows) rule rest one keep.1 ids.1
          (have_none first word rows keep.0 rules ids.0 none.1) (rw once at is))
    ]

-- a use of it leaves the positionals with the same where they had the same
used_same : (rule : Rule) (word : Text) (one two : List Row) (rules : List Rule) → keeps_words rule ≡ true
    → (takes_all rule ≡ false → (all_of rule.id one ≡ None) × (all_of rule.id two ≡ None)) → EndWith one two rules
    → EndWith (used rule (word ∷ []) one) (used rule (word ∷ []) two) rules
used_same rule word one two [] keeps fresh ends = tt
used_same rule word one two (other ∷ rules) keeps fresh ends =
    (here, used_same rule word one two rules keeps fresh ends.1)
  where
    own : rule.id ≡ other.id → all_of rule.id (used rule (word ∷ []) one) ≡ all_of rule.id (used rule (word ∷ []) two)
    own same = elim (kinds_of rule keeps) [
      | inl once ↦ used_once rule word one once.1 (fresh once.0).0 ∙ sym (used_once rule word two once.1 (fresh once.0).1)
      | inr more ↦
          used_behind rule word one more.1
          ∙ ap (λ o. Some (unwrap_or o [] ++ word ∷ [])) (ap (λ id. all_of id one) same ∙ ends.0 ∙ ap (λ id. all_of id two) (sym same))
          ∙ sym (used_behind rule word two more.1)
    ]

    here : all_of other.id (used rule (word ∷ []) one) ≡ all_of other.id (used rule (word ∷ []) two)
    here = elim (cases_Bool (bytes_eq rule.id other.id)) [
      | inl same ↦
          let is = (bytes_eq-Decides rule.id other.id).0 same in
          ap (λ id. all_of id (used rule (word ∷ []) one)) (sym is) ∙ own is ∙ ap (λ id. all_of id (used rule (word ∷ []) two)) is
      | inr differ ↦
          used_other rule (word ∷ []) other.id one differ ∙ ends.0 ∙ sym (used_other rule (word ∷ []) other.id two differ)
    ]

-- ---- the walk

waits_well : (c : List Rule) (own : have_own_ids c ≡ true) (waiting : Waiting) (h : Held) → WaitsNot waiting → WaitsWell c own waiting h
waits_well c own idle h free = tt
waits_well c own positional h free = tt
waits_well c own (option id) h free = absurd free

module _ (s : Shape) (ones : list_all takes_one s.rules ≡ true) (own : have_own_ids s.rules ≡ true)
    (keeps : list_all keeps_words (positionals s.rules) ≡ true) (apart : have_own_ids (positionals s.rules) ≡ true)
    (unused : HaveNone [] (positionals s.rules)) where
  -- the walk has given these words to positionals, in turn
  record Come (w : Walk) (ahead : List Text) : Type 0 where
    pub ends : EndWith (rows_at s.rules w) (given (positionals s.rules) ahead []) (positionals s.rules)
    pub fits : Fit (positionals s.rules) ahead
    pub follow : Follow s.rules w.position (left_rules (positionals s.rules) ahead)
    pub well : WaitsWell s.rules own w.waiting w.held

  -- a word that a positional takes is one more
  come_taken : (w : Walk) (ahead : List Text) (rule : Rule) (rest : List Rule) (word : Text) → Come w ahead
      → left_rules (positionals s.rules) ahead ≡ rule ∷ rest → Come (gone s.rules rule word w) (ahead ++ word ∷ [])
  come_taken w ahead rule rest word come is = record {
    ends = subst (λ (rs : List Row). EndWith (rows_at s.rules (gone s.rules rule word w)) rs ps) (sym given_is)
        (subst (λ (rs : List Row). EndWith rs (used rule (word ∷ []) before) ps) (sym (gone_rows s.rules ones own rule word w follow.0))
        (used_same rule word (rows_at s.rules w) before ps keep fresh come.ends));
    fits = fit_more ps ahead (word ∷ []) come.fits (subst (λ (rs : List Rule). Fit rs (word ∷ [])) (sym is) fits_here);
    follow = subst (λ (rs : List Rule). Follow s.rules (gone s.rules rule word w).position rs) (sym left_is) follow_here;
    well = well_here (is_multiple rule);
  }
    where
      ps : List Rule
      ps = positionals s.rules

      before : List Row
      before = given (positionals s.rules) ahead []

      follow : Follow s.rules w.position (rule ∷ rest)
      follow = subst (λ (rs : List Rule). Follow s.rules w.position rs) is come.follow

      keep : keeps_words rule ≡ true
      keep = kept (positionals s.rules) ahead keeps is
        where
          kept : (rules : List Rule) (words : List Text) → list_all keeps_words rules ≡ true → left_rules rules words ≡ rule ∷ rest
              → keeps_words rule ≡ true
          kept [] [] all left = absurd cc
          kept [] (one ∷ words) all left = absurd cc
          kept (first ∷ rules) [] all left =
              let same : first ≡ rule = cc in ap keeps_words (sym same) ∙ (and_parts (keeps_words first) _ all).0
          kept (first ∷ rules) (one ∷ words) all left =
              elim (cases_Bool (takes_all first)) [
                | inl many ↦
                    let whole = rw many at left in
                    let same : first ≡ rule = cc in
                    ap keeps_words (sym same) ∙ (and_parts (keeps_words first) _ all).0
                | inr once ↦ kept rules words (and_parts (keeps_words first) _ all).1 (rw once at left)
              ]

      fresh : takes_all rule ≡ false
          → (all_of rule.id (rows_at s.rules w) ≡ None) × (all_of rule.id (given (positionals s.rules) ahead []) ≡ None)
      fresh one =
          let none = next_none (positionals s.rules) ahead [] rule rest one keeps apart unused is in
          (next_ends (rows_at s.rules w) _ (positionals s.rules) ahead rule rest come.ends is ∙ none, none)

      given_is : given (positionals s.rules) (ahead ++ word ∷ []) [] ≡ used rule (word ∷ []) (given (positionals s.rules) ahead [])
      given_is =
          given_more (positionals s.rules) ahead (word ∷ []) []
          ∙ ap (λ (rs : List Rule). given rs (word ∷ []) (given (positionals s.rules) ahead [])) is
          ∙ by (takes_all rule)
        where
          by : (b : Bool)
              → cond b (used rule (word ∷ []) (given (positionals s.rules) ahead []))
              (used rule (word ∷ []) (given (positionals s.rules) ahead []))
              ≡ used rule (word ∷ []) (given (positionals s.rules) ahead [])
          by true = refl
          by false = refl

      fits_here : Fit (rule ∷ rest) (word ∷ [])
      fits_here = by (takes_all rule)
        where
          by : (b : Bool) → cond b (Unit {0}) (Fit rest [])
          by true = tt
          by false = tt

      left_is : left_rules (positionals s.rules) (ahead ++ word ∷ []) ≡ cond (takes_all rule) (rule ∷ rest) rest
      left_is =
          left_more (positionals s.rules) ahead (word ∷ []) ∙ ap (λ (rs : List Rule). left_rules rs (word ∷ [])) is

      follow_here : Follow s.rules (gone s.rules rule word w).position (cond (takes_all rule) (rule ∷ rest) rest)
      follow_here = elim (cases_Bool (takes_all rule)) [
        | inl all ↦ subst (λ (b : Bool). Follow s.rules (gone s.rules rule word w).position (cond b (rule ∷ rest) rest)) (sym all)
            (follow_all s.rules ones own rule rest w word all follow)
        | inr once ↦ subst (λ (b : Bool). Follow s.rules (gone s.rules rule word w).position (cond b (rule ∷ rest) rest)) (sym once)
            (follow_once s.rules ones own rule rest w word once follow)
      ]

      well_here : (b : Bool) → WaitsWell s.rules own (cond b positional idle) (gone s.rules rule word w).held
      well_here true = tt
      well_here false = tt

  -- one more word before any `--`
  come_step : (w : Walk) (ahead : List Text) (word : Text) → Stands w → word ≢ dashes → Come w ahead
      → (more : List Text) × Come (walked s.rules [] w word) more
  come_step w ahead word stand differ come = (by_walk.0, subst (λ (v : Walk). Come v by_walk.0) (sym walk_is) by_walk.1)
    where
      walk_is : walked s.rules [] w word ≡ after_step s.rules word w (word_met s.rules [] false w.waiting w.position word w.held).0
          (word_met s.rules [] false w.waiting w.position word w.held).1
      walk_is = walked_is s.rules w word stand.still ∙ rw stand.before refl

      -- a step, behind which the positionals have what they had
      held_come : (after : Held) → Keeps s.rules own w.held after → WaitsWell s.rules own w.waiting after
          → Come (record w { held = after }) ahead
      held_come after kept well = record {
        ends = ends_then (settled s.rules after).rows (rows_at s.rules w) _ (positionals s.rules) kept come.ends;
        fits = come.fits;
        follow = come.follow;
        well = well;
      }

      by_left : (after : Held) → Come (record w { held = after }) ahead → (rules : List Rule)
          → left_rules (positionals s.rules) ahead ≡ rules
          → (more : List Text) × Come (to_positional s.rules (arg_by_index s.rules w.position) word w after) more
      by_left after here [] is =
          let none = subst (λ (rs : List Rule). Follow s.rules w.position rs) is come.follow in
          (ahead, subst (λ (o : Option Rule). Come (to_positional s.rules o word w after) ahead) (sym none) here)
      by_left after here (rule ∷ rest) is =
          let found = (subst (λ (rs : List Rule). Follow s.rules w.position rs) is come.follow).0 in (
            ahead ++ word ∷ [],
            subst (λ (o : Option Rule). Come (to_positional s.rules o word w after) (ahead ++ word ∷ [])) (sym found)
                (come_taken (record w { held = after }) ahead rule rest word here is),
          )

      by_step : (after : Held) (step : Step) → StepKeeps s.rules own w.waiting w.held (after, step)
          → (more : List Text) × Come (after_step s.rules word w after step) more
      by_step after (next then) kept = (
        ahead,
        record {
          ends = ends_then (settled s.rules after).rows (rows_at s.rules w) _ (positionals s.rules) kept.0 come.ends;
          fits = come.fits;
          follow = come.follow;
          well = kept.1;
        },
      )
      by_step after value kept =
          by_left after (held_come after kept.0 (waits_well s.rules own w.waiting after kept.1))
          (left_rules (positionals s.rules) ahead) refl
      by_step after (trailing place) kept = absurd kept
      by_step after (subcommand name) kept = absurd kept

      by_walk : (more : List Text) × Come (after_step s.rules word w (word_met s.rules [] false w.waiting w.position word w.held).0
          (word_met s.rules [] false w.waiting w.position word w.held).1) more
      by_walk =
          by_step (word_met s.rules [] false w.waiting w.position word w.held).0
          (word_met s.rules [] false w.waiting w.position word w.held).1
          (word_keeps s.rules own word w.waiting w.position w.held come.well
          (false_from_ne_true (bytes_eq word dashes) (λ same. differ ((bytes_eq-Decides word dashes).0 same))))

  come_on : (words : List Text) (w : Walk) (ahead : List Text) → Stands w → LackDashes words → Come w ahead
      → (more : List Text) × Come (fold (walked s.rules []) w words) more
  come_on [] w ahead stand lack come = (ahead, come)
  come_on (word ∷ words) w ahead stand lack come =
      let step = come_step w ahead word stand lack.0 come in
      come_on words (walked s.rules [] w word) step.0 (stands_step s.rules ones own w word lack.0 stand) lack.1 step.1

  -- the words behind the `--`
  come_behind : (words : List Text) (w : Walk) (ahead : List Text) → w.stopped ≡ None → w.is_trailing ≡ true
      → walk_fault s [] w words ≡ [] → Come w ahead → Come (fold (walked s.rules []) w words) (ahead ++ words)
  come_behind [] w ahead still behind passes come = subst (Come w) (sym (append-nil ahead)) come
  come_behind (word ∷ words) w ahead still behind passes come = by (left_rules (positionals s.rules) ahead) refl (come_behind words)
    where
      by : (rules : List Rule) → left_rules (positionals s.rules) ahead ≡ rules
          → ((v : Walk) (so_far : List Text) → v.stopped ≡ None → v.is_trailing ≡ true → walk_fault s [] v words ≡ [] → Come v so_far
          → Come (fold (walked s.rules []) v words) (so_far ++ words))
          → Come (fold (walked s.rules []) (walked s.rules [] w word) words) (ahead ++ word ∷ words)
      by [] is rest =
          let none = subst (λ (rs : List Rule). Follow s.rules w.position rs) is come.follow in
          let here = turn_value s w word words still (inl behind) (step_passes s w word words still passes).0 in
          absurd (stray_is_fault s (rw none at here))
      by (rule ∷ others) is rest =
          let found = (subst (λ (rs : List Rule). Follow s.rules w.position rs) is come.follow).0 in
          let step_is = taken s.rules ones own rule w word words found still (inl behind) in
          let after = (step_passes s w word words still passes).1 in
          subst (λ (v : Walk). Come (fold (walked s.rules []) v words) (ahead ++ word ∷ words)) (sym step_is)
          (subst (λ (all : List Text). Come (fold (walked s.rules []) (gone s.rules rule word w) words) all)
          (append_assoc ahead (word ∷ []) words)
          (rest (gone s.rules rule word w) (ahead ++ word ∷ []) refl (rw behind refl)
          (subst (λ (v : Walk). walk_fault s [] v words ≡ []) step_is after) (come_taken w ahead rule others word come is)))

-- ---- the command

-- behind a `--` the words join those that positionals have before it
pub dashes_joined : (command : App) → Parts command → (name : Text) (before : List Text) → LackDashes before
    → (ahead : List Text) × ((behind : List Text) (rows : List Row) → matched command (name ∷ (before ++ dashes ∷ behind)) ≡ Some rows
    → StandInOrder rows (positionals (rules_of command)) (ahead ++ behind))
dashes_joined command p name before lack = (come.0, joined)
  where
    s : Shape
    s = (built command).top

    apart : have_own_ids (positionals (rules_of command)) ≡ true
    apart = own_filtered (λ rule. is_some rule.index) (rules_of command) p.own

    unused : HaveNone [] (positionals (rules_of command))
    unused = nothing_yet command p (positionals (rules_of command))

    at : Walk
    at = fold (walked (rules_of command) []) (walk_from nothing_held) before

    come : (ahead : List Text)
        × Come s p.ones p.own p.keeps apart unused (fold (walked (rules_of command) []) (walk_from nothing_held) before) ahead
    come =
        come_on s p.ones p.own p.keeps apart unused before (walk_from nothing_held) [] (start_stands command p) lack
        (record { ends = ends_same [] (positionals (rules_of command)); fits = tt; follow = first_place command p; well = tt })

    stand : Stands (fold (walked (rules_of command) []) (walk_from nothing_held) before)
    stand = stands (rules_of command) p.ones p.own before (walk_from nothing_held) lack (start_stands command p)

    joined : (behind : List Text) (rows : List Row) → matched command (name ∷ (before ++ dashes ∷ behind)) ≡ Some rows
        → StandInOrder rows (positionals (rules_of command)) (come.0 ++ behind)
    joined behind rows e =
        let c = rules_of command in
        let both = accepted command p name (before ++ dashes ∷ behind) rows e in
        let cut = (faults_cut s p.ones p.own before (dashes ∷ behind) (walk_from nothing_held)).0 both.0 in
        let step = dashes_step c at stand.still stand.before in
        let passes = subst (λ (v : Walk). walk_fault s [] v behind ≡ []) step (step_passes s at dashes behind stand.still cut.1).1 in
        let here : Come s p.ones p.own p.keeps apart unused (behind_dashes at) come.0 =
        record { ends = come.1.ends; fits = come.1.fits; follow = come.1.follow; well = come.1.well } in
        let last = come_behind s p.ones p.own p.keeps apart unused behind (behind_dashes at) come.0 stand.still refl passes here in
        let end = fold (walked c []) (behind_dashes at) behind in
        let walk_is = fold-append (walked c []) (walk_from nothing_held) before (dashes ∷ behind)
        ∙ ap (λ (v : Walk). fold (walked c []) v behind) step in
        let final_is : with_defaults c (rows_at c end) ≡ rows = ap (λ (v : Walk). with_defaults c (rows_at c v)) (sym walk_is) ∙ both.1 in
        let ends = end_with (λ rule. is_some rule.index) c (rows_at c end) p.own p.keeps in
        in_order rows (positionals c) (come.0 ++ behind) [] p.keeps apart unused last.fits
        (subst (λ (rs : List Row). EndWith rs (given (positionals c) (come.0 ++ behind) []) (positionals c)) final_is
        (ends_then _ (rows_at c end) _ (positionals c) ends last.ends))
