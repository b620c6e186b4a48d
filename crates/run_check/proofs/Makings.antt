-- Which lines holds make, by the turns and the journal that the lines before left.
use Rattle.std.proofs.Common.{◌≡◌, ℕ, ◌^◌, ◌<◌, ◌≤◌, Bool, true, false, cond, not, List, [], ◌∷◌, ◌++◌, length, map, Option, Some, None}
use Rattle.std.proofs.Common.{refl, sym, ap, ◌∙◌, subst, arith}
use Rattle.std.specs.Prelude.{slice_get, option_map, ◌==◌}
use Rattle.std.specs.List.{All, AllByRecursion, count_by}
use Rattle.std.proofs.lemmas.List.{length-map, map-append}
use Rattle.std.proofs.lemmas.List.Elements.{All-push, recursion_from_All}
use Rattle.std.proofs.lemmas.Option.{option_and_then_some, slice_get-map, slice_get_within}
use Rattle.keep_local.specs.declared.shape.Shape.{Shape}
use Rattle.keep_local.specs.declared.turn.Turn.{Turn}
use Rattle.keep_local.specs.Laws.{turn_after}
use Rattle.keep_local.specs.Shapes.{top_of}
use Rattle.keep_local.specs.States.{callers_in}
use Rattle.keep_local.specs.Turns.{Follows, IsLawful}
use Rattle.keep_local.proofs.Lawful.{turn_is_fixed_lem}
use Rattle.keep_local.proofs.Runs.{lawful_push}
use Rattle.mc_text.specs.Request.{WholeCommand}
use Rattle.mc_text.specs.Reading.{commands_of}
use Rattle.kv_history.specs.Answer.{reply_of, store_of}
use Rattle.kv_history.specs.Log.{Logged, EachHasSection, EachOwnFirst, IsNext, NoneVoid, applied, applied_entry, calls, commands, store_now}
use Rattle.run_texts.specs.Entries.{told_entry}
use Rattle.run_texts.specs.Callers.{Placed}
use Rattle.run_texts.specs.Text.{Hold, Told, commands_behind, next_command, turn_line}
use Rattle.run_texts.proofs.Printed.{below_own_power, below_power, hold_of, turns_are}
use Rattle.run_texts.proofs.Texts.{IsPrinted, commands_from}
use Rattle.run_check.specs.Made.{MakesLine, callers_of, next_turn, turns_of}
use Rattle.run_check.specs.Readings.{told_hold}
use Rattle.run_check.specs.Replays.{HasGiven}
use Rattle.run_check.specs.Runs.{Course, IsUnderWay, holds_of}
use Rattle.run_check.specs.Turns.{IsNextTurn}
use Rattle.run_check.proofs.Tellings.{line_tells}

-- the callers of the holds of turns
pub holds_callers : (turns : List Turn) → callers_of (holds_of turns) ≡ callers_in turns
holds_callers [] = refl
holds_callers (turn ∷ turns) = ap (λ rest. turn.caller ∷ rest) (holds_callers turns)

-- what is made of a value of an option
pub made_of : {A B : Type 0} (f : A → B) (o : Option A) (y : B) → option_map f o ≡ Some y → (x : A) × (o ≡ Some x) × (f x ≡ y)
made_of f None y is = cc
made_of f (Some x) y is = (x, refl, cc)

-- a caller's next command, by the sections with their PUs and by their bytes
pub to_next : (sections : List Placed) (before : List ℕ) (caller : ℕ) (command : WholeCommand)
    → next_command sections before caller ≡ Some command → IsNext (map (λ section. section.bytes) sections) before caller command
to_next sections before caller command is =
    option_and_then_some
    (λ (section : Placed). slice_get (commands_of section.bytes) (count_by (λ other. other == caller) before))
    (slice_get sections caller) command is
    (λ section place next. record {
      section = section.bytes;
      place = slice_get-map (λ (s : Placed). s.bytes) sections caller ∙ ap (option_map (λ (s : Placed). s.bytes)) place;
      next = next;
    })

pub from_next : (sections : List Placed) (before : List ℕ) (caller : ℕ) (command : WholeCommand)
    → IsNext (map (λ section. section.bytes) sections) before caller command → next_command sections before caller ≡ Some command
from_next sections before caller command next =
    let there = made_of (λ (s : Placed). s.bytes) (slice_get sections caller) next.section
    (sym (slice_get-map (λ (s : Placed). s.bytes) sections caller) ∙ next.place) in
    rw there.1 (ap (λ (bytes : List ℕ). slice_get (commands_of bytes) (count_by (λ other. other == caller) before)) there.2 ∙ next.next)

-- it has a section
pub has_section : (sections : List Placed) (before : List ℕ) (caller : ℕ) (command : WholeCommand)
    → next_command sections before caller ≡ Some command → caller < length sections
has_section sections before caller command is =
    option_and_then_some
    (λ (section : Placed). slice_get (commands_of section.bytes) (count_by (λ other. other == caller) before))
    (slice_get sections caller) command is (λ section place next. slice_get_within sections caller section place)

-- where no entry is void, all commands were applied
kept_one : (void : Bool) (entry : Logged) (rest : List Logged) → void ≡ false → cond (not void) (entry ∷ rest) rest ≡ entry ∷ rest
kept_one true entry rest is = cc
kept_one false entry rest is = refl

whole_by : (entries : List Logged) → AllByRecursion (λ entry. entry.void ≡ false) entries → applied entries ≡ entries
whole_by [] whole = refl
whole_by (entry ∷ entries) whole =
    kept_one entry.void entry (applied entries) whole.0 ∙ ap (λ rest. entry ∷ rest) (whole_by entries whole.1)

pub whole_applied : (entries : List Logged) → NoneVoid entries → applied entries ≡ entries
whole_applied entries whole = whole_by entries (recursion_from_All (λ (entry : Logged). entry.void ≡ false) entries whole)

module _ (sections : List Placed) (shape : Shape) (before : List Hold) where
  -- the caller and the tests of a hold that makes a line have 32 bits
  pub small_caller : (hold : Hold) (line : List ℕ) → MakesLine sections shape before hold line → length sections < 2 ^ 32
      → hold.caller < 2 ^ 32
  small_caller hold line made few =
      omega (arith, has_section sections (callers_of before) hold.caller made.command made.next)

  pub small_tests : (hold : Hold) (line : List ℕ) → MakesLine sections shape before hold line → top_of shape ≤ 32 → hold.tests < 2 ^ 32
  small_tests hold line made low =
      below_power 32 hold.tests hold.tests (λ level set. omega (arith, (made.lawful.ends.tests level set).1, low))
      (below_own_power hold.tests)

  -- its line tells it
  pub made_told : (hold : Hold) (line rest : List ℕ) → MakesLine sections shape before hold line → length sections < 2 ^ 32
      → top_of shape ≤ 32 → told_hold (line ++ rest) ≡ Some hold
  made_told hold line rest made few low =
      let one : Told = record {
        turn = next_turn shape before hold;
        command = made.command.spelling;
        reply = reply_of (store_of made.given) made.command.request;
      } in
      ap (λ (l : List ℕ). told_hold (l ++ rest)) made.line_is
      ∙ line_tells sections (length before) one rest (small_caller hold line made few) (small_tests hold line made low)

  -- a hold makes one line
  pub line_once : (hold : Hold) (line other : List ℕ) → MakesLine sections shape before hold line
      → MakesLine sections shape before hold other → line ≡ other
  line_once hold line other made also =
      let a = made.given_are in
      let b = also.given_are in
      let given : made.given ≡ also.given = cc in
      let c = made.next in
      let d = also.next in
      let command : made.command ≡ also.command = cc in
      made.line_is
      ∙ (λ i. turn_line sections (length before) (record {
        turn = next_turn shape before hold;
        command = (command i).spelling;
        reply = reply_of (store_of (given i)) (command i).request;
      }))
      ∙ sym also.line_is

-- ---- behind lines whose turns and journal are known

module _ (sections : List Placed) (shape : Shape) (course : Course) (under : IsUnderWay sections shape course) where
  abbrev holds : List Hold
  holds = holds_of course.turns

  pub turns_same : turns_of shape holds ≡ course.turns
  turns_same = turns_are shape [] course.turns under.lawful

  pub callers_same : callers_of holds ≡ calls course.log
  callers_same = holds_callers course.turns ∙ sym under.called

  pub as_many : length holds ≡ length course.log.entries
  as_many =
      length-map course.turns hold_of ∙ sym (length-map course.turns (λ (t : Turn). t.caller)) ∙ ap length (sym under.called)
      ∙ length-map course.log.entries (λ (e : Logged). e.caller)

  -- the turn of a hold that makes a line follows the turns
  pub made_follows : (hold : Hold) (line : List ℕ) → MakesLine sections shape holds hold line
      → IsNextTurn shape course.turns hold (next_turn shape holds hold)
  made_follows hold line made = record {
    caller = refl;
    tests = refl;
    follows = subst (λ (ts : List Turn). Follows shape ts (next_turn shape holds hold)) turns_same made.lawful;
  }

  -- and its command is the next one of the caller
  pub made_next : (hold : Hold) (line : List ℕ) (made : MakesLine sections shape holds hold line)
      → IsNext course.log.sections (calls course.log) hold.caller made.command
  made_next hold line made =
      subst (λ (at : List (List ℕ) × List ℕ). IsNext at.0 at.1 hold.caller made.command) (λ i. (sym under.same i, callers_same i))
      (to_next sections (callers_of holds) hold.caller made.command made.next)

  -- a turn that follows, with its caller's next command, makes a line
  pub makes : (turn : Turn) (command : WholeCommand) → EachHasSection course.log → EachOwnFirst course.log
      → Follows shape course.turns turn → IsNext course.log.sections (calls course.log) turn.caller command
      → MakesLine sections shape holds (hold_of turn)
      (turn_line sections (length course.log.entries) (told_entry turn (applied_entry course.log.entries turn.caller command)))
  makes turn command have own follows next =
      let entries = course.log.entries in
      let printed : IsPrinted sections course.log = record { same = under.same; callers_are = have; own_first = own } in
      let is : turn ≡ turn_after shape course.turns turn.caller turn.tests = turn_is_fixed_lem shape course.turns turn follows in
      let turn_is : turn ≡ next_turn shape holds (hold_of turn) =
      is ∙ ap (λ (ts : List Turn). turn_after shape ts turn.caller turn.tests) (sym turns_same) in
      let store : store_now entries ≡ store_of (commands entries) =
      ap (λ (es : List Logged). store_of (commands es)) (whole_applied entries under.whole) in
      record {
        given = commands entries;
        given_are = ap (commands_behind sections []) callers_same ∙ commands_from sections course.log [] entries printed refl;
        command = command;
        next = from_next sections (callers_of holds) turn.caller command
            (subst (λ (at : List (List ℕ) × List ℕ). IsNext at.0 at.1 turn.caller command) (λ i. (under.same i, sym callers_same i)) next);
        lawful = subst (λ (at : List Turn × Turn). Follows shape at.0 at.1) (λ i. (sym turns_same i, turn_is i)) follows;
        line_is = (λ i. turn_line sections (sym as_many i) (record {
          turn = turn_is i;
          command = command.spelling;
          reply = reply_of (store i) command.request;
        }));
      }

  -- and the run is under way behind it
  pub goes_on : (turn : Turn) (after : Course) → Follows shape course.turns turn → HasGiven course.log after.log turn.caller
      → after.turns ≡ course.turns ++ turn ∷ [] → IsUnderWay sections shape after
  goes_on turn after follows given turns = record {
    same = given.sections ∙ under.same;
    lawful = subst (IsLawful shape) (sym turns) (lawful_push shape course.turns turn under.lawful follows);
    called = ap (map (λ (e : Logged). e.caller)) given.entries
        ∙ map-append (λ (e : Logged). e.caller) course.log.entries (applied_entry course.log.entries turn.caller given.command ∷ [])
        ∙ ap (λ (front : List ℕ). front ++ turn.caller ∷ []) under.called
        ∙ sym (map-append (λ (t : Turn). t.caller) course.turns (turn ∷ []))
        ∙ ap callers_in (sym turns);
    whole = subst (All (λ entry. entry.void ≡ false)) (sym given.entries)
        (All-push (λ (entry : Logged). entry.void ≡ false) course.log.entries
        (applied_entry course.log.entries turn.caller given.command) under.whole refl);
  }
