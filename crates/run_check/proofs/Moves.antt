-- One line further, and the end of all turns.
use Rattle.std.proofs.Common.{◌≡◌, ℕ, ◌+◌, ◌^◌, ◌<◌, ◌≤◌, Bool, true, false, List, [], ◌∷◌, ◌++◌, length, take, drop, Option, Some, None}
use Rattle.std.proofs.Common.{refl, sym, ap, ◌∙◌, subst}
use Rattle.std.specs.Prelude.{nat_eq, slice_get, option_map, IfSome, MatchOption, ◌==◌}
use Rattle.std.specs.Borrow.{Bor}
use Rattle.std.specs.Cmp.Lexicographic.{pointwise}
use Rattle.std.specs.List.{count_by}
use Rattle.std.proofs.lemmas.Option.{slice_get-map}
use Rattle.keep_local.specs.declared.shape.Shape.{Shape}
use Rattle.keep_local.specs.declared.turn.Turn.{Turn}
use Rattle.keep_local.specs.Shapes.{top_of}
use Rattle.keep_local.specs.Turns.{last_turn}
use Rattle.mc_text.specs.Request.{WholeCommand}
use Rattle.mc_text.specs.Reading.{commands_of}
use Rattle.kv_history.specs.Log.{Log, EachHasSection, EachOwnFirst, IsNext, applied_entry, calls}
use Rattle.run_texts.specs.Entries.{told_entry}
use Rattle.run_texts.specs.Callers.{Placed}
use Rattle.run_texts.specs.Text.{Hold, turn_line}
use Rattle.run_texts.specs.Printed.{EachHoldsAll}
use Rattle.run_texts.proofs.Printed.{count-callers, hold_of}
use Rattle.run_check.specs.Broken.{HaveEnded}
use Rattle.run_check.specs.Made.{MakesLine, next_turn}
use Rattle.run_check.specs.Readings.{told_hold}
use Rattle.run_check.specs.Replays.{AllGiven, Gives, HasGiven}
use Rattle.run_check.specs.Runs.{Course, HasNextTurn, IsUnderWay, Makes, TellsNoTurn, holds_of}
use Rattle.run_check.proofs.Fronts.{in_front_of, not_in_front}
use Rattle.run_check.proofs.Makings.{callers_same, goes_on, line_once, made_follows, made_next, made_of, made_told, makes, turns_same}

-- the last of some elements
pub last_one : {A : Type 0} (xs : List A) (y : A) → slice_get (xs ++ y ∷ []) (length xs) ≡ Some y
last_one [] y = refl
last_one (x ∷ xs) y = last_one xs y

-- a caller without a next command
gives_none : (log after : Log) (caller : ℕ) (given : Bool) → given ≡ false → Gives log after caller given → (command : WholeCommand)
    → IsNext log.sections (calls log) caller command → ⊥
gives_none log after caller true is gives = cc
gives_none log after caller false is gives = gives

pub gives_some : (log after : Log) (caller : ℕ) (given : Bool) → given ≡ true → Gives log after caller given → HasGiven log after caller
gives_some log after caller true is gives = gives
gives_some log after caller false is gives = cc

module _ (sections : List Placed) (shape : Shape) (course : Course) (under : IsUnderWay sections shape course)
    (few : length sections < 2 ^ 32) (low : top_of shape ≤ 32) (text : List ℕ) where
  -- a hold that makes a line at the front of a text is told there
  told_there : (hold : Hold) (line rest : List ℕ) → MakesLine sections shape (holds_of course.turns) hold line → text ≡ line ++ rest
      → told_hold text ≡ Some hold
  told_there hold line rest made is = ap told_hold is ∙ made_told sections shape (holds_of course.turns) hold line rest made few low

  -- a text that tells no turn begins with no line of one
  pub no_turn_told : TellsNoTurn shape course.turns text → (hold : Hold) (line rest : List ℕ)
      → MakesLine sections shape (holds_of course.turns) hold line → text ≡ line ++ rest → ⊥
  no_turn_told none hold line rest made is =
      none (next_turn shape (holds_of course.turns) hold) (record {
        hold = hold;
        told = told_there hold line rest made is;
        next = made_follows sections shape course under hold line made;
      })

  -- the hold is that of the turn that is told
  same_hold : (turn : Turn) → HasNextTurn shape course.turns text turn → (hold : Hold) (line rest : List ℕ)
      → MakesLine sections shape (holds_of course.turns) hold line → text ≡ line ++ rest → hold ≡ hold_of turn
  same_hold turn told hold line rest made is =
      let one = told_there hold line rest made is in
      let two = told.told in
      let same : hold ≡ told.hold = cc in
      let caller = told.next.caller in
      let tests = told.next.tests in
      same ∙ (λ i. record { caller = sym caller i; tests = sym tests i })

  -- neither does one whose caller has no command left
  pub no_command_left : (turn : Turn) (after : Log) (given : Bool) → HasNextTurn shape course.turns text turn → given ≡ false
      → Gives course.log after turn.caller given → (hold : Hold) (line rest : List ℕ)
      → MakesLine sections shape (holds_of course.turns) hold line → text ≡ line ++ rest → ⊥
  no_command_left turn after given told none gives hold line rest made is =
      let same = same_hold turn told hold line rest made is in
      gives_none course.log after turn.caller given none gives made.command
      (subst (λ (w : ℕ). IsNext course.log.sections (calls course.log) w made.command) (ap (λ (h : Hold). h.caller) same)
      (made_next sections shape course under hold line made))

  -- else the text begins with the line of the turn or with none
  pub compared : (turn : Turn) (after : Course) (line : List ℕ) (passed : Option (Bor (List ℕ))) → EachHasSection course.log
      → EachOwnFirst course.log → HasNextTurn shape course.turns text turn → (given : HasGiven course.log after.log turn.caller)
      → after.turns ≡ course.turns ++ turn ∷ []
      → line ≡ turn_line sections (length course.log.entries) (told_entry turn (applied_entry course.log.entries turn.caller given.command))
      → MatchOption passed
      (pointwise nat_eq (take (length line) text) line ≡ false)
      (λ rest. (pointwise nat_eq (take (length line) text) line ≡ true) × (rest.now ≡ drop (length line) text)
      × (length rest.now + length line ≡ length text))
      → Makes sections shape course after text passed
  compared turn after line None have own told given turns line_is other = λ hold one rest made is.
      let same = same_hold turn told hold one rest made is in
      let this = subst (MakesLine sections shape (holds_of course.turns) (hold_of turn)) (sym line_is)
      (makes sections shape course under turn given.command have own told.next.follows given.next) in
      let lines = line_once sections shape (holds_of course.turns) (hold_of turn) one line
      (subst (λ (h : Hold). MakesLine sections shape (holds_of course.turns) h one) same made) this in
      not_in_front text line rest other (is ∙ ap (λ (l : List ℕ). l ++ rest) lines)
  compared turn after line (Some rest) have own told given turns line_is passed = record {
    turn = turn;
    turns = turns;
    under_way = goes_on sections shape course under turn after told.next.follows given turns;
    entry = applied_entry course.log.entries turn.caller given.command;
    entries = given.entries;
    line = line;
    line_is = line_is;
    made = subst (MakesLine sections shape (holds_of course.turns) (hold_of turn)) (sym line_is)
        (makes sections shape course under turn given.command have own told.next.follows given.next);
    text_is = in_front_of text line rest.now passed.0 passed.1;
  }

-- ---- the end of all turns

module _ (sections : List Placed) (shape : Shape) (course : Course) (under : IsUnderWay sections shape course) where
  -- how often a caller held is how often it called
  counted : (caller : ℕ) → count_by (λ (hold : Hold). hold.caller == caller) (holds_of course.turns)
      ≡ count_by (λ other. other == caller) (calls course.log)
  counted caller =
      sym (count-callers caller (holds_of course.turns))
      ∙ ap (count_by (λ other. other == caller)) (callers_same sections shape course under)

  -- all commands are given where each caller has held so often
  pub each_holds : AllGiven course.log → EachHoldsAll sections (holds_of course.turns)
  each_holds all caller section place =
      counted caller
      ∙ all caller section.bytes
      (ap (λ (ss : List (List ℕ)). slice_get ss caller) under.same ∙ slice_get-map (λ (s : Placed). s.bytes) sections caller
      ∙ ap (option_map (λ (s : Placed). s.bytes)) place)

  pub all_given : EachHoldsAll sections (holds_of course.turns) → AllGiven course.log
  all_given each caller bytes place =
      let there = made_of (λ (s : Placed). s.bytes) (slice_get sections caller) bytes
      (sym (slice_get-map (λ (s : Placed). s.bytes) sections caller) ∙ ap (λ (ss : List (List ℕ)). slice_get ss caller) (sym under.same)
      ∙ place) in
      sym (counted caller) ∙ each caller there.0 there.1 ∙ ap (λ (b : List ℕ). length (commands_of b)) there.2

  pub have_ended : AllGiven course.log → IfSome (last_turn course.turns) (λ t. t.left ≡ top_of shape)
      → HaveEnded sections shape (holds_of course.turns)
  have_ended all last = record {
    each_own = each_holds all;
    last = subst (λ (ts : List Turn). IfSome (last_turn ts) (λ t. t.left ≡ top_of shape))
        (sym (turns_same sections shape course under)) last;
  }

  pub last_left : HaveEnded sections shape (holds_of course.turns) → IfSome (last_turn course.turns) (λ t. t.left ≡ top_of shape)
  last_left ended =
      subst (λ (ts : List Turn). IfSome (last_turn ts) (λ t. t.left ≡ top_of shape)) (turns_same sections shape course under) ended.last
