-- A run's holds make its lines, and no others do.
use Rattle.std.proofs.Common.{◌≡◌, ℕ, zero, suc, ◌+◌, ◌^◌, ◌<◌, ◌≤◌, true, List, [], ◌∷◌, ◌++◌, length, map, take, drop, Some, inl, inr}
use Rattle.std.proofs.Common.{refl, sym, ap, ◌∙◌, subst, append_assoc, arith}
use Rattle.std.specs.Prelude.{slice_get}
use Rattle.std.specs.List.{AllByRecursion, enumerate_from, flat_map}
use Rattle.std.proofs.lemmas.List.{append-nil, length-append, length-drop, map-append, take-append-drop, take-append-le}
use Rattle.keep_local.specs.declared.shape.Shape.{Shape}
use Rattle.keep_local.specs.declared.turn.Turn.{Turn}
use Rattle.keep_local.specs.Laws.{turn_after}
use Rattle.keep_local.specs.Shapes.{top_of}
use Rattle.keep_local.specs.Turns.{FollowEachOther}
use Rattle.mc_text.specs.Request.{WholeCommand}
use Rattle.kv_history.specs.Contents.{Contents}
use Rattle.kv_history.specs.Answer.{replies_from, reply_of, store_after, store_from, store_of}
use Rattle.run_texts.specs.Callers.{Placed}
use Rattle.run_texts.specs.Text.{Hold, Told, caller_line, caller_lines, commands_behind, next_command, run_text, told, turn_line}
use Rattle.run_texts.specs.Text.{turns_behind}
use Rattle.run_texts.specs.Printed.{IsRun}
use Rattle.run_texts.proofs.Histories.{gives}
use Rattle.run_texts.proofs.Printed.{can_be_held}
use Rattle.run_check.specs.Broken.{HaveEnded, IsFirstBroken, TurnBreaks, callers_lines}
use Rattle.run_check.specs.Lines.{begins_turn, lines, turn_count}
use Rattle.run_check.specs.Made.{MakeLines, MakesLine, callers_of, next_turn, turns_of}
use Rattle.run_check.proofs.Comings.{all_told, made_many, past_lines, turn_told}
use Rattle.run_check.proofs.Lined.{caller_is_line, first_line, turn_is_line}
use Rattle.run_check.proofs.Makings.{made_told}

-- ---- commands, turns and stores, one more each

pub behind_push : (sections : List Placed) (before callers : List ℕ) (caller : ℕ) (given : List WholeCommand) (command : WholeCommand)
    → commands_behind sections before callers ≡ Some given → next_command sections (before ++ callers) caller ≡ Some command
    → commands_behind sections before (callers ++ caller ∷ []) ≡ Some (given ++ command ∷ [])
behind_push sections before [] caller given command is next =
    let none : [] ≡ given = cc in
    let there : next_command sections before caller ≡ Some command =
    ap (λ (b : List ℕ). next_command sections b caller) (sym (append-nil before)) ∙ next in
    rw there (ap (λ (g : List WholeCommand). Some (g ++ command ∷ [])) none)
behind_push sections before (first ∷ callers) caller given command is next =
    let g = gives sections before first callers given is in
    let later = behind_push sections (before ++ first ∷ []) callers caller g.more command g.rest
    (ap (λ (b : List ℕ). next_command sections b caller) (append_assoc before (first ∷ []) callers) ∙ next) in
    rw (g.next, later) (ap (λ (all : List WholeCommand). Some (all ++ command ∷ [])) (sym g.all_are))

pub turns_push : (shape : Shape) (before : List Turn) (holds : List Hold) (hold : Hold)
    → turns_behind shape before (holds ++ hold ∷ [])
    ≡ turns_behind shape before holds ++ turn_after shape (before ++ turns_behind shape before holds) hold.caller hold.tests ∷ []
turns_push shape before [] hold =
    ap (λ (b : List Turn). turn_after shape b hold.caller hold.tests ∷ []) (sym (append-nil before))
turns_push shape before (first ∷ holds) hold =
    let turn = turn_after shape before first.caller first.tests in
    ap (λ (rest : List Turn). turn ∷ rest)
    (turns_push shape (before ++ turn ∷ []) holds hold
    ∙ ap (λ (b : List Turn). turns_behind shape (before ++ turn ∷ []) holds ++ turn_after shape b hold.caller hold.tests ∷ [])
    (append_assoc before (turn ∷ []) (turns_behind shape (before ++ turn ∷ []) holds)))

store_push : (store : Contents) (given : List WholeCommand) (command : WholeCommand)
    → store_from store (given ++ command ∷ []) ≡ store_after (store_from store given) command.request
store_push store [] command = refl
store_push store (first ∷ given) command = store_push (store_after store first.request) given command

-- ---- the lines of a run

-- the text of holds behind others
abbrev pub text_behind : List Placed → Shape → ℕ → List Turn → Contents → List Hold → List WholeCommand → List ℕ
text_behind sections shape n before store holds more =
    flat_map (λ (at : ℕ × Told). turn_line sections at.0 at.1)
    (enumerate_from n (told (turns_behind shape before holds) more (replies_from store more)))

pub record Lines (sections : List Placed) (shape : Shape) (before holds : List Hold) (given more : List WholeCommand) : Type 0 where
  pub made : List (List ℕ)
  pub make : MakeLines sections shape before holds made
  pub lines_are : (rest : List ℕ)
      → lines (text_behind sections shape (length before) (turns_of shape before) (store_of given) holds more ++ rest) ≡ made ++ lines rest

pub all_make : (sections : List Placed) (shape : Shape) (before holds : List Hold) (given more : List WholeCommand)
    → commands_behind sections [] (callers_of before) ≡ Some given
    → commands_behind sections (callers_of before) (callers_of holds) ≡ Some more
    → FollowEachOther shape (turns_of shape before) (turns_behind shape (turns_of shape before) holds)
    → Lines sections shape before holds given more
all_make sections shape before [] given more given_are more_are follow = record { made = []; make = tt; lines_are = λ rest. refl }
all_make sections shape before (hold ∷ holds) given more given_are more_are follow =
    let g = gives sections (callers_of before) hold.caller (callers_of holds) more more_are in
    let turn = next_turn shape before hold in
    let one : Told = record { turn = turn; command = g.command.spelling; reply = reply_of (store_of given) g.command.request } in
    let line = turn_line sections (length before) one in
    let callers = map-append (λ (h : Hold). h.caller) before (hold ∷ []) in
    let turns = turns_push shape [] before hold in
    let store = store_push _ given g.command in
    let many : length before + 1 ≡ length (before ++ hold ∷ []) = sym (length-append before (hold ∷ [])) in
    let rest = all_make sections shape (before ++ hold ∷ []) holds (given ++ g.command ∷ []) g.more
    (ap (commands_behind sections []) callers ∙ behind_push sections [] (callers_of before) hold.caller given g.command given_are g.next)
    (ap (λ (b : List ℕ). commands_behind sections b (callers_of holds)) callers ∙ g.rest)
    (subst (λ (b : List Turn). FollowEachOther shape b (turns_behind shape b holds)) (sym turns) follow.1) in
    let behind = text_behind sections shape (length before + 1) (turns_of shape before ++ turn ∷ [])
    (store_after (store_of given) g.command.request) holds g.more in
    let behind_is : behind ≡ text_behind sections shape (length (before ++ hold ∷ [])) (turns_of shape (before ++ hold ∷ []))
    (store_of (given ++ g.command ∷ [])) holds g.more =
    λ i. text_behind sections shape (many i) (sym turns i) (sym store i) holds g.more in
    record {
      made = line ∷ rest.made;
      make = (
        record {
          given = given;
          given_are = given_are;
          command = g.command;
          next = g.next;
          lawful = follow.0;
          line_is = refl;
        },
        rest.make,
      );
      lines_are = λ more_text.
          ap (λ (all : List WholeCommand). lines (text_behind sections shape (length before) (turns_of shape before) (store_of given)
          (hold ∷ holds) all ++ more_text)) g.all_are
          ∙ ap lines (append_assoc line behind more_text)
          ∙ first_line line (behind ++ more_text) (turn_is_line sections (length before) one)
          ∙ ap (λ (t : List ℕ). line ∷ lines (t ++ more_text)) behind_is
          ∙ ap (λ (ls : List (List ℕ)). line ∷ ls) (rest.lines_are more_text);
    }

-- the lines of callers
pub lines_from : (n : ℕ) (sections : List Placed)
    → lines (flat_map (λ (at : ℕ × Placed). caller_line at.0 at.1) (enumerate_from n sections))
    ≡ map (λ (at : ℕ × Placed). caller_line at.0 at.1) (enumerate_from n sections)
lines_from n [] = refl
lines_from n (section ∷ sections) =
    first_line (caller_line n section) (flat_map (λ (at : ℕ × Placed). caller_line at.0 at.1) (enumerate_from (n + 1) sections))
    (caller_is_line n section)
    ∙ ap (λ (ls : List (List ℕ)). caller_line n section ∷ ls) (lines_from (n + 1) sections)

pub none_told : (n : ℕ) (sections : List Placed)
    → turn_count (map (λ (at : ℕ × Placed). caller_line at.0 at.1) (enumerate_from n sections)) ≡ 0
unfolding caller_line
none_told n [] = refl
none_told n (section ∷ sections) = refl

-- the lines of a run are those of its holds, and of all callers
record RunLines (sections : List Placed) (shape : Shape) (printed : List ℕ) (holds : List Hold) : Type 0 where
  made : List (List ℕ)
  make : MakeLines sections shape [] holds made
  lines_are : lines printed ≡ made ++ callers_lines sections

run_lines : (sections : List Placed) (shape : Shape) (printed : List ℕ) → length sections < 2 ^ 32 → top_of shape ≤ 32
    → (run : IsRun sections shape printed) → RunLines sections shape printed run.holds
unfolding run_text
run_lines sections shape printed few low run =
    let can = can_be_held sections shape printed (omega (arith, few)) low run in
    let all = all_make sections shape [] run.holds [] can.commands refl can.are run.lawful in
    let text = text_behind sections shape 0 [] (store_of []) run.holds can.commands in
    let text_is : printed ≡ text ++ caller_lines sections = run.printed_is ∙ rw can.are refl in
    record {
      made = all.made;
      make = all.make;
      lines_are = ap lines text_is ∙ all.lines_are (caller_lines sections)
          ∙ ap (λ (ls : List (List ℕ)). all.made ++ ls) (lines_from 0 sections);
    }

-- ---- holds that make the same lines

-- lines that are made are told to be of turns
pub made_told_turns : (sections : List Placed) (shape : Shape) (before holds : List Hold) (made : List (List ℕ))
    → MakeLines sections shape before holds made → AllByRecursion (λ line. begins_turn line ≡ true) made
made_told_turns sections shape before [] [] make = tt
made_told_turns sections shape before [] (line ∷ made) make = absurd make
made_told_turns sections shape before (hold ∷ holds) [] make = absurd make
made_told_turns sections shape before (hold ∷ holds) (line ∷ made) make = (
  ap begins_turn make.0.line_is ∙ turn_told sections (length before) (record {
    turn = next_turn shape before hold;
    command = make.0.command.spelling;
    reply = reply_of (store_of make.0.given) make.0.command.request;
  }),
  made_told_turns sections shape (before ++ hold ∷ []) holds made make.1,
)

-- holds that make the first of some lines are the first of those that make them
pub record Front (sections : List Placed) (shape : Shape) (before holds others : List Hold) (rest : List (List ℕ)) : Type 0 where
  pub tail : List Hold
  pub holds_are : holds ≡ others ++ tail
  pub make : MakeLines sections shape (before ++ others) tail rest

pub front : (sections : List Placed) (shape : Shape) → length sections < 2 ^ 32 → top_of shape ≤ 32 → (before holds others : List Hold)
    (made other rest : List (List ℕ)) → MakeLines sections shape before holds made → MakeLines sections shape before others other
    → made ≡ other ++ rest → Front sections shape before holds others rest
front sections shape few low before holds [] made [] rest make also is = record {
  tail = holds;
  holds_are = refl;
  make = subst (λ (b : List Hold). MakeLines sections shape b holds rest) (sym (append-nil before))
      (subst (MakeLines sections shape before holds) is make);
}
front sections shape few low before holds [] made (line ∷ other) rest make also is = absurd also
front sections shape few low before holds (hold ∷ others) made [] rest make also is = absurd also
front sections shape few low before [] (hold ∷ others) [] (line ∷ other) rest make also is = absurd (cc)
front sections shape few low before [] (hold ∷ others) (one ∷ made) (line ∷ other) rest make also is = absurd make
front sections shape few low before (first ∷ holds) (hold ∷ others) [] (line ∷ other) rest make also is = absurd make
front sections shape few low before (first ∷ holds) (hold ∷ others) (one ∷ made) (line ∷ other) rest make also is =
    let same_line : one ≡ line = cc in
    let same_rest : made ≡ other ++ rest = cc in
    let a = made_told sections shape before first one [] make.0 few low in
    let b = made_told sections shape before hold line [] also.0 few low in
    let c = ap (λ (l : List ℕ). l ++ []) same_line in
    let same : first ≡ hold = cc in
    let later = front sections shape few low (before ++ hold ∷ []) holds others made other rest
    (subst (λ (h : Hold). MakeLines sections shape (before ++ h ∷ []) holds made) same make.1) also.1 same_rest in
    record {
      tail = later.tail;
      holds_are = (λ i. same i ∷ later.holds_are i);
      make = subst (λ (b : List Hold). MakeLines sections shape b later.tail rest) (append_assoc before (hold ∷ []) others) later.make;
    }

-- ---- the law

module _ (sections : List Placed) (shape : Shape) (printed : List ℕ) (few : length sections < 2 ^ 32) (low : top_of shape ≤ 32)
    (run : IsRun sections shape printed) where
  its : RunLines sections shape printed run.holds
  its = run_lines sections shape printed few low run

  count : turn_count (lines printed) ≡ length its.made
  count =
      ap turn_count its.lines_are
      ∙ all_told its.made (callers_lines sections) (made_told_turns sections shape [] run.holds its.made its.make)
      ∙ (omega (arith, none_told 0 sections))

  split : (n : ℕ) → n ≤ length its.made → its.made ≡ take n (lines printed) ++ drop n its.made
  split n within =
      sym (take-append-drop n its.made)
      ∙ ap (λ (f : List (List ℕ)). f ++ drop n its.made)
      (sym (ap (take n) its.lines_are ∙ take-append-le n its.made (callers_lines sections) within))

  its_front : (holds : List Hold) → MakeLines sections shape [] holds (take (length holds) (lines printed)) → length holds ≤ length its.made
      → Front sections shape [] run.holds holds (drop (length holds) its.made)
  its_front holds make within =
      front sections shape few low [] run.holds holds its.made (take (length holds) (lines printed)) (drop (length holds) its.made)
      its.make make (split (length holds) within)

  -- where as many lines are made, the holds are those of the run
  all_holds : (holds : List Hold) → MakeLines sections shape [] holds (take (length holds) (lines printed)) → length holds ≡ length its.made
      → run.holds ≡ holds
  all_holds holds make many =
      let f = its_front holds make (omega (arith, many)) in
      let none : length (drop (length holds) its.made) ≡ 0 = omega (arith, length-drop (length holds) its.made, many) in
      let tail = made_many sections shape holds f.tail (drop (length holds) its.made) f.make in
      f.holds_are ∙ ap (λ (t : List Hold). holds ++ t) (no_holds f.tail (sym tail ∙ none)) ∙ append-nil holds
    where
      no_holds : (hs : List Hold) → length hs ≡ 0 → hs ≡ []
      no_holds [] none = refl
      no_holds (h ∷ hs) none = absurd (omega arith)

  ended : HaveEnded sections shape run.holds
  ended = record { each_own = run.each_own; last = run.ends }

  turn_is_made : (holds : List Hold) (number : ℕ) → MakeLines sections shape [] holds (take (length holds) (lines printed))
      → TurnBreaks sections shape holds (lines printed) number → ⊥
  turn_is_made holds number make breaks =
      let within : length holds < length its.made = omega (arith, count, breaks.place, breaks.told) in
      let f = its_front holds make (omega (arith, within)) in
      let long : 0 < length (drop (length holds) its.made) = omega (arith, length-drop (length holds) its.made, within) in
      let there : slice_get (drop (length holds) its.made) 0 ≡ Some breaks.line =
      first_dropped its.made (callers_lines sections) (length holds) within
      ∙ ap (λ (ls : List (List ℕ)). slice_get ls (length holds)) (sym its.lines_are)
      ∙ ap (slice_get (lines printed)) (sym breaks.place) ∙ breaks.line_is in
      one_made holds f.tail (drop (length holds) its.made) breaks.line f.make there breaks.none
    where
      first_dropped : (xs ys : List (List ℕ)) (n : ℕ) → n < length xs → slice_get (drop n xs) 0 ≡ slice_get (xs ++ ys) n
      first_dropped [] ys n within = absurd (omega arith)
      first_dropped (x ∷ xs) ys zero within = refl
      first_dropped (x ∷ xs) ys (suc n) within = first_dropped xs ys n (omega arith)

      one_made : (holds tail : List Hold) (made : List (List ℕ)) (line : List ℕ) → MakeLines sections shape holds tail made
          → slice_get made 0 ≡ Some line → ((hold : Hold) → MakesLine sections shape holds hold line → ⊥) → ⊥
      one_made holds tail [] line make is none = cc
      one_made holds [] (first ∷ made) line make is none = make
      one_made holds (hold ∷ tail) (first ∷ made) line make is none =
          let same : first ≡ line = cc in none hold (subst (MakesLine sections shape holds hold) same make.0)

  pub no_broken : (number : ℕ) → IsFirstBroken sections shape printed number → ⊥
  no_broken number broken =
      elim broken.breaks [
        | inl turn ↦ turn_is_made broken.holds number broken.made turn
        | inr others ↦ elim others [
          | inl end ↦
              let many : length broken.holds ≡ length its.made = omega (arith, count, end.place, end.told) in
              end.more (subst (HaveEnded sections shape) (all_holds broken.holds broken.made many) ended)
          | inr caller ↦
              let many : length broken.holds ≡ length its.made = omega (arith, count, caller.told) in
              caller.other
              (ap (λ (ls : List (List ℕ)). slice_get ls number) its.lines_are
              ∙ ap (slice_get (its.made ++ callers_lines sections)) (caller.place ∙ ap (λ n. n + caller.caller) many)
              ∙ past_lines its.made (callers_lines sections) caller.caller)
        ]
      ]
