-- Each printed text is that of a run, or has a first broken line.
use Rattle.std.proofs.Common.{◌≡◌, ◌≢◌, ℕ, zero, suc, ◌+◌, ◌^◌, ◌<◌, ◌≤◌, true, ◌⊎◌, List, [], ◌∷◌, ◌++◌, length, take, drop, Option, Some}
use Rattle.std.proofs.Common.{None, inl, inr, refl, sym, ap, ◌∙◌, subst, append_assoc, arith}
use Rattle.std.specs.Prelude.{slice_get, IfSome, ◌==◌}
use Rattle.std.specs.List.{All, count_by, flat_map}
use Rattle.std.proofs.lemmas.Bool.{cases_Bool}
use Rattle.std.proofs.lemmas.List.{drop_at, map-append, take_at}
use Rattle.std.proofs.lemmas.List.Elements.{All-cons, All-nil}
use Rattle.keep_local.specs.declared.shape.Shape.{Shape}
use Rattle.keep_local.specs.declared.turn.Turn.{Turn}
use Rattle.keep_local.specs.Shapes.{top_of}
use Rattle.keep_local.specs.Turns.{FollowEachOther, last_turn}
use Rattle.mc_text.specs.Request.{WholeCommand}
use Rattle.mc_text.specs.Reading.{commands_of}
use Rattle.kv_history.specs.Answer.{store_of}
use Rattle.run_texts.specs.Callers.{Placed}
use Rattle.run_texts.specs.Text.{Hold, caller_lines, commands_behind, run_text, turns_behind}
use Rattle.run_texts.specs.Printed.{IsRun}
use Rattle.run_check.specs.Broken.{HaveEnded, IsFirstBroken, callers_lines}
use Rattle.run_check.specs.Lines.{begins_turn, lines, turn_count}
use Rattle.run_check.specs.Made.{MakeLines, callers_of, turns_of}
use Rattle.run_check.proofs.Comings.{all_told, made_many, make_more, past_lines}
use Rattle.run_check.proofs.Lined.{lines_joined}
use Rattle.run_check.proofs.Makings.{has_section, line_once}
use Rattle.run_check.proofs.RunLines.{Lines, all_make, behind_push, lines_from, made_told_turns, text_behind, turns_push}
use Rattle.run_check.proofs.Settling.{Settled, equal, line_settled, same_text}

-- ---- what holds that make lines give

module _ (sections : List Placed) (shape : Shape) where
  -- their commands can be given
  given_by : (before holds : List Hold) (made : List (List ℕ)) (given : List WholeCommand)
      → commands_behind sections [] (callers_of before) ≡ Some given → MakeLines sections shape before holds made
      → (more : List WholeCommand) × (commands_behind sections (callers_of before) (callers_of holds) ≡ Some more)
  given_by before [] [] given given_are make = ([], refl)
  given_by before [] (line ∷ made) given given_are make = absurd make
  given_by before (hold ∷ holds) [] given given_are make = absurd make
  given_by before (hold ∷ holds) (line ∷ made) given given_are make =
      let command = make.0.command in
      let callers = map-append (λ (h : Hold). h.caller) before (hold ∷ []) in
      let later = given_by (before ++ hold ∷ []) holds made (given ++ command ∷ [])
      (ap (commands_behind sections []) callers
      ∙ behind_push sections [] (callers_of before) hold.caller given command given_are make.0.next) make.1 in
      let rest : commands_behind sections (callers_of before ++ hold.caller ∷ []) (callers_of holds) ≡ Some later.0 =
      ap (λ (b : List ℕ). commands_behind sections b (callers_of holds)) (sym callers) ∙ later.1 in
      (command ∷ later.0, rw (make.0.next, rest) refl)

  -- their turns are lawful
  lawful_by : (before holds : List Hold) (made : List (List ℕ)) → MakeLines sections shape before holds made
      → FollowEachOther shape (turns_of shape before) (turns_behind shape (turns_of shape before) holds)
  lawful_by before [] made make = tt
  lawful_by before (hold ∷ holds) [] make = absurd make
  lawful_by before (hold ∷ holds) (line ∷ made) make = (
    make.0.lawful,
    subst (λ (b : List Turn). FollowEachOther shape b (turns_behind shape b holds)) (turns_push shape [] before hold)
        (lawful_by (before ++ hold ∷ []) holds made make.1),
  )

  -- their callers have sections
  callers_by : (before holds : List Hold) (made : List (List ℕ)) → MakeLines sections shape before holds made
      → All (λ hold. hold.caller < length sections) holds
  callers_by before [] made make = All-nil (λ (hold : Hold). hold.caller < length sections)
  callers_by before (hold ∷ holds) [] make = absurd make
  callers_by before (hold ∷ holds) (line ∷ made) make =
      All-cons (λ (h : Hold). h.caller < length sections) hold holds
      (has_section sections (callers_of before) hold.caller make.0.command make.0.next)
      (callers_by (before ++ hold ∷ []) holds made make.1)

  -- they make no other lines
  made_once : (before holds : List Hold) (made other : List (List ℕ)) → MakeLines sections shape before holds made
      → MakeLines sections shape before holds other → made ≡ other
  made_once before [] [] [] make also = refl
  made_once before [] [] (line ∷ other) make also = absurd also
  made_once before [] (line ∷ made) other make also = absurd make
  made_once before (hold ∷ holds) [] other make also = absurd make
  made_once before (hold ∷ holds) (line ∷ made) [] make also = absurd also
  made_once before (hold ∷ holds) (line ∷ made) (one ∷ other) make also =
      let first = line_once sections shape before hold line one make.0 also.0 in
      let rest = made_once (before ++ hold ∷ []) holds made other make.1 also.1 in
      (λ i. first i ∷ rest i)

  -- a text of these lines and those of all callers is that of a run
  run_by : (printed : List ℕ) (holds : List Hold) (made : List (List ℕ)) → MakeLines sections shape [] holds made
      → lines printed ≡ made ++ callers_lines sections → HaveEnded sections shape holds → IsRun sections shape printed
  unfolding run_text
  run_by printed holds made make lines_are ended =
      let commands = given_by [] holds made [] refl make in
      let all : Lines sections shape [] holds [] commands.0 =
      all_make sections shape [] holds [] commands.0 refl commands.1 (lawful_by [] holds made make) in
      let text = text_behind sections shape 0 [] (store_of []) holds commands.0 in
      let same : lines (text ++ caller_lines sections) ≡ lines printed =
      all.lines_are (caller_lines sections)
      ∙ (λ i. made_once [] holds all.made made all.make make i ++ lines_from 0 sections i)
      ∙ sym lines_are in
      let text_is : run_text sections shape holds ≡ text ++ caller_lines sections = rw commands.1 refl in
      record {
        holds = holds;
        callers = callers_by [] holds made make;
        each_own = ended.each_own;
        printed_is = sym (lines_joined printed) ∙ ap (flat_map (λ (line : List ℕ). line)) (sym same)
            ∙ lines_joined (text ++ caller_lines sections) ∙ sym text_is;
        lawful = lawful_by [] holds made make;
        ends = ended.last;
      }

-- ---- what is settled

-- whether each caller from a number on has held as often as its section has commands
each_from : (n : ℕ) (sections : List Placed) (holds : List Hold)
    → Settled ((k : ℕ) (section : Placed) → slice_get sections k ≡ Some section
    → count_by (λ hold. hold.caller == n + k) holds ≡ length (commands_of section.bytes))
each_from n [] holds = inl (λ k section is. cc)
each_from n (first ∷ sections) holds =
    elim (equal (count_by (λ hold. hold.caller == n + 0) holds) (length (commands_of first.bytes))) [
      | inr other ↦ inr (λ all. other (all 0 first refl))
      | inl same ↦ elim (each_from (n + 1) sections holds) [
        | inr other ↦ inr (λ all. other (λ k section is.
            let one : (n + 1) + k ≡ n + suc k = omega arith in
            ap (λ (c : ℕ). count_by (λ hold. hold.caller == c) holds) one ∙ all (suc k) section is))
        | inl rest ↦ inl (both n first sections holds same rest)
      ]
    ]
  where
    both : (n : ℕ) (first : Placed) (sections : List Placed) (holds : List Hold)
        → count_by (λ hold. hold.caller == n + 0) holds ≡ length (commands_of first.bytes)
        → ((k : ℕ) (section : Placed) → slice_get sections k ≡ Some section
        → count_by (λ hold. hold.caller == (n + 1) + k) holds ≡ length (commands_of section.bytes))
        → (k : ℕ) (section : Placed) → slice_get (first ∷ sections) k ≡ Some section
        → count_by (λ hold. hold.caller == n + k) holds ≡ length (commands_of section.bytes)
    both n first sections holds same rest zero section is =
        let one : first ≡ section = cc in same ∙ ap (λ (s : Placed). length (commands_of s.bytes)) one
    both n first sections holds same rest (suc k) section is =
        let one : n + suc k ≡ (n + 1) + k = omega arith in
        ap (λ (c : ℕ). count_by (λ hold. hold.caller == c) holds) one ∙ rest k section is

last_settled : (top : ℕ) (last : Option Turn) → Settled (IfSome last (λ t. t.left ≡ top))
last_settled top None = inl tt
last_settled top (Some turn) = equal turn.left top

ended_settled : (sections : List Placed) (shape : Shape) (holds : List Hold) → Settled (HaveEnded sections shape holds)
ended_settled sections shape holds =
    let zero_more : (k : ℕ) → 0 + k ≡ k = λ k. omega arith in
    elim (each_from 0 sections holds) [
      | inr other ↦ inr (λ ended. other (λ k section is.
          ap (λ (c : ℕ). count_by (λ hold. hold.caller == c) holds) (zero_more k) ∙ ended.each_own k section is))
      | inl each ↦ elim (last_settled (top_of shape) (last_turn (turns_of shape holds))) [
        | inr other ↦ inr (λ ended. other ended.last)
        | inl last ↦ inl (record {
          each_own = λ k section is.
              ap (λ (c : ℕ). count_by (λ hold. hold.caller == c) holds) (sym (zero_more k)) ∙ each k section is;
          last = last;
        })
      ]
    ]

-- two lists are the same, or differ at a first place
record Differ (xs ys : List (List ℕ)) : Type 0 where
  place : ℕ
  front : take place xs ≡ take place ys
  other : slice_get xs place ≢ slice_get ys place

compared_lists : (xs ys : List (List ℕ)) → (xs ≡ ys) ⊎ Differ xs ys
compared_lists [] [] = inl refl
compared_lists [] (y ∷ ys) = inr (record { place = 0; front = refl; other = λ same. cc })
compared_lists (x ∷ xs) [] = inr (record { place = 0; front = refl; other = λ same. cc })
compared_lists (x ∷ xs) (y ∷ ys) =
    elim (same_text x y) [
      | inr differ ↦ inr (record { place = 0; front = refl; other = λ same. let one : x ≡ y = cc in differ one })
      | inl same ↦ elim (compared_lists xs ys) [
        | inl rest ↦ inl (λ i. same i ∷ rest i)
        | inr later ↦ inr (record {
          place = suc later.place;
          front = (λ i. same i ∷ later.front i);
          other = later.other;
        })
      ]
    ]

-- ---- the walk over the lines of a text

module _ (sections : List Placed) (shape : Shape) (printed : List ℕ) (few : length sections < 2 ^ 32) (low : top_of shape ≤ 32) where
  abbrev Verdict : Type 0
  Verdict = IsRun sections shape printed ⊎ ((number : ℕ) × IsFirstBroken sections shape printed number)

  module _ (holds : List Hold) (made more : List (List ℕ)) (make : MakeLines sections shape [] holds made)
      (lines_are : lines printed ≡ made ++ more) where
    size : length made ≡ length holds
    size = made_many sections shape [] holds made make

    made_front : MakeLines sections shape [] holds (take (length holds) (lines printed))
    made_front = subst (MakeLines sections shape [] holds)
        (sym (ap (take (length holds)) lines_are ∙ take_at made more (length holds) size)) make

    counted : turn_count (lines printed) ≡ length holds + turn_count more
    counted =
        ap turn_count lines_are ∙ all_told made more (made_told_turns sections shape [] holds made make)
        ∙ ap (λ (n : ℕ). n + turn_count more) size

    line_there : (k : ℕ) → slice_get (lines printed) (length holds + k) ≡ slice_get more k
    line_there k =
        ap (λ (ls : List (List ℕ)). slice_get ls (length holds + k)) lines_are
        ∙ ap (λ (n : ℕ). slice_get (made ++ more) (n + k)) (sym size) ∙ past_lines made more k

    -- behind all lines of turns
    at_end : turn_count more ≡ 0 → Verdict
    at_end none =
        elim (ended_settled sections shape holds) [
          | inr left ↦ inr (
            length holds,
            record {
              holds = holds;
              made = made_front;
              breaks = inr (inl (record { place = refl; told = omega (arith, counted, none); more = left }));
            },
          )
          | inl ended ↦ elim (compared_lists more (callers_lines sections)) [
            | inl same ↦ inl (run_by sections shape printed holds made make (lines_are ∙ ap (λ (m : List (List ℕ)). made ++ m) same) ended)
            | inr differ ↦ inr (
              length holds + differ.place,
              record {
                holds = holds;
                made = made_front;
                breaks = inr (inr (record {
                  caller = differ.place;
                  place = refl;
                  told = omega (arith, counted, none);
                  ended = ended;
                  callers = ap (take differ.place)
                      (ap (drop (length holds)) lines_are ∙ drop_at made more (length holds) size) ∙ differ.front;
                  other = λ same. differ.other (sym (line_there differ.place) ∙ same);
                }));
              },
            )
          ]
        ]

  walk : (more : List (List ℕ)) (holds : List Hold) (made : List (List ℕ)) → MakeLines sections shape [] holds made
      → lines printed ≡ made ++ more → Verdict
  walk [] holds made make lines_are = at_end holds made [] make lines_are refl
  walk (line ∷ more) holds made make lines_are =
      elim (cases_Bool (begins_turn line)) [
        | inr other ↦ at_end holds made (line ∷ more) make lines_are (rw other refl)
        | inl told ↦
            let given = given_by sections shape [] holds made [] refl make in
            elim (line_settled sections shape few low holds given.0 given.1 line) [
              | inl found ↦
                  walk more (holds ++ found.0 ∷ []) (made ++ line ∷ [])
                  (make_more sections shape [] holds made found.0 line make found.1)
                  (lines_are ∙ sym (append_assoc made (line ∷ []) more))
              | inr none ↦ inr (
                length holds,
                record {
                  holds = holds;
                  made = made_front holds made (line ∷ more) make lines_are;
                  breaks = inl (record {
                    place = refl;
                    line = line;
                    line_is = ap (slice_get (lines printed)) (here (length holds)) ∙ line_there holds made (line ∷ more) make lines_are 0;
                    told = longer holds line more told (counted holds made (line ∷ more) make lines_are);
                    none = none;
                  });
                },
              )
            ]
      ]
    where
      here : (n : ℕ) → n ≡ n + 0
      here n = omega arith

      longer : (holds : List Hold) (line : List ℕ) (more : List (List ℕ)) → begins_turn line ≡ true
          → turn_count (lines printed) ≡ length holds + turn_count (line ∷ more) → length holds < turn_count (lines printed)
      longer holds line more told count =
          let one : turn_count (line ∷ more) ≡ 1 + turn_count more = rw told refl in omega (arith, count, one)

  pub one_applies : Verdict
  one_applies = walk (lines printed) [] [] tt refl
