-- The lines of turns, one after another, and what breaks or ends them.
use Rattle.std.proofs.Common.{◌≡◌, ℕ, suc, ◌+◌, ◌<◌, ◌≤◌, true, false, List, [], ◌∷◌, ◌++◌, length, map, take, drop, inl, inr, refl, sym}
use Rattle.std.proofs.Common.{ap, ◌∙◌, subst, append_assoc, arith}
use Rattle.std.specs.Prelude.{slice_get, ◌==◌}
use Rattle.std.specs.List.{AllByRecursion, count_by, enumerate_from, flat_map, zip}
use Rattle.std.proofs.lemmas.Grind.{flat_map-append}
use Rattle.std.proofs.lemmas.List.{append-nil, drop_at, length-append, length-map, map-append, take_at}
use Rattle.keep_local.specs.declared.shape.Shape.{Shape}
use Rattle.keep_local.specs.declared.turn.Turn.{Turn}
use Rattle.keep_local.specs.Turns.{turns_of as count_turns}
use Rattle.kv_history.specs.Log.{Logged, EachHasSection, EachOwnFirst, IsOneThread}
use Rattle.run_texts.specs.Entries.{told_entry}
use Rattle.run_texts.specs.Callers.{Placed}
use Rattle.run_texts.specs.Text.{Hold, caller_lines, turn_line, turn_lines, turns_text}
use Rattle.run_texts.specs.Printed.{IsRun}
use Rattle.run_texts.proofs.Numbered.{enumerate_push}
use Rattle.run_texts.proofs.Printed.{count-held, hold_of, is_run}
use Rattle.run_texts.proofs.Texts.{text_is, told_pair}
use Rattle.run_check.specs.Broken.{HaveEnded, IsFirstBroken}
use Rattle.run_check.specs.Lines.{begins_turn, lines, turn_count}
use Rattle.run_check.specs.Made.{MakeLines, MakesLine}
use Rattle.run_check.specs.Runs.{Course, HasMade, IsUnderWay, OtherLine, holds_of}
use Rattle.run_check.proofs.Fronts.{front_line, has_line, no_turn, one_turn}
use Rattle.run_check.proofs.Lined.{IsLine, first_line, turn_is_line}
use Rattle.run_check.proofs.Makings.{as_many}
use Rattle.run_check.proofs.Moves.{last_left}
use Rattle.run_check.proofs.Passing.{line_long}

-- one more hold makes one more line
pub make_more : (sections : List Placed) (shape : Shape) (before holds : List Hold) (made : List (List ℕ)) (hold : Hold) (line : List ℕ)
    → MakeLines sections shape before holds made → MakesLine sections shape (before ++ holds) hold line
    → MakeLines sections shape before (holds ++ hold ∷ []) (made ++ line ∷ [])
make_more sections shape before [] [] hold line all one =
    (subst (λ (b : List Hold). MakesLine sections shape b hold line) (append-nil before) one, tt)
make_more sections shape before [] (first ∷ made) hold line all one = absurd all
make_more sections shape before (other ∷ holds) [] hold line all one = absurd all
make_more sections shape before (other ∷ holds) (first ∷ made) hold line all one = (
  all.0,
  make_more sections shape (before ++ other ∷ []) holds made hold line all.1
      (subst (λ (b : List Hold). MakesLine sections shape b hold line) (sym (append_assoc before (other ∷ []) holds)) one),
)

pub made_many : (sections : List Placed) (shape : Shape) (before holds : List Hold) (made : List (List ℕ))
    → MakeLines sections shape before holds made → length made ≡ length holds
made_many sections shape before [] [] all = refl
made_many sections shape before [] (first ∷ made) all = absurd all
made_many sections shape before (other ∷ holds) [] all = absurd all
made_many sections shape before (other ∷ holds) (first ∷ made) all =
    ap suc (made_many sections shape (before ++ other ∷ []) holds made all.1)

-- a line behind others
pub past_lines : (xs ys : List (List ℕ)) (n : ℕ) → slice_get (xs ++ ys) (length xs + n) ≡ slice_get ys n
past_lines [] ys n = let none : 0 + n ≡ n = omega arith in ap (slice_get ys) none
past_lines (x ∷ xs) ys n =
    let one : length (x ∷ xs) + n ≡ suc (length xs + n) = omega arith in
    ap (slice_get (x ∷ (xs ++ ys))) one ∙ past_lines xs ys n

-- ---- lines that are told to be of turns

pub all_told : (made more : List (List ℕ)) → AllByRecursion (λ line. begins_turn line ≡ true) made
    → turn_count (made ++ more) ≡ length made + turn_count more
all_told [] more told = omega arith
all_told (line ∷ made) more told = rw told.0 (omega (arith, all_told made more told.1))

told_more : (made : List (List ℕ)) (line : List ℕ) → AllByRecursion (λ l. begins_turn l ≡ true) made → begins_turn line ≡ true
    → AllByRecursion (λ l. begins_turn l ≡ true) (made ++ line ∷ [])
told_more [] line told one = (one, tt)
told_more (first ∷ made) line told one = (told.0, told_more made line told.1 one)

pub turn_told : (sections : List Placed) (n : ℕ) (one : _) → begins_turn (turn_line sections n one) ≡ true
unfolding turn_line
turn_told sections n one = refl

-- ---- turns and entries, one more each

zip_more : (turns : List Turn) (entries : List Logged) (turn : Turn) (entry : Logged) → length turns ≡ length entries
    → zip (turns ++ turn ∷ []) (entries ++ entry ∷ []) ≡ zip turns entries ++ (turn, entry) ∷ []
zip_more [] [] turn entry same = refl
zip_more [] (first ∷ entries) turn entry same = absurd (omega arith)
zip_more (first ∷ turns) [] turn entry same = absurd (omega arith)
zip_more (first ∷ turns) (other ∷ entries) turn entry same =
    ap (λ (rest : List (Turn × Logged)). (first, other) ∷ rest) (zip_more turns entries turn entry (omega arith))

zip_many : (turns : List Turn) (entries : List Logged) → length turns ≡ length entries → length (zip turns entries) ≡ length entries
zip_many [] [] same = refl
zip_many [] (first ∷ entries) same = absurd (omega arith)
zip_many (first ∷ turns) [] same = absurd (omega arith)
zip_many (first ∷ turns) (other ∷ entries) same = ap suc (zip_many turns entries (omega arith))

-- the text of some turns, by their journal
abbrev pub text_so_far : List Placed → Course → List ℕ
text_so_far sections course = turn_lines sections (map told_pair (zip course.turns course.log.entries))

line_more : (sections : List Placed) (turns : List Turn) (entries : List Logged) (turn : Turn) (entry : Logged)
    → length turns ≡ length entries
    → turn_lines sections (map told_pair (zip (turns ++ turn ∷ []) (entries ++ entry ∷ [])))
    ≡ turn_lines sections (map told_pair (zip turns entries)) ++ turn_line sections (length entries) (told_entry turn entry)
line_more sections turns entries turn entry same =
    let so_far = map told_pair (zip turns entries) in
    let f : (ℕ × _) → List ℕ = λ at. turn_line sections at.0 at.1 in
    let many : 0 + length so_far ≡ length entries = omega (arith, length-map (zip turns entries) told_pair, zip_many turns entries same) in
    ap (λ (all : List (Turn × Logged)). turn_lines sections (map told_pair all)) (zip_more turns entries turn entry same)
    ∙ ap (turn_lines sections) (map-append told_pair (zip turns entries) ((turn, entry) ∷ []))
    ∙ ap (flat_map f) (enumerate_push 0 so_far (told_entry turn entry))
    ∙ flat_map-append f (enumerate_from 0 so_far) ((0 + length so_far, told_entry turn entry) ∷ [])
    ∙ ap (λ (last : List ℕ). turn_lines sections so_far ++ last)
    (append-nil (turn_line sections (0 + length so_far) (told_entry turn entry))
    ∙ ap (λ (n : ℕ). turn_line sections n (told_entry turn entry)) many)

-- ---- the loop over the lines of turns

-- the lines so far were made by the holds of the turns so far
pub record Come (sections : List Placed) (shape : Shape) (printed rest : List ℕ) (course : Course) (number : ℕ) : Type 0 where
  pub under : IsUnderWay sections shape course
  pub made : List (List ℕ)
  pub make : MakeLines sections shape [] (holds_of course.turns) made
  pub lines_are : lines printed ≡ made ++ lines rest
  pub told : AllByRecursion (λ line. begins_turn line ≡ true) made
  pub text_is : printed ≡ text_so_far sections course ++ rest
  pub many : number ≡ length course.turns
  pub within : number + length rest ≤ length printed

pub come_none : (sections : List Placed) (shape : Shape) (printed : List ℕ) (course : Course) → IsUnderWay sections shape course
    → course.turns ≡ [] → Come sections shape printed printed course 0
come_none sections shape printed course under none = record {
  under = under;
  made = [];
  make = subst (λ (ts : List Turn). MakeLines sections shape [] (holds_of ts) []) (sym none) tt;
  lines_are = refl;
  told = tt;
  text_is = ap (λ (ts : List Turn). turn_lines sections (map told_pair (zip ts course.log.entries)) ++ printed) (sym none);
  many = sym (ap length none);
  within = omega arith;
}

module _ (sections : List Placed) (shape : Shape) (printed rest : List ℕ) (course : Course) (number : ℕ)
    (come : Come sections shape printed rest course number) where
  same_many : length course.turns ≡ length course.log.entries
  same_many = sym (length-map course.turns hold_of) ∙ as_many sections shape course come.under

  made_size : length come.made ≡ number
  made_size =
      made_many sections shape [] (holds_of course.turns) come.made come.make ∙ length-map course.turns hold_of ∙ sym come.many

  holds_size : length (holds_of course.turns) ≡ number
  holds_size = length-map course.turns hold_of ∙ sym come.many

  pub come_more : (after : Course) (behind : List ℕ) → HasMade sections shape course after rest behind
      → Come sections shape printed behind after (number + 1)
  come_more after behind has =
      let line = has.line in
      let one = told_entry has.turn has.entry in
      let is_line = subst IsLine (sym has.line_is) (turn_is_line sections (length course.log.entries) one) in
      let told_one : begins_turn line ≡ true = ap begins_turn has.line_is ∙ turn_told sections (length course.log.entries) one in
      let holds : holds_of after.turns ≡ holds_of course.turns ++ hold_of has.turn ∷ [] =
      ap holds_of has.turns ∙ map-append hold_of course.turns (has.turn ∷ []) in
      record {
        under = has.under_way;
        made = come.made ++ line ∷ [];
        make = subst (λ (hs : List Hold). MakeLines sections shape [] hs (come.made ++ line ∷ [])) (sym holds)
            (make_more sections shape [] (holds_of course.turns) come.made (hold_of has.turn) line come.make has.made);
        lines_are = come.lines_are
            ∙ ap (λ (r : List ℕ). come.made ++ lines r) has.text_is
            ∙ ap (λ (ls : List (List ℕ)). come.made ++ ls) (first_line line behind is_line)
            ∙ sym (append_assoc come.made (line ∷ []) (lines behind));
        told = told_more come.made line come.told told_one;
        text_is = come.text_is
            ∙ ap (λ (r : List ℕ). text_so_far sections course ++ r) has.text_is
            ∙ sym (append_assoc (text_so_far sections course) line behind)
            ∙ ap (λ (t : List ℕ). t ++ behind) (ap (λ (l : List ℕ). text_so_far sections course ++ l) has.line_is
            ∙ sym (line_more sections course.turns course.log.entries has.turn has.entry same_many)
            ∙ (λ i. turn_lines sections (map told_pair (zip (sym has.turns i) (sym has.entries i)))));
        many = omega (arith, come.many, ap length has.turns, length-append course.turns (has.turn ∷ []));
        within = omega (arith, come.within, ap length has.text_is, length-append line behind, line_long line is_line);
      }

  -- the lines so far are the first ones
  first_made : take (length (holds_of course.turns)) (lines printed) ≡ come.made
  first_made =
      ap (take (length (holds_of course.turns))) come.lines_are
      ∙ take_at come.made (lines rest) (length (holds_of course.turns)) (made_size ∙ sym holds_size)

  behind_made : drop (length (holds_of course.turns)) (lines printed) ≡ lines rest
  behind_made =
      ap (drop (length (holds_of course.turns))) come.lines_are
      ∙ drop_at come.made (lines rest) (length (holds_of course.turns)) (made_size ∙ sym holds_size)

  made_lines : MakeLines sections shape [] (holds_of course.turns) (take (length (holds_of course.turns)) (lines printed))
  made_lines = subst (MakeLines sections shape [] (holds_of course.turns)) (sym first_made) come.make

  counted : turn_count (lines printed) ≡ number + turn_count (lines rest)
  counted = ap turn_count come.lines_are ∙ all_told come.made (lines rest) come.told ∙ ap (λ (n : ℕ). n + turn_count (lines rest)) made_size

  -- a line behind them, by its number
  line_behind : (k : ℕ) → slice_get (lines printed) (number + k) ≡ slice_get (lines rest) k
  line_behind k =
      ap (λ (ls : List (List ℕ)). slice_get ls (number + k)) come.lines_are
      ∙ ap (λ (n : ℕ). slice_get (come.made ++ lines rest) (n + k)) (sym made_size)
      ∙ past_lines come.made (lines rest) k

  -- no turn makes a line that is told to be one's
  pub turn_broken : begins_turn rest ≡ true
      → ((hold : Hold) (line behind : List ℕ) → MakesLine sections shape (holds_of course.turns) hold line → rest ≡ line ++ behind → ⊥)
      → IsFirstBroken sections shape printed number
  turn_broken told none =
      let one = one_turn rest told in
      let found = has_line rest (some_text rest told) in
      record {
        holds = holds_of course.turns;
        made = made_lines;
        breaks = inl (record {
          place = sym holds_size;
          line = found.0;
          line_is = ap (slice_get (lines printed)) here ∙ line_behind 0 ∙ found.1;
          told = omega (arith, counted, one);
          none = λ hold made. let front = front_line rest found.0 found.1 in none hold found.0 front.0 made front.1;
        });
      }
    where
      here : number ≡ number + 0
      here = omega arith

      some_text : (text : List ℕ) → begins_turn text ≡ true → 0 < length text
      some_text [] is = cc
      some_text (byte ∷ bytes) is = omega arith

  -- there have to be more turns
  pub end_broken : begins_turn rest ≡ false → (HaveEnded sections shape (holds_of course.turns) → ⊥)
      → IsFirstBroken sections shape printed number
  end_broken other more = record {
    holds = holds_of course.turns;
    made = made_lines;
    breaks = inr (inl (record { place = sym holds_size; told = omega (arith, counted, no_turn rest other); more = more }));
  }

  -- another line than a caller's
  pub caller_broken : begins_turn rest ≡ false → HaveEnded sections shape (holds_of course.turns) → (caller : ℕ)
      → OtherLine sections rest caller → IsFirstBroken sections shape printed (number + caller)
  caller_broken other ended caller is = record {
    holds = holds_of course.turns;
    made = made_lines;
    breaks = inr (inr (record {
      caller = caller;
      place = ap (λ (n : ℕ). n + caller) (sym holds_size);
      told = omega (arith, counted, no_turn rest other, holds_size);
      ended = ended;
      callers = ap (take caller) behind_made ∙ is.callers;
      other = λ same. is.other (sym (line_behind caller) ∙ same);
    }));
  }

  -- a run
  pub run_ended : EachHasSection course.log → EachOwnFirst course.log → IsOneThread course.log.entries
      → HaveEnded sections shape (holds_of course.turns) → rest ≡ caller_lines sections → IsRun sections shape printed
  run_ended have own thread ended is =
      let under = come.under in
      let text : printed ≡ turns_text sections course.turns =
      come.text_is ∙ ap (λ (r : List ℕ). text_so_far sections course ++ r) is
      ∙ sym (text_is sections course.turns course.log (record { same = under.same; callers_are = have; own_first = own }) thread
      (sym under.called)) in
      subst (IsRun sections shape) (sym text)
      (is_run sections shape course.turns course.log under.same have (sym under.called) under.lawful
      (last_left sections shape course under ended)
      (λ caller section place. turns_held caller course.turns ∙ ended.each_own caller section place))
    where
      turns_held : (caller : ℕ) (turns : List Turn)
          → count_turns caller turns ≡ count_by (λ (hold : Hold). hold.caller == caller) (holds_of turns)
      turns_held caller turns = sym (count-held caller turns)

-- a line was passed
pub made_shorter : (sections : List Placed) (shape : Shape) (before after : Course) (text rest : List ℕ)
    → HasMade sections shape before after text rest → length rest < length text
made_shorter sections shape before after text rest has =
    let is_line = subst IsLine (sym has.line_is) (turn_is_line sections (length before.log.entries) (told_entry has.turn has.entry)) in
    omega (arith, ap length has.text_is, length-append has.line rest, line_long has.line is_line)
