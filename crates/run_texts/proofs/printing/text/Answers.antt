use Rattle.std.proofs.Common.{◌≡◌, ◌++◌, [], Some, ◌<◌, List, ℕ, map, get_or, take, length, refl, sym, ap, ◌∙◌, append_assoc, arith}
use Rattle.std.specs.Prelude.{option_map, slice_get}
use Rattle.std.specs.List.{zip}
use Rattle.std.proofs.lemmas.List.{append-nil, length-map}
use Rattle.keep_local.specs.declared.turn.Turn.{Turn}
use Rattle.keep_local.specs.States.{callers_in}
use Rattle.kv_history.specs.Log.{Log, Logged}
use Rattle.run_texts.proofs.Texts.{IsPrinted, bytes_of, pair_at, pairs_within, text_is, told_pair}
use Rattle.std.proofs.lemmas.Option.{slice_get_within, slice_get-map, slice_get-get_or, get_or_from_slice_get}
use Rattle.run_texts.specs.declared.section.Section.{Section}
use Rattle.run_texts.specs.Text.{line_front, turn_line, turn_lines, caller_line, caller_lines}
use Rattle.run_texts.specs.Entries.{told_entry}
use Rattle.run_texts.specs.Views.{section_view}
use Rattle.run_texts.proofs.Numbered.{joined_more, take_all}
use Rattle.run_texts.proofs.printing.text.Goals as goal

-- the section of the caller at a place
section_at : (sections : List Section) (all : List (List ℕ)) (place : ℕ) (none : Section)
    → all ≡ map (λ section. section.bytes.now) sections
    → place < length sections → slice_get all place ≡ Some (get_or sections place none).bytes.now
section_at sections all place none same within =
    ap (λ (xs : List (List ℕ)). slice_get xs place) same
    ∙ slice_get-map (λ (s : Section). s.bytes.now) sections place
    ∙ ap (option_map (λ (s : Section). s.bytes.now)) (slice_get-get_or sections place none within)

pub push_caller-requires : goal.push_caller-requires
push_caller-requires c =
    let none : Section = record { pu = 0; bytes = record { ref_ptr = (0, 0); now = [] } } in
    section_at c.args.sections.now c.args.journal.now.sections c.loop-caller.caller none c.requires.same (omega arith)

-- as many turns as entries
same_length : (turns : List Turn) (entries : List Logged) → callers_in turns ≡ map (λ (e : Logged). e.caller) entries
    → length turns ≡ length entries
same_length turns entries same =
    sym (length-map turns (λ (t : Turn). t.caller)) ∙ ap length same ∙ length-map entries (λ (e : Logged). e.caller)

pub bounds-turns-number : goal.bounds-turns-number
bounds-turns-number c =
    omega (arith, same_length c.args.turns.now c.args.journal.now.entries c.requires.calls)

pub loop-number-preserved : goal.loop-number-preserved
loop-number-preserved c =
    let sections = map section_view c.args.sections.now in
    let turns = c.args.turns.now in
    let entries = c.args.journal.now.entries in
    let number = c.loop-number.number in
    let none : Turn = record { caller = 0; climb = 0; tests = 0; left = 0 } in
    let turn : Turn = get_or turns number none in
    let pushed = c.in_ok-push_entry.ensures in
    let entry : Logged = pushed.0 in
    let size = same_length turns entries c.requires.calls in
    let there : slice_get turns number ≡ Some turn = slice_get-get_or turns number none (omega (arith, size)) in
    let pair = pair_at turns entries number turn entry there pushed.1 in
    let within = slice_get_within (zip turns entries) number (turn, entry) pair in
    record {
      within = c.loop-number.invariant.within;
      lines = pushed.2 ∙ ap (λ front. front ++ turn_line sections number (told_entry turn entry)) c.loop-number.invariant.lines
          ∙ sym (joined_more told_pair (λ at. turn_line sections at.0 at.1) (zip turns entries) number (turn, entry) (turn, entry) within
          (sym (get_or_from_slice_get (zip turns entries) number (turn, entry) (turn, entry) pair)));
      front = λ same. c.in_ok-set_front.ensures ∙ ap line_front (omega arith);
    }

pub loop-caller-init : goal.loop-caller-init
loop-caller-init c =
    let sections = map section_view c.args.sections.now in
    let turns = c.args.turns.now in
    let entries = c.args.journal.now.entries in
    c.loop-number.invariant.lines
    ∙ ap (λ (all : List (Turn × Logged)). turn_lines sections (map told_pair all))
    (take_all (zip turns entries) c.loop-number.number (omega (arith, pairs_within turns entries)))
    ∙ sym (append-nil (turn_lines sections (map told_pair (zip turns entries))))

pub loop-caller-preserved : goal.loop-caller-preserved
loop-caller-preserved c =
    let caller = c.loop-caller.caller in
    let sections = c.args.sections.now in
    let none : Section = record { pu = 0; bytes = record { ref_ptr = (0, 0); now = [] } } in
    let section : Section = get_or sections caller none in
    let line = caller_line caller (section_view section) in
    let turns = turn_lines (map section_view sections) (map told_pair (zip c.args.turns.now c.args.journal.now.entries)) in
    let callers = caller_lines (map section_view (take caller sections)) in
    c.in_ok-push_caller.ensures ∙ ap (λ front. front ++ line) c.loop-caller.invariant
    ∙ append_assoc turns callers line
    ∙ ap (λ end. turns ++ end) (sym
    (joined_more section_view (λ at. caller_line at.0 at.1) sections caller section none (omega arith) refl))

pub returns : goal.returns
returns c =
    let sections = c.args.sections.now in
    let log : Log = c.args.journal.now in
    let turns = turn_lines (map section_view sections) (map told_pair (zip c.args.turns.now log.entries)) in
    let printed : IsPrinted (map section_view sections) log = record {
      same = c.requires.same ∙ bytes_of sections;
      callers_are = c.facts.ensures.callers;
      own_first = c.facts.ensures.own_first;
    } in
    record {
      text = c.loop-caller.invariant
          ∙ ap (λ ss. turns ++ caller_lines (map section_view ss)) (take_all sections c.loop-caller.caller (omega arith))
          ∙ sym (text_is (map section_view sections) c.args.turns.now log printed (c.facts.ensures.one_thread c.requires.whole)
          c.requires.calls);
    }
