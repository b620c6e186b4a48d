-- What is known of the turns once all shares came back.
use Rattle.std.proofs.Common.{◌≡◌, ℕ, zero, suc, ◌<◌, false, true, not, Bool, List, [], ◌∷◌, ◌++◌, length, map, get_or, refl, ap, sym, ◌∙◌}
use Rattle.std.proofs.Common.{subst, arith, Option, Some, None, length-append}
use Rattle.std.specs.Prelude.{All, option_map, slice_get, slice_index, ◌||◌}
use Rattle.std.specs.List.{list_any}
use Rattle.std.proofs.lemmas.List.{append-nil}
use Rattle.std.proofs.lemmas.Option.{get_or_from_slice_get, slice_get-get_or, slice_get-map, slice_get_within}
use Rattle.atomic_table.specs.Seated.{TableId}
use Rattle.lock_rules.specs.Tag.{Tag}
use Rattle.keep_local.specs.declared.turn.Turn.{Turn}
use Rattle.keep_local.specs.States.{IsShareOf, ShareState, TrailState, all_turns, callers_in, option_list}
use Rattle.keep_local.specs.Turns.{turns_of}
use Rattle.keep_local.specs.Views.{times}
use Rattle.keep_local.proofs.Trails.{times_callers}
use Rattle.clof_compose.specs.Contexts.{Context}
use Rattle.clof_compose.specs.Courses.{course_of}
use Rattle.clof_compose.specs.Meanings.{Rest}
use Rattle.clof_compose.specs.Roots.{IsFit}
use Rattle.clof_compose.specs.declared.root.Root.{Root}
use Rattle.mc_text.specs.Reading.{commands_of}
use Rattle.kv_history.specs.Log.{Log, EachHasSection, EachOwnFirst, NoneVoid, calls, own}
use Rattle.kv_history.proofs.Next.{count-own}
use Rattle.run_texts.specs.Printed.{IsRun}
use Rattle.run_texts.specs.Callers.{Placed}
use Rattle.run_texts.specs.Text.{turns_text}
use Rattle.run_texts.specs.Views.{section_view}
use Rattle.run_texts.specs.declared.section.Section.{Section}
use Rattle.run_texts.proofs.Printed.{is_run}
use Rattle.run_texts.proofs.Texts.{bytes_of}
use Rattle.threaded_runner.specs.Books.{book_calls}
use Rattle.threaded_runner.specs.declared.book.Book.{Book}
use Rattle.threaded_runner.specs.Crews.{IsCrew}
use Rattle.threaded_runner.specs.declared.crew.Crew.{Crew}
use Rattle.threaded_runner.specs.Done.{AreDone}
use Rattle.threaded_runner.specs.Finished.{EachGaveAll, EachMadeAll, IsFinished}

blank : ShareState
blank = record {
  name = record { words = 0; slots = 0; views_name = 0; atom = 0; block = 0; offset = 0; slot_names = [] };
  caller = 0;
  made = 0;
  quota = 0;
}

-- each caller has made as many turns as its section has commands
pub turns_made : (s : TrailState) (shares : List ShareState) (sections : List (List ℕ)) → All (IsShareOf s) shares
    → AreDone s.name s.quotas shares → length shares ≡ length sections
    → s.quotas ≡ map (λ (one : List ℕ). length (commands_of one)) sections → EachMadeAll sections (all_turns s)
turns_made s shares sections counted done many quotas caller section at =
    let within = slice_get_within sections caller section at in
    let share = get_or shares caller blank in
    let inside : caller < length shares = omega (arith, within, many) in
    let here = done caller share (slice_get-get_or shares caller blank inside) in
    let is = counted caller blank inside in
    let quota = ap (λ (l : List ℕ). slice_get l caller) quotas
    ∙ slice_get-map (λ (one : List ℕ). length (commands_of one)) sections caller
    ∙ ap (option_map (λ (one : List ℕ). length (commands_of one))) at in
    ap (λ (n : ℕ). turns_of n (all_turns s)) (sym here.caller_is) ∙ sym is.made ∙ here.made
    ∙ get_or_from_slice_get s.quotas caller (length (commands_of section)) 0 quota

all_own : {A : Type 0} (all own rest : List A) → all ≡ own ++ rest → length own ≡ length all → own ≡ all
all_own all own [] parts many = sym (append-nil own) ∙ sym parts
all_own all own (x ∷ rest) parts many =
    let more = ap length parts ∙ length-append own (x ∷ rest) in absurd (omega (arith, more, many))

-- and so it has given all its commands
pub each_gave : (log : Log) (turns : List Turn) → EachOwnFirst log → calls log ≡ callers_in turns → EachMadeAll log.sections turns
    → EachGaveAll log
each_gave log turns first called made caller section at =
    let own_are = first caller section at in
    let many = sym (count-own log.entries caller) ∙ ap (times caller) called ∙ times_callers caller turns ∙ made caller section at in
    all_own (commands_of section) (own log.entries caller) own_are.0 own_are.1 many

-- where no turn is open, all are closed
pub all_closed : (s : TrailState) → s.current ≡ None → all_turns s ≡ s.closed
all_closed s closed = ap (λ (o : Option Turn). s.closed ++ option_list o) closed ∙ append-nil s.closed

-- what callers leave who have made all their turns, none of which found no memory
pub finished : (root : Root Book) (shares : List ShareState) → IsFit book_calls root
    → root.trail.quotas ≡ map (λ (one : List ℕ). length (commands_of one)) root.payload.journal.sections → All (IsShareOf root.trail) shares
    → AreDone root.trail.name root.trail.quotas shares → length shares ≡ length root.payload.journal.sections
    → EachOwnFirst root.payload.journal → NoneVoid root.payload.journal.entries
    → root.trail.recorded ≡ true → IsFinished root.trail root.payload.journal
finished root shares fit quotas counted done many first whole recorded =
    let made = subst (EachMadeAll root.payload.journal.sections) (all_closed root.trail fit.settled.closed)
    (turns_made root.trail shares root.payload.journal.sections counted done many quotas) in
    record {
      recorded = recorded;
      closed = fit.settled.closed;
      lawful = fit.settled.trail.lawful.0;
      ends = fit.left;
      called = fit.settled.calls_are;
      whole = whole;
      each_made = made;
      each_gave = each_gave root.payload.journal root.trail.closed first fit.settled.calls_are made;
    }

-- and the same of equal parts
pub finished_parts : (trail trail' : TrailState) (log log' : Log) → trail' ≡ trail → log' ≡ log → IsFinished trail log
    → IsFinished trail' log'
finished_parts trail trail' log log' same equal left = subst (λ (s : TrailState). IsFinished s log') (sym same)
    (subst (IsFinished trail) (sym equal) left)

-- a finished run's text is that of a run
pub run_of : (trail : TrailState) (log : Log) (sections : List Section) → IsFinished trail log
    → log.sections ≡ map (λ (one : Section). one.bytes.now) sections → EachHasSection log
    → IsRun (map section_view sections) trail.shape (turns_text (map section_view sections) trail.closed)
run_of trail log sections left same callers =
    let placed = map section_view sections in
    let bytes : log.sections ≡ map (λ (one : Placed). one.bytes) placed = same ∙ bytes_of sections in
    is_run placed trail.shape trail.closed log bytes callers (sym left.called) left.lawful left.ends
    (λ caller section at. left.each_made caller section.bytes (ap (λ (l : List (List ℕ)). slice_get l caller) bytes
    ∙ slice_get-map (λ (one : Placed). one.bytes) placed caller ∙ ap (option_map (λ (one : Placed). one.bytes)) at))

-- where no caller stopped, each goes on
none_stops : (stopped : List Bool) (k : ℕ) → list_any (λ stops. stops) stopped ≡ false → k < length stopped
    → slice_get stopped k ≡ Some false
none_stops [] k none within = absurd (omega (arith, within))
none_stops (true ∷ rest) k none within = absurd (cc)
none_stops (false ∷ rest) zero none within = refl
none_stops (false ∷ rest) (suc k) none within = none_stops rest k none (omega (arith, within))

going : (started any : Bool) → false ≡ (not started || any) → (started ≡ true) × (any ≡ false)
going true any e = (refl, sym e)
going false any e = absurd (cc)

-- where memory wasn't refused, every share has made all its turns
pub done_after : {P : Type 0} (rest : P → Rest) (has : Context → Type 0) (level count : ℕ) (tag : Tag) (crew : Crew P)
    → IsCrew rest has level count tag crew → crew.refused ≡ false → (name : TableId) (quotas : List ℕ) → (course_of tag).name ≡ name
    → (course_of tag).quotas ≡ quotas → AreDone name quotas crew.shares.items
done_after rest has level count tag crew is fine name quotas name_is quotas_are k s e =
    let on = going crew.started (list_any (λ stops. stops) crew.stopped.items) (sym fine ∙ is.refused) in
    let within = slice_get_within crew.shares.items k s e in
    let many = is.many in
    let each = is.each on.0 in
    let made = is.made k s (none_stops crew.stopped.items k on.1 (omega (arith, within, many, each))) e in
    let own = is.shares k s e in
    record {
      own = own.own ∙ name_is;
      caller_is = own.caller_is;
      made = made ∙ own.quota ∙ ap (λ (l : List ℕ). slice_index l k) quotas_are;
    }
