use Rattle.std.proofs.Common.{◌≡◌, ◌∙◌, ◌++◌, ◌∷◌, [], sym, ap}
use Rattle.std.specs.Prelude.{slice_get}
use Rattle.mc_text.specs.Request.{view}
use Rattle.mc_text.specs.Commands.{commands_left}
use Rattle.kv_history.specs.Log.{applied_entry, own}
use Rattle.kv_history.proofs.Logs.{own-push}
use Rattle.kv_history.proofs.Next.{is_next}
use Rattle.history_trials.proofs.tests.both_applied.Goals as goal

pub apply-requires : goal.apply-requires
apply-requires g c = is_next c.in_ok-journal.journal 0 (view c.in-Some.written) (record {
  section = c.args.writer.now;
  rest = commands_left c.next.new.self;
  place = ap (λ sections. slice_get sections 0) c.in_ok-journal.ensures.sections;
  next = sym c.new.ensures.commands
      ∙ c.in-Some.ensures.commands
      ∙ ap (λ entries. own entries 0 ++ view c.in-Some.written ∷ commands_left c.next.new.self) (sym c.in_ok-journal.ensures.entries);
})

pub apply-requires-2 : goal.apply-requires-2
apply-requires-2 g c =
    let before = c.in_ok-journal.journal.entries in
    let none_yet : own c.apply.new.self.entries 1 ≡ [] =
    ap (λ entries. own entries 1) c.in_ok-first.ensures.applied
    ∙ own-push before (applied_entry before 0 (view c.in-Some.written)) 1
    ∙ ap (λ entries. own entries 1 ++ []) c.in_ok-journal.ensures.entries in
    is_next c.apply.new.self 1 (view c.in-Some-next.read) (record {
      section = c.args.reader.now;
      rest = commands_left c.next-2.new.self;
      place = ap (λ sections. slice_get sections 1) (c.in_ok-first.ensures.sections ∙ c.in_ok-journal.ensures.sections);
      next = sym c.new-2.ensures.commands
          ∙ c.in-Some-next.ensures.commands
          ∙ ap (λ known. known ++ view c.in-Some-next.read ∷ commands_left c.next-2.new.self) (sym none_yet);
    })
