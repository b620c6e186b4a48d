use Rattle.std.proofs.Common.{◌≡◌, ◌∙◌, ◌++◌, ◌∷◌, [], false, refl, sym, ap, subst, append_assoc}
use Rattle.std.proofs.lemmas.List.{map-append}
use Rattle.std.proofs.lemmas.List.Elements.{All-push}
use Rattle.std.specs.Prelude.{slice_get}
use Rattle.mc_text.specs.Request.{view}
use Rattle.mc_text.specs.Commands.{commands_left}
use Rattle.kv_history.specs.Log.{Logged, NoneVoid, applied_entry, commands, own}
use Rattle.kv_history.proofs.Logs.{own-push}
use Rattle.kv_history.proofs.Next.{is_next}
use Rattle.history_trials.proofs.tests.applied.Goals as goal

pub apply-requires : goal.apply-requires
apply-requires c =
    is_next c.loop-command.journal 0 (view c.in-Some.command) (record {
      section = c.args.section.now;
      rest = commands_left c.next.new.self;
      place = ap (λ sections. slice_get sections 0) c.loop-command.invariant.section;
      next = c.loop-command.invariant.next
          ∙ ap (λ later. commands c.loop-command.journal.entries ++ later) c.in-Some.ensures.commands
          ∙ ap (λ known. known ++ view c.in-Some.command ∷ commands_left c.next.new.self) (sym c.loop-command.invariant.alone);
    })

pub loop-command-preserved : goal.loop-command-preserved
loop-command-preserved c =
    let entries = c.loop-command.journal.entries in
    let command = view c.in-Some.command in
    let entry = applied_entry entries 0 command in
    let entries_are : c.apply.new.self.entries ≡ entries ++ entry ∷ [] = c.in_ok-apply.ensures.applied in
    let more : commands entries ++ command ∷ [] ≡ commands c.apply.new.self.entries =
    sym (map-append (λ entry. entry.command) entries (entry ∷ [])) ∙ ap commands (sym entries_are) in
    let none : NoneVoid (entries ++ entry ∷ []) =
    All-push (λ (entry : Logged). entry.void ≡ false) entries entry c.loop-command.invariant.done refl in
    record {
      section = c.in_ok-apply.ensures.sections ∙ c.loop-command.invariant.section;
      alone = ap (λ entries. own entries 0) entries_are ∙ own-push entries entry 0
          ∙ ap (λ known. known ++ command ∷ []) c.loop-command.invariant.alone ∙ more;
      next = c.loop-command.invariant.next
          ∙ ap (λ later. commands entries ++ later) c.in-Some.ensures.commands
          ∙ sym (append_assoc (commands entries) (command ∷ []) (commands_left c.next.new.self))
          ∙ ap (λ known. known ++ commands_left c.next.new.self) more;
      done = subst NoneVoid (sym entries_are) none;
    }
