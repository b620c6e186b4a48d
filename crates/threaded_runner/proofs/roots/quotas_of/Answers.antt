use Rattle.std.proofs.Common.{ap, sym, ◌∷◌, ◌++◌, [], ◌∙◌, length, List, ℕ}
use Rattle.mc_text.specs.Reading.{commands_of}
use Rattle.threaded_runner.proofs.Sums.{one_read}
use Rattle.threaded_runner.proofs.roots.quotas_of.Goals as goal

pub loop-caller-preserved : goal.loop-caller-preserved
loop-caller-preserved c =
    c.in_ok-push.ensures.items ∙ ap (λ l. l ++ c.tally.result.commands ∷ []) c.loop-caller.invariant
    ∙ sym (one_read (λ (one : List ℕ). length (commands_of one)) c.args.journal.now.sections c.loop-caller.caller c.tally.result.commands
    c.tally.ensures.commands)
