use Rattle.std.proofs.Common.{subst}
use Rattle.kv_history.specs.Log.{Log, IsHistory, IsOneThread, NoneVoid}
use Rattle.kv_history.specs.Journal.{log_of}
use Rattle.kv_history.proofs.Voids.{whole_history, whole_one_thread}
use Rattle.kv_history.proofs.journal.Journal.facts.Goals as goal

pub returns-clause-one_thread : goal.returns-clause-one_thread
returns-clause-one_thread c =
    subst (λ (log : Log). NoneVoid log.entries → IsOneThread log.entries) c.self.view_is
    (whole_one_thread (log_of c.self.inside.kept.value).entries c.self.invariant.sound.one_thread)

pub returns-clause-history : goal.returns-clause-history
returns-clause-history c =
    subst (λ (log : Log). NoneVoid log.entries → IsHistory log) c.self.view_is
    (whole_history c.self.inside.kept.value c.self.invariant)
