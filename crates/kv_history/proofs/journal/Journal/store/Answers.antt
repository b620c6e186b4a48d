use Rattle.std.proofs.Common.{sym, subst}
use Rattle.kv_history.specs.Contents.{NoneExpired}
use Rattle.kv_history.specs.Journal.{log_of}
use Rattle.kv_history.specs.Log.{applied, commands}
use Rattle.kv_history.proofs.Holding.{has_log}
use Rattle.kv_history.proofs.Live.{live-of}
use Rattle.kv_history.proofs.journal.Journal.store.Goals as goal

pub returns-clause-none_expired : goal.returns-clause-none_expired
returns-clause-none_expired c =
    let has = has_log _ _ _ c.deref.ensures c.self.invariant c.self.view_is in
    subst NoneExpired (sym has.is_kept.store) (live-of (commands (applied (log_of c.deref.result.now).entries)))
