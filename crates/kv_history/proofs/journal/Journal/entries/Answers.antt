use Rattle.std.proofs.Common.{◌∙◌, arith}
use Rattle.kv_history.specs.Journal.{log_of}
use Rattle.kv_history.proofs.Holding.{has_log, length-has}
use Rattle.kv_history.proofs.Logs.{entries-within}
use Rattle.kv_history.proofs.Places.{length-kept}
use Rattle.kv_history.proofs.journal.Journal.entries.Goals as goal

pub overflow_cast-result : goal.overflow_cast-result
overflow_cast-result c =
    let has = has_log _ _ _ c.deref.ensures c.self.invariant c.self.view_is in
    let within = entries-within (log_of c.deref.result.now) has.is_kept.sound in
    omega (arith, within, length-kept _ has.is_kept, has.is_kept.small, c.len.ensures)

pub returns : goal.returns
returns c = c.len.ensures ∙ length-has _ _ (has_log _ _ _ c.deref.ensures c.self.invariant c.self.view_is)
