use Rattle.std.proofs.Common.{◌∙◌, ap, subst}
use Rattle.std.specs.Prelude.{not, ◌↔◌, IsTrue}
use Rattle.std.specs.List.{list_all}
use Rattle.kv_history.specs.Log.{Log, NoneVoid}
use Rattle.kv_history.proofs.Holding.{has_log}
use Rattle.kv_history.proofs.Voids.{none_void_kept}
use Rattle.kv_history.proofs.journal.Journal.whole.Goals as goal

pub returns : goal.returns
returns c =
    let has = has_log _ _ _ c.deref.ensures c.self.invariant c.self.view_is in
    let tested = c.none_void.ensures ∙ ap (list_all (λ one. not one.void)) c.deref-2.ensures.value in
    subst (λ (log : Log). IsTrue c.none_void.result ↔ NoneVoid log.entries) has.log_is
    (none_void_kept _ c.none_void.result has.is_kept tested)
