use Rattle.std.proofs.Common.{◌∙◌, ◌++◌, ap, ◌∷◌, [], arith}
use Rattle.std.proofs.lemmas.List.{map-append}
use Rattle.mc_text.specs.Request.{view}
use Rattle.kv_history.specs.Log.{Log, applied_entry, calls, void_entry, store_now}
use Rattle.kv_history.proofs.Holding.{HasLog, has_log, has_applied, has_room, has_void, length-has}
use Rattle.kv_history.proofs.Keyed.{on_err}
use Rattle.kv_history.proofs.Logs.{store_now-applied, store_now-void}
use Rattle.kv_history.proofs.journal.Journal.apply.Goals as goal

pub overflow_cast-turn : goal.overflow_cast-turn
overflow_cast-turn c =
    let has = has_log _ _ _ c.deref_mut-kept.ensures.value c.self.invariant c.self.view_is in
    let room = has_room _ _ c.args.caller (view c.args.command) has c.requires in
    omega (arith, room.small, c.len-turn.ensures)

pub apply-requires : goal.apply-requires
apply-requires c =
    (has_room _ _ c.args.caller (view c.args.command)
    (has_log _ _ _ c.deref_mut-kept.ensures.value c.self.invariant c.self.view_is) c.requires).room

-- what is kept once the command was refused
refused : (c : goal.After-from_residual)
    → HasLog c.apply.new.self (record {
      sections = c.args.self.now.sections;
      entries = c.args.self.now.entries ++ void_entry c.args.caller (view c.args.command) ∷ [];
    })
refused c =
    has_void _ c.apply.new.self _ c.args.caller (view c.args.command)
    (has_log _ _ _ c.deref_mut-kept.ensures.value c.self.invariant c.self.view_is) c.requires c.apply.ensures.callers
    (rw c.in_err-apply.was at c.apply.ensures.noted) c.apply.ensures.room (rw c.in_err-apply.was at c.apply.ensures.reply_stays)
    (rw c.in_err-apply.was at c.apply.ensures.store_stays)

pub invariant_of-self : goal.invariant_of-self
invariant_of-self c = (refused c).is_kept

pub returns-in_err-apply-clause-calls : goal.returns-in_err-apply-clause-calls
returns-in_err-apply-clause-calls c =
    ap calls (refused c).log_is ∙ map-append (λ entry. entry.caller) c.args.self.now.entries _

pub returns-in_err-apply-clause-void : goal.returns-in_err-apply-clause-void
returns-in_err-apply-clause-void c = on_err c.from_residual.result _ (ap (λ (log : Log). log.entries) (refused c).log_is)

pub returns-in_err-apply-clause-store_stays : goal.returns-in_err-apply-clause-store_stays
returns-in_err-apply-clause-store_stays c =
    on_err c.from_residual.result _
    (ap (λ (log : Log). store_now log.entries) (refused c).log_is
    ∙ store_now-void c.args.self.now.entries c.args.caller (view c.args.command))

-- what is kept once the command was applied
applied : (c : goal.In_ok-apply)
    → HasLog c.apply.new.self (record {
      sections = c.args.self.now.sections;
      entries = c.args.self.now.entries ++ applied_entry c.args.self.now.entries c.args.caller (view c.args.command) ∷ [];
    })
applied c =
    has_applied _ c.apply.new.self _ c.args.caller (view c.args.command)
    (has_log _ _ _ c.deref_mut-kept.ensures.value c.self.invariant c.self.view_is) c.requires c.apply.ensures.callers
    (rw c.in_ok-apply.was at c.apply.ensures.noted) c.apply.ensures.room (rw c.in_ok-apply.was at c.apply.ensures.reply)
    (rw c.in_ok-apply.was at c.apply.ensures.store)

pub invariant_of-self-2 : goal.invariant_of-self-2
invariant_of-self-2 c = (applied c).is_kept

pub returns-clause-calls : goal.returns-clause-calls
returns-clause-calls c = ap calls (applied c).log_is ∙ map-append (λ entry. entry.caller) c.args.self.now.entries _

pub returns-clause-applied : goal.returns-clause-applied
returns-clause-applied c = ap (λ (log : Log). log.entries) (applied c).log_is

pub returns-clause-store : goal.returns-clause-store
returns-clause-store c =
    ap (λ (log : Log). store_now log.entries) (applied c).log_is
    ∙ store_now-applied c.args.self.now.entries c.args.caller (view c.args.command)

pub returns-clause-place : goal.returns-clause-place
returns-clause-place c =
    c.len-turn.ensures
    ∙ length-has _ _ (has_log _ _ _ c.deref_mut-kept.ensures.value c.self.invariant c.self.view_is)
