use Rattle.std.proofs.Common.{ap, ◌∙◌, set}
use Rattle.keep_local.proofs.Steps.{as_held}
use Rattle.keep_local.proofs.Lone.{lone_begun}
use Rattle.keep_local.proofs.trail.Trail.begin_behind.Goals as goal

pub invariant_of-self : goal.invariant_of-self
invariant_of-self c =
    let caller = c.caller-caller.ensures ∙ ap (λ s. s.caller) c.append.ensures.share in
    (lone_begun _ _ c.args.share.now c.args.turns c.append.new.self c.record.new.self c.last_of-log.result _ _
    (as_held _ _ _ c.deref_mut-log.ensures.value c.self.invariant c.self.view_is) c.requires.unrecorded c.requires.none c.requires.closed
    c.append.ensures.told c.append.ensures.room c.append.ensures.tie
    (λ i. record { caller = caller i; climb = c.top-top.ensures i; tests = 0; left = c.top-top.ensures i })
    c.record.ensures c.last_of-log.ensures
    (λ i. set c.deref_mut-log.result.now.runs (c.top-top.ensures i) (c.clamped.ensures i))).kept

pub returns-clause-lawful : goal.returns-clause-lawful
returns-clause-lawful c =
    let caller = c.caller-caller.ensures ∙ ap (λ s. s.caller) c.append.ensures.share in
    (lone_begun _ _ c.args.share.now c.args.turns c.append.new.self c.record.new.self c.last_of-log.result _ _
    (as_held _ _ _ c.deref_mut-log.ensures.value c.self.invariant c.self.view_is) c.requires.unrecorded c.requires.none c.requires.closed
    c.append.ensures.told c.append.ensures.room c.append.ensures.tie
    (λ i. record { caller = caller i; climb = c.top-top.ensures i; tests = 0; left = c.top-top.ensures i })
    c.record.ensures c.last_of-log.ensures
    (λ i. set c.deref_mut-log.result.now.runs (c.top-top.ensures i) (c.clamped.ensures i))).kept.trail
