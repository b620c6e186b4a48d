use Rattle.std.proofs.Common.{refl, arith}
use Rattle.keep_local.proofs.Steps.{as_held, left_within, turn_left}
use Rattle.keep_local.proofs.trail.Trail.leave.Goals as goal

pub count_run-requires : goal.count_run-requires
count_run-requires c =
    let has = as_held _ _ _ c.deref_mut-log.ensures.value c.self.invariant c.self.view_is in
    let below = left_within _ _ _ _ has c.in-Some.is c.requires.may in
    let many = has.kept.counters in
    omega (arith, below, many)

pub invariant_of-self : goal.invariant_of-self
invariant_of-self c =
    (turn_left _ _ c.in-Some.turn _ c.args.level c.write_last.new.turns c.count_run.new.runs c.record.new.self
    (as_held _ _ _ c.deref_mut-log.ensures.value c.self.invariant c.self.view_is) c.in-Some.is c.requires.may refl c.record.ensures
    c.write_last.ensures.items c.write_last.ensures.capacity c.count_run.auto.runs
    (record { own = c.count_run.ensures.own; lower = c.count_run.ensures.lower; higher = c.count_run.ensures.higher })).kept

pub returns-clause-lawful : goal.returns-clause-lawful
returns-clause-lawful c =
    (turn_left _ _ c.in-Some.turn _ c.args.level c.write_last.new.turns c.count_run.new.runs c.record.new.self
    (as_held _ _ _ c.deref_mut-log.ensures.value c.self.invariant c.self.view_is) c.in-Some.is c.requires.may refl c.record.ensures
    c.write_last.ensures.items c.write_last.ensures.capacity c.count_run.auto.runs
    (record { own = c.count_run.ensures.own; lower = c.count_run.ensures.lower; higher = c.count_run.ensures.higher })).kept.trail
