use Rattle.keep_local.proofs.Steps.{as_held, level_noted}
use Rattle.keep_local.proofs.trail.Trail.note.Goals as goal

pub invariant_of-self : goal.invariant_of-self
invariant_of-self c =
    (level_noted _ _ c.in-Some.turn _ c.args.level c.args.yes c.write_last.new.turns
    (as_held _ _ _ c.deref_mut-log.ensures.value c.self.invariant c.self.view_is) c.in-Some.is c.requires.next c.requires.below
    (λ i. record c.in-Some.turn { tests = c.with_test.ensures i }) c.write_last.ensures.items c.write_last.ensures.capacity).kept

pub returns-clause-lawful : goal.returns-clause-lawful
returns-clause-lawful c =
    (level_noted _ _ c.in-Some.turn _ c.args.level c.args.yes c.write_last.new.turns
    (as_held _ _ _ c.deref_mut-log.ensures.value c.self.invariant c.self.view_is) c.in-Some.is c.requires.next c.requires.below
    (λ i. record c.in-Some.turn { tests = c.with_test.ensures i }) c.write_last.ensures.items c.write_last.ensures.capacity).kept.trail
