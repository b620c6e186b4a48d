use Rattle.keep_local.proofs.Steps.{as_held, turn_opened, room_for}
use Rattle.keep_local.proofs.trail.Trail.open.Goals as goal

pub push_where-requires : goal.push_where-requires
push_where-requires c = λ recorded.
    room_for _ _ (as_held _ _ _ c.deref_mut-log.ensures.value c.self.invariant c.self.view_is) c.append.ensures.room recorded

pub invariant_of-self : goal.invariant_of-self
invariant_of-self c =
    (turn_opened _ _ c.args.share.now _ c.args.climb c.append.new.self c.push_where.new.turns _
    (as_held _ _ _ c.deref_mut-log.ensures.value c.self.invariant c.self.view_is) c.requires.closed c.requires.begins
    c.append.ensures.told c.append.ensures.room c.append.ensures.tie c.append.ensures.share
    (λ i. record { caller = c.caller.ensures i; climb = c.args.climb; tests = 0; left = c.top.ensures i })
    c.push_where.ensures.items c.push_where.ensures.capacity).0.kept

pub returns-clause-counted : goal.returns-clause-counted
returns-clause-counted c =
    (turn_opened _ _ c.args.share.now _ c.args.climb c.append.new.self c.push_where.new.turns _
    (as_held _ _ _ c.deref_mut-log.ensures.value c.self.invariant c.self.view_is) c.requires.closed c.requires.begins
    c.append.ensures.told c.append.ensures.room c.append.ensures.tie c.append.ensures.share
    (λ i. record { caller = c.caller.ensures i; climb = c.args.climb; tests = 0; left = c.top.ensures i })
    c.push_where.ensures.items c.push_where.ensures.capacity).1

pub returns-clause-lawful : goal.returns-clause-lawful
returns-clause-lawful c =
    (turn_opened _ _ c.args.share.now _ c.args.climb c.append.new.self c.push_where.new.turns _
    (as_held _ _ _ c.deref_mut-log.ensures.value c.self.invariant c.self.view_is) c.requires.closed c.requires.begins
    c.append.ensures.told c.append.ensures.room c.append.ensures.tie c.append.ensures.share
    (λ i. record { caller = c.caller.ensures i; climb = c.args.climb; tests = 0; left = c.top.ensures i })
    c.push_where.ensures.items c.push_where.ensures.capacity).0.kept.trail
