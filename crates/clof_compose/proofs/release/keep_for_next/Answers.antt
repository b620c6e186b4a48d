use Rattle.std.proofs.Common.{sym, subst}
use Rattle.clof_compose.specs.Levels.{high_with_root}
use Rattle.clof_compose.specs.Owns.{IsOwnFit}
use Rattle.clof_compose.proofs.Keeping.{stands_noted, ready_above, bit_noted, all_noted, closes_kept, may_leave, stands_left, fits_left}
use Rattle.clof_compose.proofs.release.keep_for_next.Goals as goal

pub returns-in_default-clause-stands : goal.returns-in_default-clause-stands
returns-in_default-clause-stands g c =
    stands_noted g.Pass.Resting.rest g.Held.Standing.stand g.Held.Standing.stands g.Held.Standing.put_root g.P.Payload.calls g.P.Payload.tag
    c.args.level c.args.keep c.args.own.now.node c.args.own.now.kept c.args.own.now.said c.args.own.now.high c.kept_root.result.now
    c.note_waiter.new.root c.kept_root.ensures.value c.kept_root.ensures.others c.kept_root.ensures.stays c.requires.above
    c.requires.node c.requires.kept c.requires.root c.note_waiter.ensures.payload c.note_waiter.ensures.noted
    c.note_waiter.ensures.lawful c.note_waiter.ensures.lawful_before

pub returns-in_default-clause-not_kept : goal.returns-in_default-clause-not_kept
returns-in_default-clause-not_kept g c =
    ready_above g.Pass.Resting.rest g.Held.Standing.stand g.Held.Standing.stands g.Held.Standing.put_root g.P.Payload.calls g.P.Payload.tag
    c.args.level c.args.keep c.args.own.now.node c.args.own.now.kept c.args.own.now.said c.args.own.now.high c.kept_root.result.now
    c.note_waiter.new.root c.kept_root.ensures.value c.kept_root.ensures.others c.kept_root.ensures.stays c.requires.above
    c.requires.node c.requires.kept c.requires.root c.note_waiter.ensures.payload c.note_waiter.ensures.noted
    c.note_waiter.ensures.lawful c.note_waiter.ensures.lawful_before
    c.in_default.ensures.not

pub returns-in_default-clause-noted : goal.returns-in_default-clause-noted
returns-in_default-clause-noted g c =
    bit_noted g.Pass.Resting.rest g.Held.Standing.stand g.Held.Standing.stands g.Held.Standing.put_root g.P.Payload.calls g.P.Payload.tag
    c.args.level c.args.keep c.args.own.now.node c.args.own.now.kept c.args.own.now.said c.args.own.now.high c.kept_root.result.now
    c.note_waiter.new.root c.kept_root.ensures.value c.kept_root.ensures.others c.kept_root.ensures.stays c.requires.above
    c.requires.node c.requires.kept c.requires.root c.note_waiter.ensures.payload c.note_waiter.ensures.noted
    c.note_waiter.ensures.lawful c.note_waiter.ensures.lawful_before

pub returns-in_default-clause-same : goal.returns-in_default-clause-same
returns-in_default-clause-same g c =
    all_noted g.Pass.Resting.rest g.Held.Standing.stand g.Held.Standing.stands g.Held.Standing.put_root g.P.Payload.calls g.P.Payload.tag
    c.args.level c.args.keep c.args.own.now.node c.args.own.now.kept c.args.own.now.said c.args.own.now.high c.kept_root.result.now
    c.note_waiter.new.root c.kept_root.ensures.value c.kept_root.ensures.others c.kept_root.ensures.stays c.requires.above
    c.requires.node c.requires.kept c.requires.root c.note_waiter.ensures.payload c.note_waiter.ensures.noted
    c.note_waiter.ensures.lawful c.note_waiter.ensures.lawful_before

pub kept_root-requires-2 : goal.kept_root-requires-2
kept_root-requires-2 g c =
    record {
      stands = stands_noted g.Pass.Resting.rest g.Held.Standing.stand g.Held.Standing.stands g.Held.Standing.put_root g.P.Payload.calls
          g.P.Payload.tag
          c.args.level c.args.keep c.args.own.now.node c.args.own.now.kept c.args.own.now.said c.args.own.now.high c.kept_root.result.now
          c.note_waiter.new.root c.kept_root.ensures.value c.kept_root.ensures.others c.kept_root.ensures.stays c.requires.above
          c.requires.node c.requires.kept c.requires.root c.note_waiter.ensures.payload c.note_waiter.ensures.noted
          c.note_waiter.ensures.lawful c.note_waiter.ensures.lawful_before;
    }

pub close_turn-requires-clause-may : goal.close_turn-requires-clause-may
close_turn-requires-clause-may g c =
    may_leave g.Pass.Resting.rest g.Held.Standing.stand g.Held.Standing.stands g.Held.Standing.put_root g.P.Payload.calls g.P.Payload.tag
    c.args.level c.args.keep c.args.own.now.node c.args.own.now.kept c.args.own.now.said c.args.own.now.high c.kept_root.result.now
    c.note_waiter.new.root c.kept_root.ensures.value c.kept_root.ensures.others c.kept_root.ensures.stays c.requires.above
    c.requires.node c.requires.kept c.requires.root c.note_waiter.ensures.payload c.note_waiter.ensures.noted
    c.note_waiter.ensures.lawful c.note_waiter.ensures.lawful_before
    c.kept_root-2.result.now c.kept_root-2.ensures.value c.in-Some.ensures.yes c.in-Some.ensures.below

pub returns-clause-stands : goal.returns-clause-stands
returns-clause-stands g c =
    stands_left g.Pass.Resting.rest g.Held.Standing.stand g.Held.Standing.stands g.Held.Standing.put_root g.P.Payload.calls g.P.Payload.tag
    c.args.level c.args.keep c.args.own.now.node c.args.own.now.kept c.args.own.now.said c.args.own.now.high c.kept_root.result.now
    c.note_waiter.new.root c.kept_root.ensures.value c.kept_root.ensures.others c.kept_root.ensures.stays c.requires.above
    c.requires.node c.requires.kept c.requires.root c.note_waiter.ensures.payload c.note_waiter.ensures.noted
    c.note_waiter.ensures.lawful c.note_waiter.ensures.lawful_before
    c.kept_root-2.result.now c.kept_root-2.ensures.value c.in-Some.ensures.yes c.in-Some.ensures.below c.kept_root-2.ensures.others
    c.kept_root-2.ensures.stays c.close_turn.new.root c.close_turn.ensures.payload c.close_turn.ensures.closed c.close_turn.ensures.lawful

pub returns-clause-kept : goal.returns-clause-kept
returns-clause-kept g c =
    let fits = fits_left g.Pass.Resting.rest g.Held.Standing.stand g.Held.Standing.stands g.Held.Standing.put_root g.P.Payload.calls
    g.P.Payload.tag
    c.args.level c.args.keep c.args.own.now.node c.args.own.now.kept c.args.own.now.said c.args.own.now.high c.kept_root.result.now
    c.note_waiter.new.root c.kept_root.ensures.value c.kept_root.ensures.others c.kept_root.ensures.stays c.requires.above
    c.requires.node c.requires.kept c.requires.root c.note_waiter.ensures.payload c.note_waiter.ensures.noted
    c.note_waiter.ensures.lawful c.note_waiter.ensures.lawful_before
    c.kept_root-2.result.now c.kept_root-2.ensures.value c.in-Some.ensures.yes c.in-Some.ensures.below c.kept_root-2.ensures.others
    c.kept_root-2.ensures.stays c.close_turn.new.root
    c.close_turn.ensures.payload c.close_turn.ensures.closed c.close_turn.ensures.lawful in (
      c.in-Some.ensures.yes,
      subst (λ n. IsOwnFit g.Pass.Resting.rest g.Held.Standing.stand g.P.Payload.calls g.P.Payload.tag g.Held.Standing.stands
          c.args.own.now.node n c.args.own.now.said (high_with_root g.Held.Standing.put_root (high_with_root g.Held.Standing.put_root
          c.args.own.now.high c.note_waiter.new.root) c.close_turn.new.root)) (sym c.in-Some.ensures.raised) fits,
    )

pub returns-clause-tests : goal.returns-clause-tests
returns-clause-tests g c =
    closes_kept g.Pass.Resting.rest g.Held.Standing.stand g.Held.Standing.stands g.Held.Standing.put_root g.P.Payload.calls g.P.Payload.tag
    c.args.level c.args.keep c.args.own.now.node c.args.own.now.kept c.args.own.now.said c.args.own.now.high c.kept_root.result.now
    c.note_waiter.new.root c.kept_root.ensures.value c.kept_root.ensures.others c.kept_root.ensures.stays c.requires.above
    c.requires.node c.requires.kept c.requires.root c.note_waiter.ensures.payload c.note_waiter.ensures.noted
    c.note_waiter.ensures.lawful c.note_waiter.ensures.lawful_before
    c.kept_root-2.result.now c.kept_root-2.ensures.value c.in-Some.ensures.yes c.in-Some.ensures.below c.close_turn.result
    c.close_turn.ensures.tests c.close_turn.ensures.own c.close_turn.ensures.told
