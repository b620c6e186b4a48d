use Rattle.std.proofs.Common.{ap, sym, ◌∙◌}
use Rattle.lock_rules.specs.Hands.{keeps_slot, phase_left}
use Rattle.lock_rules.specs.Rows.{row_of}
use Rattle.lock_tables.proofs.Hands.{kept_full, seat_stays}
use Rattle.lock_tables.proofs.lock_words.LockWords.leave_of.Goals as goal

pub of-requires-clause-leaves : goal.of-requires-clause-leaves
of-requires-clause-leaves g c = c.requires.leaves ∙ sym (ap phase_left c.requires.own.algorithm)

pub of-requires-clause-row : goal.of-requires-clause-row
of-requires-clause-row g c =
    let own = c.requires.own in
    ap (λ z. z.words) own.table ∙ own.row ∙ sym (ap (λ a. row_of a c.args.seat.me.0.count) own.algorithm)

pub of-requires-clause-hand : goal.of-requires-clause-hand
of-requires-clause-hand g c =
    ap keeps_slot c.requires.own.algorithm ∙ kept_full g.V.Cargo.fit g.V.Cargo.tag g.V.Cargo.parked
    (keeps_slot g.D.Disciplined.discipline.algorithm) c.args.seat.me.0 c.args.seat.me.1 c.requires.hand

pub returns-clause-rests : goal.returns-clause-rests
returns-clause-rests g c =
    seat_stays g.V.Cargo.fit g.V.Cargo.tag g.V.Cargo.parked (keeps_slot g.D.Disciplined.discipline.algorithm) c.of.result.seat
    c.args.seat c.of.ensures.seat c.requires.hand
