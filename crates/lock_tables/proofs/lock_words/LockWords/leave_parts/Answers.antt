use Rattle.std.proofs.Common.{ap, sym, ◌∙◌}
use Rattle.lock_rules.specs.Hands.{keeps_slot, phase_left}
use Rattle.lock_rules.proofs.Names.{own_algorithm}
use Rattle.lock_tables.proofs.Hands.{seat_kept, seat_told}
use Rattle.lock_tables.proofs.Owned.{own_from}
use Rattle.lock_tables.proofs.lock_words.LockWords.leave_parts.Goals as goal

pub returns-clause-own : goal.returns-clause-own
returns-clause-own g c =
    own_from _ _ _ _ _ _ c.args.leave.seat.me.0 c.requires.of c.args.leave.plain c.args.leave.row c.args.self.now.few
    (ap (λ s. s.table_id) c.into_parts.ensures.seat) (ap (λ s. s.me.0) c.into_parts.ensures.seat)

pub returns-clause-leaves : goal.returns-clause-leaves
returns-clause-leaves g c =
    let l = c.args.leave in
    let algorithm = own_algorithm _ _ _ _ l.seat.table_id l.seat.me.0 c.requires.of in
    ap (λ s. s.me.0.phase) c.into_parts.ensures.seat ∙ l.leaves ∙ ap phase_left algorithm

pub returns-clause-hand : goal.returns-clause-hand
returns-clause-hand g c =
    let l = c.args.leave in
    let algorithm = own_algorithm _ _ _ _ l.seat.table_id l.seat.me.0 c.requires.of in
    seat_kept g.V.Cargo.fit g.V.Cargo.tag g.V.Cargo.parked (keeps_slot g.D.Disciplined.discipline.algorithm) _ l.seat
    c.into_parts.ensures.seat (sym (ap keeps_slot algorithm) ∙ l.hand) c.requires.rests

pub returns-clause-told : goal.returns-clause-told
returns-clause-told g c =
    let l = c.args.leave in
    let algorithm = own_algorithm _ _ _ _ l.seat.table_id l.seat.me.0 c.requires.of in
    seat_told g.D.Disciplined.discipline.algorithm _ l.seat c.into_parts.ensures.seat (l.leaves ∙ ap phase_left algorithm) l.silent
