use Rattle.std.proofs.Common.{◌≡◌, ◌-◌, ap, arith}
use Rattle.lock_tables.proofs.Steps.{splits}
use Rattle.lock_tables.proofs.table.split_passes.Goals as goal

pub split_seat-next-requires : goal.split_seat-next-requires
split_seat-next-requires g c =
    let now = c.loop-number.invariant.seat in
    let from : c.loop-number.seat.me.0.from ≡ c.loop-number.number = ap (λ m. m.0.from) now in
    let to : c.loop-number.seat.me.0.to ≡ c.args.passes - 1 = ap (λ m. m.0.to) now in
    let words = c.requires.size.row in (
      c.loop-number.invariant.table,
      omega (arith, words),
      splits g.V.Cargo.fit g.V.Cargo.tag g.V.Cargo.parked _ c.is_disciplined.ensures _ _ _ _ _ (ap (λ m. m.0.spent) now)
          (omega (arith, from, to)),
    )
