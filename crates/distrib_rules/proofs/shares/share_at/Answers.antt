use Rattle.std.proofs.Common.{◌≡◌, ◌+◌, ◌*◌, ap, arith}
use Rattle.distrib_rules.specs.Shares.{rounded_up}
use Rattle.distrib_rules.proofs.Rounding.{rounded_sum}
use Rattle.distrib_rules.proofs.shares.share_at.Goals as goal

pub returns-clause-masks : goal.returns-clause-masks
returns-clause-masks c =
    let n = c.args.n in
    let count = c.args.row.count in
    let place = c.args.place in
    let next : (place + 1) * n ≡ place * n + n = omega arith in
    omega (
      arith,
      c.rounded_up.ensures,
      c.rounded_up-2.ensures,
      ap (λ part. rounded_up part count) next,
      rounded_sum (place * n) n count
          (omega arith),
    )
