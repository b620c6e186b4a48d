use Rattle.std.proofs.Common.{◌≤◌, refl, sym, ◌∙◌, rules, vec_capacity}
use Rattle.std.specs.Prelude.{sum}
use Rattle.keep_local.specs.States.{new_shares}
use Rattle.level_harness.proofs.Making.{name_made, quotas_made, room_made}
use Rattle.tree_harness.proofs.start.make_start.Goals as goal

pub returns-clause-shares : goal.returns-clause-shares
returns-clause-shares c =
    let trail = c.new-root.ensures.trail ∙ c.in-Ok-reserve.ensures.trail in
    let name = name_made _ _ _ _ _ c.new-root.result refl trail in
    let quotas = quotas_made _ _ _ _ _ c.new-root.result refl trail in
    c.in-Ok-reserve.ensures.shares ∙ (λ i. new_shares (sym name i) (sym quotas i))

pub returns-clause-room : goal.returns-clause-room
returns-clause-room c =
    let room : sum c.args.quotas.now ≤ vec_capacity c.in-Ok.roll.callers = search rules in
    room_made _ _ _ _ _ c.new-root.result refl (c.new-root.ensures.trail ∙ c.in-Ok-reserve.ensures.trail)
    c.in-Ok.roll c.new-root.ensures.payload room
