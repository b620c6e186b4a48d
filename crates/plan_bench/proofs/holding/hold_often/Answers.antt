use Rattle.std.proofs.Common.{ap, sym, ◌∙◌, subst, arith}
use Rattle.clof_compose.specs.Contexts.{Context}
use Rattle.clof_compose.proofs.Shares.{may_turn}
use Rattle.plan_bench.proofs.holding.hold_often.Goals as goal

pub hold-pass-requires-clause-own : goal.hold-pass-requires-clause-own
hold-pass-requires-clause-own g c = subst (g.C.Composed.has c.args.lock.now) (sym c.loop.invariant.pass) c.requires.job.pass_is.own

pub hold-pass-requires-clause-share : goal.hold-pass-requires-clause-share
hold-pass-requires-clause-share g c =
    may_turn _ _ c.loop.counter c.args.job.share c.loop.share c.requires.job.share_is
    (ap (λ (x : Context). x.number) c.loop.invariant.pass ∙ c.requires.job.pass_is.number_is) c.loop.invariant.share
    (let below = c.loop-test.true in let end = c.turns_allowed-end.ensures in omega (arith, below, end))
