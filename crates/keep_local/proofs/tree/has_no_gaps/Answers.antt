use Rattle.std.proofs.Common.{◌≡◌, ◌<◌, true, false, refl, arith, below_more}
use Rattle.keep_local.specs.Shapes.{callers_of}
use Rattle.keep_local.proofs.tree.has_no_gaps.Goals as goal

pub returns-then-not-has_no_gaps_beside : goal.returns-then-not-has_no_gaps_beside
returns-then-not-has_no_gaps_beside c =
    let end = c.callers-w-end.ensures in
    let here : c.loop-w.w < callers_of c.args.shape.now = omega (arith, end, c.loop-w-test.true) in (
      (λ e. absurd (let x : false ≡ true = e in cc)),
      (λ all. c.if-not-has_no_gaps_beside.ensures.1 (all c.loop-w.w here)),
    )

pub loop-w-preserved : goal.loop-w-preserved
loop-w-preserved c = below_more _ _ c.loop-w.invariant (c.if-not-has_no_gaps_beside.ensures.0 refl)

pub returns : goal.returns
returns c =
    let end = c.callers-w-end.ensures in
    let past = c.loop-w-test.false in (
      (λ _ w h. c.loop-w.invariant w (omega (arith, end, past, h))),
      (λ _. refl),
    )
