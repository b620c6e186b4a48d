use Rattle.std.proofs.Common.{◌≡◌, length, reverse, ap, sym, ◌∙◌, subst, arith}
use Rattle.std.proofs.lemmas.List.{length-reverse}
use Rattle.clof_compose.specs.Passes.{AreFrom, IsNumber}
use Rattle.clof_compose.proofs.Lists.{from_none, length_more, one_before}
use Rattle.clof_compose.proofs.closing.close_nodes.Goals as goal

pub loop-pass-preserved : goal.loop-pass-preserved
loop-pass-preserved g c =
    let some = c.in-Some.ensures in
    let fewer = some.fewer in
    let more = length_more c.loop-pass.passes.items _ c.in-Some.pass c.push_reserved.ensures.items in
    let counted = c.loop-pass.invariant.counted in record {
      locks = some.locks;
      full = some.full;
      behind = one_before (λ n p. IsNumber (g.H.Composed.has c.args.high.now) (g.H.Composed.level c.args.high.now) (g.H.Composed.tag
          c.args.high.now) n (g.H.Pass.Resting.rest p).context) _ _ c.loop-pass.passes.items _ c.in-Some.pass fewer
          c.push_reserved.ensures.items some.number c.loop-pass.invariant.behind;
      counted = omega (arith, fewer, more, counted);
      room = c.push_reserved.ensures.capacity ∙ c.loop-pass.invariant.room;
    }

pub returns : goal.returns
returns g c =
    let none : length c.loop-pass.nodes.items ≡ 0 = ap length c.in_default.ensures.none in
    let counted = c.loop-pass.invariant.counted in
    let turned = c.reverse.ensures.items in
    let all = ap length turned ∙ length-reverse c.loop-pass.passes.items in
    let behind = subst (λ n. AreFrom (λ p. (g.H.Pass.Resting.rest p).context) (g.H.Composed.has c.args.high.now) (g.H.Composed.level
    c.args.high.now) (g.H.Composed.tag c.args.high.now) n (reverse c.loop-pass.passes.items)) none c.loop-pass.invariant.behind in
    from_none _ _ _ _ c.reverse.new.self.items _ (omega (arith, all, none, counted)) (subst (λ l. AreFrom (λ p. (g.H.Pass.Resting.rest
    p).context) (g.H.Composed.has c.args.high.now) (g.H.Composed.level c.args.high.now) (g.H.Composed.tag c.args.high.now) 0 l) (sym
    turned) behind)
