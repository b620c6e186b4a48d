use Rattle.std.proofs.Common.{◌≡◌, ◌<◌, ◌++◌, [], ◌∷◌, length, reverse, ap, sym, ◌∙◌, subst, refl, arith}
use Rattle.std.specs.Prelude.{All, slice_get}
use Rattle.std.proofs.lemmas.List.{length-reverse, reverse-reverse, reverse-append}
use Rattle.std.proofs.lemmas.List.Elements.{All-head, All-nil, All-tail}
use Rattle.lock_rules.specs.Passes.{AreAll as AreAllLow}
use Rattle.clof_compose.specs.Contexts.{own_tag}
use Rattle.clof_compose.specs.Nodes.{AreMade, locks_of, under}
use Rattle.clof_compose.specs.Passes.{AreFrom}
use Rattle.clof_compose.proofs.Lists.{filled_longer, first_of, from_all, length_more, locks_more, made_more}
use Rattle.clof_compose.proofs.level_making.make_nodes.Goals as goal

pub loop-pass-init : goal.loop-pass-init
loop-pass-init g c =
    let turned = ap reverse c.reverse.ensures.items ∙ reverse-reverse c.args.passes.items in
    let none = ap length c.requires.empty in
    let long = ap length c.reverse.ensures.items ∙ length-reverse c.args.passes.items in record {
      locks = λ n lock e. absurd (let h = sym (ap (λ l. slice_get (locks_of l) n) c.requires.empty) ∙ e in cc);
      made = subst (λ l. AreMade g.B.Basic.made c.args.recipe l) (sym c.requires.empty) (All-nil (λ lock. g.B.Basic.made lock
          c.args.recipe));
      filled = λ n node e. absurd (let h = sym (ap (λ l. slice_get l n) c.requires.empty) ∙ e in cc);
      behind = from_all (λ p. (g.H.Pass.Resting.rest p).context) (g.H.Composed.has c.args.high.now) (g.H.Composed.level c.args.high.now)
          (g.H.Composed.tag c.args.high.now) _ _ _ _ c.requires.all none turned;
      fresh = subst (λ l. All (λ p. (g.H.Pass.Resting.rest p).report.tests ≡ 0) l) (sym turned) c.requires.fresh;
      counted = omega (arith, none, long);
      room = c.reverse.ensures.capacity;
      nodes_room = refl;
    }

pub make_node-requires-clause-some : goal.make_node-requires-clause-some
make_node-requires-clause-some g c =
    let fewer = length_more c.pop.new.self.items c.loop-pass.passes.items c.in-Some.pass c.in-Some.ensures.items in
    let counted = c.loop-pass.invariant.counted in
    let number = c.len-number.ensures ∙ c.loop-pass.nodes.ok.0 in
    subst (λ n. 0 < n) (sym (c.contexts_under-contexts.ensures ∙ ap (λ n. under c.args.parents.now n (length c.args.parents.now)) number))
    (c.requires.parents (length c.loop-pass.nodes.items) (omega (arith, fewer, counted)))

pub make_node-requires-clause-number : goal.make_node-requires-clause-number
make_node-requires-clause-number g c =
    let next = first_of (λ p. (g.H.Pass.Resting.rest p).context) (g.H.Composed.has c.args.high.now) (g.H.Composed.level c.args.high.now)
    (g.H.Composed.tag c.args.high.now) _ c.loop-pass.passes.items c.pop.new.self.items c.in-Some.pass c.in-Some.ensures.items
    c.loop-pass.invariant.behind in
    next.0.number_is ∙ sym (c.len-number.ensures ∙ c.loop-pass.nodes.ok.0)

pub make_node-requires-clause-above : goal.make_node-requires-clause-above
make_node-requires-clause-above g c =
    let next = first_of (λ p. (g.H.Pass.Resting.rest p).context) (g.H.Composed.has c.args.high.now) (g.H.Composed.level c.args.high.now)
    (g.H.Composed.tag c.args.high.now) _ c.loop-pass.passes.items c.pop.new.self.items c.in-Some.pass c.in-Some.ensures.items
    c.loop-pass.invariant.behind in
    subst (λ n. 0 < n) (sym next.0.level_is) c.requires.above

pub make_node-requires-clause-fresh : goal.make_node-requires-clause-fresh
make_node-requires-clause-fresh g c =
    let turned = ap reverse c.in-Some.ensures.items ∙ reverse-append c.pop.new.self.items (c.in-Some.pass ∷ []) in
    All-head (λ p. (g.H.Pass.Resting.rest p).report.tests ≡ 0) c.in-Some.pass (reverse c.pop.new.self.items) (subst (λ l. All (λ p.
    (g.H.Pass.Resting.rest p).report.tests ≡ 0) l) turned c.loop-pass.invariant.fresh)

pub loop-pass-preserved : goal.loop-pass-preserved
loop-pass-preserved g c =
    let next = first_of (λ p. (g.H.Pass.Resting.rest p).context) (g.H.Composed.has c.args.high.now) (g.H.Composed.level c.args.high.now)
    (g.H.Composed.tag c.args.high.now) _ c.loop-pass.passes.items c.pop.new.self.items c.in-Some.pass c.in-Some.ensures.items
    c.loop-pass.invariant.behind in
    let number = c.len-number.ensures ∙ c.loop-pass.nodes.ok.0 in
    let fewer = length_more c.pop.new.self.items c.loop-pass.passes.items c.in-Some.pass c.in-Some.ensures.items in
    let more = length_more c.loop-pass.nodes.items c.push_reserved.new.self.items c.in-Ok.node c.push_reserved.ensures.items in
    let counted = c.loop-pass.invariant.counted in
    let count_is = c.in-Ok.ensures.count ∙ c.contexts_under-contexts.ensures ∙ ap (λ n. under c.args.parents.now n (length
    c.args.parents.now)) number in
    let long = c.in-Ok.ensures.lows.all in
    let ok = c.in-Ok.node.list.ok in
    let turned = ap reverse c.in-Some.ensures.items ∙ reverse-append c.pop.new.self.items (c.in-Some.pass ∷ []) in record {
      locks = locks_more _ _ _ _ c.loop-pass.nodes.items c.push_reserved.new.self.items c.in-Ok.node c.push_reserved.ensures.items
          c.loop-pass.invariant.locks (record {
            context = (g.H.Pass.Resting.rest c.in-Some.pass).context;
            tag_is = c.in-Ok.ensures.tag ∙ ap (λ n. own_tag n (g.H.Pass.Resting.rest c.in-Some.pass).context) number;
            is = next.0;
          });
      made = made_more g.B.Basic.made c.args.recipe c.loop-pass.nodes.items c.push_reserved.new.self.items c.in-Ok.node
          c.push_reserved.ensures.items c.loop-pass.invariant.made c.in-Ok.ensures.made;
      filled = filled_longer _ _ _ _ c.args.parents.now _ c.loop-pass.nodes.items c.push_reserved.new.self.items c.in-Ok.node
          c.push_reserved.ensures.items c.loop-pass.invariant.filled (record {
            count_is = count_is;
            lows = subst (λ n. AreAllLow g.B.Pass.Placed.place (g.B.Basic.name c.in-Ok.node.lock) (g.B.Basic.tag c.in-Ok.node.lock) n
                c.in-Ok.node.list.items) count_is c.in-Ok.ensures.lows;
            room = omega (arith, long, ok.0, ok.1);
          });
      behind = subst (λ n. AreFrom (λ p. (g.H.Pass.Resting.rest p).context) (g.H.Composed.has c.args.high.now) (g.H.Composed.level
          c.args.high.now) (g.H.Composed.tag c.args.high.now) n (reverse c.pop.new.self.items)) (sym more) next.1;
      fresh = All-tail (λ p. (g.H.Pass.Resting.rest p).report.tests ≡ 0) c.in-Some.pass (reverse c.pop.new.self.items) (subst (λ l. All
          (λ p. (g.H.Pass.Resting.rest p).report.tests ≡ 0) l) turned c.loop-pass.invariant.fresh);
      counted = omega (arith, fewer, more, counted);
      room = c.in-Some.ensures.capacity ∙ c.loop-pass.invariant.room;
      nodes_room = c.push_reserved.ensures.capacity ∙ c.loop-pass.invariant.nodes_room;
    }

pub close_nodes-requires-clause-behind : goal.close_nodes-requires-clause-behind
close_nodes-requires-clause-behind g c =
    let same = c.push_reserved-in-Err.ensures.items ∙ ap (λ p. c.pop.new.self.items ++ p ∷ []) c.in-Err.ensures.refused ∙ sym
    c.in-Some.ensures.items in
    subst (λ l. AreFrom (λ p. (g.H.Pass.Resting.rest p).context) (g.H.Composed.has c.args.high.now) (g.H.Composed.level c.args.high.now)
    (g.H.Composed.tag c.args.high.now) (length c.loop-pass.nodes.items) (reverse l)) (sym same) c.loop-pass.invariant.behind
