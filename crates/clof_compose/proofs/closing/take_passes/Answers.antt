use Rattle.std.proofs.Common.{◌<◌, get_or, length, reverse, ap, sym, ◌∙◌, subst, refl, arith, vec_capacity}
use Rattle.std.specs.Prelude.{slice_get}
use Rattle.std.proofs.lemmas.Option.{slice_get-get_or, slice_get_read}
use Rattle.std.proofs.lemmas.List.{length-reverse, reverse-reverse}
use Rattle.clof_compose.specs.Nodes.{AreFilled}
use Rattle.clof_compose.proofs.Lists.{as_many, filled_more, has_room, lock_here, locks_same, next_left}
use Rattle.clof_compose.proofs.closing.take_passes.Goals as goal

pub loop-node-init : goal.loop-node-init
loop-node-init g c =
    let turned = c.reverse.ensures.items in
    let all = c.requires.all in
    let same = ap length turned ∙ length-reverse c.args.passes.items in record {
      locks = refl;
      filled = c.requires.filled;
      left = sym (ap reverse turned ∙ reverse-reverse c.args.passes.items);
      counted = omega (arith, same, all);
    }

pub index_mut-requires : goal.index_mut-requires
index_mut-requires g c =
    let at = slice_get-get_or c.args.parents.now c.loop-node.node-index 0 c.loop-node-test.true in
    let within = c.requires.within _ _ at in
    let many = as_many _ _ c.loop-node.invariant.locks in
    omega (arith, many, within)

pub returns-clause-locks : goal.returns-clause-locks
returns-clause-locks g c = c.loop-node.invariant.locks

pub push_reserved-requires : goal.push_reserved-requires
push_reserved-requires g c =
    let at = slice_get-get_or c.args.parents.now c.loop-node.node-index 0 c.loop-node-test.true in
    let within = c.requires.within _ _ at in
    let many = as_many _ _ c.loop-node.invariant.locks in
    let here = slice_get_read c.loop-node.nodes.items _ _ _ (sym many) within c.index_mut.ensures.value in
    subst (λ n. n < vec_capacity c.index_mut.result.now.list) (sym c.index_mut.result.now.list.ok.0) (has_room c.args.parents.now _
    c.loop-node.nodes.items _ at c.index_mut.result.now here c.loop-node.invariant.filled)

pub loop-node-preserved : goal.loop-node-preserved
loop-node-preserved g c =
    let at = slice_get-get_or c.args.parents.now c.loop-node.node-index 0 c.loop-node-test.true in
    let within = c.requires.within _ _ at in
    let many = as_many _ _ c.loop-node.invariant.locks in
    let here = slice_get_read c.loop-node.nodes.items _ _ _ (sym many) within c.index_mut.ensures.value in
    let next = next_left c.args.passes.items c.loop-node.node-index _ _ c.in-Some.pass c.loop-node.invariant.left c.in-Some.ensures.items in
    let lock = sym (ap (λ l. slice_get l (get_or c.args.parents.now c.loop-node.node-index 0)) c.loop-node.invariant.locks)
    ∙ lock_here c.loop-node.nodes.items (get_or c.args.parents.now c.loop-node.node-index 0) c.index_mut.result.now here in
    let falls = c.requires.each c.loop-node.node-index c.in-Some.pass next.0 (get_or c.args.parents.now c.loop-node.node-index 0)
    c.index_mut.result.now.lock at lock in
    let fewer = c.in-Some.ensures.len in
    let counted = c.loop-node.invariant.counted in record {
      locks = locks_same c.args.parents.now _ c.loop-node.nodes.items _ at _ here c.loop-node.invariant.filled _ falls _ refl
          c.push_reserved.ensures.items c.push_reserved.ensures.capacity ∙ c.loop-node.invariant.locks;
      filled = filled_more c.args.parents.now _ c.loop-node.nodes.items _ at _ here c.loop-node.invariant.filled _ falls _ refl
          c.push_reserved.ensures.items c.push_reserved.ensures.capacity;
      left = next.1;
      counted = omega (arith, fewer, counted);
    }

pub returns-clause-filled : goal.returns-clause-filled
returns-clause-filled g c =
    let e = c.loop-node-test.false in
    let f = c.loop-node.auto.node-index-end in
    subst (λ k. AreFilled g.B.Basic.name g.B.Basic.tag g.B.Basic.count g.B.Pass.Placed.place c.args.parents.now k c.loop-node.nodes.items)
    (omega (arith, e, f)) c.loop-node.invariant.filled
