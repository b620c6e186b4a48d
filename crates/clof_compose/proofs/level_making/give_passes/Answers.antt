use Rattle.std.proofs.Common.{◌≡◌, ◌+◌, ◌-◌, get_or, ap, sym, ◌∙◌, subst, refl, arith}
use Rattle.std.specs.Prelude.{slice_get}
use Rattle.std.proofs.lemmas.Option.{slice_get-get_or, slice_get_read}
use Rattle.clof_compose.specs.Nodes.{AreFilled, IsGiven, locks_of}
use Rattle.clof_compose.proofs.Lists.{as_many, falls_low, falls_one, filled_less, length_more, lock_here, locks_less, not_empty, one_before}
use Rattle.clof_compose.proofs.level_making.give_passes.Goals as goal

pub unreachable-requires : goal.unreachable-requires
unreachable-requires g c =
    let some = c.loop-number-test.true in
    let most = c.loop-number.auto.number in
    let at = slice_get-get_or c.args.parents.now (c.loop-number.number - 1) 0 (omega (arith, some, most)) in
    let many = as_many c.loop-number.nodes.items c.args.nodes.items c.loop-number.invariant.locks in
    let here = slice_get_read c.loop-number.nodes.items _ _ _ (sym many) (c.requires.within _ _ at) c.index_mut.ensures.value in
    let step : c.loop-number.number ≡ c.loop-number.number - 1 + 1 = omega (arith, some) in
    let filled = subst (λ k. AreFilled g.B.Basic.name g.B.Basic.tag g.B.Basic.count g.B.Pass.Placed.place c.args.parents.now k
    c.loop-number.nodes.items) step c.loop-number.invariant.filled in
    let some_pass = not_empty c.args.parents.now (c.loop-number.number - 1) c.loop-number.nodes.items _ at c.index_mut.result.now here
    filled in
    let ok = c.index_mut.result.now.list.ok.0 in
    let absent = c.in_default.ensures.variant.1 (omega (arith, some_pass, ok)) in cc

pub loop-number-preserved : goal.loop-number-preserved
loop-number-preserved g c =
    let some = c.loop-number-test.true in
    let most = c.loop-number.auto.number in
    let at = slice_get-get_or c.args.parents.now (c.loop-number.number - 1) 0 (omega (arith, some, most)) in
    let many = as_many c.loop-number.nodes.items c.args.nodes.items c.loop-number.invariant.locks in
    let here = slice_get_read c.loop-number.nodes.items _ _ _ (sym many) (c.requires.within _ _ at) c.index_mut.ensures.value in
    let step : c.loop-number.number ≡ c.loop-number.number - 1 + 1 = omega (arith, some) in
    let filled = subst (λ k. AreFilled g.B.Basic.name g.B.Basic.tag g.B.Basic.count g.B.Pass.Placed.place c.args.parents.now k
    c.loop-number.nodes.items) step c.loop-number.invariant.filled in
    let node = get_or c.args.parents.now (c.loop-number.number - 1) 0 in
    let locked = sym (ap (λ l. slice_get l node) c.loop-number.invariant.locks) ∙ lock_here c.loop-number.nodes.items node
    c.index_mut.result.now here in
    let low = falls_low c.args.parents.now (c.loop-number.number - 1) c.loop-number.nodes.items _ at c.index_mut.result.now here filled
    c.in-Some.low (record { lock = c.index_mut.result.now.lock; list = c.pop.new.self }) refl c.in-Some.ensures.items
    c.in-Some.ensures.capacity in
    let more = length_more c.loop-number.passes.items c.push_reserved.new.self.items _ c.push_reserved.ensures.items in
    let counted = c.loop-number.invariant.counted in record {
      locks = locks_less c.args.parents.now (c.loop-number.number - 1) c.loop-number.nodes.items _ at c.index_mut.result.now here filled
          c.in-Some.low (record { lock = c.index_mut.result.now.lock; list = c.pop.new.self }) refl c.in-Some.ensures.items
          c.in-Some.ensures.capacity ∙ c.loop-number.invariant.locks;
      filled = filled_less c.args.parents.now (c.loop-number.number - 1) c.loop-number.nodes.items _ at c.index_mut.result.now here filled
          c.in-Some.low (record { lock = c.index_mut.result.now.lock; list = c.pop.new.self }) refl c.in-Some.ensures.items
          c.in-Some.ensures.capacity;
      given = one_before (λ n p. IsGiven g.B.Basic.name g.B.Basic.tag g.B.Pass.Placed.place c.args.level c.args.parents.now (locks_of
          c.args.nodes.items) n p) (c.loop-number.number - 1) c.loop-number.number c.loop-number.passes.items
          c.push_reserved.new.self.items _ step c.push_reserved.ensures.items (record {
            level_is = refl;
            number_is = refl;
            node_is = at;
            falls = falls_one g.B.Basic.name g.B.Basic.tag c.args.parents.now (locks_of c.args.nodes.items) (c.loop-number.number - 1) node
                c.index_mut.result.now.lock _ at locked low;
            fresh = ap (λ r. r.tests) c.blank-report.ensures;
          }) c.loop-number.invariant.given;
      counted = omega (arith, some, more, counted);
      room = c.push_reserved.ensures.capacity ∙ c.loop-number.invariant.room;
    }

pub returns-clause-filled : goal.returns-clause-filled
returns-clause-filled g c =
    let none = c.loop-number-test.false in
    subst (λ k. AreFilled g.B.Basic.name g.B.Basic.tag g.B.Basic.count g.B.Pass.Placed.place c.args.parents.now k c.loop-number.nodes.items)
    (omega (arith, none)) c.loop-number.invariant.filled

pub returns-clause-each : goal.returns-clause-each
returns-clause-each g c =
    let none = c.loop-number-test.false in
    λ k p e. subst (λ n. IsGiven g.B.Basic.name g.B.Basic.tag g.B.Pass.Placed.place c.args.level c.args.parents.now (locks_of
    c.args.nodes.items) n p) (omega (arith, none)) (c.loop-number.invariant.given k p (ap (λ l. slice_get l k) (sym c.reverse.ensures.items)
    ∙ e))
