use Rattle.std.proofs.Common.{ℕ, ◌+◌, ◌-◌, ◌<◌, sym, ap, ◌∙◌, arith}
use Rattle.std.specs.List.{slice_get}
use Rattle.synth_text.specs.Kinds.{same_kind}
use Rattle.topo_tree.specs.Objects.{depth_count, kind_at}
use Rattle.topo_tree.specs.Naming.{depths_of}
use Rattle.topo_tree.proofs.Depths.{passing_from, passing_out, numbered_first, numbered_later}
use Rattle.topo_tree.proofs.tree.Tree.numbered_depth.Goals as goal
use Rattle.topo_tree.proofs.tree.Tree.numbered_depth.Goals.{then-is_same+else-above-number, else-is_same}

pub loop-depth-init : goal.loop-depth-init
unfolding depths_of
loop-depth-init c =
    record {
      few = omega arith;
      rest = numbered_first (λ d. same_kind (kind_at c.args.self.now d) c.args.kind)
          (depth_count c.args.self.now) c.args.number;
    }

pub loop-depth-preserved : goal.loop-depth-preserved
loop-depth-preserved c =
    let now = c.args.self.now in
    let kind = c.args.kind in
    let depth = c.loop-depth.depth in
    let above = c.loop-depth.above in
    let number = c.args.number in
    let test = λ (d : ℕ). same_kind (kind_at now d) kind in
    let within : depth < depth_count now = omega (arith, c.loop-depth-test.true, c.depths-depth-end.ensures.count) in
    let tested = ap (λ k. same_kind k kind) (sym c.kind.ensures) ∙ sym c.is_same.ensures in
    elim c.if-is_same.branch [
      | then-is_same+else-above-number w ↦
          let more : above < number = omega (arith, c.loop-depth.invariant.few, w.if-above-number.false) in
          record {
            few = omega (arith, w.above-is);
            rest =
                ap (λ n. slice_get (passing_from test (depth + 1) (depth_count now)) (number - n)) w.above-is
                ∙ sym (numbered_later test depth (depth_count now) number above within (tested ∙ w.if-is_same.true) more)
                ∙ c.loop-depth.invariant.rest;
          }
      | else-is_same w ↦ record {
        few = omega (arith, w.above-is, c.loop-depth.invariant.few);
        rest =
            ap (λ n. slice_get (passing_from test (depth + 1) (depth_count now)) (number - n)) w.above-is
            ∙ ap (λ depths. slice_get depths (number - above))
            (sym (passing_out test depth (depth_count now) within (tested ∙ w.if-is_same.false)))
            ∙ c.loop-depth.invariant.rest;
      }
    ]
