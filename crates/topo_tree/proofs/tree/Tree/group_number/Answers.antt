use Rattle.std.proofs.Common.{◌+◌, ◌<◌, length, sym, ap, ◌∙◌, arith}
use Rattle.std.proofs.lemmas.List.{length-map}
use Rattle.std.proofs.lemmas.List.Sums.{count_by_more_yes, count_by_more_no}
use Rattle.synth_text.specs.declared.kind.Kind.TheVariants.{Machine, Group}
use Rattle.synth_text.specs.declared.description.Level.{Level}
use Rattle.synth_text.specs.Kinds.{same_kind}
use Rattle.topo_tree.specs.Objects.{kinds}
use Rattle.topo_tree.proofs.tree.Tree.group_number.Goals as goal
use Rattle.topo_tree.proofs.tree.Tree.group_number.Goals.{then-is_same, else-is_same}

pub loop-above-preserved : goal.loop-above-preserved
loop-above-preserved c =
    let now = c.args.self.now in
    let depth = c.loop-above.above in
    let so_far = c.loop-above.invariant in
    let within : depth < length (kinds now) =
    omega (arith, c.requires, c.loop-above-test.true, length-map now.levels (λ (level : Level). level.kind)) in
    let tested = ap (λ kind. same_kind kind Group) (sym c.kind.ensures) ∙ sym c.is_same.ensures in
    elim c.if-is_same.branch [
      | then-is_same w ↦ record {
        few = omega (arith, w.number-is, so_far.few);
        number =
            w.number-is ∙ ap (λ n. n + 1) so_far.number
            ∙ sym (count_by_more_yes (λ kind. same_kind kind Group) (kinds now) depth Machine within (tested ∙ w.if-is_same.true));
      }
      | else-is_same w ↦ record {
        few = omega (arith, w.number-is, so_far.few);
        number =
            w.number-is ∙ so_far.number ∙ sym
            (count_by_more_no (λ kind. same_kind kind Group) (kinds now) depth Machine within (tested ∙ w.if-is_same.false));
      }
    ]
