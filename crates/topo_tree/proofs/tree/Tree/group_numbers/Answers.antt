use Rattle.std.proofs.Common.{◌≡◌, ◌+◌, ◌<◌, [], ◌∷◌, ◌++◌, length, map, sym, ap, ◌∙◌, arith}
use Rattle.std.proofs.lemmas.List.{length-map}
use Rattle.std.proofs.lemmas.List.FromFn.{map-range_with_len_more}
use Rattle.std.proofs.lemmas.List.Sums.{count_by_more_yes, count_by_more_no}
use Rattle.std.specs.List.{range_with_len}
use Rattle.synth_text.specs.declared.kind.Kind.TheVariants.{Machine, Group}
use Rattle.synth_text.specs.declared.description.Level.{Level}
use Rattle.synth_text.specs.Kinds.{same_kind}
use Rattle.topo_tree.specs.Objects.{depth_count, kinds}
use Rattle.topo_tree.specs.Lines.{group_number, group_numbers}
use Rattle.topo_tree.proofs.tree.Tree.group_numbers.Goals as goal
use Rattle.topo_tree.proofs.tree.Tree.group_numbers.Goals.{then-is_same, else-is_same}

pub loop-depth-preserved : goal.loop-depth-preserved
loop-depth-preserved c =
    let now = c.args.self.now in
    let depth = c.loop-depth.depth in
    let so_far = c.loop-depth.invariant in
    let within : depth < length (kinds now) =
    omega (arith, c.depths-depth-end.ensures.count, c.loop-depth-test.true, length-map now.levels (λ (level : Level). level.kind)) in
    let tested = ap (λ kind. same_kind kind Group) (sym c.kind.ensures) ∙ sym c.is_same.ensures in
    let pushed =
    c.in_ok-push.ensures.items ∙ ap (λ numbers. numbers ++ c.loop-depth.number ∷ []) so_far.numbers
    ∙ ap (λ number. map (group_number now) (range_with_len 0 depth) ++ number ∷ []) so_far.number
    ∙ sym (map-range_with_len_more (group_number now) 0 depth depth (omega arith)) in
    elim c.if-is_same.branch [
      | then-is_same w ↦ record {
        few = omega (arith, w.number-is, so_far.few);
        number =
            w.number-is ∙ ap (λ n. n + 1) so_far.number
            ∙ sym (count_by_more_yes (λ kind. same_kind kind Group) (kinds now) depth Machine within (tested ∙ w.if-is_same.true));
        numbers = pushed;
      }
      | else-is_same w ↦ record {
        few = omega (arith, w.number-is, so_far.few);
        number =
            w.number-is ∙ so_far.number ∙ sym
            (count_by_more_no (λ kind. same_kind kind Group) (kinds now) depth Machine within (tested ∙ w.if-is_same.false));
        numbers = pushed;
      }
    ]

pub returns : goal.returns
unfolding group_numbers
returns c =
    let now = c.args.self.now in
    let all : c.loop-depth.depth ≡ depth_count now = omega (arith, c.depths-depth-end.ensures.count) in
    c.loop-depth.invariant.numbers ∙ ap (λ count. map (group_number now) (range_with_len 0 count)) all
