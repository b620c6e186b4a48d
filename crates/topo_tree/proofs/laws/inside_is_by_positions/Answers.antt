use Rattle.std.proofs.Common.{◌+◌, ◌*◌, ◌&&◌, nat_le, sym, ap, ◌∙◌}
use Rattle.synth_text.specs.Rules.{pu_count}
use Rattle.topo_tree.specs.Objects.{count_at}
use Rattle.topo_tree.specs.Coverage.{first_covered}
use Rattle.topo_tree.specs.Beginnings.{width_at}
use Rattle.topo_tree.proofs.PlaceLaws.{first-at, set_at-inside}
use Rattle.topo_tree.proofs.laws.inside_is_by_positions.Goals as goal

pub returns : goal.returns
returns c = λ described depth index other above built below.
    set_at-inside described built depth index other above below
    ∙ ap (λ n. nat_le n (index * width_at described depth) && nat_le ((index + 1) * width_at described depth)
    ((above + 1) * width_at described other)) (sym (first-at described built other above))
    ∙ ap (λ n. nat_le (first_covered (pu_count described) (count_at described other) above) n && nat_le
    ((index + 1) * width_at described depth) ((above + 1) * width_at described other)) (sym (first-at described built depth index))
    ∙ ap (λ n. nat_le (first_covered (pu_count described) (count_at described other) above)
    (first_covered (pu_count described) (count_at described depth) index) && nat_le n ((above + 1) * width_at described other))
    (sym (first-at described built depth (index + 1)))
    ∙ ap (λ n. nat_le (first_covered (pu_count described) (count_at described other) above)
    (first_covered (pu_count described) (count_at described depth) index) && nat_le
    (first_covered (pu_count described) (count_at described depth) (index + 1)) n) (sym (first-at described built other (above + 1)))
