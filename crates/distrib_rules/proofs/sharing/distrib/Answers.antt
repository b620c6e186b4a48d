use Rattle.std.proofs.Common.{◌≡◌, ℕ, List, [], length, ap, ◌∙◌, arith}
use Rattle.topo_tree.proofs.PlaceLaws.{some_count}
use Rattle.std.specs.List.{range_with_len}
use Rattle.distrib_rules.specs.Shares.{shared, in_order}
use Rattle.distrib_rules.specs.Expansion.{Way, expansion}
use Rattle.distrib_rules.specs.Masks.{with_pairs}
use Rattle.distrib_rules.proofs.AsMany.{as_many}
use Rattle.distrib_rules.proofs.sharing.distrib.Goals as goal

pub share_out-requires-clause-some : goal.share_out-requires-clause-some
share_out-requires-clause-some g c =
    omega (arith, c.count.ensures.count, some_count c.as_tree-tree.result.now c.depths.ensures.built c.args.from)

pub returns-clause-count : goal.returns-clause-count
returns-clause-count g c =
    let way : Way = record { to = c.args.to; backwards = c.args.reverse } in
    let now = c.as_tree-tree.result.now in
    let given = λ (old : List (List ℕ)) (count : ℕ). with_pairs now old
    (expansion now way (shared now c.args.n c.args.from (in_order c.args.reverse (range_with_len 0 count)))) in
    let all = c.in_ok-share_out.ensures ∙ ap (λ old. given old c.count.result) c.new-masks.ensures.items
    ∙ ap (given []) c.count.ensures.count in
    omega (arith, ap length all, as_many now c.depths.ensures.built way c.args.n c.args.from)
