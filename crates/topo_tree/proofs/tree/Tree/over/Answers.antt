use Rattle.std.proofs.Common.{◌≡◌, ◌<◌, ◌/◌, ℕ, length, get_or, sym, ap, ◌∙◌, subst, arith}
use Rattle.synth_text.specs.Rules.{pu_count}
use Rattle.topo_tree.specs.Objects.{count_at}
use Rattle.topo_tree.specs.Coverage.{object_over}
use Rattle.topo_tree.proofs.CountLaws.{some_objects}
use Rattle.topo_tree.proofs.Lookups.{numbered, length-depth_counts, depth_counts-at, length-pu_numbers}
use Rattle.topo_tree.proofs.OverLaws.{width_positive, over_within}
use Rattle.topo_tree.proofs.tree.Tree.over.Goals as goal

pub overflow_cast-result : goal.overflow_cast-result
overflow_cast-result c =
    let now = c.args.self.now in
    let here = numbered c.self.inside now c.self.invariant c.self.view_is in
    omega (arith, ap length here.numbers, length-pu_numbers now, here.built.sound.pus)

pub index-requires : goal.index-requires
index-requires c =
    let now = c.args.self.now in
    let here = numbered c.self.inside now c.self.invariant c.self.view_is in
    omega (arith, c.requires, ap length here.counts, length-depth_counts now.levels)

pub nonzero_div-result : goal.nonzero_div-result
nonzero_div-result c =
    let now = c.args.self.now in
    let depth = c.args.depth in
    let here = numbered c.self.inside now c.self.invariant c.self.view_is in
    let count : c.index.result.now ≡ count_at now depth =
    c.index.ensures ∙ ap (λ counts. get_or counts depth c.index.result.now) here.counts
    ∙ depth_counts-at now.levels depth c.index.result.now c.requires in
    omega (arith, count, some_objects now depth here.built.sound)

pub nonzero_div-result-2 : goal.nonzero_div-result-2
nonzero_div-result-2 c =
    let now = c.args.self.now in
    let depth = c.args.depth in
    let here = numbered c.self.inside now c.self.invariant c.self.view_is in
    let count : c.index.result.now ≡ count_at now depth =
    c.index.ensures ∙ ap (λ counts. get_or counts depth c.index.result.now) here.counts
    ∙ depth_counts-at now.levels depth c.index.result.now c.requires in
    let pus : c.len.result ≡ pu_count now = omega (arith, ap length here.numbers, length-pu_numbers now) in
    let whole = ap (λ n. n / c.index.result.now) pus ∙ ap (λ n. pu_count now / n) count in
    subst (λ n. 0 < n) (sym whole) (width_positive now depth here.built.sound)

pub returns-clause-object : goal.returns-clause-object
returns-clause-object c =
    let now = c.args.self.now in
    let depth = c.args.depth in
    let here = numbered c.self.inside now c.self.invariant c.self.view_is in
    let count : c.index.result.now ≡ count_at now depth =
    c.index.ensures ∙ ap (λ counts. get_or counts depth c.index.result.now) here.counts
    ∙ depth_counts-at now.levels depth c.index.result.now c.requires in
    let pus : c.len.result ≡ pu_count now = omega (arith, ap length here.numbers, length-pu_numbers now) in
    ap (λ n. c.args.pu / (n / c.index.result.now)) pus ∙ ap (λ n. c.args.pu / (pu_count now / n)) count

pub returns-clause-fit : goal.returns-clause-fit
returns-clause-fit c = λ inside.
    let now = c.args.self.now in
    let depth = c.args.depth in
    let here = numbered c.self.inside now c.self.invariant c.self.view_is in
    let count : c.index.result.now ≡ count_at now depth =
    c.index.ensures ∙ ap (λ counts. get_or counts depth c.index.result.now) here.counts
    ∙ depth_counts-at now.levels depth c.index.result.now c.requires in
    let pus : c.len.result ≡ pu_count now = omega (arith, ap length here.numbers, length-pu_numbers now) in
    let object = ap (λ n. c.args.pu / (n / c.index.result.now)) pus ∙ ap (λ n. c.args.pu / (pu_count now / n)) count in
    subst (λ n. n < count_at now depth) (sym object) (over_within now depth c.args.pu here.built.sound inside)
