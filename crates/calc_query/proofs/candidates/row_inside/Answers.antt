use Rattle.std.proofs.Common.{ℕ, ◌-◌, ◌/◌, sym, ap, ◌∙◌, arith}
use Rattle.std.specs.List.{range_with_len}
use Rattle.topo_tree.specs.Beginnings.{width_at}
use Rattle.topo_tree.specs.Coverage.{layer_depth, set_of}
use Rattle.calc_query.proofs.CandidateLaws.{found, first_inside, end_inside, run_inside, run_within, none_inside}
use Rattle.calc_query.proofs.candidates.row_inside.Goals as goal

pub returns-then-count-eq0-clause-run : goal.returns-then-count-eq0-clause-run
returns-then-count-eq0-clause-run c =
    none_inside c.args.tree.now c.depths.ensures.built c.args.layer c.args.outer.layer c.args.outer.index
    (set_of c.args.tree.now c.args.outer.layer c.args.outer.index)
    (sym c.count-count.ensures.count ∙ c.if-count-eq0.true)

pub overflow_sub-first : goal.overflow_sub-first
overflow_sub-first c =
    let here = found c.args.tree.now c.args.layer c.args.outer.layer c.args.outer.index c.depths.result c.count-pus.result
    c.count-count.result c.count.result
    c.depths.ensures.built c.depths.ensures.count c.count-pus.ensures.count c.count-count.ensures.count c.if-count-eq0.false
    c.count.ensures.count c.requires.outer.index in
    omega (arith, here.some)

pub nonzero_div-first : goal.nonzero_div-first
nonzero_div-first c =
    let here = found c.args.tree.now c.args.layer c.args.outer.layer c.args.outer.index c.depths.result c.count-pus.result
    c.count-count.result c.count.result
    c.depths.ensures.built c.depths.ensures.count c.count-pus.ensures.count c.count-count.ensures.count c.if-count-eq0.false
    c.count.ensures.count c.requires.outer.index in
    omega (arith, here.some)

pub nonzero_div-end : goal.nonzero_div-end
nonzero_div-end c =
    let here = found c.args.tree.now c.args.layer c.args.outer.layer c.args.outer.index c.depths.result c.count-pus.result
    c.count-count.result c.count.result
    c.depths.ensures.built c.depths.ensures.count c.count-pus.ensures.count c.count-count.ensures.count c.if-count-eq0.false
    c.count.ensures.count c.requires.outer.index in
    omega (arith, here.some)

pub returns-clause-run : goal.returns-clause-run
returns-clause-run c =
    let now = c.args.tree.now in
    let built = c.depths.ensures.built in
    let layer = c.args.layer in
    let outer_layer = c.args.outer.layer in
    let outer = c.args.outer.index in
    let here = found now layer outer_layer outer c.depths.result c.count-pus.result c.count-count.result c.count.result
    built c.depths.ensures.count c.count-pus.ensures.count c.count-count.ensures.count c.if-count-eq0.false c.count.ensures.count
    c.requires.outer.index in
    let run = λ (width outer_width : ℕ). range_with_len (first_inside now built layer outer_layer outer width outer_width)
    (end_inside now built layer outer_layer outer width outer_width - first_inside now built layer outer_layer outer width outer_width)
    in
    run_inside now built layer outer_layer outer here.counted here.within
    ∙ ap (λ width. run width (width_at now (layer_depth now outer_layer))) (sym here.width)
    ∙ ap (λ outer_width. run (c.count-pus.result / c.count-count.result) outer_width) (sym here.outer_width)
    ∙ ap (λ count. range_with_len (first_inside now built layer outer_layer outer (c.count-pus.result / c.count-count.result)
    (c.count-pus.result / c.count.result)) count) (sym c.saturating_sub.ensures)

pub returns-clause-within : goal.returns-clause-within
returns-clause-within c =
    let now = c.args.tree.now in
    let built = c.depths.ensures.built in
    let layer = c.args.layer in
    let outer_layer = c.args.outer.layer in
    let outer = c.args.outer.index in
    let here = found now layer outer_layer outer c.depths.result c.count-pus.result c.count-count.result c.count.result
    built c.depths.ensures.count c.count-pus.ensures.count c.count-count.ensures.count c.if-count-eq0.false c.count.ensures.count
    c.requires.outer.index in
    let first = λ (width outer_width : ℕ). first_inside now built layer outer_layer outer width outer_width in
    let end = λ (width outer_width : ℕ). end_inside now built layer outer_layer outer width outer_width in
    let width = c.count-pus.result / c.count-count.result in
    let outer_width = c.count-pus.result / c.count.result in
    let firsts = ap (λ n. first n outer_width) here.width ∙ ap (first (width_at now (layer_depth now layer))) here.outer_width in
    let ends = ap (λ n. end n outer_width) here.width ∙ ap (end (width_at now (layer_depth now layer))) here.outer_width in
    omega (arith, run_within now built layer outer_layer outer here.counted here.within, firsts, ends, c.saturating_sub.ensures)

pub returns-clause-few : goal.returns-clause-few
returns-clause-few c =
    let now = c.args.tree.now in
    let built = c.depths.ensures.built in
    let layer = c.args.layer in
    let outer_layer = c.args.outer.layer in
    let outer = c.args.outer.index in
    let here = found now layer outer_layer outer c.depths.result c.count-pus.result c.count-count.result c.count.result
    built c.depths.ensures.count c.count-pus.ensures.count c.count-count.ensures.count c.if-count-eq0.false c.count.ensures.count
    c.requires.outer.index in
    let first = λ (width outer_width : ℕ). first_inside now built layer outer_layer outer width outer_width in
    let end = λ (width outer_width : ℕ). end_inside now built layer outer_layer outer width outer_width in
    let width = c.count-pus.result / c.count-count.result in
    let outer_width = c.count-pus.result / c.count.result in
    let firsts = ap (λ n. first n outer_width) here.width ∙ ap (first (width_at now (layer_depth now layer))) here.outer_width in
    let ends = ap (λ n. end n outer_width) here.width ∙ ap (end (width_at now (layer_depth now layer))) here.outer_width in
    omega (
      arith,
      run_within now built layer outer_layer outer here.counted here.within,
      firsts,
      ends,
      c.saturating_sub.ensures,
      c.count-count.ensures.count,
      c.count-count.ensures.few,
    )
