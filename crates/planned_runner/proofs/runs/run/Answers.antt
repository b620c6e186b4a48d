use Rattle.std.proofs.Common.{◌≡◌, ◌∙◌, ap, arith, length}
use Rattle.std.proofs.lemmas.Result.{IfOk-weaker}
use Rattle.lock_levels.proofs.Levels.{shape_named}
use Rattle.threaded_runner.specs.Books.{book_tag}
use Rattle.planned_runner.proofs.runs.run.Goals as goal

pub rise_flat-requires-clause-may : goal.rise_flat-requires-clause-may
rise_flat-requires-clause-may g c κs within =
    let same : c.in_ok-root.root.trail.shape ≡ c.args.shape.now =
    ap (λ t. t.shape) c.in_ok-root.ensures.trail ∙ c.in_ok-copied_shape.ensures in
    record {
      formed = c.requires.formed;
      few = omega (arith, c.requires.few, c.requires.callers);
      shape_is = shape_named book_tag c.in_ok-root.root c.args.shape.now same;
      kinds_each = c.requires.plan;
      dealt_is = c.in_ok-root.ensures.dealt;
    }

pub rise-requires-clause-may : goal.rise-requires-clause-may
rise-requires-clause-may g c κs within =
    let same : c.in_ok-root.root.trail.shape ≡ c.args.shape.now =
    ap (λ t. t.shape) c.in_ok-root.ensures.trail ∙ c.in_ok-copied_shape.ensures in
    record {
      formed = c.requires.formed;
      few = omega (arith, c.requires.few, c.requires.callers);
      shape_is = shape_named book_tag c.in_ok-root.root c.args.shape.now same;
      kinds_each = c.requires.plan;
      dealt_is = c.in_ok-root.ensures.dealt;
    }

pub returns-then-top-eq0-clause-shape : goal.returns-then-top-eq0-clause-shape
returns-then-top-eq0-clause-shape g c =
    let same : c.in_ok-root.root.trail.shape ≡ c.args.shape.now =
    ap (λ t. t.shape) c.in_ok-root.ensures.trail ∙ c.in_ok-copied_shape.ensures in
    IfOk-weaker c.rise_flat.result _ _ (λ left is. is.shape_is ∙ shape_named book_tag c.in_ok-root.root c.args.shape.now same)
    c.rise_flat.ensures

pub returns-else-top-eq0-clause-shape : goal.returns-else-top-eq0-clause-shape
returns-else-top-eq0-clause-shape g c =
    let same : c.in_ok-root.root.trail.shape ≡ c.args.shape.now =
    ap (λ t. t.shape) c.in_ok-root.ensures.trail ∙ c.in_ok-copied_shape.ensures in
    IfOk-weaker c.rise.result _ _ (λ left is. is.shape_is ∙ shape_named book_tag c.in_ok-root.root c.args.shape.now same)
    c.rise.ensures

pub rise_flat-requires-clause-top : goal.rise_flat-requires-clause-top
rise_flat-requires-clause-top g c κs within =
    let kinds = ap length c.as_slice.ensures in
    let plan = c.requires.plan in let one = c.if-top-eq0.true in omega (arith, kinds, plan, one)

pub rise_flat-requires-clause-shape : goal.rise_flat-requires-clause-shape
rise_flat-requires-clause-shape g c κs within = ap (λ t. t.shape) c.in_ok-root.ensures.trail ∙ c.in_ok-copied_shape.ensures

pub returns-then-top-eq0-clause-finished : goal.returns-then-top-eq0-clause-finished
returns-then-top-eq0-clause-finished g c = IfOk-weaker c.rise_flat.result _ _ (λ left is. is.finished) c.rise_flat.ensures

pub rise-requires-clause-top : goal.rise-requires-clause-top
rise-requires-clause-top g c κs within =
    let kinds = ap length c.as_slice.ensures in
    let plan = c.requires.plan in omega (arith, kinds, plan)

pub rise-requires-clause-most : goal.rise-requires-clause-most
rise-requires-clause-most g c κs within =
    let kinds = ap length c.as_slice.ensures in
    let plan = c.requires.plan in
    let levels = c.requires.levels in omega (arith, kinds, plan, levels)

pub rise-requires-clause-shape : goal.rise-requires-clause-shape
rise-requires-clause-shape g c κs within = ap (λ t. t.shape) c.in_ok-root.ensures.trail ∙ c.in_ok-copied_shape.ensures

pub returns-else-top-eq0-clause-finished : goal.returns-else-top-eq0-clause-finished
returns-else-top-eq0-clause-finished g c = IfOk-weaker c.rise.result _ _ (λ left is. is.finished) c.rise.ensures

pub returns-then-top-eq0-clause-sections : goal.returns-then-top-eq0-clause-sections
returns-then-top-eq0-clause-sections g c =
    IfOk-weaker c.rise_flat.result _ _ (λ left is. is.sections_are ∙ c.in_ok-root.ensures.dealt.told) c.rise_flat.ensures

pub returns-else-top-eq0-clause-sections : goal.returns-else-top-eq0-clause-sections
returns-else-top-eq0-clause-sections g c =
    IfOk-weaker c.rise.result _ _ (λ left is. is.sections_are ∙ c.in_ok-root.ensures.dealt.told) c.rise.ensures
