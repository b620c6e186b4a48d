use Rattle.std.proofs.Common.{◌+◌, [], ◌∷◌, ◌++◌, sym, ap, subst, ◌∙◌, arith}
use Rattle.std.proofs.lemmas.List.Elements.{All-push, All-same}
use Rattle.topo_tree.specs.Objects.{IsObject}
use Rattle.topo_tree.specs.Coverage.{set_of}
use Rattle.calc_query.specs.declared.query.Path.{Path}
use Rattle.calc_query.specs.Candidates.{candidates}
use Rattle.calc_query.specs.Answers.{end_of}
use Rattle.calc_query.proofs.ChainLaws.{through-more, through-none, through-all, end_of-with_step}
use Rattle.calc_query.proofs.answers.push_extended.Goals as goal
use Rattle.calc_query.proofs.answers.push_extended.Goals.{then-meets+in_ok-with_step+in_ok-push, else-meets}

pub loop-position-preserved : goal.loop-position-preserved
loop-position-preserved c =
    let now = c.args.tree.now in
    let set = c.args.set.now in
    let layer = c.args.layer in
    let path = c.args.path.now in
    let first = c.row_inside-row.result.first in
    let count = c.row_inside-row.result.count in
    let position = c.loop-position.position in
    let out = c.args.out.now.items in
    let so_far = c.loop-position.invariant in
    let tested = c.meets.ensures in
    let Ends : Path → Type 0 = λ p. IsObject now (end_of p) in
    elim c.if-meets.branch [
      | then-meets+in_ok-with_step+in_ok-push w ↦
          let longer = w.in_ok-with_step.field-0 in
          let pushed = ap (λ v. v.items) w.out-is ∙ w.in_ok-push.ensures.items in
          let end = ap end_of w.in_ok-with_step.ensures
          ∙ end_of-with_step path (record { object = record { layer = layer; index = first + position }; position = position }) in
          record {
            paths =
                pushed ∙ ap (λ ps. ps ++ longer ∷ []) so_far.paths
                ∙ through-more now set layer path first count out position c.meets.result longer c.loop-position-test.true tested
                w.if-meets.true w.in_ok-with_step.ensures;
            ends = All-same Ends _ _ pushed (All-push Ends c.loop-position.out.items longer so_far.ends
                (subst (IsObject now) (sym end) (record {
                  layer = c.requires.layer;
                  index =
                      omega (arith, c.row_inside-row.ensures.within, c.loop-position-test.true);
                })));
          }
      | else-meets w ↦ record {
        paths = ap (λ v. v.items) w.out-is ∙ so_far.paths
            ∙ through-none now set layer path first count out position c.meets.result c.loop-position-test.true tested w.if-meets.false;
        ends = All-same Ends _ _ (ap (λ v. v.items) w.out-is) so_far.ends;
      }
    ]

pub returns-clause-paths : goal.returns-clause-paths
returns-clause-paths c =
    let now = c.args.tree.now in
    let path = c.args.path.now in
    c.loop-position.invariant.paths
    ∙ ap (λ ps. c.args.out.now.items ++ ps) (through-all now c.args.set.now c.args.layer path c.row_inside-row.result.first
    c.row_inside-row.result.count c.loop-position.position (omega arith)
    (ap (λ object. candidates now c.args.layer (set_of now object.layer object.index)) (sym c.end_of.ensures)
    ∙ c.row_inside-row.ensures.run))
