use Rattle.std.proofs.Common.{◌≡◌, ◌<◌, ℕ, Bool, [], ◌∷◌, ◌++◌, sym, ap, subst, ◌∙◌, arith}
use Rattle.std.specs.List.{All, filter, range_with_len}
use Rattle.std.proofs.lemmas.List.Elements.{All-same}
use Rattle.cpu_set.specs.Tests.{meets}
use Rattle.topo_tree.specs.Objects.{count_of}
use Rattle.topo_tree.specs.Coverage.{set_of}
use Rattle.calc_query.specs.Answers.{intersecting}
use Rattle.calc_query.proofs.ChainLaws.{filter_in_range, filter_out_range}
use Rattle.calc_query.proofs.FitLaws.{kept_below}
use Rattle.calc_query.proofs.answers.intersecting.Goals as goal
use Rattle.calc_query.proofs.answers.intersecting.Goals.{then-meets+in_ok-push, else-meets}

pub loop-index-preserved : goal.loop-index-preserved
loop-index-preserved g c =
    let set = c.args.set.now in
    let index = c.loop-index.index in
    let sets = set_of c.as_tree-tree.result.now c.args.layer in
    let test : ℕ → Bool = λ i. meets (sets i) set in
    let tested = sym c.meets.ensures in
    elim c.if-meets.branch [
      | then-meets+in_ok-push w ↦
          ap (λ v. v.items) w.indexes-is ∙ w.in_ok-push.ensures.items ∙ ap (λ is. is ++ index ∷ []) c.loop-index.invariant
          ∙ filter_in_range test index (tested ∙ w.if-meets.true)
      | else-meets w ↦ ap (λ v. v.items) w.indexes-is ∙ c.loop-index.invariant ∙ filter_out_range test index (tested ∙ w.if-meets.false)
    ]

pub returns-clause-indexes : goal.returns-clause-indexes
unfolding intersecting
returns-clause-indexes g c =
    let all : c.loop-index.index ≡ c.count-index-end.result = omega arith in
    c.loop-index.invariant ∙ ap (λ count. filter (λ i. meets (set_of c.as_tree-tree.result.now c.args.layer i) c.args.set.now)
    (range_with_len 0 count)) (all ∙ c.count-index-end.ensures.count)
    ∙ ap (λ now. intersecting now c.args.set.now c.args.layer) c.as_tree-tree.ensures

pub returns-clause-fit : goal.returns-clause-fit
returns-clause-fit g c =
    let now = c.as_tree-tree.result.now in
    let layer = c.args.layer in
    let test : ℕ → Bool = λ i. meets (set_of now layer i) c.args.set.now in
    let all : c.loop-index.index ≡ count_of now layer = let below : c.loop-index.index ≡ c.count-index-end.result = omega arith in below
    ∙ c.count-index-end.ensures.count in
    let items : c.loop-index.indexes.items ≡ filter test (range_with_len 0 (count_of now layer)) =
    c.loop-index.invariant ∙ ap (λ count. filter test (range_with_len 0 count)) all in
    subst (λ described. All (λ index. index < count_of described layer) c.loop-index.indexes.items) c.as_tree-tree.ensures
    (All-same (λ index. index < count_of now layer) _ _ items (kept_below test (count_of now layer)))
