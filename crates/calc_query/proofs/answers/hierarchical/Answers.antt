use Rattle.std.proofs.Common.{◌≡◌, List, [], ◌∷◌, ◌++◌, lit<, sym, ap, subst, ◌∙◌, arith}
use Rattle.std.specs.List.{All, AllByRecursion, flat_map}
use Rattle.std.proofs.lemmas.List.Elements.{All-cons, All-nil, All-same}
use Rattle.std.proofs.lemmas.List.{take_all}
use Rattle.std.proofs.lemmas.List.Sums.{fold_more}
use Rattle.topo_tree.specs.declared.layer.Layer.{Layer}
use Rattle.topo_tree.specs.Objects.{IsLayer, IsObject}
use Rattle.calc_query.specs.declared.query.Path.{Path}
use Rattle.calc_query.specs.Answers.{end_of, extended, chains}
use Rattle.calc_query.proofs.FitLaws.{chains_fit}
use Rattle.calc_query.proofs.answers.hierarchical.Goals as goal

pub loop-layer-init : goal.loop-layer-init
unfolding chains
loop-layer-init g c =
    let now = c.as_tree-tree.result.now in
    let start : Path = record { steps = [] } in
    let Ends : Path → Type 0 = λ p. IsObject now (end_of p) in
    let none : c.from_vec.result ≡ [] = c.from_vec.ensures ∙ c.new.ensures.items in
    let one : c.push.new.self.items ≡ start ∷ [] =
    c.in_ok-push.ensures.items ∙ ap (λ ps. ps ++ (record { steps = c.from_vec.result }) ∷ []) c.new-paths.ensures.items
    ∙ ap (λ steps. (record { steps = steps }) ∷ []) none in
    record {
      paths = one;
      ends = All-same Ends _ _ one (All-cons Ends start [] (record { layer = omega arith; index = lit< tt }) (All-nil Ends));
    }

pub loop-layer-preserved : goal.loop-layer-preserved
unfolding chains
loop-layer-preserved g c =
    let step = λ (paths : List Path) (layer : Layer). flat_map (extended c.as_tree-tree.result.now c.args.set.now layer) paths in
    let start : Path = record { steps = [] } in
    record {
      paths =
          c.in_ok-paths.ensures.paths
          ∙ ap (flat_map _) (c.deref.ensures.value ∙ c.loop-layer.invariant.paths)
          ∙ sym (fold_more step (start ∷ []) c.args.layers.now c.loop-layer.layer-index _ c.loop-layer-test.true);
      ends = c.in_ok-paths.ensures.ends;
    }

pub returns-clause-fit : goal.returns-clause-fit
returns-clause-fit g c =
    let now = c.as_tree-tree.result.now in
    let Fit : Path → Type 0 = λ path. All (λ step. IsObject now step.object) path.steps in
    let layers = subst (λ described. AllByRecursion (IsLayer described) c.args.layers.now) (sym c.as_tree-tree.ensures) c.requires in
    subst (λ described. All (λ path. All (λ step. IsObject described step.object) path.steps) c.loop-layer.paths.items)
    c.as_tree-tree.ensures
    (All-same Fit _ _
    (c.loop-layer.invariant.paths ∙ ap (chains now c.args.set.now)
    (take_all c.loop-layer.layer-index c.args.layers.now c.loop-layer-test.false))
    (chains_fit now c.args.set.now c.args.layers.now layers))
