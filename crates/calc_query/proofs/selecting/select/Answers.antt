use Rattle.std.proofs.Common.{ℕ, List, [], take, sym, ap, ◌∙◌}
use Rattle.std.specs.List.{fold}
use Rattle.std.proofs.lemmas.List.Sums.{fold_more}
use Rattle.calc_query.specs.declared.query.Term.{Term}
use Rattle.calc_query.specs.Selection.{operated, located, selected}
use Rattle.calc_query.proofs.selecting.select.Goals as goal

pub loop-term-init : goal.loop-term-init
unfolding selected
loop-term-init g c = c.empty-set.ensures

pub loop-term-preserved : goal.loop-term-preserved
unfolding selected
loop-term-preserved g c =
    let now = c.as_tree-tree.result.now in
    let step = λ (set : List ℕ) (term : Term). operated term.op set (located now c.args.numbering term.location) in
    let terms = c.args.terms.now in
    let place = c.loop-term.term-index in
    let term = c.term-item.result in
    c.operated-set.ensures ∙ ap (operated term.op c.loop-term.set) c.located-other.ensures
    ∙ ap (λ set. step set term) c.loop-term.invariant
    ∙ ap (step (fold step [] (take place terms))) c.term-item.is
    ∙ sym (fold_more step [] terms place term c.loop-term-test.true)
