use Rattle.std.proofs.Common.{◌||◌, get_or, sym, ap, ◌∙◌}
use Rattle.std.specs.List.{list_any}
use Rattle.std.proofs.lemmas.List.{take_all}
use Rattle.std.proofs.lemmas.List.Folds.{list_any_more, list_any_at}
use Rattle.cpu_set.specs.Sets.{has}
use Rattle.cpu_set.specs.Tests.{meets}
use Rattle.topo_tree.proofs.NumberTests.{has_found}
use Rattle.topo_tree.proofs.sets.some_in.Goals as goal

pub loop-number-preserved : goal.loop-number-preserved
loop-number-preserved c =
    let set = c.args.set.now in
    let numbers = c.args.numbers.now in
    let index = c.loop-number.number-index in
    let number = get_or numbers index 0 in
    list_any_more (has set) numbers index 0 c.loop-number-test.true
    ∙ ap (λ some. some || has set number) c.loop-number.invariant
    ∙ sym (has_found set number c.has.result c.has.ensures.found) ∙ c.if-has.false

pub returns-then-has : goal.returns-then-has
unfolding meets
returns-then-has c =
    let set = c.args.set.now in
    let numbers = c.args.numbers.now in
    let index = c.loop-number.number-index in
    sym (list_any_at (has set) numbers index 0 c.loop-number-test.true
    (sym (has_found set (get_or numbers index 0) c.has.result c.has.ensures.found) ∙ c.if-has.true))

pub returns : goal.returns
unfolding meets
returns c =
    sym (ap (list_any (has c.args.set.now)) (sym (take_all c.loop-number.number-index c.args.numbers.now c.loop-number-test.false))
    ∙ c.loop-number.invariant)
