use Rattle.std.proofs.Common.{◌≡◌, true, false, rules, ◌&&◌, get_or, sym, ap, ◌∙◌}
use Rattle.std.specs.List.{list_all}
use Rattle.std.proofs.lemmas.List.{take_all}
use Rattle.std.proofs.lemmas.List.Folds.{list_all_more, list_all_at}
use Rattle.cpu_set.specs.Sets.{has}
use Rattle.cpu_set.specs.Tests.{is_inside}
use Rattle.topo_tree.proofs.NumberTests.{has_found}
use Rattle.topo_tree.proofs.sets.all_in.Goals as goal

pub loop-number-preserved : goal.loop-number-preserved
loop-number-preserved c =
    let set = c.args.set.now in
    let numbers = c.args.numbers.now in
    let index = c.loop-number.number-index in
    let number = get_or numbers index 0 in
    let yes : c.has.result ≡ true = search rules in
    list_all_more (has set) numbers index 0 c.loop-number-test.true
    ∙ ap (λ all. all && has set number) c.loop-number.invariant
    ∙ sym (has_found set number c.has.result c.has.ensures.found) ∙ yes

pub returns-then-not-has : goal.returns-then-not-has
unfolding is_inside
returns-then-not-has c =
    let set = c.args.set.now in
    let numbers = c.args.numbers.now in
    let index = c.loop-number.number-index in
    let no : c.has.result ≡ false = search rules in
    sym (list_all_at (has set) numbers index 0 c.loop-number-test.true
    (sym (has_found set (get_or numbers index 0) c.has.result c.has.ensures.found) ∙ no))

pub returns : goal.returns
unfolding is_inside
returns c =
    sym (ap (list_all (has c.args.set.now)) (sym (take_all c.loop-number.number-index c.args.numbers.now c.loop-number-test.false))
    ∙ c.loop-number.invariant)
