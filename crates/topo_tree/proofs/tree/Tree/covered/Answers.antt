use Rattle.std.proofs.Common.{◌≡◌, ◌+◌, ◌*◌, ◌/◌, ◌<◌, length, take, get_or, slice_range, sym, ap, ◌∙◌, arith}
use Rattle.std.specs.List.{All}
use Rattle.std.proofs.lemmas.List.{get_or_default}
use Rattle.std.proofs.lemmas.List.Elements.{All-take, All-drop}
use Rattle.cpu_set.specs.Sets.{has, numbers_where}
use Rattle.synth_text.specs.Rules.{arities, product}
use Rattle.topo_tree.specs.Building.{pu_numbers}
use Rattle.topo_tree.specs.Coverage.{set_covered, layer_depth}
use Rattle.topo_tree.proofs.CountLaws.{have_arities, count_some}
use Rattle.topo_tree.proofs.Coverings.{set_covered_whole, divides}
use Rattle.topo_tree.proofs.Lookups.{length-pu_numbers, pus_low, pus_numbered}
use Rattle.topo_tree.proofs.tree.Tree.covered.Goals as goal

pub returns-clause-set : goal.returns-clause-set
returns-clause-set c =
    let now = c.args.self.now in
    let numbers = c.pus-numbers.result.now in
    let count = c.count-count.result in
    let index = c.args.object.index in
    let width = length numbers / count in
    let some_each = have_arities now c.pus-numbers.ensures.built.sound in
    let counted = c.count-count.ensures.count
    ∙ ap (λ depth. product (take depth (arities now.levels))) c.depth_of.ensures.depth in
    let some : 0 < count = omega (arith, counted, count_some (layer_depth now c.args.object.layer) now.levels some_each) in
    let whole = divides now.levels (layer_depth now c.args.object.layer) (length numbers) count some_each
    (ap length c.pus-numbers.ensures.numbers ∙ length-pu_numbers now) counted in
    let end : index * width + width ≡ (index + 1) * width = omega arith in
    ap (λ to. numbers_where (has (slice_range numbers (index * width) to))) end
    ∙ sym (set_covered_whole numbers count index some whole)
    ∙ ap (λ ns. set_covered ns count index) c.pus-numbers.ensures.numbers
    ∙ ap (λ n. set_covered (pu_numbers now) n index) counted

pub returns-clause-limit : goal.returns-clause-limit
returns-clause-limit c =
    let now = c.args.self.now in
    let numbers = c.pus-numbers.result.now in
    let same = c.pus-numbers.ensures.numbers in
    let all : All (λ number. number < 4096) numbers = λ k d within.
    let low = pus_low now (pus_numbered now c.pus-numbers.ensures.built) k (omega (arith, within, ap length same)) in
    omega (arith, low, get_or_default numbers k d 0 within, ap (λ ns. get_or ns k 0) same) in
    All-take (λ number. number < 4096) _ _ (All-drop (λ number. number < 4096) _ numbers all)
