use Rattle.std.proofs.Common.{◌≡◌, [], ◌∷◌, ◌++◌, map, sym, ap, ◌∙◌, arith}
use Rattle.std.proofs.lemmas.List.FromFn.{map-range_with_len_more}
use Rattle.std.specs.List.{range_with_len}
use Rattle.topo_tree.specs.Coverage.{set_covered}
use Rattle.topo_tree.specs.TableLists.{sets_covered}
use Rattle.topo_tree.proofs.Coverings.{set_covered_whole}
use Rattle.topo_tree.proofs.sets.sets_covered.Goals as goal

pub loop-index-preserved : goal.loop-index-preserved
loop-index-preserved c =
    let numbers = c.args.numbers.now in
    let index = c.loop-index.index in
    c.in_ok-push.ensures.items
    ∙ ap (λ set. c.loop-index.sets.items ++ set ∷ [])
    (c.numbers_set.ensures ∙ sym (set_covered_whole numbers c.args.count index c.requires.some c.requires.whole))
    ∙ ap (λ sets. sets ++ set_covered numbers c.args.count index ∷ []) c.loop-index.invariant
    ∙ sym (map-range_with_len_more (set_covered numbers c.args.count) 0 index index (omega arith))

pub returns : goal.returns
unfolding sets_covered
returns c =
    let all : c.loop-index.index ≡ c.args.count = omega arith in
    c.loop-index.invariant ∙ ap (λ count. map (set_covered c.args.numbers.now c.args.count) (range_with_len 0 count)) all
