use Rattle.std.proofs.Common.{◌≡◌, ℕ, ◌+◌, Bool, ◌&&◌, sym, ap, ◌∙◌, arith}
use Rattle.std.proofs.lemmas.Bool.{and_left}
use Rattle.cpu_set.specs.Sets.{has, union}
use Rattle.topo_tree.specs.Coverage.{set_of}
use Rattle.calc_query.specs.Selection.{union_of}
use Rattle.calc_query.proofs.SelectionLaws.{collected, collect_none, collect_more, collect_up}
use Rattle.calc_query.proofs.selecting.union_of.Goals as goal

pub loop-index-init : goal.loop-index-init
loop-index-init c =
    let indexes = c.args.indexes.now in
    let sets = set_of c.args.tree.now c.args.layer in
    let test : ℕ → ℕ → Bool = λ number i. has indexes i && has (sets i) number in
    let first = c.next_index-index.result in
    record {
      set = c.empty-set.ensures ∙ collect_none test
          ∙ collect_up test 0 first (omega arith) (λ place number on low below.
          and_left (has indexes place) (has (sets place) number) (c.next_index-index.ensures.none place on low));
      here = c.next_index-index.ensures.found;
      within = c.next_index-index.ensures.within;
    }

pub loop-index-preserved : goal.loop-index-preserved
loop-index-preserved c =
    let indexes = c.args.indexes.now in
    let index = c.loop-index.index in
    let set = c.loop-index.set in
    let sets = set_of c.args.tree.now c.args.layer in
    let test : ℕ → ℕ → Bool = λ number i. has indexes i && has (sets i) number in
    let next = c.next_index-index-in-loop-index.result in
    record {
      set = c.union-set.ensures ∙ ap (union set) c.set_of.ensures
          ∙ collect_more test set (sets index) index c.loop-index.invariant.set
          (λ number low. sym (ap (λ b. b && has (sets index) number) (c.loop-index.invariant.here c.loop-index-test.true)))
          ∙ collect_up test (index + 1) next c.next_index-index-in-loop-index.ensures.from (λ place number on low below.
          and_left (has indexes place) (has (sets place) number) (c.next_index-index-in-loop-index.ensures.none place on low));
      here = c.next_index-index-in-loop-index.ensures.found;
      within = c.next_index-index-in-loop-index.ensures.within;
    }

pub returns : goal.returns
unfolding union_of
returns c =
    let test : ℕ → ℕ → Bool = λ number i. has c.args.indexes.now i && has (set_of c.args.tree.now c.args.layer i) number in
    let all : c.loop-index.index ≡ c.count-count.result = omega (arith, c.loop-index.invariant.within, c.loop-index-test.false) in
    c.loop-index.invariant.set ∙ ap (collected test) (all ∙ c.count-count.ensures.count)
