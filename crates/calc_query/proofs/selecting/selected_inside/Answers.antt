use Rattle.std.proofs.Common.{◌≡◌, ℕ, ◌+◌, Bool, ◌&&◌, sym, ap, ◌∙◌, arith}
use Rattle.std.specs.List.{range_with_len}
use Rattle.std.proofs.lemmas.Bool.{and_left}
use Rattle.cpu_set.specs.Sets.{has, numbers_where, union}
use Rattle.cpu_set.specs.SetLaws.{has-numbers_below}
use Rattle.topo_tree.specs.Coverage.{set_of}
use Rattle.calc_query.specs.Candidates.{candidates}
use Rattle.calc_query.specs.Selection.{is_picked_among, selected_inside}
use Rattle.calc_query.proofs.SelectionLaws.{collected, collect_none, collect_more, collect_up}
use Rattle.calc_query.proofs.selecting.selected_inside.Goals as goal

pub loop-index-init : goal.loop-index-init
loop-index-init c =
    let now = c.args.tree.now in
    let part = c.args.part in
    let before = c.args.before.now in
    let among = λ (o : ℕ). candidates now part.layer (set_of now c.args.layer o) in
    let test : ℕ → ℕ → Bool = λ index o. has before o && is_picked_among now c.args.numbering part (among o) index in
    record {
      chosen = c.empty-chosen.ensures ∙ collect_none test
          ∙ collect_up test 0 c.next_index-index.result (omega arith) (λ outer index on low below.
          and_left (has before outer) (is_picked_among now c.args.numbering part (among outer) index)
          (c.next_index-index.ensures.none outer on low));
      here = c.next_index-index.ensures.found;
      within = c.next_index-index.ensures.within;
    }

pub loop-index-preserved : goal.loop-index-preserved
loop-index-preserved c =
    let now = c.args.tree.now in
    let part = c.args.part in
    let before = c.args.before.now in
    let outer = c.loop-index.index in
    let chosen = c.loop-index.chosen in
    let row = c.row_inside-row.result in
    let among = λ (o : ℕ). candidates now part.layer (set_of now c.args.layer o) in
    let test : ℕ → ℕ → Bool = λ index o. has before o && is_picked_among now c.args.numbering part (among o) index in
    record {
      chosen = c.union-chosen.ensures ∙ ap (union chosen) c.picked.ensures
          ∙ collect_more test chosen (numbers_where
          (is_picked_among now c.args.numbering part (range_with_len row.first row.count))) outer c.loop-index.invariant.chosen
          (λ index low.
          has-numbers_below 4096 (is_picked_among now c.args.numbering part (range_with_len row.first row.count)) index low
          ∙ ap (λ run. is_picked_among now c.args.numbering part run index) (sym c.row_inside-row.ensures.run)
          ∙ sym (ap (λ b. b && is_picked_among now c.args.numbering part (among outer) index)
          (c.loop-index.invariant.here c.loop-index-test.true)))
          ∙ collect_up test (outer + 1) c.next_index-index-in-loop-index.result c.next_index-index-in-loop-index.ensures.from
          (λ other index on low below.
          and_left (has before other) (is_picked_among now c.args.numbering part (among other) index)
          (c.next_index-index-in-loop-index.ensures.none other on low));
      here = c.next_index-index-in-loop-index.ensures.found;
      within = c.next_index-index-in-loop-index.ensures.within;
    }

pub returns : goal.returns
unfolding selected_inside
returns c =
    let now = c.args.tree.now in
    let part = c.args.part in
    let test : ℕ → ℕ → Bool = λ index outer. has c.args.before.now outer
    && is_picked_among now c.args.numbering part (candidates now part.layer (set_of now c.args.layer outer)) index in
    let all : c.loop-index.index ≡ c.count-count.result = omega (arith, c.loop-index.invariant.within, c.loop-index-test.false) in
    c.loop-index.invariant.chosen ∙ ap (collected test) (all ∙ c.count-count.ensures.count)
