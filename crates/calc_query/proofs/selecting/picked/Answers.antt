use Rattle.std.proofs.Common.{◌<◌, ◌≤◌, refl, inl, inr, ◌∙◌, arith}
use Rattle.calc_query.proofs.SelectionLaws.{collect_none}
use Rattle.calc_query.proofs.PickLaws.{picked_at, pick_more, pick_none, outside, pick_up, pick_all}
use Rattle.calc_query.proofs.selecting.picked.Goals as goal
use Rattle.calc_query.proofs.selecting.picked.Goals.{then-picks, else-picks}

pub loop-place-init : goal.loop-place-init
loop-place-init c =
    let now = c.args.tree.now in
    let numbering = c.args.numbering in
    let part = c.args.part in
    let first = c.args.row.first in
    let count = c.args.row.count in
    let from = c.reach-from.result.0 in
    let to = c.reach-from.result.1 in
    c.empty-chosen.ensures ∙ collect_none (picked_at now numbering part first count)
    ∙ pick_up now numbering part first count 0 from (omega arith) (omega (arith, c.reach-from.ensures.ends, c.reach-from.ensures.within))
    (λ place on low.
    outside now numbering part first count c.reach-from.result c.reach-from.ensures.outside c.reach-from.ensures.whole place
    (omega (arith, low, c.reach-from.ensures.ends, c.reach-from.ensures.within)) (inl low))

pub loop-place-preserved : goal.loop-place-preserved
loop-place-preserved c =
    let now = c.args.tree.now in
    let first = c.args.row.first in
    let count = c.args.row.count in
    let place = c.loop-place.place in
    let within : place < count = omega (arith, c.loop-place-test.true, c.reach-from.ensures.within) in
    elim c.if-picks.branch [
      | then-picks w ↦ w.chosen-is ∙ w.with.ensures
          ∙ pick_more now c.args.numbering c.args.part first count c.loop-place.chosen place c.number_of-number.result c.picks.result within
          c.number_of-number.ensures c.picks.ensures w.if-picks.true c.loop-place.invariant
      | else-picks w ↦ w.chosen-is ∙ pick_none now c.args.numbering c.args.part first count c.loop-place.chosen place
          c.number_of-number.result c.picks.result within c.number_of-number.ensures c.picks.ensures w.if-picks.false c.loop-place.invariant
    ]

pub returns : goal.returns
returns c =
    let now = c.args.tree.now in
    let numbering = c.args.numbering in
    let part = c.args.part in
    let first = c.args.row.first in
    let count = c.args.row.count in
    let from = c.reach-from.result.0 in
    let to = c.reach-from.result.1 in
    let place = c.loop-place.place in
    let past : to ≤ place = omega (arith, c.loop-place-test.false) in
    pick_all now numbering part first count c.loop-place.chosen count refl (c.loop-place.invariant
    ∙ pick_up now numbering part first count place count (omega arith) (omega arith)
    (λ other on low.
    outside now numbering part first count c.reach-from.result c.reach-from.ensures.outside c.reach-from.ensures.whole other low
    (inr (omega (arith, past, on)))))
