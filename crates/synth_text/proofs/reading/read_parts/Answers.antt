use Rattle.std.proofs.Common.{◌≡◌, ◌∷◌, ◌+◌, ◌-◌, drop, get_or, false}
use Rattle.std.proofs.lemmas.Result.{err_from_is_err_and}
use Rattle.synth_text.specs.Descriptions.{level_items}
use Rattle.synth_text.proofs.Lists.{drop_at_index}
use Rattle.synth_text.proofs.PartLaws.{goes_on, stops, behind_after}
use Rattle.synth_text.proofs.reading.read_parts.Goals as goal

pub returns-in_err-read_placed : goal.returns-in_err-read_placed
returns-in_err-read_placed c =
    let inv = c.loop-item.invariant in
    let i = c.loop-item.item-index in
    let item = get_or c.args.items.now i (record { start = 0; end = 0; is_memory = false }) in
    let rest = drop (i + 1) c.args.items.now in
    let e : drop i c.args.items.now ≡ item ∷ rest = drop_at_index c.args.items.now i _ c.loop-item-test.true in
    let left : c.loop-item.behind - c.from.result ≡ level_items rest =
    behind_after item.is_memory c.loop-item.behind c.from.result (level_items rest) (rw e at inv.behind) c.from.ensures in
    let p = err_from_is_err_and c.from_residual.result c.from_residual.ensures.1 in
    rw (p.1, p.2) (stops c.args.text.now c.loop-item.parts.items item rest c.in_err-read_placed.field-0.0 _
    (rw left at c.in_err-read_placed.ensures) (rw e at inv.said))

pub loop-item-preserved : goal.loop-item-preserved
loop-item-preserved c =
    let inv = c.loop-item.invariant in
    let i = c.loop-item.item-index in
    let item = get_or c.args.items.now i (record { start = 0; end = 0; is_memory = false }) in
    let rest = drop (i + 1) c.args.items.now in
    let e : drop i c.args.items.now ≡ item ∷ rest = drop_at_index c.args.items.now i _ c.loop-item-test.true in
    let left : c.loop-item.behind - c.from.result ≡ level_items rest =
    behind_after item.is_memory c.loop-item.behind c.from.result (level_items rest) (rw e at inv.behind) c.from.ensures in
    let cuts = rw e at inv.cut.1 in
    record {
      behind = left;
      cut = (item.end, cuts.3);
      said =
          rw c.in_ok-push.ensures.items (goes_on c.args.text.now c.loop-item.parts.items item rest c.in_ok-read_placed.field-0 _
          (rw left at c.in_ok-read_placed.ensures) (rw e at inv.said));
    }
