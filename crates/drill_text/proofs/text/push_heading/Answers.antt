use Rattle.std.proofs.lemmas.Result.{on_ok_weaker}
use Rattle.drill_text.proofs.Parts.{if_ok, heading_is}
use Rattle.drill_text.proofs.text.push_heading.Goals as goal

pub returns : goal.returns
returns c =
    on_ok_weaker c.extend_from_slice-2.result
    (heading_is c.args.drill c.from.result c.args.text.now.items _ _ _ c.from.ensures c.in_ok-extend_from_slice.ensures.items
    c.in_ok-push_decimal.ensures.ok)
    (if_ok c.extend_from_slice-2.result _ _ _ c.extend_from_slice-2.ensures.items)
