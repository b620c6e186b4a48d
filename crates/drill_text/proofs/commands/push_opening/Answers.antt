use Rattle.std.proofs.lemmas.Result.{on_ok_weaker}
use Rattle.drill_text.proofs.Parts.{if_ok, opening_is}
use Rattle.drill_text.proofs.commands.push_opening.Goals as goal

pub returns : goal.returns
returns c =
    on_ok_weaker c.extend_from_slice-2.result
    (opening_is c.args.key c.from.result c.args.section.now.items _ _ _ c.from.ensures c.in_ok-extend_from_slice.ensures.items
    c.in_ok-push_decimal.ensures.ok)
    (if_ok c.extend_from_slice-2.result _ _ _ c.extend_from_slice-2.ensures.items)
