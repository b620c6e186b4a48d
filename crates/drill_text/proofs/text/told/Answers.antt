use Rattle.drill_text.proofs.Parts.{text_is}
use Rattle.drill_text.proofs.text.told.Goals as goal

pub returns : goal.returns
returns c =
    text_is c.args.drill c.args.store.now _ _ _ c.requires c.in_ok-text.ensures.items c.in_ok-push_heading.ensures c.in_ok-push_keys.ensures
