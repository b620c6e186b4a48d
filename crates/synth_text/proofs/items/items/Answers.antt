use Rattle.std.proofs.Common.{List, [], subst}
use Rattle.std.proofs.lemmas.List.{append-nil}
use Rattle.synth_text.specs.Items.{AreItems}
use Rattle.synth_text.specs.declared.items.Item.{Item}
use Rattle.synth_text.proofs.items.items.Goals as goal

pub returns : goal.returns
returns c =
    subst (λ (items : List Item). AreItems c.args.text.now 0 items) (append-nil c.loop-item.items.items)
    (c.loop-item.invariant.completed [] c.in_default.ensures)
