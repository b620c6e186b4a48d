use Rattle.std.proofs.Common.{◌∙◌, ap, sym}
use Rattle.std.specs.FinMap.{get}
use Rattle.std.specs.Prelude.{option_map}
use Rattle.kv_history.specs.Views.{plain_item}
use Rattle.kv_history.proofs.Keyed.{get-keyed, option_map-map}
use Rattle.kv_history.proofs.table.Table.get.Goals as goal

pub returns : goal.returns
returns c =
    option_map-map plain_item (λ item. item.now) c.get.result
    ∙ ap (option_map plain_item) c.get.ensures.value
    ∙ sym (get-keyed c.args.key.now c.self.inside.entries.entries)
    ∙ ap (λ items. get items c.args.key.now) c.self.view_is
