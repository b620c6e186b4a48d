use Rattle.std.proofs.Common.{◌∙◌, ap, sym}
use Rattle.std.specs.FinMap.{get, remove}
use Rattle.std.specs.Prelude.{option_map}
use Rattle.kv_history.specs.Views.{plain_item}
use Rattle.kv_history.proofs.Keyed.{found-key, get-keyed, option_map-map, removed-keyed}
use Rattle.kv_history.proofs.table.Table.take.Goals as goal

pub returns-clause-removed : goal.returns-clause-removed
returns-clause-removed c =
    let updates = c.swap_remove_entry.ensures.updates in
    removed-keyed c.args.key.now c.self.inside.entries.entries c.swap_remove_entry.new.self.entries updates.1 updates.3
    ∙ ap (λ items. remove items c.args.key.now) c.self.view_is

pub returns-clause-item : goal.returns-clause-item
returns-clause-item c =
    option_map-map plain_item (λ entry. entry.1) c.swap_remove_entry.result
    ∙ ap (option_map plain_item) c.swap_remove_entry.ensures.value
    ∙ sym (get-keyed c.args.key.now c.self.inside.entries.entries)
    ∙ ap (λ items. get items c.args.key.now) c.self.view_is

pub returns-clause-key : goal.returns-clause-key
returns-clause-key c =
    found-key c.args.key.now c.self.inside.entries.entries c.swap_remove_entry.result c.swap_remove_entry.ensures.key
