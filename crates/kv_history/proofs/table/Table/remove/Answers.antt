use Rattle.std.proofs.Common.{◌∙◌, ap, sym}
use Rattle.std.specs.FinMap.{get, remove}
use Rattle.std.specs.Prelude.{is_some}
use Rattle.std.specs.Map.{lookup}
use Rattle.kv_history.specs.Views.{plain_item}
use Rattle.kv_history.proofs.Keyed.{get-keyed, is_some-map, names, removed-keyed}
use Rattle.kv_history.proofs.table.Table.remove.Goals as goal

pub returns-clause-removed : goal.returns-clause-removed
returns-clause-removed c =
    let updates = c.swap_remove.ensures.updates in
    removed-keyed c.args.key.now c.self.inside.entries.entries c.swap_remove.new.self.entries updates.1 updates.3
    ∙ ap (λ items. remove items c.args.key.now) c.self.view_is

pub returns-clause-found : goal.returns-clause-found
returns-clause-found c =
    let key = c.args.key.now in
    let entries = c.self.inside.entries.entries in
    c.is_some.ensures
    ∙ ap is_some c.swap_remove.ensures.value
    ∙ sym (ap is_some (get-keyed key entries) ∙ is_some-map plain_item (lookup (names key) entries))
    ∙ ap (λ items. is_some (get items key)) c.self.view_is
