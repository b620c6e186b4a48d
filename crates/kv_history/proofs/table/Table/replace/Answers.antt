use Rattle.std.proofs.Common.{◌≡◌, ◌∙◌, false, ap, sym, rules}
use Rattle.std.specs.FinMap.{get, insert}
use Rattle.std.specs.Map.{lookup}
use Rattle.std.specs.Prelude.{is_some}
use Rattle.kv_history.specs.Views.{plain_item}
use Rattle.kv_history.proofs.Keyed.{Entries, get-keyed, is_some-map, names, put-keyed}
use Rattle.kv_history.proofs.table.Table.replace.Goals as goal

pub returns-in_default : goal.returns-in_default
returns-in_default c =
    let key = c.args.key.now in
    let entries : Entries = c.self.inside.entries.entries in
    let none : is_some (get c.args.self.now key) ≡ false =
    sym (ap (λ items. is_some (get items key)) c.self.view_is)
    ∙ ap is_some (get-keyed key entries)
    ∙ is_some-map plain_item (lookup (names key) entries)
    ∙ sym (ap is_some c.in_default.ensures.value) in
    let some = c.requires in
    cc

pub returns : goal.returns
returns c =
    let key = c.args.key.now in
    let updates = (c.get_mut.follows.holds c.args.item).3 (search rules) in
    put-keyed key c.self.inside.entries.entries (c.get_mut.follows.lender c.args.item).entries c.args.item updates.1 updates.3
    ∙ ap (λ items. insert items key (plain_item c.args.item)) c.self.view_is
