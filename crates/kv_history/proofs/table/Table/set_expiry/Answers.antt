use Rattle.std.proofs.Common.{◌≡◌, ◌∙◌, Some, false, ap, sym, rules}
use Rattle.std.specs.FinMap.{get, insert}
use Rattle.std.specs.Map.{lookup}
use Rattle.std.specs.Option.{option_map_or}
use Rattle.std.specs.Prelude.{option_map, is_some}
use Rattle.kv_history.specs.declared.item.Item.{Item}
use Rattle.kv_history.specs.Contents as contents
use Rattle.kv_history.specs.Views.{plain_item}
use Rattle.kv_history.proofs.Keyed.{Entries, get-keyed, is_some-map, kept_items, map_or-none, names, put-keyed}
use Rattle.kv_history.proofs.table.Table.set_expiry.Goals as goal

pub returns-in_default : goal.returns-in_default
returns-in_default c =
    let key = c.args.key.now in
    let entries : Entries = c.self.inside.entries.entries in
    let items : contents.Items = c.args.self.now in
    let none : is_some (get items key) ≡ false =
    sym (ap (λ items. is_some (get items key)) c.self.view_is)
    ∙ ap is_some (get-keyed key entries)
    ∙ is_some-map plain_item (lookup (names key) entries)
    ∙ sym (ap is_some c.in_default.ensures.value) in
    ap (λ table. kept_items table.entries) c.get_mut.follows.holds-at-none
    ∙ c.self.view_is
    ∙ sym (map_or-none _ (get items key) items none)

pub returns : goal.returns
returns c =
    let key = c.args.key.now in
    let entries : Entries = c.self.inside.entries.entries in
    let item : Item = record c.in-Some.item.now { expiry = c.args.expiry } in
    let there : lookup (names key) entries ≡ Some c.in-Some.item.now = sym c.in-Some.ensures.value in
    let updates = (c.get_mut.follows.holds item).3 (search rules) in
    let change = λ (items : contents.Items).
    option_map_or (λ old. insert items key (record old { expiry = c.args.expiry })) (get items key) items in
    put-keyed key entries (c.get_mut.follows.lender item).entries item updates.1 updates.3
    ∙ sym (ap
    (λ found. option_map_or (λ old. insert (kept_items entries) key (record old { expiry = c.args.expiry })) found (kept_items entries))
    (get-keyed key entries ∙ ap (option_map plain_item) there))
    ∙ ap change c.self.view_is
