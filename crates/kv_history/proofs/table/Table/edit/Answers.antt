use Rattle.std.proofs.Common.{◌≡◌, ◌∙◌, Some, false, ap, sym, rules}
use Rattle.std.specs.FinMap.{get, insert}
use Rattle.std.specs.Map.{lookup}
use Rattle.std.specs.Option.{option_map_or}
use Rattle.std.specs.Prelude.{option_map, is_some}
use Rattle.kv_history.specs.Contents as contents
use Rattle.kv_history.specs.Edits.{edited}
use Rattle.kv_history.specs.Views.{plain_item}
use Rattle.kv_history.proofs.Keyed.{Entries, get-keyed, is_some-map, kept_items, map_or-none, names, on_err, put-keyed, same-keyed}
use Rattle.kv_history.proofs.table.Table.edit.Goals as goal

pub returns-clause-ok : goal.returns-clause-ok
returns-clause-ok c =
    let key = c.args.key.now in
    let entries : Entries = c.self.inside.entries.entries in
    let item = c.edit.new.self in
    let there : lookup (names key) entries ≡ Some c.in-Some.item.now = sym c.in-Some.ensures.value in
    let updates = (c.get_mut.follows.holds item).3 (search rules) in
    let change = λ (items : contents.Items).
    option_map_or (λ old. insert items key (edited c.args.edit c.args.unique old)) (get items key) items in
    put-keyed key entries (c.get_mut.follows.lender item).entries item updates.1 updates.3
    ∙ ap (insert (kept_items entries) key) c.in_ok-edit.ensures.ok
    ∙ sym (ap (λ found.
    option_map_or (λ old. insert (kept_items entries) key (edited c.args.edit c.args.unique old)) found (kept_items entries))
    (get-keyed key entries ∙ ap (option_map plain_item) there))
    ∙ ap change c.self.view_is

pub returns-in_err-edit-clause-err : goal.returns-in_err-edit-clause-err
returns-in_err-edit-clause-err c =
    let key = c.args.key.now in
    let entries : Entries = c.self.inside.entries.entries in
    let item = c.edit.new.self in
    let there : lookup (names key) entries ≡ Some c.in-Some.item.now = sym c.in-Some.ensures.value in
    let updates = (c.get_mut.follows.holds item).3 (search rules) in
    on_err c.from_residual.result _
    (same-keyed key entries (c.get_mut.follows.lender item).entries c.in-Some.item.now item there c.in_err-edit.ensures.err updates.1
    updates.3 ∙ c.self.view_is)

-- the key has no item
absent : (c : goal.After-self-in_default-2-1) → is_some (get c.args.self.now c.args.key.now) ≡ false
absent c =
    let key = c.args.key.now in
    let entries : Entries = c.self.inside.entries.entries in
    sym (ap (λ items. is_some (get items key)) c.self.view_is)
    ∙ ap is_some (get-keyed key entries)
    ∙ is_some-map plain_item (lookup (names key) entries)
    ∙ sym (ap is_some c.in_default.ensures.value)

pub returns-in_default-clause-ok : goal.returns-in_default-clause-ok
returns-in_default-clause-ok c =
    let items : contents.Items = c.args.self.now in
    ap (λ table. kept_items table.entries) c.get_mut.follows.holds-at-none
    ∙ c.self.view_is
    ∙ sym (map_or-none _ (get items c.args.key.now) items (absent c))

pub returns-in_default-clause-found : goal.returns-in_default-clause-found
returns-in_default-clause-found c = sym (absent c)

pub returns-clause-found : goal.returns-clause-found
returns-clause-found c =
    let key = c.args.key.now in
    let entries : Entries = c.self.inside.entries.entries in
    ap is_some c.in-Some.ensures.value
    ∙ sym (ap is_some (get-keyed key entries) ∙ is_some-map plain_item (lookup (names key) entries))
    ∙ ap (λ items. is_some (get items key)) c.self.view_is
