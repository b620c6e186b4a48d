use Rattle.std.proofs.Common.{◌≡◌, ◌∙◌, Some, None, ap, sym, rules}
use Rattle.std.specs.FinMap.{get}
use Rattle.std.specs.Map.{lookup}
use Rattle.std.specs.Prelude.{option_map}
use Rattle.kv_history.specs.Contents as contents
use Rattle.kv_history.specs.Edits.{counted_in, counting_of}
use Rattle.kv_history.specs.Views.{plain_item}
use Rattle.kv_history.proofs.Keyed.{Entries, counted-keyed, get-keyed, kept_items, names, on_err, same-keyed}
use Rattle.kv_history.proofs.table.Table.count.Goals as goal

pub returns-clause-ok : goal.returns-clause-ok
returns-clause-ok c =
    let key = c.args.key.now in
    let entries : Entries = c.self.inside.entries.entries in
    let item = c.count.new.self in
    let there : lookup (names key) entries ≡ Some c.in-Some.item.now = sym c.in-Some.ensures.value in
    let updates = (c.get_mut.follows.holds item).3 (search rules) in
    counted-keyed key entries (c.get_mut.follows.lender item).entries c.in-Some.item.now item c.args.up c.args.delta c.args.unique there
    c.in_ok-counting.ensures.ok updates.1 updates.3
    ∙ sym (ap (counted_in (kept_items entries) key c.args.up c.args.delta c.args.unique)
    (get-keyed key entries ∙ ap (option_map plain_item) there))
    ∙ ap (λ (items : contents.Items). counted_in items key c.args.up c.args.delta c.args.unique (get items key)) c.self.view_is

pub returns-clause-number : goal.returns-clause-number
returns-clause-number c =
    let key = c.args.key.now in
    let entries : Entries = c.self.inside.entries.entries in
    let there : lookup (names key) entries ≡ Some c.in-Some.item.now = sym c.in-Some.ensures.value in
    c.in_ok-counting.ensures.number
    ∙ sym (ap (counting_of c.args.up c.args.delta) (get-keyed key entries ∙ ap (option_map plain_item) there))
    ∙ ap (λ (items : contents.Items). counting_of c.args.up c.args.delta (get items key)) c.self.view_is

pub returns-in_err-counting-clause-err : goal.returns-in_err-counting-clause-err
returns-in_err-counting-clause-err c =
    let key = c.args.key.now in
    let entries : Entries = c.self.inside.entries.entries in
    let item = c.count.new.self in
    let there : lookup (names key) entries ≡ Some c.in-Some.item.now = sym c.in-Some.ensures.value in
    let updates = (c.get_mut.follows.holds item).3 (search rules) in
    on_err c.from_residual.result _
    (same-keyed key entries (c.get_mut.follows.lender item).entries c.in-Some.item.now item there c.in_err-counting.ensures.err updates.1
    updates.3 ∙ c.self.view_is)

-- the key has no item
gone : (c : goal.After-self-in_default-2-1) → get c.args.self.now c.args.key.now ≡ None
gone c =
    let key = c.args.key.now in
    let entries : Entries = c.self.inside.entries.entries in
    sym (ap (λ items. get items key) c.self.view_is)
    ∙ get-keyed key entries
    ∙ ap (option_map plain_item) (sym c.in_default.ensures.value)

pub returns-in_default-clause-ok : goal.returns-in_default-clause-ok
returns-in_default-clause-ok c =
    let items : contents.Items = c.args.self.now in
    ap (λ table. kept_items table.entries) c.get_mut.follows.holds-at-none
    ∙ c.self.view_is
    ∙ sym (ap (counted_in items c.args.key.now c.args.up c.args.delta c.args.unique) (gone c))

pub returns-in_default-clause-number : goal.returns-in_default-clause-number
returns-in_default-clause-number c = sym (ap (counting_of c.args.up c.args.delta) (gone c))
