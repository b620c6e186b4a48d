use Rattle.std.proofs.Common.{◌≡◌, ◌∙◌, None, Some, true, false, ap, refl, sym, rules}
use Rattle.std.specs.FinMap.{get, insert}
use Rattle.std.specs.Map.{lookup}
use Rattle.std.specs.Prelude.{option_map, if◌then◌else◌}
use Rattle.kv_history.specs.Contents as contents
use Rattle.kv_history.specs.Edits.{edited, edited_alike, found_of}
use Rattle.kv_history.specs.Expiry.{same_expiry}
use Rattle.kv_history.specs.declared.table.Found.TheVariants.{Alike, Other}
use Rattle.kv_history.specs.Views.{plain_item}
use Rattle.kv_history.proofs.Keyed.{Entries, get-keyed, kept_items, names, on_err, put-keyed, same-keyed}
use Rattle.kv_history.proofs.table.Table.edit_alike.Goals as goal

-- the key has no item
absent : (c : goal.After-self-in_default-2-1) → get c.args.self.now c.args.key.now ≡ None
absent c =
    let key = c.args.key.now in
    sym (ap (λ items. get items key) c.self.view_is)
    ∙ get-keyed key c.self.inside.entries.entries
    ∙ ap (option_map plain_item) (sym c.in_default.ensures.value)

pub returns-in_default-clause-found : goal.returns-in_default-clause-found
returns-in_default-clause-found c = sym (ap (found_of c.args.expiry) (absent c))

pub returns-in_default-clause-ok : goal.returns-in_default-clause-ok
returns-in_default-clause-ok c =
    let items : contents.Items = c.args.self.now in
    ap (λ table. kept_items table.entries) c.get_mut.follows.holds-at-none
    ∙ c.self.view_is
    ∙ sym (ap (edited_alike items c.args.key.now c.args.expiry c.args.edit c.args.unique) (absent c))

pub returns-then-not-is_same-clause-found : goal.returns-then-not-is_same-clause-found
returns-then-not-is_same-clause-found c =
    let key = c.args.key.now in
    let there : get c.args.self.now key ≡ Some (plain_item c.in-Some.item.now) =
    sym (ap (λ items. get items key) c.self.view_is) ∙ get-keyed key c.self.inside.entries.entries
    ∙ ap (option_map plain_item) (sym c.in-Some.ensures.value) in
    let differs : same_expiry c.in-Some.item.now.expiry c.args.expiry ≡ false = sym c.is_same.ensures ∙ c.if-not-is_same.true in
    sym (ap (found_of c.args.expiry) there ∙ ap (λ b. if b then Alike else Other c.in-Some.item.now.expiry) differs)

pub returns-then-not-is_same-clause-ok : goal.returns-then-not-is_same-clause-ok
returns-then-not-is_same-clause-ok c =
    let key = c.args.key.now in
    let entries : Entries = c.self.inside.entries.entries in
    let items : contents.Items = c.args.self.now in
    let item = c.in-Some.item.now in
    let found : lookup (names key) entries ≡ Some item = sym c.in-Some.ensures.value in
    let there : get items key ≡ Some (plain_item item) =
    sym (ap (λ items. get items key) c.self.view_is) ∙ get-keyed key entries ∙ ap (option_map plain_item) found in
    let differs : same_expiry item.expiry c.args.expiry ≡ false = sym c.is_same.ensures ∙ c.if-not-is_same.true in
    let updates = (c.get_mut.follows.holds item).3 (search rules) in
    same-keyed key entries (c.get_mut.follows.lender item).entries item item found refl updates.1 updates.3
    ∙ c.self.view_is
    ∙ sym (ap (edited_alike items key c.args.expiry c.args.edit c.args.unique) there
    ∙ ap (λ b. if b then insert items key (edited c.args.edit c.args.unique (plain_item item)) else items) differs)

pub returns-in_err-edit-clause-err : goal.returns-in_err-edit-clause-err
returns-in_err-edit-clause-err c =
    let key = c.args.key.now in
    let entries : Entries = c.self.inside.entries.entries in
    let item = c.edit.new.self in
    let found : lookup (names key) entries ≡ Some c.in-Some.item.now = sym c.in-Some.ensures.value in
    let updates = (c.get_mut.follows.holds item).3 (search rules) in
    on_err c.from_residual.result _
    (same-keyed key entries (c.get_mut.follows.lender item).entries c.in-Some.item.now item found c.in_err-edit.ensures.err updates.1
    updates.3 ∙ c.self.view_is)

pub returns-clause-found : goal.returns-clause-found
returns-clause-found c =
    let key = c.args.key.now in
    let there : get c.args.self.now key ≡ Some (plain_item c.in-Some.item.now) =
    sym (ap (λ items. get items key) c.self.view_is) ∙ get-keyed key c.self.inside.entries.entries
    ∙ ap (option_map plain_item) (sym c.in-Some.ensures.value) in
    let same : same_expiry c.in-Some.item.now.expiry c.args.expiry ≡ true = sym c.is_same.ensures ∙ c.if-not-is_same.false in
    sym (ap (found_of c.args.expiry) there ∙ ap (λ b. if b then Alike else Other c.in-Some.item.now.expiry) same)

pub returns-clause-ok : goal.returns-clause-ok
returns-clause-ok c =
    let key = c.args.key.now in
    let entries : Entries = c.self.inside.entries.entries in
    let items : contents.Items = c.args.self.now in
    let old = c.in-Some.item.now in
    let item = c.edit.new.self in
    let found : lookup (names key) entries ≡ Some old = sym c.in-Some.ensures.value in
    let there : get items key ≡ Some (plain_item old) =
    sym (ap (λ items. get items key) c.self.view_is) ∙ get-keyed key entries ∙ ap (option_map plain_item) found in
    let same : same_expiry old.expiry c.args.expiry ≡ true = sym c.is_same.ensures ∙ c.if-not-is_same.false in
    let updates = (c.get_mut.follows.holds item).3 (search rules) in
    put-keyed key entries (c.get_mut.follows.lender item).entries item updates.1 updates.3
    ∙ (λ i. insert (c.self.view_is i) key (c.in_ok-edit.ensures.ok i))
    ∙ sym (ap (edited_alike items key c.args.expiry c.args.edit c.args.unique) there
    ∙ ap (λ b. if b then insert items key (edited c.args.edit c.args.unique (plain_item old)) else items) same)
