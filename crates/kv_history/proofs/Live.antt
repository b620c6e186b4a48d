-- No request leaves an item whose expiry has come.
use Rattle.std.proofs.Common.{◌≡◌, ℕ, Bool, true, false, cond, List, [], ◌∷◌, refl, sym, ◌∙◌}
use Rattle.std.proofs.lemmas.Cmp.{nat_list_cmp_total}
use Rattle.std.specs.FinMap.{empty, get, insert, remove, get-empty, get-insert, get-remove}
use Rattle.std.specs.Cmp.Lexicographic.{slice_cmp}
use Rattle.std.specs.Option.{option_map_or}
use Rattle.std.specs.Ordering.{nat_cmp}
use Rattle.std.specs.Prelude.{ℤ, Option, None, Some, not, nat_lt, codes, length, ◌++◌, ◌==◌, if◌then◌else◌}
use Rattle.mc_text.specs.declared.command.How.{How}
use Rattle.mc_text.specs.declared.command.How.TheVariants.{Set, Add, Replace, Append, Prepend, Cas}
use Rattle.mc_text.specs.Begins.{value_limit}
use Rattle.mc_text.specs.Request as asked
use Rattle.mc_text.specs.Request.{Request, Storing, WholeCommand}
use Rattle.kv_history.specs.declared.expiry.Expiry.{Expiry}
use Rattle.kv_history.specs.Answer.{counted, counting, deletion, expired, joined, kept, line, moved, number_of}
use Rattle.kv_history.specs.Answer.{renumbered, storage, store_after, store_from, store_of, touching, with_expiry, with_item, without}
use Rattle.kv_history.specs.Contents.{Contents, Item, Items, NoneDue, NoneExpired, empty_store, is_live, left_at}
use Rattle.kv_history.specs.Dues.{is_same_key}
use Rattle.kv_history.specs.Expiry.{expiry_of, is_due}
use Rattle.kv_history.proofs.Agreement.{get-left}

due-insert : (moment : ℕ) (key : List ℕ) (item : Item) (items : Items) → is_due moment item.expiry ≡ false → NoneDue moment items
    → NoneDue moment (insert items key item)
due-insert moment key item items live none =
    λ other found is. chosen other found (is_same_key other key) (sym (get-insert nat_list_cmp_total items key item other) ∙ is)
  where
    chosen : (other : List ℕ) (found : Item) (b : Bool) → cond b (Some item) (get items other) ≡ Some found
        → is_due moment found.expiry ≡ false
    chosen other found true is = cc
    chosen other found false is = none other found is

due-remove : (moment : ℕ) (key : List ℕ) (items : Items) → NoneDue moment items → NoneDue moment (remove items key)
due-remove moment key items none =
    λ other found is. chosen other found (is_same_key other key) (sym (get-remove nat_list_cmp_total items key other) ∙ is)
  where
    chosen : (other : List ℕ) (found : Item) (b : Bool) → cond b None (get items other) ≡ Some found → is_due moment found.expiry ≡ false
    chosen other found true is = cc
    chosen other found false is = none other found is

pub due-empty : (moment : ℕ) → NoneDue moment empty
due-empty moment = λ key found is. nowhere found (sym (get-empty (slice_cmp nat_cmp) key) ∙ is)
  where
    nowhere : (found : Item) → None ≡ Some found → is_due moment found.expiry ≡ false
    nowhere found is = cc

due-left : (moment : ℕ) (items : Items) → NoneDue moment (left_at moment items)
due-left moment items = λ key found is. chosen (get items key) found (sym (get-left moment items key) ∙ is)
  where
    within : (item found : Item) (b : Bool) → is_due moment item.expiry ≡ b → cond (not b) (Some item) None ≡ Some found
        → is_due moment found.expiry ≡ false
    within item found true late is = cc
    within item found false late is = cc

    chosen : (there : Option Item) (found : Item) → cond (is_live moment there) there None ≡ Some found → is_due moment found.expiry ≡ false
    chosen None found is = cc
    chosen (Some item) found is = within item found (is_due moment item.expiry) refl is

live-kept : (store : Contents) (storing : Storing) → NoneExpired store → NoneExpired (kept store storing)
live-kept store storing none =
    chosen (expiry_of store.moment storing.exptime) (is_due store.moment (expiry_of store.moment storing.exptime)) refl
  where
    chosen : (expiry : Expiry) (b : Bool) → is_due store.moment expiry ≡ b
        → NoneExpired (if b then expired store storing.key else with_item store storing.key storing.flags expiry storing.block)
    chosen expiry true due = due-remove store.moment storing.key store.items none
    chosen expiry false due = due-insert store.moment storing.key _ store.items due none

live-joined : (store : Contents) (key : List ℕ) (item : Item) (block : List ℕ) → get store.items key ≡ Some item → NoneExpired store
    → NoneExpired (joined store key item block).store
live-joined store key item block was none = chosen (nat_lt value_limit (length block))
  where
    chosen : (b : Bool) → NoneExpired (if b then line (codes "SERVER_ERROR object too large for cache") store
        else line (codes "STORED") (with_item store key item.flags item.expiry block)).store
    chosen true = none
    chosen false = due-insert store.moment key _ store.items (none key item was) none

pub live-storage : (store : Contents) (storing : Storing) (how : How) (found : Option Item) → get store.items storing.key ≡ found
    → NoneExpired store → NoneExpired (storage store storing how found).store
live-storage store storing Set found was none = live-kept store storing none
live-storage store storing Add None was none = live-kept store storing none
live-storage store storing Add (Some item) was none = none
live-storage store storing Replace None was none = none
live-storage store storing Replace (Some item) was none = live-kept store storing none
live-storage store storing Append None was none = none
live-storage store storing Append (Some item) was none = live-joined store storing.key item (item.block ++ storing.block) was none
live-storage store storing Prepend None was none = none
live-storage store storing Prepend (Some item) was none = live-joined store storing.key item (storing.block ++ item.block) was none
live-storage store storing Cas None was none = none
live-storage store storing Cas (Some item) was none = chosen (item.unique == storing.unique)
  where
    chosen : (b : Bool) → NoneExpired (if b then line (codes "STORED") (kept store storing) else line (codes "EXISTS") store).store
    chosen true = live-kept store storing none
    chosen false = none

live-deletion : (store : Contents) (key : List ℕ) (found : Option Item) → NoneExpired store → NoneExpired (deletion store key found).store
live-deletion store key None none = none
live-deletion store key (Some item) none = due-remove store.moment key store.items none

live-counting : (store : Contents) (up : Bool) (key : List ℕ) (delta : ℕ) (found : Option Item) → get store.items key ≡ found
    → NoneExpired store → NoneExpired (counting store up key delta found).store
live-counting store up key delta None was none = none
live-counting store up key delta (Some item) was none = chosen (number_of item.block)
  where
    chosen : (number : Option ℕ) → NoneExpired (option_map_or (λ number. renumbered store key item (counted up number delta)) number
        (line (codes "CLIENT_ERROR cannot increment or decrement non-numeric value") store)).store
    chosen None = none
    chosen (Some number) = due-insert store.moment key _ store.items (none key item was) none

live-touching : (store : Contents) (key : List ℕ) (exptime : ℤ) (found : Option Item) → NoneExpired store
    → NoneExpired (touching store key exptime found).store
live-touching store key exptime None none = none
live-touching store key exptime (Some item) none =
    chosen (expiry_of store.moment exptime) (is_due store.moment (expiry_of store.moment exptime)) refl
  where
    chosen : (expiry : Expiry) (b : Bool) → is_due store.moment expiry ≡ b
        → NoneExpired (if b then without store key else with_expiry store key item expiry)
    chosen expiry true due = due-remove store.moment key store.items none
    chosen expiry false due = due-insert store.moment key _ store.items due none

live-moved : (store : Contents) (moment : ℕ) → NoneExpired store → NoneExpired (moved store moment).store
live-moved store moment none = chosen (nat_lt moment store.moment)
  where
    chosen : (b : Bool) → NoneExpired (if b then line (codes "CLIENT_ERROR moment goes back") store
        else line (codes "OK") (record store { items = left_at moment store.items; moment = moment })).store
    chosen true = none
    chosen false = due-left moment store.items

pub live-after : (store : Contents) (request : Request) → NoneExpired store → NoneExpired (store_after store request)
live-after store (asked.Store storing) none = live-storage store storing storing.how (get store.items storing.key) refl none
live-after store (asked.Get uniques keys) none = none
live-after store (asked.Delete key quiet) none = live-deletion store key (get store.items key) none
live-after store (asked.Count up key delta quiet) none = live-counting store up key delta (get store.items key) refl none
live-after store (asked.Touch key exptime quiet) none = live-touching store key exptime (get store.items key) none
live-after store (asked.Flush quiet) none = due-empty store.moment
live-after store asked.Version none = none
live-after store (asked.Verbosity quiet) none = none
live-after store (asked.Moment moment quiet) none = live-moved store moment none
live-after store asked.Quit none = none
live-after store (asked.Bad fault) none = none

live-from : (store : Contents) (commands : List WholeCommand) → NoneExpired store → NoneExpired (store_from store commands)
live-from store [] none = none
live-from store (command ∷ more) none = live-from (store_after store command.request) more (live-after store command.request none)

-- commands on the empty store leave no item whose expiry has come
pub live-of : (commands : List WholeCommand) → NoneExpired (store_of commands)
live-of commands = live-from empty_store commands (due-empty 0)
