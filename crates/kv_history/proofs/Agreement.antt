-- Items and the list of their expiries, after a change at one key.
use Rattle.std.proofs.Common.{◌≡◌, ℕ, ◌≤◌, Bool, true, false, cond, List, refl, sym, ◌∙◌, ap, subst, arith}
use Rattle.std.proofs.lemmas.Cmp.{nat_list_cmp_total}
use Rattle.std.specs.Cmp.{Equal-is}
use Rattle.std.specs.Cmp.Lexicographic.{slice_cmp}
use Rattle.std.specs.FinMap.{empty, get, insert, remove, get-empty, get-insert}
use Rattle.std.specs.FinMap.{get-remove, get-retain_keys, get_tied, same_map, nat_cmp-IsAntisymmetric, slice_cmp-IsAntisymmetric}
use Rattle.std.specs.Option.{option_map_or}
use Rattle.std.specs.Ordering.{nat_cmp}
use Rattle.std.specs.Prelude.{Option, None, Some, Result, Ok, Err, OnOk, OnErr, not, ◌==◌, if◌then◌else◌}
use Rattle.kv_history.specs.declared.dues.Dues.{Dues}
use Rattle.kv_history.specs.declared.expiry.Expiry.{Expiry}
use Rattle.kv_history.specs.declared.expiry.Expiry.TheVariants.{Never, At}
use Rattle.kv_history.specs.declared.item.Edit.{Edit}
use Rattle.kv_history.specs.declared.item.Edit.TheVariants.{Whole, Join}
use Rattle.kv_history.specs.Contents.{Item, Items, is_live, left_at}
use Rattle.kv_history.specs.Dues.{Agrees, AreAlike, ListsAt, NoneListed, Relists, expires_at, is_listed, is_same_key}
use Rattle.kv_history.specs.Edits.{counted_in, edited, edited_alike, number_after, renumbered_item}
use Rattle.kv_history.specs.Expiry.{is_due, is_time, same_expiry}

pub agrees-alike : (items : Items) (old new : Dues) → AreAlike old new → Agrees old items → Agrees new items
agrees-alike items old new alike agrees = λ time key. alike time key ∙ agrees time key

pub agrees-insert : (key : List ℕ) (item : Item) (items : Items) (old new : Dues) → Relists key item.expiry old new → Agrees old items
    → Agrees new (insert items key item)
agrees-insert key item items old new relists agrees =
    λ time other. relists time other
    ∙ ap (cond (is_same_key other key) (is_time time item.expiry)) (agrees time other)
    ∙ chosen time (is_same_key other key) (get items other)
    ∙ ap (expires_at time) (sym (get-insert nat_list_cmp_total items key item other))
  where
    chosen : (time : ℕ) (b : Bool) (found : Option Item)
        → cond b (is_time time item.expiry) (expires_at time found) ≡ expires_at time (cond b (Some item) found)
    chosen time true found = refl
    chosen time false found = refl

pub agrees-remove : (key : List ℕ) (items : Items) (old new : Dues) → Relists key Never old new → Agrees old items
    → Agrees new (remove items key)
agrees-remove key items old new relists agrees =
    λ time other. relists time other
    ∙ ap (cond (is_same_key other key) false) (agrees time other)
    ∙ chosen time (is_same_key other key) (get items other)
    ∙ ap (expires_at time) (sym (get-remove nat_list_cmp_total items key other))
  where
    chosen : (time : ℕ) (b : Bool) (found : Option Item) → cond b false (expires_at time found) ≡ expires_at time (cond b None found)
    chosen time true found = refl
    chosen time false found = refl

-- a key that is alike has the item of the key
at_alike : (items : Items) (key other : List ℕ) → is_same_key other key ≡ true → get items key ≡ get items other
at_alike items key other same = get_tied nat_list_cmp_total items other key ((Equal-is (slice_cmp nat_cmp other key)).0 same)

-- an item that expires when the one before did
pub agrees-same : (key : List ℕ) (before item : Item) (items : Items) (dues : Dues) → get items key ≡ Some before
    → item.expiry ≡ before.expiry → Agrees dues items → Agrees dues (insert items key item)
agrees-same key before item items dues was same agrees =
    λ time other. agrees time other
    ∙ chosen time other (is_same_key other key) refl
    ∙ ap (expires_at time) (sym (get-insert nat_list_cmp_total items key item other))
  where
    chosen : (time : ℕ) (other : List ℕ) (b : Bool) → is_same_key other key ≡ b
        → expires_at time (get items other) ≡ expires_at time (cond b (Some item) (get items other))
    chosen time other true alike =
        ap (expires_at time) (sym (at_alike items key other alike) ∙ was) ∙ ap (is_time time) (sym same)
    chosen time other false differs = refl

edited-expiry : (edit : Edit) (unique : ℕ) (item : Item) → (edited edit unique item).expiry ≡ item.expiry
edited-expiry (Whole flags block) unique item = refl
edited-expiry (Join side more) unique item = refl

pub agrees-edited : (key : List ℕ) (edit : Edit) (unique : ℕ) (items : Items) (dues : Dues) → Agrees dues items
    → Agrees dues (option_map_or (λ item. insert items key (edited edit unique item)) (get items key) items)
agrees-edited key edit unique items dues agrees = chosen (get items key) refl
  where
    chosen : (found : Option Item) → get items key ≡ found
        → Agrees dues (option_map_or (λ item. insert items key (edited edit unique item)) found items)
    chosen None was = agrees
    chosen (Some item) was = agrees-same key item (edited edit unique item) items dues was (edited-expiry edit unique item) agrees

-- an item that is counted expires when it did
pub agrees-counted : (key : List ℕ) (up : Bool) (delta unique : ℕ) (items : Items) (dues : Dues) → Agrees dues items
    → Agrees dues (counted_in items key up delta unique (get items key))
agrees-counted key up delta unique items dues agrees = chosen (get items key) refl
  where
    within : (item : Item) (number : Option ℕ) → get items key ≡ Some item
        → Agrees dues (option_map_or (λ n. insert items key (renumbered_item item n unique)) number items)
    within item None was = agrees
    within item (Some number) was = agrees-same key item (renumbered_item item number unique) items dues was refl agrees

    chosen : (found : Option Item) → get items key ≡ found → Agrees dues (counted_in items key up delta unique found)
    chosen None was = agrees
    chosen (Some item) was = within item (number_after up delta item) was

pub agrees-edited_alike : (key : List ℕ) (expiry : Expiry) (edit : Edit) (unique : ℕ) (items : Items) (dues : Dues) → Agrees dues items
    → Agrees dues (edited_alike items key expiry edit unique (get items key))
agrees-edited_alike key expiry edit unique items dues agrees = chosen (get items key) refl
  where
    within : (item : Item) (b : Bool) → get items key ≡ Some item
        → Agrees dues (if b then insert items key (edited edit unique item) else items)
    within item true was = agrees-same key item (edited edit unique item) items dues was (edited-expiry edit unique item) agrees
    within item false was = agrees

    chosen : (found : Option Item) → get items key ≡ found → Agrees dues (edited_alike items key expiry edit unique found)
    chosen None was = agrees
    chosen (Some item) was = within item (same_expiry item.expiry expiry) was

-- where a key is listed, by what it has
pub lists_at-none : (key : List ℕ) (items : Items) (dues : Dues) → Agrees dues items → get items key ≡ None → ListsAt dues key Never
lists_at-none key items dues agrees none = λ time. agrees time key ∙ ap (expires_at time) none

pub lists_at-some : (key : List ℕ) (item : Item) (items : Items) (dues : Dues) → Agrees dues items → get items key ≡ Some item
    → ListsAt dues key item.expiry
lists_at-some key item items dues agrees was = λ time. agrees time key ∙ ap (expires_at time) was

eqb_is : (a b : ℕ) → (a == b) ≡ true → a ≡ b
eqb_is a b e = grind arith

-- a key that is listed at a time is listed there alone
pub lists_at-time : (time : ℕ) (key : List ℕ) (items : Items) (dues : Dues) → Agrees dues items → is_listed dues time key ≡ true
    → ListsAt dues key (At time)
lists_at-time time key items dues agrees listed = λ at. agrees at key ∙ chosen at (get items key) (sym (agrees time key) ∙ listed)
  where
    within : (at : ℕ) (expiry : Expiry) → is_time time expiry ≡ true → is_time at expiry ≡ (at == time)
    within at Never is = cc
    within at (At other) is = ap (λ n. at == n) (sym (eqb_is time other is))

    chosen : (at : ℕ) (found : Option Item) → expires_at time found ≡ true → expires_at at found ≡ (at == time)
    chosen at None is = cc
    chosen at (Some item) is = within at item.expiry is

-- an item that expires at a time is not live at a later moment
pub dead : (time moment : ℕ) (found : Option Item) → expires_at time found ≡ true → time ≤ moment → is_live moment found ≡ false
dead time moment None is le = refl
dead time moment (Some item) is le = ap not (within item.expiry is)
  where
    within : (expiry : Expiry) → is_time time expiry ≡ true → is_due moment expiry ≡ true
    within Never is = cc
    within (At other) is = rw (sym (eqb_is time other is)) (grind arith)

-- ---- what is left at a moment

pub get-left : (moment : ℕ) (items : Items) (key : List ℕ)
    → get (left_at moment items) key ≡ cond (is_live moment (get items key)) (get items key) None
get-left moment items key =
    get-retain_keys items (λ key. is_live moment (get items key)) key
    (λ x same. ap (is_live moment) (get_tied nat_list_cmp_total items key x same))

-- an item that isn't live makes no difference
pub left-remove : (moment : ℕ) (key : List ℕ) (items : Items) → is_live moment (get items key) ≡ false
    → left_at moment (remove items key) ≡ left_at moment items
left-remove moment key items gone =
    same_map nat_list_cmp_total (slice_cmp-IsAntisymmetric nat_cmp-IsAntisymmetric) _ _
    (λ other. get-left moment (remove items key) other
    ∙ ap (λ found. cond (is_live moment found) found None) (get-remove nat_list_cmp_total items key other)
    ∙ chosen other (is_same_key other key) refl
    ∙ sym (get-left moment items other))
  where
    none : (found : Option Item) → is_live moment found ≡ false → None ≡ cond (is_live moment found) found None
    none found dead = sym (ap (λ b. cond b found None) dead)

    chosen : (other : List ℕ) (b : Bool) → is_same_key other key ≡ b
        → cond (is_live moment (cond b None (get items other))) (cond b None (get items other)) None
        ≡ cond (is_live moment (get items other)) (get items other) None
    chosen other true same = none (get items other) (ap (is_live moment) (sym (at_alike items key other same)) ∙ gone)
    chosen other false differs = refl

-- where no key is listed up to a moment, all items are left then
pub left-all : (moment : ℕ) (items : Items) (dues : Dues) → Agrees dues items
    → ((time : ℕ) (key : List ℕ) → time ≤ moment → is_listed dues time key ≡ false) → left_at moment items ≡ items
left-all moment items dues agrees none =
    same_map nat_list_cmp_total (slice_cmp-IsAntisymmetric nat_cmp-IsAntisymmetric) _ _
    (λ key. get-left moment items key ∙ stays key (get items key) refl)
  where
    itself : (time : ℕ) → (time == time) ≡ true
    itself time = grind arith

    kept : (key : List ℕ) (item : Item) (expiry : Expiry) (b : Bool) → get items key ≡ Some item → item.expiry ≡ expiry
        → is_due moment expiry ≡ b → cond (not b) (Some item) None ≡ Some item
    kept key item Never true was is late = cc
    kept key item (At time) true was is late =
        let here : is_listed dues time key ≡ true =
        agrees time key ∙ ap (expires_at time) was ∙ ap (is_time time) is ∙ itself time in
        let soon : time ≤ moment = grind arith in
        let nowhere = none time key soon in
        cc
    kept key item expiry false was is late = refl

    stays : (key : List ℕ) (found : Option Item) → get items key ≡ found → cond (is_live moment found) found None ≡ found
    stays key None was = refl
    stays key (Some item) was = kept key item item.expiry (is_due moment item.expiry) was refl refl

-- ---- what the changes of a store's items leave

pub agrees-empty : (items : Items) (dues : Dues) → items ≡ empty → NoneListed dues → Agrees dues items
agrees-empty items dues is none =
    λ time key. none time key ∙ sym (ap (expires_at time) (ap (λ items. get items key) is ∙ get-empty _ key))

-- a change that succeeds or leaves the items
pub on_either : {A T E : Type 0} (result : Result T E) (P : A → Type 0) (new done old : A) → OnOk result (new ≡ done)
    → OnErr result (new ≡ old) → P done → P old → P new
on_either (Ok x) P new done old ok err there here = subst P (sym ok) there
on_either (Err e) P new done old ok err there here = subst P (sym err) here

-- an item that is put under a key without one, and removed again
remove-insert : (key : List ℕ) (item : Item) (items : Items) → get items key ≡ None → remove (insert items key item) key ≡ items
remove-insert key item items none =
    same_map nat_list_cmp_total (slice_cmp-IsAntisymmetric nat_cmp-IsAntisymmetric) _ _
    (λ other. get-remove nat_list_cmp_total (insert items key item) key other
    ∙ ap (cond (is_same_key other key) None) (get-insert nat_list_cmp_total items key item other)
    ∙ chosen other (is_same_key other key) refl)
  where
    chosen : (other : List ℕ) (b : Bool) → is_same_key other key ≡ b
        → cond b None (cond b (Some item) (get items other)) ≡ get items other
    chosen other true same = sym none ∙ at_alike items key other same
    chosen other false differs = refl

pub put-back : (key : List ℕ) (item : Item) (items mid after : Items) → get items key ≡ None → mid ≡ insert items key item
    → after ≡ remove mid key → after ≡ items
put-back key item items mid after none put removed =
    removed ∙ ap (λ (items : Items). remove items key) put ∙ remove-insert key item items none

pub agrees-touched : (key : List ℕ) (expiry : Expiry) (item : Item) (items : Items) (old new : Dues) → get items key ≡ Some item
    → Relists key expiry old new → Agrees old items
    → Agrees new (option_map_or (λ item. insert items key (record item { expiry = expiry })) (get items key) items)
agrees-touched key expiry item items old new was relists agrees =
    subst (λ found. Agrees new (option_map_or (λ item. insert items key (record item { expiry = expiry })) found items)) (sym was)
    (agrees-insert key (record item { expiry = expiry }) items old new relists agrees)
