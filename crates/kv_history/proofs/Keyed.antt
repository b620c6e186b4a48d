-- What a map of keyed items answers, and what it is after a change at one key.
use Rattle.std.proofs.Common.{◌≡◌, ℕ, Bool, true, false, cond, List, [], ◌∷◌, refl, sym, ◌∙◌, ap}
use Rattle.std.proofs.lemmas.Slice.Eq.{bytes_eq-Decides}
use Rattle.std.proofs.lemmas.Map.Text.{is_eq-slice_cmp}
use Rattle.std.proofs.lemmas.Cmp.{nat_list_cmp_total}
use Rattle.std.specs.Cmp.Lexicographic.{slice_cmp, nat_list_eq_equiv}
use Rattle.std.specs.Prelude.{map, None, Some, option_map, is_some, Vec}
use Rattle.std.specs.Option.{option_map_or}
use Rattle.std.specs.Prelude.{Ok, Err, Result, OnErr, OnOk, IfSome}
use Rattle.std.specs.declared.alloc.Global.{Global}
use Rattle.std.specs.declared.option.Option.{Option}
use Rattle.std.specs.declared.cmp.Ordering.{Ordering}
use Rattle.std.specs.Map.{lookup, lookup_key, KeepsOthers}
use Rattle.std.specs.Str.{bytes_eq}
use Rattle.std.specs.Ordering.{nat_cmp, eq_by_cmp}
use Rattle.std.specs.FinMap.{find, get, insert, remove, from_entries, get-from_entries, get-insert, get-remove, same_map}
use Rattle.std.specs.FinMap.{slice_cmp-IsAntisymmetric, nat_cmp-IsAntisymmetric, IsAntisymmetric}
use Rattle.kv_history.specs.declared.item.Item.{Item}
use Rattle.kv_history.specs.Contents as contents
use Rattle.kv_history.specs.Edits.{counted_in, counted_item, number_after, renumbered_item}
use Rattle.kv_history.specs.Views.{plain_item, keyed}

abbrev pub Entries : Type 0
Entries = List (Vec ℕ Global × Item)

abbrev pub order : List ℕ → List ℕ → Ordering
order = slice_cmp nat_cmp

distinct : IsAntisymmetric order
distinct = slice_cmp-IsAntisymmetric nat_cmp-IsAntisymmetric

-- the test by which bytes are looked up
abbrev pub names : List ℕ → Vec ℕ Global → Bool
names bytes key = bytes_eq bytes key.items

abbrev pub same_key : Vec ℕ Global → Vec ℕ Global → Bool
same_key a b = bytes_eq a.items b.items

abbrev pub kept_items : Entries → contents.Items
kept_items entries = from_entries (map keyed entries)

-- the first item with a key is what the map of the items has there
found_first : {A B : Type 0} (f : A → B) (t : Bool) (x : A) (o : Option A) (p : Option B) → p ≡ option_map f o
    → cond t (Some (f x)) p ≡ option_map f (cond t (Some x) o)
found_first f true x o p is = refl
found_first f false x o p is = is

find-keyed : (key : List ℕ) (entries : Entries) → find order key (map keyed entries) ≡ option_map plain_item (lookup (names key) entries)
find-keyed key [] = refl
find-keyed key (entry ∷ entries) =
    rw (is_eq-slice_cmp key entry.0.items)
    (found_first plain_item (bytes_eq key entry.0.items) entry.1 _ _ (find-keyed key entries))

pub get-keyed : (key : List ℕ) (entries : Entries) → get (kept_items entries) key ≡ option_map plain_item (lookup (names key) entries)
get-keyed key entries = get-from_entries nat_list_cmp_total (map keyed entries) key ∙ find-keyed key entries

-- the key that is found has the bytes
first_key : (key : List ℕ) (first found : Vec ℕ Global) (others : Option (Vec ℕ Global)) (b : Bool) → bytes_eq key first.items ≡ b
    → cond b (Some first) others ≡ Some found → (others ≡ Some found → found.items ≡ key) → found.items ≡ key
first_key key first found others true same is later =
    let same_bytes = (bytes_eq-Decides key first.items).0 same in
    let same_vec : found ≡ first = cc in
    ap (λ (k : Vec ℕ Global). k.items) same_vec ∙ sym same_bytes
first_key key first found others false differs is later = later is

lookup-key : (key : List ℕ) (entries : Entries) (found : Vec ℕ Global) → lookup_key (names key) entries ≡ Some found → found.items ≡ key
lookup-key key [] found is = cc
lookup-key key (entry ∷ entries) found is =
    first_key key entry.0 found (lookup_key (names key) entries) (bytes_eq key entry.0.items) refl is (lookup-key key entries found)

pub found-key : (key : List ℕ) (entries : Entries) (result : Option (Vec ℕ Global × Item))
    → option_map (λ entry. entry.0) result ≡ lookup_key (names key) entries → IfSome result (λ entry. entry.0.items ≡ key)
found-key key entries None is = tt
found-key key entries (Some entry) is = lookup-key key entries entry.0 (sym is)

-- a key that differs from the changed one has what it had
other_entries : (key other : List ℕ) (old new : Entries) → KeepsOthers same_key (names key) old new → bytes_eq key other ≡ false
    → lookup (names other) new ≡ lookup (names other) old
unfolding KeepsOthers
other_entries key other old new keeps differs =
    keeps (names other) (λ x y. nat_list_eq_equiv.congr other x.items y.items) (λ k. apart k.items)
  where
    apart : (bytes : List ℕ) → bytes_eq key bytes ≡ true → bytes_eq other bytes ≡ false
    apart bytes same = nat_list_eq_equiv.symm other bytes ∙ sym (nat_list_eq_equiv.congr key bytes other same) ∙ differs

get_after : (key other : List ℕ) (old new : Entries) (item : Option Item) → lookup (names key) new ≡ item
    → KeepsOthers same_key (names key) old new
    → get (kept_items new) other ≡ cond (eq_by_cmp order other key) (option_map plain_item item) (get (kept_items old) other)
get_after key other old new item here keeps =
    chosen (bytes_eq key other) refl ∙ ap (λ b. cond b (option_map plain_item item) (get (kept_items old) other)) tested
  where
    tested : bytes_eq key other ≡ eq_by_cmp order other key
    tested = nat_list_eq_equiv.symm key other ∙ sym (is_eq-slice_cmp other key)

    chosen : (b : Bool) → bytes_eq key other ≡ b
        → get (kept_items new) other ≡ cond b (option_map plain_item item) (get (kept_items old) other)
    chosen true same =
        ap (get (kept_items new)) (sym ((bytes_eq-Decides key other).0 same)) ∙ get-keyed key new ∙ ap (option_map plain_item) here
    chosen false differs =
        get-keyed other new ∙ ap (option_map plain_item) (other_entries key other old new keeps differs) ∙ sym (get-keyed other old)

-- the key has no item any more
pub removed-keyed : (key : List ℕ) (old new : Entries) → lookup (names key) new ≡ None → KeepsOthers same_key (names key) old new
    → kept_items new ≡ remove (kept_items old) key
removed-keyed key old new here keeps =
    same_map nat_list_cmp_total distinct _ _
    (λ q. get_after key q old new None here keeps ∙ sym (get-remove nat_list_cmp_total (kept_items old) key q))

-- the key has this item
pub put-keyed : (key : List ℕ) (old new : Entries) (item : Item) → lookup (names key) new ≡ Some item
    → KeepsOthers same_key (names key) old new → kept_items new ≡ insert (kept_items old) key (plain_item item)
put-keyed key old new item here keeps =
    same_map nat_list_cmp_total distinct _ _
    (λ q. get_after key q old new (Some item) here keeps ∙ sym (get-insert nat_list_cmp_total (kept_items old) key (plain_item item) q))

-- an item that is like the one that is there makes no difference
pub same-keyed : (key : List ℕ) (old new : Entries) (before after : Item) → lookup (names key) old ≡ Some before
    → plain_item after ≡ plain_item before → lookup (names key) new ≡ Some after → KeepsOthers same_key (names key) old new
    → kept_items new ≡ kept_items old
same-keyed key old new before after was alike here keeps =
    same_map nat_list_cmp_total distinct _ _
    (λ q. get_after key q old new (Some after) here keeps ∙ chosen q (eq_by_cmp order q key) refl)
  where
    there : get (kept_items old) key ≡ Some (plain_item after)
    there = get-keyed key old ∙ ap (option_map plain_item) was ∙ ap Some (sym alike)

    same_bytes : (q : List ℕ) → eq_by_cmp order q key ≡ true → key ≡ q
    same_bytes q same = sym ((bytes_eq-Decides q key).0 (sym (is_eq-slice_cmp q key) ∙ same))

    chosen : (q : List ℕ) (b : Bool) → eq_by_cmp order q key ≡ b
        → cond b (Some (plain_item after)) (get (kept_items old) q) ≡ get (kept_items old) q
    chosen q true same = sym there ∙ ap (get (kept_items old)) (same_bytes q same)
    chosen q false differs = refl

-- an item that is counted
pub counted-keyed : (key : List ℕ) (old new : Entries) (before after : Item) (up : Bool) (delta unique : ℕ)
    → lookup (names key) old ≡ Some before → plain_item after ≡ counted_item up delta unique (plain_item before)
    → lookup (names key) new ≡ Some after → KeepsOthers same_key (names key) old new
    → kept_items new ≡ counted_in (kept_items old) key up delta unique (Some (plain_item before))
counted-keyed key old new before after up delta unique was is here keeps = chosen (number_after up delta (plain_item before)) is
  where
    chosen : (number : Option ℕ)
        → plain_item after ≡ option_map_or (λ n. renumbered_item (plain_item before) n unique) number (plain_item before)
        → kept_items new
        ≡ option_map_or (λ n. insert (kept_items old) key (renumbered_item (plain_item before) n unique)) number (kept_items old)
    chosen None same = same-keyed key old new before after was same here keeps
    chosen (Some number) same = put-keyed key old new after here keeps ∙ ap (insert (kept_items old) key) same

pub option_map-map : {A B C : Type 0} (f : B → C) (g : A → B) (o : Option A) → option_map (λ x. f (g x)) o ≡ option_map f (option_map g o)
option_map-map f g None = refl
option_map-map f g (Some x) = refl

pub is_some-map : {A B : Type 0} (f : A → B) (o : Option A) → is_some (option_map f o) ≡ is_some o
is_some-map f None = refl
is_some-map f (Some x) = refl

-- what is done to a value that isn't there
pub map_or-none : {A B : Type 0} (f : A → B) (o : Option A) (b : B) → is_some o ≡ false → option_map_or f o b ≡ b
map_or-none f None b none = refl
map_or-none f (Some x) b none = cc

-- what holds on every way holds at an error
pub on_err : {T E : Type 0} (r : Result T E) (P : Type 0) → P → OnErr r P
on_err (Ok x) P h = tt
on_err (Err e) P h = h

pub on_ok : {T E : Type 0} (r : Result T E) (P Q : Type 0) → OnOk r P → (P → Q) → OnOk r Q
on_ok (Ok x) P Q h f = f h
on_ok (Err e) P Q h f = tt
