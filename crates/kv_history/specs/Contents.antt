-- What a store holds. By memcached's protocol.txt and this project's profile.
use Rattle.std.specs.Prelude.{◌≡◌, ℕ, Bool, false, not, List, Option, None, Some, refl}
use Rattle.std.specs.Coded.{Coded, code_by, coded×, coded_ℕ, coded_list, coded_option}
use Rattle.std.specs.Ordering.{nat_cmp}
use Rattle.std.specs.Cmp.Lexicographic.{slice_cmp}
use Rattle.std.specs.FinMap as map
use Rattle.kv_history.specs.declared.expiry.Expiry.{Expiry}
use Rattle.kv_history.specs.declared.expiry.Expiry.TheVariants.{Never, At}
use Rattle.kv_history.specs.Expiry.{is_due}

-- an item: a number that its client gave, when it expires, its value, and the number that it got when it was stored
pub record Item : Type 0 where
  pub flags : ℕ
  pub expiry : Expiry
  pub block : List ℕ
  pub unique : ℕ

-- a finite map from keys to items
abbrev pub Items : Type 0
Items = map.FinMap (slice_cmp nat_cmp) Item

-- the items, the unique that the next item to be stored gets, and the moment, by which items expire
pub record Contents : Type 0 where
  pub items : Items
  pub next_unique : ℕ
  pub moment : ℕ

-- an expiry as an optional number, and back
abbrev pub time_of : Expiry → Option ℕ
time_of Never = None
time_of (At time) = Some time

abbrev pub expiry_at : Option ℕ → Expiry
expiry_at None = Never
expiry_at (Some time) = At time

abbrev pub back_at : (expiry : Expiry) → expiry_at (time_of expiry) ≡ expiry
back_at Never = refl
back_at (At time) = refl

abbrev pub item_code : Coded Item
item_code =
    code_by (ℕ × (Option ℕ × (List ℕ × ℕ))) (coded× coded_ℕ (coded× (coded_option coded_ℕ) (coded× (coded_list coded_ℕ) coded_ℕ)))
    (λ item. (item.flags, (time_of item.expiry, (item.block, item.unique))))
    (λ parts. record { flags = parts.0; expiry = expiry_at parts.1.0; block = parts.1.1.0; unique = parts.1.1.1 })
    (λ item. λ i. record { flags = item.flags; expiry = back_at item.expiry i; block = item.block; unique = item.unique })

abbrev pub items_code : Coded Items
items_code = map.code (coded_list coded_ℕ) item_code

abbrev pub contents_code : Coded Contents
contents_code =
    code_by (Items × (ℕ × ℕ)) (coded× items_code (coded× coded_ℕ coded_ℕ)) (λ store. (store.items, (store.next_unique, store.moment)))
    (λ parts. record { items = parts.0; next_unique = parts.1.0; moment = parts.1.1 }) (λ _. refl)

-- the store without items, at the moment 0: the first item to be stored gets the unique 1
abbrev pub empty_store : Contents
empty_store = record { items = map.empty; next_unique = 1; moment = 0 }

-- ---- items that expire

-- an item is there, and its expiry isn't a number that is at most the moment
abbrev pub is_live : ℕ → Option Item → Bool
is_live moment None = false
is_live moment (Some item) = not (is_due moment item.expiry)

-- the items that are left at a moment: those whose expiry isn't a number that is at most the moment
abbrev pub left_at : ℕ → Items → Items
left_at moment items = map.retain_keys items (λ key. is_live moment (map.get items key))

-- no item's expiry is a number that is at most the moment
abbrev pub NoneDue : ℕ → Items → Type 0
NoneDue moment items = (key : List ℕ) (item : Item) → map.get items key ≡ Some item → is_due moment item.expiry ≡ false

abbrev pub NoneExpired : Contents → Type 0
NoneExpired store = NoneDue store.moment store.items
