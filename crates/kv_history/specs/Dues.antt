-- Which keys are listed by the times at which their items expire.
use Rattle.std.specs.Prelude.{◌≡◌, ℕ, Bool, true, false, List, length, Option, cond, ◌&&◌}
use Rattle.std.specs.declared.cmp.Ordering.{Ordering}
use Rattle.std.specs.Ordering.{nat_cmp, ordering_then, eq_by_cmp}
use Rattle.std.specs.Cmp.Lexicographic.{slice_cmp}
use Rattle.std.specs.BTreeSet.{contains_by}
use Rattle.std.specs.Option.{option_map_or}
use Rattle.std.specs.FinMap as map
use Rattle.kv_history.specs.declared.dues.Due.{Due}
use Rattle.kv_history.specs.declared.dues.Dues.{Dues}
use Rattle.kv_history.specs.declared.expiry.Expiry.{Expiry}
use Rattle.kv_history.specs.declared.expiry.Expiry.TheVariants.{At}
use Rattle.kv_history.specs.Expiry.{is_time}
use Rattle.kv_history.specs.Contents.{Item, Items}

-- the order: first by the time, then by the key
abbrev pub beside_due : ℕ → List ℕ → Due → Ordering
beside_due time key due = ordering_then (nat_cmp time due.time) (slice_cmp nat_cmp key due.key.items)

-- the key is listed at the time
abbrev pub is_listed : Dues → ℕ → List ℕ → Bool
is_listed dues time key = contains_by (beside_due time key) dues.order

-- no key is listed
abbrev pub NoneListed : Dues → Type 0
NoneListed dues = (time : ℕ) (key : List ℕ) → is_listed dues time key ≡ false

-- the same keys are listed at the same times
abbrev pub AreAlike : Dues → Dues → Type 0
AreAlike old new = (time : ℕ) (key : List ℕ) → is_listed new time key ≡ is_listed old time key

-- a key is listed at its expiry alone
abbrev pub ListsAt : Dues → List ℕ → Expiry → Type 0
ListsAt dues key expiry = (time : ℕ) → is_listed dues time key ≡ is_time time expiry

abbrev pub is_same_key : List ℕ → List ℕ → Bool
is_same_key key other = eq_by_cmp (slice_cmp nat_cmp) key other

-- now a key is listed at this expiry alone, and each other key where it was
abbrev pub Relists : List ℕ → Expiry → Dues → Dues → Type 0
Relists key expiry old new =
    (time : ℕ) (other : List ℕ) → is_listed new time other ≡ cond (is_same_key other key) (is_time time expiry) (is_listed old time other)

-- how many are listed
abbrev pub due_count : Dues → ℕ
due_count dues = length dues.order.keys

-- a key is listed at an expiry too
abbrev pub ListsToo : List ℕ → Expiry → Dues → Dues → Type 0
ListsToo key expiry old new =
    (at : ℕ) (other : List ℕ) → is_listed new at other ≡ cond (is_time at expiry && is_same_key other key) true (is_listed old at other)

-- a key is listed at a time too or no more, as `listed` says
abbrev pub Lists : List ℕ → ℕ → Bool → Dues → Dues → Type 0
Lists key time listed old new =
    (at : ℕ) (other : List ℕ)
    → is_listed new at other ≡ cond (is_time at (At time) && is_same_key other key) listed (is_listed old at other)

-- whether an item expires at a time
abbrev pub expires_at : ℕ → Option Item → Bool
expires_at time found = option_map_or (λ item. is_time time item.expiry) found false

-- each key is listed at its item's expiry, and nowhere else
abbrev pub Agrees : Dues → Items → Type 0
Agrees dues items = (time : ℕ) (key : List ℕ) → is_listed dues time key ≡ expires_at time (map.get items key)
