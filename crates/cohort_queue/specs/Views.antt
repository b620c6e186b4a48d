-- What the seats at the queue of a Cohort know.
use Rattle.std.specs.Prelude.{◌≡◌, ◌<◌, ℕ, [], ◌∷◌, Option, None, Some}
use Rattle.lock_rules.specs.Tag.{Tag, leaf}
use Rattle.lock_rules.specs.declared.view.Tagged.{Tagged}
use Rattle.cohort_queue.specs.Numbers.{IsIn}
use Rattle.cohort_queue.specs.declared.view.View.{View}

abbrev pub tagged_by : Tag → Option Tagged
tagged_by t = Some (record { tag = t })

-- the tag in a view; it is open before the first push
abbrev pub tag_in : Option Tagged → Tag
tag_in None = leaf 0
tag_in (Some t) = t.tag

-- the first view, before any push. It has the number 0
abbrev pub first_view : View
first_view = record { tag = None; outs = []; given = []; numbers = 0 ∷ []; split = 1 }

-- a view that was joined to another has no number
abbrev pub spent_view : View
spent_view = record { tag = None; outs = []; given = []; numbers = []; split = 0 }

abbrev pub IsSpent : View → Type 0
IsSpent v = v.numbers ≡ []

-- it has the numbers of all seats that were split off, and its own
abbrev pub HasAll : View → Type 0
HasAll v = (k : ℕ) → k < v.split → IsIn k v.numbers
