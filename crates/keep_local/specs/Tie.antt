-- The rule of the table that ties a trail and its shares.
use Rattle.std.specs.Prelude.{◌≡◌, ℕ, ◌^◌, ◌<◌, ◌≤◌, true, cond, List, [], ◌∷◌, length, slice_index, nat_lt, sum, All}
use Rattle.std.specs.List.{sum_by}
use mathlib.Core.Option.{some}
use lib.ListN.{get_elem?}
use Rattle.atomic_table.specs.Table.{State}
use Rattle.keep_local.specs.Views.{times, stands_in}
use Rattle.keep_local.specs.declared.view.Tally.{Tally}
use Rattle.keep_local.specs.declared.view.View.{View}

-- a tally is that of a caller: it has made as many turns as its number stands in the list, and has its quota
pub record IsTallyOf (quotas callers : List ℕ) (t : Tally) : Type 0 where
  pub known : t.caller < length quotas
  pub made : t.made ≡ times t.caller callers
  pub quota : t.quota ≡ slice_index quotas t.caller

-- the home seat is the first one, and knows the quotas and the callers of all turns
pub record IsHome (quotas callers : List ℕ) (seat : ℕ) (v : View) : Type 0 where
  pub first : seat ≡ 0
  pub quotas_are : v.quotas ≡ quotas
  pub callers_are : v.callers ≡ callers

-- what a seat's view says
pub record SeatStands (quotas callers : List ℕ) (seat : ℕ) (v : View) : Type 0 where
  pub home : v.home ≡ true → IsHome quotas callers seat v
  pub tallies : All (IsTallyOf quotas callers) v.tallies

-- the first seat is home
pub record HasHome (views : List View) : Type 0 where
  pub view : View
  pub at : get_elem? views 0 ≡ some view
  pub home : view.home ≡ true

-- the rule, for callers with these quotas
pub record IsTied (quotas : List ℕ) (s : State (Unit {0}) View) : Type 0 where
  -- the callers of all turns, in order
  pub callers : List ℕ
  pub fits : sum quotas < 2 ^ 64
  -- the word is how many there are
  pub word : s.words ≡ length callers ∷ []
  pub known : All (λ caller. caller < length quotas) callers
  -- no caller has made more turns than its quota
  pub within : (k : ℕ) → k < length quotas → times k callers ≤ slice_index quotas k
  pub home : HasHome s.views
  pub each_seat : (j : ℕ) (v : View) → get_elem? s.views j ≡ some v → SeatStands quotas callers j v
  -- each caller's number stands in exactly one seat, once
  pub once : (k : ℕ) → sum_by (stands_in k) s.views ≡ cond (nat_lt k (length quotas)) 1 0
