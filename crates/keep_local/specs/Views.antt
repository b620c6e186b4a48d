-- What the seats of a trail's table know, and how the steps change it.
use Rattle.std.specs.Prelude.{ℕ, ◌+◌, true, false, List, [], ◌∷◌, ◌++◌, ◌==◌, map, replicate}
use Rattle.std.specs.List.{count_by, enumerate_from}
use Rattle.keep_local.specs.declared.view.Tally.{Tally}
use Rattle.keep_local.specs.declared.view.View.{View}

-- the home seat's view: the quotas, the callers of all turns, and the tallies that no share has
abbrev pub home_view : List ℕ → List ℕ → List Tally → View
home_view quotas callers tallies = record { home = true; quotas = quotas; callers = callers; tallies = tallies }

-- the view of a seat that isn't home
abbrev pub away_view : List Tally → View
away_view tallies = record { home = false; quotas = []; callers = []; tallies = tallies }

-- a share's view, which has one tally
abbrev pub share_view : Tally → View
share_view tally = away_view (tally ∷ [])

-- a seat that was joined into another
abbrev pub spent_view : View
spent_view = away_view []

-- the tally of a caller who has made no turn, by its number and its quota
abbrev pub new_tally : ℕ × ℕ → Tally
new_tally at = record { caller = at.0; made = 0; quota = at.1 }

-- the first seat, before any turn, has the tallies of all callers
abbrev pub first_view : List ℕ → View
first_view quotas = home_view quotas [] (map new_tally (enumerate_from 0 quotas))

abbrev pub first_alone : List Tally → List Tally
first_alone [] = []
first_alone (t ∷ ts) = t ∷ []

abbrev pub behind_first : List Tally → List Tally
behind_first [] = []
behind_first (t ∷ ts) = ts

-- a seat without the tally that it gives up, and the seat of that tally
abbrev pub without_first : View → View
without_first v = record v { tallies = behind_first v.tallies }

abbrev pub first_split : View → View
first_split v = away_view (first_alone v.tallies)

-- a seat that took over another's tallies
abbrev pub joined_view : View → View → View
joined_view v w = record v { tallies = w.tallies ++ v.tallies }

-- the caller of the first tally makes so many more turns
abbrev pub with_turns_of : View → ℕ → List Tally → View
with_turns_of v n [] = v
with_turns_of v n (t ∷ ts) = record v { callers = v.callers ++ replicate n t.caller; tallies = record t { made = t.made + n } ∷ ts }

abbrev pub with_turns : ℕ → View → View
with_turns n v = with_turns_of v n v.tallies

-- how often a number stands in a list
abbrev pub times : ℕ → List ℕ → ℕ
times k xs = count_by (λ x. x == k) xs

-- how often a caller's number stands in a seat
abbrev pub stands_in : ℕ → View → ℕ
stands_in k v = count_by (λ t. t.caller == k) v.tallies
