-- What the seats at the table of a counted history know, and how seats are split off and joined.
use Rattle.std.specs.Prelude.{ℕ, true, false, cond, List, [], ◌∷◌, ◌++◌, length, nat_lt}
use Rattle.fresh_root.specs.declared.view.View.{View}

-- the first seat is home; the history is empty
abbrev pub first_view : View
first_view = record { home = true; spent = false; list = []; older = [] }

-- a seat that was joined into another
abbrev pub spent_view : View
spent_view = record { home = false; spent = true; list = []; older = [] }

-- a view that another is split off from stays as it is, and its list is copied into the new one, which isn't home
abbrev pub itself : View → View
itself v = v

abbrev pub copy_of : View → View
copy_of v = record { home = false; spent = v.spent; list = v.list; older = [] }

-- the longer and the shorter of two lists
abbrev pub longer : List ℕ → List ℕ → List ℕ
longer xs ys = cond (nat_lt (length ys) (length xs)) xs ys

abbrev pub shorter : List ℕ → List ℕ → List ℕ
shorter xs ys = cond (nat_lt (length ys) (length xs)) ys xs

-- the home view keeps its own list as its list, and that of the other as an older one
abbrev pub joined_home : View → View → View
joined_home v w = record v { older = w.list ∷ (w.older ++ v.older) }

-- any other view keeps the longer list as its list, and the shorter one as an older one
abbrev pub joined_away : View → View → View
joined_away v w = record v { list = longer v.list w.list; older = shorter v.list w.list ∷ (w.older ++ v.older) }

abbrev pub joined : View → View → View
joined v w = cond v.home (joined_home v w) (joined_away v w)
