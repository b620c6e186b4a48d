-- What a source has left and a sink holds, where they tell it, and how a call changes it.
use Rattle.std.specs.Prelude.{◌≡◌, ℕ, ◌+◌, List, [], ◌++◌, Some, None, IfSome}
use Rattle.std.specs.declared.option.Option.{Option}

-- what was left began with these bytes, and what stood behind them is left now
abbrev pub Loses : Option (List ℕ) → Option (List ℕ) → List ℕ → Type 0
Loses None now bytes = now ≡ None
Loses (Some before) now bytes = (rest : List ℕ) × (now ≡ Some rest) × (before ≡ bytes ++ rest)

-- nothing is left
abbrev pub IsAtEnd : Option (List ℕ) → Type 0
IsAtEnd left = IfSome left (λ bytes. bytes ≡ [])

-- all that was left, where it was told, is gone
abbrev pub IsDrained : Option (List ℕ) → Option (List ℕ) → Type 0
IsDrained None now = now ≡ None
IsDrained (Some before) now = now ≡ Some []

-- what is held is what was held, and then these bytes
abbrev pub Gains : Option (List ℕ) → Option (List ℕ) → List ℕ → Type 0
Gains None now bytes = now ≡ None
Gains (Some before) now bytes = now ≡ Some (before ++ bytes)

-- the room was so much greater
abbrev pub FallsBy : ℕ → Option ℕ → Option ℕ → Type 0
FallsBy count None now = now ≡ None
FallsBy count (Some before) now = (rest : ℕ) × (now ≡ Some rest) × (before ≡ count + rest)

-- there is no room
abbrev pub IsSpent : Option ℕ → Type 0
IsSpent room = IfSome room (λ rest. rest ≡ 0)
