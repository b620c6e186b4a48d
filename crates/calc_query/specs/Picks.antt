-- Which numbers the index of a part picks (after hwloc-calc's indexes of locations; the wrapping of `a:n` and the
-- numbering by physical numbers are this project's profile).
use Rattle.std.specs.Prelude.{◌≡◌, ◌⊎◌, ℕ, ◌+◌, ◌%◌, ◌<◌, ◌≤◌, ◌==◌, ◌&&◌, Bool, true, false, nat_lt, nat_le}
use Rattle.std.specs.List.{list_any, range_with_len}
use Rattle.calc_query.specs.declared.query.Pick.{Pick}
use Rattle.calc_query.specs.declared.query.Pick.TheVariants as picks
use Rattle.calc_query.specs.declared.query.Numbering.{Numbering}
use Rattle.calc_query.specs.declared.query.Numbering.TheVariants as numberings

-- `a:n` picks n numbers from a on. Logical numbers go round among the m candidates, where a is one of theirs.
abbrev pub is_wrapped : Numbering → ℕ → ℕ → ℕ → ℕ → Bool
is_wrapped numberings.Logical first count candidates number =
    nat_lt first candidates && list_any (λ t. (first + t) % candidates == number) (range_with_len 0 count)
is_wrapped numberings.Physical first count candidates number = list_any (λ t. first + t == number) (range_with_len 0 count)

-- whether a number of one of so many candidates is picked
unfoldable pub is_picked : Numbering → Pick → ℕ → ℕ → Bool
is_picked numbering (picks.One wanted) candidates number = number == wanted
is_picked numbering (picks.Span first last) candidates number = nat_le first number && nat_le number last
is_picked numbering (picks.From first) candidates number = nat_le first number
is_picked numbering (picks.Wrap first count) candidates number = is_wrapped numbering first count candidates number
is_picked numbering picks.Every candidates number = true
is_picked numbering picks.Odd candidates number = number % 2 == 1
is_picked numbering picks.Even candidates number = number % 2 == 0

-- Of so many candidates none outside these places is picked by its logical number, which is its place.
abbrev pub IsReach : Pick → ℕ → ℕ → ℕ → Type 0
IsReach pick candidates from to = (place : ℕ) → place < candidates → (place < from) ⊎ (to ≤ place)
    → is_picked numberings.Logical pick candidates place ≡ false
