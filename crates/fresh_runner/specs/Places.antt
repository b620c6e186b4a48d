-- The places of a caller among calls.
use Rattle.std.specs.Prelude.{ℕ, List, map, filter, ◌==◌}
use Rattle.std.specs.List.{enumerate_from}

-- the places at which the caller stands, counted from 0, in order
unfoldable pub places_of : ℕ → List ℕ → List ℕ
places_of caller calls = map (λ at. at.0) (filter (λ at. at.1 == caller) (enumerate_from 0 calls))
