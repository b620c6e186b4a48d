-- The sums in a store.
use Rattle.std.specs.Prelude.{◌≡◌, ℕ, ◌<◌, List, [], ◌++◌, codes, decimal, Some, option_map}
use Rattle.std.specs.FinMap as map
use Rattle.std.specs.Option.{option_map_or}
use Rattle.kv_history.specs.Contents.{Contents}
use Rattle.drill_text.specs.Drill.{drill_sum, key_name, keys}

-- under each key the store has the digits of the key's sum
abbrev pub HoldsSums : ℕ → Contents → Type 0
HoldsSums drill store =
    (key : ℕ) → key < keys → option_map (λ item. item.block) (map.get store.items (key_name key)) ≡ Some (decimal (drill_sum drill key))

-- the line of a key, with what a store has there
unfoldable pub line_in : Contents → ℕ → List ℕ
line_in store key =
    key_name key ++ (codes " " ++ (option_map_or (λ item. item.block) (map.get store.items (key_name key)) [] ++ codes "\n"))
