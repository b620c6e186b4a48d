-- The drill: 64 callers add 20,000 numbers to eight keys, and the text tells what these hold at the end. The rule is this project's own.
use Rattle.std.specs.Prelude.{◌≡◌, ℕ, ◌+◌, ◌%◌, ◌<◌, ◌==◌, List, ◌++◌, length, map, codes, decimal, Some, slice_get}
use Rattle.std.specs.List.{count_by, filter, flat_map, range_with_len, sum_by}
use Rattle.mc_text.specs.Reading.{commands_of}
use Rattle.kv_history.specs.Log.{Log, calls}

-- how many callers, keys and additions there are
unfoldable pub callers : ℕ
callers = 64

unfoldable pub keys : ℕ
keys = 8

unfoldable pub additions : ℕ
additions = 20000

-- the numbers below another
abbrev pub below : ℕ → List ℕ
below n = range_with_len 0 n

-- what addition j adds in a drill, and the additions of a caller and of a key
abbrev pub delta : ℕ → ℕ → ℕ
delta drill j = (j + drill) % 1000

abbrev pub of_caller : ℕ → List ℕ
of_caller caller = filter (λ j. j % 64 == caller) (below additions)

abbrev pub of_key : ℕ → List ℕ
of_key key = filter (λ j. j % 8 == key) (below additions)

-- the name of a key
abbrev pub key_name : ℕ → List ℕ
key_name key = codes "k" ++ decimal key

-- the command that stores 0 under a key which is absent, and the one that makes an addition
unfoldable pub opening : ℕ → List ℕ
opening key = codes "add " ++ (key_name key ++ codes " 0 0 1 noreply\r\n0\r\n")

unfoldable pub addition : ℕ → ℕ → List ℕ
addition drill j = codes "incr " ++ (key_name (j % 8) ++ (codes " " ++ (decimal (delta drill j) ++ codes " noreply\r\n")))

-- the section of a caller, and those of all
unfoldable pub drill_section : ℕ → ℕ → List ℕ
drill_section drill caller = flat_map opening (below keys) ++ flat_map (addition drill) (of_caller caller)

unfoldable pub drill_sections : ℕ → List (List ℕ)
drill_sections drill = map (drill_section drill) (below callers)

-- the number of a key: a plain sum, which knows no order of callers
unfoldable pub drill_sum : ℕ → ℕ → ℕ
drill_sum drill key = sum_by (delta drill) (of_key key)

-- the text of a drill: a line for the drill and one for each key
unfoldable pub key_line : ℕ → ℕ → List ℕ
key_line drill key = key_name key ++ (codes " " ++ (decimal (drill_sum drill key) ++ codes "\n"))

unfoldable pub heading : ℕ → List ℕ
heading drill = codes "drill " ++ (decimal drill ++ codes " callers 64 commands 20512\n")

unfoldable pub drill_text : ℕ → List ℕ
drill_text drill = heading drill ++ flat_map (key_line drill) (below keys)

-- each caller has given all commands of its section
abbrev pub HaveGivenAll : Log → Type 0
HaveGivenAll log =
    (caller : ℕ) (section : List ℕ) → slice_get log.sections caller ≡ Some section
    → count_by (λ other. other == caller) (calls log) ≡ length (commands_of section)
