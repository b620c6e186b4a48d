-- What words say as locations and terms, and which fault they have (after hwloc-calc's locations). 46 is a dot, 58 a
-- colon, 45 a dash; 126, 120 and 94 are the operators `~`, `x` and `^`.
use Rattle.std.specs.Prelude.{◌≡◌, ℕ, ◌+◌, ◌^◌, ◌==◌, ◌||◌, Bool, if◌then◌else◌, List, [], ◌∷◌, length, drop, codes, Option, Some}
use Rattle.std.specs.Prelude.{None, option_map, Result, Ok, Err}
use Rattle.std.specs.Char.{is_ascii_digit}
use Rattle.std.specs.List.{slice_split}
use Rattle.std.specs.Option.{option_and_then}
use Rattle.std.specs.Str.{bytes_eq}
use Rattle.out_of_memory.specs.Memory.{UnlessMemory}
use Rattle.byte_text.specs.Numerals.{number_below}
use Rattle.cpu_set.specs.declared.fault.SetFault.{SetFault}
use Rattle.cpu_set.specs.Sets.{numbers_where}
use Rattle.cpu_set.specs.Readings.{hex_fault, is_in_hex}
use Rattle.synth_text.specs.declared.description.Description.{Description}
use Rattle.byte_text.specs.Cuts.{cut, first_piece}
use Rattle.synth_text.specs.Flaws.{◌>>=◌}
use Rattle.topo_tree.specs.declared.layer.Layer.{Layer}
use Rattle.topo_tree.specs.Naming.{layer_named}
use Rattle.calc_query.specs.declared.fault.CalcFault.{CalcFault}
use Rattle.calc_query.specs.declared.fault.CalcFault.TheVariants as faults
use Rattle.calc_query.specs.declared.query.Pick.{Pick}
use Rattle.calc_query.specs.declared.query.Pick.TheVariants as picks
use Rattle.calc_query.specs.declared.query.Part.{Part}
use Rattle.calc_query.specs.declared.query.Op.{Op}
use Rattle.calc_query.specs.declared.query.Op.TheVariants as ops
use Rattle.calc_query.specs.declared.query.Location.{Location}
use Rattle.calc_query.specs.declared.query.Location.TheVariants as locations
use Rattle.calc_query.specs.declared.query.Term.{Term}

-- ---- indexes

-- a decimal number below 2^32
abbrev pub index_number : List ℕ → Option ℕ
index_number text = number_below (2 ^ 32) text

-- `a-b`, or `a-` where nothing stands behind the dash
abbrev pub span_from : List ℕ → ℕ → Option Pick
span_from [] first = Some (picks.From first)
span_from (byte ∷ bytes) first = option_map (λ last. picks.Span first last) (index_number (byte ∷ bytes))

abbrev pub wrap_from : List ℕ → ℕ → Option Pick
wrap_from count first = option_map (λ n. picks.Wrap first n) (index_number count)

-- an index without a colon: `a-b`, `a-` or `k`
abbrev pub dashed_pick : List ℕ → Option (List ℕ × List ℕ) → Option Pick
dashed_pick text None = option_map (λ number. picks.One number) (index_number text)
dashed_pick text (Some parts) = option_and_then (span_from parts.1) (index_number parts.0)

-- `a:n`, or an index without a colon
abbrev pub numbered_pick : List ℕ → Option (List ℕ × List ℕ) → Option Pick
numbered_pick text None = dashed_pick text (cut (λ byte. byte == 45) text)
numbered_pick text (Some parts) = option_and_then (wrap_from parts.1) (index_number parts.0)

-- what an index says
unfoldable pub pick_of : List ℕ → Option Pick
pick_of text =
    if bytes_eq text (codes "all") then Some picks.Every
    else (if bytes_eq text (codes "odd") then Some picks.Odd
    else (if bytes_eq text (codes "even") then Some picks.Even
    else numbered_pick text (cut (λ byte. byte == 58) text)))

-- ---- parts

abbrev pub picked_part : ℕ → ℕ → Layer → Option Pick → Result Part CalcFault
picked_part word at layer None = Err (faults.Location word at)
picked_part word at layer (Some pick) = Ok (record { layer = layer; pick = pick })

-- The name is what stands before the first colon, or all of the part. That it names no layer comes before that there is no
-- colon or no good index behind it.
abbrev pub named_part : ℕ → ℕ → Option Layer → Option (List ℕ) → Result Part CalcFault
named_part word at None index = Err (faults.NoSuchType word)
named_part word at (Some layer) None = Err (faults.Location word at)
named_part word at (Some layer) (Some index) = picked_part word at layer (pick_of index)

-- what a part says that begins at an offset of a word with a number
unfoldable pub part_of : Description → ℕ → ℕ → List ℕ → Result Part CalcFault
part_of described word at piece =
    named_part word at (layer_named described (first_piece (λ byte. byte == 58) piece).0) (first_piece (λ byte. byte == 58) piece).1

-- what parts say between which a dot stands: each in its turn, or the fault of the first bad one
abbrev pub parts_from : Description → ℕ → ℕ → List (List ℕ) → Result (List Part) CalcFault
parts_from described word at [] = Ok []
parts_from described word at (piece ∷ pieces) =
    part_of described word at piece >>= λ part. parts_from described word (at + length piece + 1) pieces >>= λ parts. Ok (part ∷ parts)

-- ---- locations

abbrev pub numbers_location : ℕ → ℕ → List ℕ → Option SetFault → Result Location CalcFault
numbers_location word at text None = Ok (locations.Numbers (numbers_where (is_in_hex text)))
numbers_location word at text (Some fault) = Err (faults.Location word at)

-- A location that begins with a digit is a set in hexadecimal, any other consists of parts.
abbrev pub set_or_parts : Description → ℕ → ℕ → List ℕ → Result Location CalcFault
set_or_parts described word at [] = Err (faults.Location word at)
set_or_parts described word at (first ∷ bytes) =
    if is_ascii_digit first then numbers_location word at (first ∷ bytes) (hex_fault (first ∷ bytes))
    else (parts_from described word at (slice_split (λ byte. byte == 46) (first ∷ bytes)) >>= λ parts. Ok (locations.Parts parts))

-- `all` and `root` are the set of Machine
abbrev pub is_whole : List ℕ → Bool
is_whole text = bytes_eq text (codes "all") || bytes_eq text (codes "root")

-- what a text says as a location that begins at an offset of a word
unfoldable pub location_of : Description → ℕ → ℕ → List ℕ → Result Location CalcFault
location_of described word at text =
    if is_whole text then Ok locations.All else set_or_parts described word at text

-- ---- terms

-- the operation that a word's first byte says, and whether it is an operator
abbrev pub op_of : List ℕ → Op
op_of [] = ops.Join
op_of (first ∷ bytes) = if first == 126 then ops.Remove else
    (if first == 120 then ops.Meet else (if first == 94 then ops.Differ else ops.Join))

-- how many bytes the operator has
abbrev pub op_len : Op → ℕ
op_len ops.Join = 0
op_len op = 1

-- what a word says as a term
unfoldable pub term_of : Description → ℕ → List ℕ → Result Term CalcFault
term_of described word text =
    location_of described word (op_len (op_of text)) (drop (op_len (op_of text)) text) >>=
    λ location. Ok (record { op = op_of text; location = location })

-- ---- answers

-- the fault that the reading has, unless memory was refused
abbrev pub FailsWith : {A : Type 0} → CalcFault → Result A CalcFault → Type 0
FailsWith fault reading = UnlessMemory faults.OutOfMemory fault (reading ≡ Err fault)

-- a function's result is what the reading says, unless memory was refused
abbrev pub Answers : {A : Type 0} → Result A CalcFault → Result A CalcFault → Type 0
Answers (Ok x) reading = reading ≡ Ok x
Answers (Err fault) reading = FailsWith fault reading
