-- Where callers stand. `*` and the choice of a PU are this project's own.
use Rattle.std.specs.Prelude.{ℕ, ◌==◌, false, if◌then◌else◌, List, [], ◌∷◌, length, codes, Option, Some, None, Result, Ok, Err}
use Rattle.std.specs.Prelude.{option_map, option_and_then, unwrap_or, slice_get}
use Rattle.std.specs.Str.{bytes_eq}
use Rattle.synth_text.specs.declared.description.Description.{Description}
use Rattle.topo_tree.specs.Coverage.{leaf_of}
use Rattle.distrib_rules.specs.Masks.{distribution}
use Rattle.calc_query.specs.declared.fault.CalcFault.{CalcFault}
use Rattle.calc_query.specs.declared.query.Location.{Location}
use Rattle.calc_query.specs.declared.query.Op.TheVariants as ops
use Rattle.calc_query.specs.declared.query.Numbering.TheVariants as numberings
use Rattle.calc_query.specs.Readings.{location_of}
use Rattle.calc_query.specs.Selection.{selected}
use Rattle.placed_runner.specs.declared.place.Place.{Place}
use Rattle.placed_runner.specs.declared.place.Place.TheVariants.{Anywhere, On}

-- the PU of a set that is just the number of one
unfoldable pub lone_pu : Description → List ℕ → Option ℕ
lone_pu described set = if length set == 1 then option_and_then (λ number. leaf_of described number) (slice_get set 0) else None

-- the PU of a location whose set is that
abbrev pub located_pu : Description → Result Location CalcFault → Option ℕ
located_pu described (Ok location) =
    lone_pu described (selected described numberings.Logical (record { op = ops.Join; location = location } ∷ []))
located_pu described (Err fault) = None

-- the place that a word names: any for `*`, and else the PU of a location with logical numbers
unfoldable pub place_of : Description → List ℕ → Option Place
place_of described word =
    if bytes_eq word (codes "*") then Some Anywhere
    else option_map (λ pu. On pu) (located_pu described (location_of described 0 0 word))

-- the masks of n callers: n of a distribution from Machine down to the PUs
abbrev pub masks_of : Description → ℕ → List (List ℕ)
masks_of described n = distribution described (record { to = length described.levels; backwards = false }) n 0

-- the PU of a mask's first number
abbrev pub first_pu : Description → List ℕ → Option ℕ
first_pu described mask = option_and_then (λ number. leaf_of described number) (slice_get mask 0)

-- the PU of the mask with this number
abbrev pub mask_pu : Description → List (List ℕ) → ℕ → Option ℕ
mask_pu described masks caller = option_and_then (first_pu described) (slice_get masks caller)

-- the PU of the caller with this number, of n callers
abbrev pub pu_on : Description → ℕ → ℕ → Place → ℕ
pu_on described n caller Anywhere = unwrap_or (mask_pu described (masks_of described n) caller) 0
pu_on described n caller (On pu) = pu
