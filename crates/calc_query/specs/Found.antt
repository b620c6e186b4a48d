-- What was found of objects.
use Rattle.std.specs.Prelude.{◌≡◌, ℕ, List}
use Rattle.cpu_set.specs.Tests.{is_inside}
use Rattle.synth_text.specs.declared.description.Description.{Description}
use Rattle.topo_tree.specs.Coverage.{set_of}
use Rattle.calc_query.specs.declared.found.Found.{Found}

-- the set has all PUs of the object exactly where this was found
abbrev pub IsFound : Description → List ℕ → Found → Type 0
IsFound described set found = found.inside ≡ is_inside (set_of described found.object.layer found.object.index) set
