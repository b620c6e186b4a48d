-- How a list of objects shares masks: each by its weight, the number of its PUs. The rounding is this project's profile.
use Rattle.std.specs.Prelude.{ℕ, ◌+◌, ◌-◌, ◌*◌, ◌/◌, Bool, List, [], ◌∷◌, length, reverse, if◌then◌else◌}
use Rattle.std.specs.List.{sum_by}
use Rattle.synth_text.specs.declared.description.Description.{Description}
use Rattle.topo_tree.specs.Coverage.{set_at}

-- a quotient, rounded up
abbrev pub rounded_up : ℕ → ℕ → ℕ
rounded_up part whole = (part + whole - 1) / whole

-- how many of n masks an object of a weight gets behind objects of another weight, where all together have a total weight
abbrev pub share_of : ℕ → ℕ → ℕ → ℕ → ℕ
share_of n total before weight = rounded_up ((before + weight) * n) total - rounded_up (before * n) total

-- an object of a depth, with its share of the masks
pub record Pair : Type 0 where
  pub depth : ℕ
  pub index : ℕ
  pub share : ℕ

-- the weight of an object of a depth: how many PUs it has
abbrev pub weight_of : Description → ℕ → ℕ → ℕ
weight_of described depth index = length (set_at described depth index)

-- objects of a depth, each with its share, behind objects of a weight
abbrev pub shared_behind : Description → ℕ → ℕ → ℕ → ℕ → List ℕ → List Pair
shared_behind described n total depth before [] = []
shared_behind described n total depth before (index ∷ indexes) =
    record { depth = depth; index = index; share = share_of n total before (weight_of described depth index) }
    ∷ shared_behind described n total depth (before + weight_of described depth index) indexes

-- a list of objects of a depth, each with its share of n masks
unfoldable pub shared : Description → ℕ → ℕ → List ℕ → List Pair
shared described n depth indexes = shared_behind described n (sum_by (weight_of described depth) indexes) depth 0 indexes

-- a list in its order, or from its last object to its first
abbrev pub in_order : Bool → List ℕ → List ℕ
in_order backwards indexes = if backwards then reverse indexes else indexes
