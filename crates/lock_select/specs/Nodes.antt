-- The shape of a lock whose levels are depths of a topology: each PU is a caller, whose node at a level is the object over it.
use Rattle.std.specs.Prelude.{◌≡◌, ℕ, ◌-◌, ◌<◌, ◌≤◌, List, [], ◌∷◌, ◌++◌, length, map, All, replicate}
use Rattle.std.specs.List.{AllPairs, range_with_len}
use Rattle.synth_text.specs.declared.description.Description.{Description}
use Rattle.synth_text.specs.Rules.{pu_count}
use Rattle.topo_tree.specs.Objects.{depth_count}
use Rattle.topo_tree.specs.Coverage.{object_over}
use Rattle.keep_local.specs.declared.shape.Shape.{Shape}

-- how many levels a lock may have
abbrev pub level_limit : ℕ
level_limit = 5

-- A list of levels: the depths of one to five levels, the lowest first, each further up than the one before, Machine last.
pub record AreLevels (described : Description) (depths : List ℕ) : Type 0 where
  pub few : length depths ≤ level_limit
  pub within : All (λ depth. depth < depth_count described) depths
  pub falling : AllPairs (λ lower upper. upper < lower) depths
  pub lower : List ℕ
  pub ends : depths ≡ lower ++ 0 ∷ []

-- a caller's nodes: the objects over its PU
abbrev pub path_of : Description → List ℕ → ℕ → List ℕ
path_of described depths pu = map (λ depth. object_over described depth pu) depths

-- the shape of a lock with these levels, each of which keeps the lock equally often, with a caller on each PU
abbrev pub shape_of : Description → List ℕ → ℕ → Shape
shape_of described depths keep = record {
  paths = map (path_of described depths) (range_with_len 0 (pu_count described));
  keeps = replicate (length depths - 1) keep;
}
