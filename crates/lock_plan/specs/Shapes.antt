-- The shape of a plan: under which nodes its callers stand.
use Rattle.std.specs.Prelude.{◌≡◌, ℕ, ◌==◌, List, map}
use Rattle.std.specs.List.{position_or_len}
use Rattle.cpu_set.specs.Sets.{has, numbers_below}
use Rattle.synth_text.specs.declared.description.Description.{Description}
use Rattle.topo_tree.specs.Objects.{count_at}
use Rattle.keep_local.specs.declared.shape.Shape.{Shape}
use Rattle.topo_tree.specs.Coverage.{object_over}
use Rattle.lock_plan.specs.declared.plan.Plan.{Plan}

-- the objects of a depth that have a caller under them, in logical order, where the callers stand on these PUs
unfoldable pub occupied : Description → List ℕ → ℕ → List ℕ
occupied described pus depth = numbers_below (count_at described depth) (has (map (λ pu. object_over described depth pu) pus))

-- the node of a caller at a depth: the rank of the object over its PU among these objects
unfoldable pub node_on : Description → List ℕ → ℕ → ℕ → ℕ
node_on described pus depth pu = position_or_len (λ object. object == object_over described depth pu) (occupied described pus depth)

-- the nodes of a caller, the lowest first
abbrev pub path_on : Description → List ℕ → List ℕ → ℕ → List ℕ
path_on described pus depths pu = map (λ depth. node_on described pus depth pu) depths

-- the shape of a plan whose callers stand on these PUs, by their logical numbers
pub record IsShapeOf (described : Description) (plan : Plan) (pus : List ℕ) (shape : Shape) : Type 0 where
  pub paths_are : shape.paths ≡ map (path_on described pus plan.depths) pus
  pub keeps_are : shape.keeps ≡ plan.keeps
