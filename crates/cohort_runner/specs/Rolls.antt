-- The roll of a run: the contexts of all its callers, in order.
use Rattle.std.specs.Prelude.{◌≡◌, ℕ, List, [], ◌∷◌, map, slice_get, Some}
use Rattle.lock_rules.specs.Tag.{Tag, leaf, fork}
use Rattle.clof_compose.specs.Contexts.{Context, own_tag}
use Rattle.clof_compose.specs.Meanings.{Rest}
use Rattle.clof_compose.specs.Passes.{IsNumber}
use Rattle.threaded_runner.specs.declared.job.Job.{Job}

-- a roll written as a tag
abbrev pub roll_tag : List Context → Tag
roll_tag [] = leaf 0
roll_tag (c ∷ cs) = fork (own_tag 0 c) (roll_tag cs)

-- the contexts of these callers' passes
abbrev pub contexts_of : {P : Type 0} → (P → Rest) → List (Job P) → List Context
contexts_of {P} rest jobs = map (λ j. (rest j.pass).context) jobs

-- each context stands on the roll at its number, and is one of a lock of this level, whose root has this tag
abbrev pub IsRoll : (Context → Type 0) → ℕ → Tag → List Context → Type 0
IsRoll has level tag roll = (k : ℕ) (c : Context) → slice_get roll k ≡ Some c → IsNumber has level tag k c
