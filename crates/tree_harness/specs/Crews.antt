-- What threads are given for their callers, and what comes back of these.
use Rattle.std.specs.Prelude.{◌≡◌, ◌≤◌, ℕ, List, [], Some, length, slice_get, vec_capacity}
use Rattle.std.specs.declared.alloc.Global.{Global}
use Rattle.std.specs.declared.vec.Vec.{Vec}
use Rattle.lock_rules.specs.Tag.{Tag}
use Rattle.clof_compose.specs.Contexts.{Context}
use Rattle.clof_compose.specs.Meanings.{Rest}
use Rattle.clof_compose.specs.Passes.{AreAll}
use Rattle.level_harness.specs.Jobs.{IsEnded, IsJob}
use Rattle.level_harness.specs.declared.holds.Job.{Job}
use Rattle.tree_harness.specs.Ready.{IsReady}
use Rattle.tree_harness.specs.declared.crew.Crew.{Crew}
use Rattle.tree_harness.specs.declared.crew.Crew.TheVariants.{Walk, Held, Idle, Lost}

module _ {P : Type 0} (rest : P → Rest) (has : Context → Type 0) (level count : ℕ) (tag : Tag) where
  -- each caller has its job, and the passes have room in an empty list
  pub record AreOpen (jobs : List (Job P)) (passes : Vec P Global) : Type 0 where
    pub many : length jobs ≡ count
    pub each : (k : ℕ) (j : Job P) → slice_get jobs k ≡ Some j → IsJob rest has level tag k j
    pub empty : passes.items ≡ []
    pub room : count ≤ vec_capacity passes

  -- each has made all its turns
  pub record HaveEnded (jobs : List (Job P)) (passes : Vec P Global) : Type 0 where
    pub many : length jobs ≡ count
    pub each : (k : ℕ) (j : Job P) → slice_get jobs k ≡ Some j → IsEnded rest has level tag k j
    pub empty : passes.items ≡ []
    pub room : count ≤ vec_capacity passes

  -- it is what comes back of all callers
  abbrev pub IsCrew : Crew P → Type 0
  IsCrew (Walk walkers) = IsReady rest has level count tag walkers.passes.items walkers.shares.items
  IsCrew (Held held) = HaveEnded held.jobs.items held.passes
  IsCrew (Idle passes) = AreAll (λ p. (rest p).context) has level tag count passes.items
  IsCrew Lost = Unit {0}
