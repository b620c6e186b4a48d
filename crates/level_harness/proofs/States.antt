-- Which state is idle.
use Rattle.std.proofs.Common.{◌≡◌, refl}
use Rattle.level_harness.specs.Walkers.{IsIdle}
use Rattle.level_harness.specs.declared.walker.State.{State}
use Rattle.level_harness.specs.declared.walker.State.TheVariants.{Idle, Queued, Holding, Leaving, Stepping}

pub not_other : {P Q H L : Type 0} (s : State P Q H L) → IsIdle s → ((p : P) → s ≡ Idle p → ⊥) → ⊥
not_other (Idle p) idle other = other p refl
not_other (Queued q) idle other = idle
not_other (Holding h) idle other = idle
not_other (Leaving l) idle other = idle
not_other Stepping idle other = idle
