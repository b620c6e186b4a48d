-- What a token of a level means at each stage.
use Rattle.std.specs.Prelude.{◌≡◌, ℕ}
use Rattle.lock_rules.specs.Meanings.{Waiting}
use Rattle.lock_rules.specs.Holders.{holder_of}
use Rattle.lock_rules.specs.Views.{answer_of}
use Rattle.lock_rules.specs.declared.step.Answer.TheVariants.{Open}
use Rattle.clof_compose.specs.Levels.{level_context, IsClimbing, IsDescending}
use Rattle.clof_compose.specs.Meanings.{Climb, Descent}
use Rattle.clof_compose.specs.declared.stage.QueueStage.{QueueStage}
use Rattle.clof_compose.specs.declared.stage.QueueStage.TheVariants as queue
use Rattle.clof_compose.specs.declared.stage.LeaveStage.{LeaveStage}
use Rattle.clof_compose.specs.declared.stage.LeaveStage.TheVariants as leave

module _ {P Q Pass Held HQ : Type 0} where
  abbrev pub queue_climb : (Q → Waiting) → (HQ → Climb) → ℕ → ℕ → ℕ → QueueStage P Q Pass Held HQ → Climb
  queue_climb low high level node number (queue.Low q) = record {
    context = level_context level node number (low q).place;
    level = level;
    entries = (low q).entries;
    loads = (low q).loads;
    ready = (low q).ready;
  }
  queue_climb low high level node number (queue.High held q) = record (high q) {
    context = level_context level node number (holder_of
        held).place;
  }

  abbrev pub IsQueued : (HQ → Climb) → (HQ → Type 0) → ℕ → QueueStage P Q Pass Held HQ → Type 0
  IsQueued high climbs level (queue.Low q) = Unit {0}
  IsQueued high climbs level (queue.High held q) = IsClimbing level held.value.node (holder_of held).place.tag (climbs q) (high q)
      × ((holder_of held).tested ≡ Open)

module _ {P L Pass Held HL : Type 0} where
  abbrev pub leave_descent : (L → Waiting) → (HL → Descent) → ℕ → ℕ → ℕ → LeaveStage P L Pass Held HL → Descent
  leave_descent low high level node number (leave.Low l report) = record {
    context = level_context level node number (low l).place;
    level
        = level;
    loads = (low l).loads;
    ready = (low l).ready;
    report = report;
  }
  leave_descent low high level node number (leave.High held l) = record (high l) {
    context = level_context level node number (holder_of
        held).place;
  }

  abbrev pub IsLeaving : (L → Type 0) → (HL → Descent) → (HL → Type 0) → ℕ → LeaveStage P L Pass Held HL → Type 0
  IsLeaving rests high descends level (leave.Low l report) = rests l
  IsLeaving rests high descends level (leave.High held l) = IsDescending level held.value.node held.value.said (holder_of held).place.tag
      (descends l) (high l) × (answer_of held.value.said ≡ (holder_of held).tested)
