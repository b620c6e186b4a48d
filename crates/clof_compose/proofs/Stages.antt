-- What the tokens of a level have at every stage.
use Rattle.std.proofs.Common.{◌≡◌, ℕ, refl}
use Rattle.lock_rules.specs.Meanings.{Waiting}
use Rattle.clof_compose.specs.Meanings.{Descent}
use Rattle.clof_compose.specs.Stages.{leave_descent}
use Rattle.clof_compose.specs.declared.stage.LeaveStage.{LeaveStage}
use Rattle.clof_compose.specs.declared.stage.LeaveStage.TheVariants.{Low, High}

pub leave_node : {P L Pass Held HL : Type 0} (low : L → Waiting) (high : HL → Descent) (level node number : ℕ) (s : LeaveStage P L Pass
    Held HL) → (leave_descent low high level node number s).context.node ≡ node
leave_node low high level node number (Low l report) = refl
leave_node low high level node number (High held l) = refl
