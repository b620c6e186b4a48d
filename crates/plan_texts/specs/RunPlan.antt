-- The plan of the lock of a run, and why its texts are refused.
use Rattle.std.specs.Prelude.{◌≡◌}
use Rattle.synth_text.specs.declared.description.Description.{Description}
use Rattle.run_faults.specs.declared.plan.PlanFault.{PlanFault}
use Rattle.run_faults.specs.declared.plan.PlanFault.TheVariants as faults
use Rattle.lock_plan.specs.declared.plan.Plan.{Plan}
use Rattle.lock_plan.specs.Laws as laws
use Rattle.lock_plan.specs.Plans.{IsPlan, PlanRefused}
use Rattle.command_texts.specs.declared.status.Fault.TheVariants.{Plan as PlanFaulty}
use Rattle.command_texts.specs.declared.status.Status.{Status}
use Rattle.command_texts.specs.declared.status.Status.TheVariants as statuses
use Rattle.command_words.specs.Asked.{Running}

-- the status of a fault
abbrev pub plan_status : PlanFault → Status
plan_status (faults.LevelUnknown place) = statuses.Malformed (PlanFaulty (faults.LevelUnknown place))
plan_status faults.TooDeep = statuses.Malformed (PlanFaulty faults.TooDeep)
plan_status (faults.LevelOrder place) = statuses.Malformed (PlanFaulty (faults.LevelOrder place))
plan_status (faults.LockUnknown place) = statuses.Malformed (PlanFaulty (faults.LockUnknown place))
plan_status (faults.Lengths levels given) = statuses.Malformed (PlanFaulty (faults.Lengths levels given))
plan_status (faults.KeepRange place) = statuses.Malformed (PlanFaulty (faults.KeepRange place))
plan_status faults.OutOfMemory = statuses.OutOfMemory

-- the plan that is asked for, on a topology
abbrev pub PlanOf : Description → Running → Plan → Type 0
PlanOf described asked plan = IsPlan described asked.levels asked.locks asked.keep plan

-- there is one
abbrev pub HasPlan : Description → Running → Type 0
HasPlan described asked = laws.HasPlan described asked.levels asked.locks asked.keep

-- the texts are refused: the status tells the first rule that they break
pub record RefusesPlan (described : Description) (asked : Running) (status : Status) : Type 0 where
  pub fault : PlanFault
  pub refused : PlanRefused described asked.levels asked.locks asked.keep fault
  pub status_is : status ≡ plan_status fault
