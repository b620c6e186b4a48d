-- What the exports of composed locks answer.
use Rattle.std.specs.Prelude.{◌≡◌, ◌⊎◌, ℕ, List}
use Rattle.std.specs.declared.option.Option.{Option}
use Rattle.std.specs.declared.option.Option.TheVariants.{None, Some}
use Rattle.keep_local.specs.declared.shape.Shape.{Shape}
use Rattle.synth_text.specs.declared.fault.SynthFault.{SynthFault}
use Rattle.synth_text.specs.declared.fault.SynthFault.TheVariants as of_synth
use Rattle.topo_tree.specs.declared.fault.BuildFault.{BuildFault}
use Rattle.topo_tree.specs.declared.fault.BuildFault.TheVariants as of_build
use Rattle.run_faults.specs.declared.plan.PlanFault.{PlanFault}
use Rattle.run_faults.specs.declared.plan.PlanFault.TheVariants as of_plan
use Rattle.lock_plan.specs.declared.plan.Plan.{Plan}
use Rattle.lock_setting.specs.Settings.{IsSettingOf, Refuses, Texts}
use Rattle.lock_setting.specs.declared.fault.SettingFault.{SettingFault}
use Rattle.lock_setting.specs.declared.fault.SettingFault.TheVariants as of_setting
use Rattle.level_callers.specs.Seen.{Seen}
use Rattle.level_callers.specs.declared.reply.Reply.{Reply}
use Rattle.level_callers.specs.declared.reply.Reply.TheVariants.{NotYet, Done as Did, Elsewhere, NoTurn}
use Rattle.level_handles.specs.Calls.{HandleDoes, HandleFrees}
use Rattle.level_handles.specs.Making.{Makes}
use Rattle.level_handles.specs.declared.any_depth.AnyDepth.{AnyDepth}
use Rattle.level_handles.specs.declared.making.Made.{Made}
use Rattle.level_handles.specs.declared.making.Made.TheVariants.{Done, NoMemory, InUse, TooDeep, Refused}
use Rattle.clof_c.specs.declared.composed_codes.ClofNumbers.{ClofNumbers}

-- what a call answered; no answer is that of an empty handle
abbrev pub composed_code : Option Reply → ℕ
composed_code (Some Did) = 0
composed_code (Some NotYet) = 1
composed_code (Some Elsewhere) = 2
composed_code (Some NoTurn) = 7
composed_code None = 3

-- what making answered
abbrev pub composed_made_code : Made → ℕ
composed_made_code Done = 0
composed_made_code NoMemory = 4
composed_made_code InUse = 5
composed_made_code Refused = 6
composed_made_code TooDeep = 8

abbrev pub numbers_by : ℕ → ℕ → ClofNumbers
numbers_by first second = record { first = first; second = second }

-- ---- the texts that are refused: a code for each rule, and its numbers

abbrev pub description_code : SynthFault → ℕ
description_code of_synth.Empty = 21
description_code (of_synth.BadType at) = 22
description_code (of_synth.BadArity at) = 23
description_code (of_synth.BadAttr at) = 24
description_code (of_synth.BadIndexes at) = 25
description_code (of_synth.LastNotPu at) = 26
description_code (of_synth.RepeatedType at) = 27
description_code of_synth.TooManyLevels = 28
description_code of_synth.TooManyObjects = 29
description_code of_synth.OutOfMemory = 4

abbrev pub description_numbers : SynthFault → ClofNumbers
description_numbers of_synth.Empty = numbers_by 0 0
description_numbers (of_synth.BadType at) = numbers_by at 0
description_numbers (of_synth.BadArity at) = numbers_by at 0
description_numbers (of_synth.BadAttr at) = numbers_by at 0
description_numbers (of_synth.BadIndexes at) = numbers_by at 0
description_numbers (of_synth.LastNotPu at) = numbers_by at 0
description_numbers (of_synth.RepeatedType at) = numbers_by at 0
description_numbers of_synth.TooManyLevels = numbers_by 0 0
description_numbers of_synth.TooManyObjects = numbers_by 0 0
description_numbers of_synth.OutOfMemory = numbers_by 0 0

abbrev pub numbers_code : BuildFault → ℕ
numbers_code (of_build.IndexCount found wanted) = 31
numbers_code (of_build.IndexRange number) = 32
numbers_code (of_build.IndexTwice number) = 33
numbers_code of_build.OutOfMemory = 4

abbrev pub numbers_numbers : BuildFault → ClofNumbers
numbers_numbers (of_build.IndexCount found wanted) = numbers_by found wanted
numbers_numbers (of_build.IndexRange number) = numbers_by number 0
numbers_numbers (of_build.IndexTwice number) = numbers_by number 0
numbers_numbers of_build.OutOfMemory = numbers_by 0 0

abbrev pub plan_code : PlanFault → ℕ
plan_code (of_plan.LevelUnknown place) = 41
plan_code of_plan.TooDeep = 42
plan_code (of_plan.LevelOrder place) = 43
plan_code (of_plan.LockUnknown place) = 44
plan_code (of_plan.Lengths levels given) = 45
plan_code (of_plan.KeepRange place) = 46
plan_code of_plan.OutOfMemory = 4

abbrev pub plan_numbers : PlanFault → ClofNumbers
plan_numbers (of_plan.LevelUnknown place) = numbers_by place 0
plan_numbers of_plan.TooDeep = numbers_by 0 0
plan_numbers (of_plan.LevelOrder place) = numbers_by place 0
plan_numbers (of_plan.LockUnknown place) = numbers_by place 0
plan_numbers (of_plan.Lengths levels given) = numbers_by levels given
plan_numbers (of_plan.KeepRange place) = numbers_by place 0
plan_numbers of_plan.OutOfMemory = numbers_by 0 0

abbrev pub fault_code : SettingFault → ℕ
fault_code of_setting.TooLong = 9
fault_code (of_setting.Description fault) = description_code fault
fault_code (of_setting.Numbers fault) = numbers_code fault
fault_code (of_setting.Plan fault) = plan_code fault
fault_code (of_setting.NoPu place) = 10
fault_code of_setting.OutOfMemory = 4

abbrev pub fault_numbers : SettingFault → ClofNumbers
fault_numbers of_setting.TooLong = numbers_by 0 0
fault_numbers (of_setting.Description fault) = description_numbers fault
fault_numbers (of_setting.Numbers fault) = numbers_numbers fault
fault_numbers (of_setting.Plan fault) = plan_numbers fault
fault_numbers (of_setting.NoPu place) = numbers_by place 0
fault_numbers of_setting.OutOfMemory = numbers_by 0 0

-- ---- what an export does

-- the handle goes as the call does, and the code is that of its answer
abbrev pub AnswersComposed : (Seen → Seen → Reply → Type 0) → Option AnyDepth → Option AnyDepth → ℕ → Type 0
AnswersComposed does old new code = (answer : Option Reply) × HandleDoes does old new answer × (code ≡ composed_code answer)

abbrev pub AnswersComposedFree : Option AnyDepth → Option AnyDepth → ℕ → Type 0
AnswersComposedFree old new code = (answer : Option Reply) × HandleFrees old new answer × (code ≡ composed_code answer)

-- the texts are refused, which the code and the numbers tell, and nothing changes
pub record AreRefused (texts : Texts) (old new : List (Option AnyDepth)) (numbers : ClofNumbers) (code : ℕ) : Type 0 where
  pub fault : SettingFault
  pub refused : Refuses texts fault
  pub same : new ≡ old
  pub code_is : code ≡ fault_code fault
  pub numbers_are : numbers ≡ fault_numbers fault

-- the texts tell a plan and a shape, the handles are as making leaves them, and it never finds the plan too deep
pub record AreMade (texts : Texts) (old new : List (Option AnyDepth)) (numbers : ClofNumbers) (code : ℕ) : Type 0 where
  pub plan : Plan
  pub shape : Shape
  pub setting : IsSettingOf texts plan shape
  pub made : Made
  pub makes : Makes shape old new made
  pub fits : made ≡ TooDeep → ⊥
  pub code_is : code ≡ composed_made_code made
  pub numbers_are : numbers ≡ numbers_by 0 0

abbrev pub AnswersComposedMaking : Texts → List (Option AnyDepth) → List (Option AnyDepth) → ClofNumbers → ℕ → Type 0
AnswersComposedMaking texts old new numbers code = AreRefused texts old new numbers code ⊎ AreMade texts old new numbers code
