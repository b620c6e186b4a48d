-- The line on standard error that tells of a status.
use Rattle.std.specs.Prelude.{ℕ, List, [], ◌∷◌, ◌++◌, codes, decimal}
use Rattle.calc_query.specs.declared.fault.CalcFault.{CalcFault}
use Rattle.calc_query.specs.declared.fault.CalcFault.TheVariants as calc
use Rattle.cpu_set.specs.declared.fault.SetFault.{SetFault}
use Rattle.cpu_set.specs.declared.fault.SetFault.TheVariants as set
use Rattle.distrib_rules.specs.declared.fault.DistribFault.{DistribFault}
use Rattle.distrib_rules.specs.declared.fault.DistribFault.TheVariants as distrib
use Rattle.run_faults.specs.declared.plan.PlanFault.{PlanFault}
use Rattle.run_faults.specs.declared.plan.PlanFault.TheVariants as plan
use Rattle.run_faults.specs.declared.select.SelectFault.{SelectFault}
use Rattle.run_faults.specs.declared.select.SelectFault.TheVariants as select
use Rattle.run_faults.specs.declared.fault.SectionFault.{SectionFault}
use Rattle.run_faults.specs.declared.fault.SectionFault.TheVariants as section
use Rattle.run_faults.specs.declared.fault.CheckFault.{CheckFault}
use Rattle.run_faults.specs.declared.fault.CheckFault.TheVariants as check
use Rattle.synth_text.specs.declared.fault.SynthFault.{SynthFault}
use Rattle.synth_text.specs.declared.fault.SynthFault.TheVariants as synth
use Rattle.topo_tree.specs.declared.fault.BuildFault.{BuildFault}
use Rattle.topo_tree.specs.declared.fault.BuildFault.TheVariants as build
use Rattle.command_texts.specs.declared.status.Fault.{Fault}
use Rattle.command_texts.specs.declared.status.Fault.TheVariants as faults
use Rattle.command_texts.specs.declared.status.OptionName.{OptionName}
use Rattle.command_texts.specs.declared.status.OptionName.TheVariants as options
use Rattle.command_texts.specs.declared.status.Status.{Status}
use Rattle.command_texts.specs.declared.status.Status.TheVariants as statuses

-- a text, a space and a number
abbrev pub with_number : List ℕ → ℕ → List ℕ
with_number text number = text ++ 32 ∷ decimal number

abbrev pub set_message : SetFault → List ℕ
set_message (set.Form at) = with_number (codes "set Form") at
set_message (set.TooLarge at) = with_number (codes "set TooLarge") at
set_message (set.Infinite at) = with_number (codes "set Infinite") at

abbrev pub synth_message : SynthFault → List ℕ
synth_message synth.Empty = codes "synth Empty"
synth_message (synth.BadType at) = with_number (codes "synth BadType") at
synth_message (synth.BadArity at) = with_number (codes "synth BadArity") at
synth_message (synth.BadAttr at) = with_number (codes "synth BadAttr") at
synth_message (synth.BadIndexes at) = with_number (codes "synth BadIndexes") at
synth_message (synth.LastNotPu at) = with_number (codes "synth LastNotPu") at
synth_message (synth.RepeatedType at) = with_number (codes "synth RepeatedType") at
synth_message synth.TooManyLevels = codes "synth TooManyLevels"
synth_message synth.TooManyObjects = codes "synth TooManyObjects"
synth_message synth.OutOfMemory = codes "out of memory"

abbrev pub build_message : BuildFault → List ℕ
build_message (build.IndexCount found wanted) = with_number (with_number (codes "build IndexCount") found) wanted
build_message (build.IndexRange number) = with_number (codes "build IndexRange") number
build_message (build.IndexTwice number) = with_number (codes "build IndexTwice") number
build_message build.OutOfMemory = codes "out of memory"

abbrev pub calc_message : CalcFault → List ℕ
calc_message (calc.Location word at) = with_number (with_number (codes "location Location") word) at
calc_message (calc.NoSuchType word) = with_number (codes "location NoSuchType") word
calc_message calc.OutOfMemory = codes "out of memory"

-- the option whose type is refused
abbrev pub type_message : OptionName → List ℕ
type_message options.Intersect = codes "type -I"
type_message options.NumberOf = codes "type -N"
type_message options.Hierarchical = codes "type -H"
type_message options.From = codes "type --from"
type_message options.To = codes "type --to"
type_message options.At = codes "type --at"

abbrev pub distrib_message : DistribFault → List ℕ
distrib_message distrib.ZeroMasks = codes "distrib ZeroMasks"
distrib_message distrib.TooManyMasks = codes "distrib TooManyMasks"
distrib_message distrib.Reversed = codes "distrib Reversed"
distrib_message distrib.OutOfMemory = codes "out of memory"

abbrev pub plan_message : PlanFault → List ℕ
plan_message (plan.LevelUnknown place) = with_number (codes "plan LevelUnknown") place
plan_message plan.TooDeep = codes "plan TooDeep"
plan_message (plan.LevelOrder place) = with_number (codes "plan LevelOrder") place
plan_message (plan.LockUnknown place) = with_number (codes "plan LockUnknown") place
plan_message (plan.Lengths levels given) = with_number (with_number (codes "plan Lengths") levels) given
plan_message (plan.KeepRange place) = with_number (codes "plan KeepRange") place
plan_message plan.OutOfMemory = codes "out of memory"

abbrev pub section_message : SectionFault → List ℕ
section_message (section.BadHead at) = with_number (codes "section BadHead") at
section_message (section.BadPlace at) = with_number (codes "section BadPlace") at
section_message (section.Short at) = with_number (codes "section Short") at
section_message section.TooManyCallers = codes "section TooManyCallers"
section_message section.OutOfMemory = codes "out of memory"

abbrev pub select_message : SelectFault → List ℕ
select_message select.Weights = codes "select Weights"
select_message select.Keep = codes "select Keep"
select_message (select.Line at) = with_number (codes "select Line") at
select_message (select.Place at) = with_number (codes "select Place") at
select_message select.TooManyTurns = codes "select TooManyTurns"
select_message select.OutOfMemory = codes "out of memory"

abbrev pub check_message : CheckFault → List ℕ
check_message check.BadHead = codes "check BadHead"
check_message check.Short = codes "check Short"

-- the area, the name of the fault and its numbers
abbrev pub fault_message : Fault → List ℕ
fault_message (faults.Set fault) = set_message fault
fault_message (faults.Synth fault) = synth_message fault
fault_message (faults.Build fault) = build_message fault
fault_message (faults.Calc fault) = calc_message fault
fault_message (faults.TypeOf option) = type_message option
fault_message (faults.Distrib fault) = distrib_message fault
fault_message (faults.Plan fault) = plan_message fault
fault_message (faults.Section fault) = section_message fault
fault_message (faults.Select fault) = select_message fault
fault_message faults.Input = codes "input"
fault_message (faults.Check fault) = check_message fault

-- what the line says; of Ok there is no line
abbrev pub message : Status → List ℕ
message statuses.Ok = []
message statuses.Usage = codes "usage"
message (statuses.Malformed fault) = fault_message fault
message (statuses.Limit fault) = fault_message fault
message statuses.ReadFault = codes "read fault"
message (statuses.WriteFault written) = with_number (codes "write fault") written
message statuses.OutOfMemory = codes "out of memory"

-- what is said, as a line of the program
abbrev pub line_with : List ℕ → List ℕ
line_with said = codes "clof: " ++ said ++ 10 ∷ []

unfoldable pub line_of : Status → List ℕ
line_of status = line_with (message status)
