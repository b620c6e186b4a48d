-- How a call of the program ends, by what its words ask for and by what it read.
use Rattle.std.specs.Prelude.{◌≡◌, ◌≤◌, ◌<◌, ◌+◌, ◌⊎◌, ℕ, Bool, List, length, Some, IfSome}
use Rattle.std.specs.declared.option.Option.{Option}
use Rattle.edge_io.specs.Counts.{RisesBy}
use Rattle.command_texts.specs.declared.status.Fault.TheVariants.{Set as SetOf, Input}
use Rattle.command_texts.specs.declared.status.Status.{Status}
use Rattle.command_texts.specs.declared.status.Status.TheVariants as statuses
use Rattle.command_words.specs.Asked.{Asked, Run, Set, Topo, Calc, Distrib, Select, Drill, Check, Running, Selection, Checking, as_run}
use Rattle.cpu_set.specs.declared.fault.SetFault.{SetFault}
use Rattle.run_check.specs.Pairs.{input_limit}
use Rattle.clof_answers.specs.Run.{PrintsSections, RefusesSections, RefusesPlanned, RunRefuses, OnDescribed}
use Rattle.drill_text.specs.Drill.{drill_text}
use Rattle.clof_answers.specs.Checking.{pair_limit, CheckRefuses, RefusesChecked, RefusesPair, TellsChecked}
use Rattle.plan_texts.specs.RunPlan.{HasPlan}
use Rattle.command_texts.specs.SetText.{PrintsSet, SetRefused}
use Rattle.command_texts.specs.CalcText.{PrintsCalc, CalcRefuses}
use Rattle.command_texts.specs.DistribText.{PrintsDistrib, DistribRefuses}
use Rattle.plan_texts.specs.SelectText.{HasCriteria, RefusesTrace, PrintsSelection}
use Rattle.clof_answers.specs.Selecting.{SelectRefuses, RefusesInput}
use Rattle.synth_text.specs.declared.description.Description.{Description}
use Rattle.command_texts.specs.TopoText.{PrintsTopo, TopoRefuses}

-- what is asked for depends on the input
abbrev pub ReadsInput : Asked → Type 0
ReadsInput (Run asked) = Unit {0}
ReadsInput (Set list text) = ⊥
ReadsInput (Topo export text) = ⊥
ReadsInput (Calc asked) = ⊥
ReadsInput (Distrib asked) = ⊥
ReadsInput (Select asked) = Unit {0}
ReadsInput (Drill number) = ⊥
ReadsInput (Check asked) = Unit {0}

-- the greatest length of what is read for it
abbrev pub limit_of : Asked → ℕ
limit_of (Run asked) = input_limit
limit_of (Set list text) = input_limit
limit_of (Topo export text) = input_limit
limit_of (Calc asked) = input_limit
limit_of (Distrib asked) = input_limit
limit_of (Select asked) = input_limit
limit_of (Drill number) = input_limit
limit_of (Check asked) = pair_limit

-- a source gave this input and came to its end: as many bytes as its count of given ones rose by, which are what it had
-- left, where it tells that
pub record WasRead (left : Option (List ℕ)) (given given_now : ℕ) (input : List ℕ) : Type 0 where
  pub is_left : IfSome left (λ all. input ≡ all)
  pub size : RisesBy (length input) given given_now

-- the input that was read for what is asked for, or any text where it doesn't depend on one
abbrev pub HasRead : Asked → Option (List ℕ) → ℕ → ℕ → List ℕ → Type 0
HasRead (Run asked) left given given_now input = WasRead left given given_now input
HasRead (Set list text) left given given_now input = Unit {0}
HasRead (Topo export text) left given given_now input = Unit {0}
HasRead (Calc asked) left given given_now input = Unit {0}
HasRead (Distrib asked) left given given_now input = Unit {0}
HasRead (Select asked) left given given_now input = WasRead left given given_now input
HasRead (Drill number) left given given_now input = Unit {0}
HasRead (Check asked) left given given_now input = WasRead left given given_now input

-- the text that is printed
abbrev pub IsAnswer : Asked → List ℕ → List ℕ → Type 0
IsAnswer (Run asked) input printed =
    (length input ≤ input_limit) × OnDescribed asked.description (λ described. PrintsSections described asked input printed)
IsAnswer (Set list text) input printed = PrintsSet list text printed
IsAnswer (Topo export text) input printed = PrintsTopo export text printed
IsAnswer (Calc asked) input printed = PrintsCalc asked printed
IsAnswer (Distrib asked) input printed = PrintsDistrib asked printed
IsAnswer (Select asked) input printed =
    (length input ≤ input_limit) × OnDescribed asked.description (λ described. PrintsSelection described asked input printed)
IsAnswer (Drill number) input printed = printed ≡ drill_text number
IsAnswer (Check asked) input printed =
    (length input ≤ pair_limit) × OnDescribed asked.description (λ described. TellsChecked described asked input printed)

-- why `set` refuses its text: by the leftmost rule that it breaks
abbrev pub SetRefuses : Bool → List ℕ → Status → Type 0
SetRefuses list text statuses.Ok = ⊥
SetRefuses list text statuses.Usage = ⊥
SetRefuses list text (statuses.Malformed fault) = (broken : SetFault) × (fault ≡ SetOf broken) × SetRefused list text broken
SetRefuses list text (statuses.Limit fault) = ⊥
SetRefuses list text statuses.ReadFault = ⊥
SetRefuses list text (statuses.WriteFault written) = ⊥
SetRefuses list text statuses.OutOfMemory = ⊥

-- the status with which what is asked for is refused by its words, whatever the input is
abbrev pub WordsRefused : Asked → Status → Type 0
WordsRefused (Run asked) status = RunRefuses asked status
WordsRefused (Set list text) status = SetRefuses list text status
WordsRefused (Topo export text) status = TopoRefuses text status
WordsRefused (Calc asked) status = CalcRefuses asked status
WordsRefused (Distrib asked) status = DistribRefuses asked status
WordsRefused (Select asked) status = SelectRefuses asked status
WordsRefused (Drill number) status = ⊥
WordsRefused (Check asked) status = CheckRefuses asked status

-- the status with which what is asked for is refused by its input
abbrev pub InputRefused : Asked → List ℕ → Status → Type 0
InputRefused (Run asked) input status = OnDescribed asked.description (RefusesPlanned asked input status)
InputRefused (Set list text) input status = ⊥
InputRefused (Topo export text) input status = ⊥
InputRefused (Calc asked) input status = ⊥
InputRefused (Distrib asked) input status = ⊥
InputRefused (Select asked) input status = OnDescribed asked.description (RefusesInput asked input status)
InputRefused (Drill number) input status = ⊥
InputRefused (Check asked) input status = OnDescribed asked.description (RefusesChecked asked input status)

-- a source has an input left, where it tells that, and no status refuses it
pub record IsAccepted (asked : Asked) (left : Option (List ℕ)) : Type 0 where
  pub input : List ℕ
  pub is_left : left ≡ Some input
  pub unrefused : (status : Status) → InputRefused asked input status → ⊥

-- the source had more left than a limit, where it tells that, and one byte more than that was read
pub record WasTooLong (limit : ℕ) (left : Option (List ℕ)) (given given_now : ℕ) : Type 0 where
  pub longer : IfSome left (λ all. limit < length all)
  pub size : RisesBy (limit + 1) given given_now

-- what was read tells that `run` refuses it with this status: too much of it, or an input whose sections break a rule
abbrev pub Found : Option (List ℕ) → ℕ → ℕ → Status → Description → Type 0
Found left given given_now status described =
    ((status ≡ statuses.Limit Input) × WasTooLong input_limit left given given_now)
    ⊎ ((input : List ℕ) × WasRead left given given_now input × (length input ≤ input_limit) × RefusesSections described input status)

-- there is a plan, and what was read tells so
abbrev pub FoundPlanned : Running → Option (List ℕ) → ℕ → ℕ → Status → Description → Type 0
FoundPlanned asked left given given_now status described = HasPlan described asked × Found left given given_now status described

-- what was read tells that `select` refuses it with this status: too much of it, or no trace
abbrev pub FoundNoTrace : Option (List ℕ) → ℕ → ℕ → Status → Description → Type 0
FoundNoTrace left given given_now status described =
    ((status ≡ statuses.Limit Input) × WasTooLong input_limit left given given_now)
    ⊎ ((input : List ℕ) × WasRead left given given_now input × (length input ≤ input_limit) × RefusesTrace described input status)

-- the weights and the keep are good, and what was read tells so
abbrev pub FoundRefused : Selection → Option (List ℕ) → ℕ → ℕ → Status → Description → Type 0
FoundRefused asked left given given_now status described = HasCriteria described asked × FoundNoTrace left given given_now status described

-- what was read tells that `check` refuses it with this status: too much of it, or no sections with a printed text
abbrev pub FoundNoPair : Option (List ℕ) → ℕ → ℕ → Status → Description → Type 0
FoundNoPair left given given_now status described =
    ((status ≡ statuses.Limit Input) × WasTooLong pair_limit left given given_now)
    ⊎ ((bytes : List ℕ) × WasRead left given given_now bytes × (length bytes ≤ pair_limit) × RefusesPair described bytes status)

-- there is a plan, and what was read tells so
abbrev pub FoundUnchecked : Checking → Option (List ℕ) → ℕ → ℕ → Status → Description → Type 0
FoundUnchecked asked left given given_now status described =
    HasPlan described (as_run asked) × FoundNoPair left given given_now status described

-- what was read tells that what is asked for is refused with this status
abbrev pub WasFound : Asked → Option (List ℕ) → ℕ → ℕ → Status → Type 0
WasFound (Run asked) left given given_now status = OnDescribed asked.description (FoundPlanned asked left given given_now status)
WasFound (Set list text) left given given_now status = ⊥
WasFound (Topo export text) left given given_now status = ⊥
WasFound (Calc asked) left given given_now status = ⊥
WasFound (Distrib asked) left given given_now status = ⊥
WasFound (Select asked) left given given_now status = OnDescribed asked.description (FoundRefused asked left given given_now status)
WasFound (Drill number) left given given_now status = ⊥
WasFound (Check asked) left given given_now status = OnDescribed asked.description (FoundUnchecked asked left given given_now status)

-- the cause of a refusal: the words, or what was read
abbrev pub HasCause : Asked → Option (List ℕ) → ℕ → ℕ → Status → Type 0
HasCause asked left given given_now status = WordsRefused asked status ⊎ WasFound asked left given given_now status
