-- What `distrib` prints, and why it is refused.
use Rattle.std.specs.Prelude.{◌≡◌, ◌⊎◌, ◌-◌, ℕ, Bool, false, true, List, [], ◌∷◌, ◌++◌, Option, Some, None, Result, Ok, Err}
use Rattle.std.specs.List.{flat_map}
use Rattle.calc_text.specs.Texts.{set_text}
use Rattle.synth_text.specs.declared.description.Description.{Description}
use Rattle.topo_tree.specs.Naming.{depth_named}
use Rattle.topo_tree.specs.Objects.{depth_count}
use Rattle.distrib_rules.specs.declared.fault.DistribFault.{DistribFault}
use Rattle.distrib_rules.specs.declared.fault.DistribFault.TheVariants as faults
use Rattle.distrib_rules.specs.Faults.{distrib_fault}
use Rattle.distrib_rules.specs.Masks.{distribution}
use Rattle.command_texts.specs.declared.status.Fault.TheVariants.{Distrib, TypeOf}
use Rattle.command_texts.specs.declared.status.OptionName.{OptionName}
use Rattle.command_texts.specs.declared.status.OptionName.TheVariants as options
use Rattle.command_texts.specs.declared.status.Status.{Status}
use Rattle.command_texts.specs.declared.status.Status.TheVariants as statuses
use Rattle.command_words.specs.Asked.{Depths, Between, At, Distribution}
use Rattle.command_texts.specs.Chosen.{chosen}
use Rattle.command_texts.specs.OnTopology.{PrintsOn, RefusesOn}

abbrev pub mask_line : (single taskset : Bool) → List ℕ → List ℕ
mask_line single taskset set = set_text taskset (chosen single set) ++ 10 ∷ []

-- masks, one a line
abbrev pub mask_lines : (single taskset : Bool) → List (List ℕ) → List ℕ
mask_lines single taskset masks = flat_map (mask_line single taskset) masks

-- the depth that a name found, or the refusal of the option's type
abbrev pub depth_or : OptionName → Option ℕ → Result ℕ Status
depth_or option None = Err (statuses.Malformed (TypeOf option))
depth_or option (Some depth) = Ok depth

-- the depth that an option names, where it was given
abbrev pub option_depth : Description → OptionName → ℕ → Option (List ℕ) → Result ℕ Status
option_depth described option default None = Ok default
option_depth described option default (Some name) = depth_or option (depth_named described name)

-- two depths, where neither is refused; the first refusal comes first
abbrev pub both : Result ℕ Status → Result ℕ Status → Result (ℕ × ℕ) Status
both (Ok from) (Ok to) = Ok (from, to)
both (Ok from) (Err status) = Err status
both (Err status) to = Err status

-- the depths of the start and the end: Machine and the PUs, where no option names them
abbrev pub span_of : Description → Depths → Result (ℕ × ℕ) Status
span_of described (Between from to) =
    both (option_depth described options.From 0 from) (option_depth described options.To (depth_count described - 1) to)
span_of described (At name) = both (option_depth described options.At 0 (Some name)) (option_depth described options.At 0 (Some name))

-- the status of a fault: too many masks are over a limit
abbrev pub distrib_status : DistribFault → Status
distrib_status faults.ZeroMasks = statuses.Malformed (Distrib faults.ZeroMasks)
distrib_status faults.TooManyMasks = statuses.Limit (Distrib faults.TooManyMasks)
distrib_status faults.Reversed = statuses.Malformed (Distrib faults.Reversed)
distrib_status faults.OutOfMemory = statuses.OutOfMemory

-- the masks between two depths, or the first rule that they break
abbrev pub between : Description → Distribution → ℕ × ℕ → Option DistribFault → Result (List ℕ) Status
between described asked span (Some fault) = Err (distrib_status fault)
between described asked span None = Ok (mask_lines asked.single asked.taskset
    (distribution described (record { to = span.1; backwards = asked.reverse }) asked.masks span.0))

abbrev pub in_span : Description → Distribution → Result (ℕ × ℕ) Status → Result (List ℕ) Status
in_span described asked (Err status) = Err status
in_span described asked (Ok span) = between described asked span (distrib_fault asked.masks span.0 span.1)

-- what is printed of a topology, or the status with which it is refused: types of options come before the numbers of masks
unfoldable pub answer_on : Description → Distribution → Result (List ℕ) Status
answer_on described asked = in_span described asked (span_of described asked.depths)

abbrev pub PrintsDistrib : Distribution → List ℕ → Type 0
PrintsDistrib asked printed = PrintsOn asked.description (λ described. answer_on described asked) printed

abbrev pub DistribRefuses : Distribution → Status → Type 0
DistribRefuses asked status = RefusesOn asked.description (λ described. answer_on described asked) status
