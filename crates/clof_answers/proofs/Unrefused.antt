-- What is answered by words alone: where no status refuses them, there is a text, or memory is wanting.
use Rattle.std.proofs.Common.{◌≡◌, ℕ, List, Ok, Err, inl, inr, refl, sym, ap, subst}
use Rattle.std.specs.Prelude.{Bool, IfErr, IsOk, Result}
use Rattle.std.specs.declared.vec.Vec.{Vec}
use Rattle.std.specs.declared.alloc.Global.{Global}
use Rattle.out_of_memory.specs.Memory.{UnlessMemory}
use Rattle.cpu_set.specs.declared.fault.SetFault.{SetFault}
use Rattle.command_words.specs.Asked.{Calculation, Distribution}
use Rattle.command_texts.specs.declared.status.Fault.TheVariants.{Set as SetOf}
use Rattle.command_texts.specs.declared.status.Status.{Status}
use Rattle.command_texts.specs.declared.status.Status.TheVariants as statuses
use Rattle.command_texts.specs.CalcText.{CalcRefuses}
use Rattle.command_texts.specs.DistribText.{DistribRefuses}
use Rattle.command_texts.specs.SetText.{SetRefused}
use Rattle.command_texts.specs.TopoText.{TopoRefuses}
use Rattle.clof_answers.specs.Outcome.{SetRefuses}
use Rattle.clof_answers.proofs.Stops.{complete_of}

-- a refusal of `set`
set_refuses : (list : Bool) (text : List ℕ) (status : Status)
    → (fault : SetFault) × (status ≡ statuses.Malformed (SetOf fault)) × SetRefused list text fault → SetRefuses list text status
set_refuses list text status refuses = subst (SetRefuses list text) (sym refuses.1) (refuses.0, refl, refuses.2)

pub set_complete : (made : Result (Vec ℕ Global) Status) (list : Bool) (text : List ℕ)
    → IfErr made (λ status. UnlessMemory statuses.OutOfMemory status
    ((fault : SetFault) × (status ≡ statuses.Malformed (SetOf fault)) × SetRefused list text fault))
    → ((status : Status) → SetRefuses list text status → ⊥) → UnlessMemory (Err statuses.OutOfMemory) made (IsOk made)
set_complete made list text cause none =
    complete_of made (λ status. (fault : SetFault) × (status ≡ statuses.Malformed (SetOf fault)) × SetRefused list text fault) cause
    (λ status refuses. none status (set_refuses list text status refuses))

pub topo_complete : (made : Result (Vec ℕ Global) Status) (text : List ℕ)
    → IfErr made (λ status. UnlessMemory statuses.OutOfMemory status (TopoRefuses text status))
    → ((status : Status) → TopoRefuses text status → ⊥) → UnlessMemory (Err statuses.OutOfMemory) made (IsOk made)
topo_complete made text cause none = complete_of made (TopoRefuses text) cause none

pub calc_complete : (made : Result (Vec ℕ Global) Status) (asked : Calculation)
    → IfErr made (λ status. UnlessMemory statuses.OutOfMemory status (CalcRefuses asked status))
    → ((status : Status) → CalcRefuses asked status → ⊥) → UnlessMemory (Err statuses.OutOfMemory) made (IsOk made)
calc_complete made asked cause none = complete_of made (CalcRefuses asked) cause none

pub distrib_complete : (made : Result (Vec ℕ Global) Status) (asked : Distribution)
    → IfErr made (λ status. UnlessMemory statuses.OutOfMemory status (DistribRefuses asked status))
    → ((status : Status) → DistribRefuses asked status → ⊥) → UnlessMemory (Err statuses.OutOfMemory) made (IsOk made)
distrib_complete made asked cause none = complete_of made (DistribRefuses asked) cause none

pub drill_complete : (made : Result (Vec ℕ Global) Status) → IfErr made (λ status. status ≡ statuses.OutOfMemory)
    → UnlessMemory (Err statuses.OutOfMemory) made (IsOk made)
drill_complete (Ok text) cause = inl refl
drill_complete (Err status) cause = inr (ap Err cause)
