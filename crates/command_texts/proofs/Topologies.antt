-- How a description is read and built: by what its text describes, or by the first rule that the text or its numbers break.
use Rattle.std.proofs.Common.{◌≡◌, ℕ, List, Option, Some, None, Ok, Err, inl, inr, sym, ap, subst, ◌∙◌}
use Rattle.std.specs.Prelude.{Result}
use Rattle.out_of_memory.specs.Memory.{UnlessMemory}
use Rattle.synth_text.specs.declared.description.Description.{Description}
use Rattle.synth_text.specs.declared.fault.SynthFault.{SynthFault}
use Rattle.synth_text.specs.declared.fault.SynthFault.TheVariants as synth
use Rattle.synth_text.specs.Descriptions.{Describes}
use Rattle.synth_text.specs.Faults.{SynthRefused}
use Rattle.topo_tree.specs.declared.fault.BuildFault.{BuildFault}
use Rattle.topo_tree.specs.declared.fault.BuildFault.TheVariants as build
use Rattle.topo_tree.specs.Building.{build_fault}
use Rattle.command_texts.specs.declared.status.Status.{Status}
use Rattle.command_texts.specs.declared.status.Status.TheVariants.{OutOfMemory}
use Rattle.command_texts.specs.TopoText.{synth_status, build_status, DescribesBuilt, TopoRefuses}

-- what a reading answers
abbrev pub read_as : Description → Result Description SynthFault
read_as described = Ok described

abbrev pub failed : SynthFault → Result Description SynthFault
failed fault = Err fault

-- a reading answers this, unless memory was refused
abbrev pub Reads : Result Description SynthFault → Result Description SynthFault → Type 0
Reads answer wanted = UnlessMemory (failed synth.OutOfMemory) answer (answer ≡ wanted)

no_memory : (fault : SynthFault) → failed fault ≡ failed synth.OutOfMemory → synth_status fault ≡ OutOfMemory
no_memory fault e = let same : fault ≡ synth.OutOfMemory = cc in ap synth_status same

same_description : (found described : Description) → Reads (read_as found) (read_as described) → described ≡ found
same_description found described (inl same) = cc
same_description found described (inr memory) = absurd cc

no_fault : (found : Description) (fault : SynthFault) → Reads (read_as found) (failed fault) → ⊥
no_fault found fault (inl same) = cc
no_fault found fault (inr memory) = cc

-- the text is refused for one fault of reading alone
pub read_refused : (text : List ℕ) (fault : SynthFault)
    → ((described : Description) → Describes text described → Reads (failed fault) (read_as described))
    → ((other : SynthFault) → SynthRefused text other → Reads (failed fault) (failed other))
    → (status : Status) → TopoRefuses text status → UnlessMemory OutOfMemory (synth_status fault) (synth_status fault ≡ status)
read_refused text fault each every status (inl refuses) =
    elim (every refuses.fault refuses.refused) [
      | inl same ↦ let one : refuses.fault ≡ fault = cc in inl (ap synth_status (sym one) ∙ sym refuses.status_is)
      | inr memory ↦ inr (no_memory fault memory)
    ]
read_refused text fault each every status (inr refuses) =
    elim (each refuses.described refuses.describes) [ inl same ↦ absurd cc | inr memory ↦ inr (no_memory fault memory) ]

pub read_built : (text : List ℕ) (described : Description) (fault : SynthFault)
    → ((other : Description) → Describes text other → Reads (failed fault) (read_as other)) → DescribesBuilt text described
    → synth_status fault ≡ OutOfMemory
read_built text described fault each built =
    elim (each described built.describes) [ inl same ↦ absurd cc | inr memory ↦ no_memory fault memory ]

-- where the text describes one thing, what is not built of it is refused for one fault alone
pub build_refused : (text : List ℕ) (found : Description) (fault : BuildFault)
    → ((described : Description) → Describes text described → Reads (read_as found) (read_as described))
    → ((other : SynthFault) → SynthRefused text other → Reads (read_as found) (failed other))
    → UnlessMemory build.OutOfMemory fault (build_fault found ≡ Some fault) → (status : Status) → TopoRefuses text status
    → UnlessMemory OutOfMemory (build_status fault) (build_status fault ≡ status)
build_refused text found fault each every first status (inl refuses) =
    absurd (no_fault found refuses.fault (every refuses.fault refuses.refused))
build_refused text found fault each every first status (inr refuses) =
    let same = same_description found refuses.described (each refuses.described refuses.describes) in
    let other : build_fault found ≡ Some refuses.fault =
    subst (λ described. build_fault described ≡ Some refuses.fault) same refuses.refused in
    elim first [
      | inl is ↦ let one : fault ≡ refuses.fault = cc in inl (ap build_status one ∙ sym refuses.status_is)
      | inr memory ↦ inr (ap build_status memory)
    ]

pub build_built : (text : List ℕ) (described found : Description) (fault : BuildFault)
    → ((other : Description) → Describes text other → Reads (read_as found) (read_as other))
    → UnlessMemory build.OutOfMemory fault (build_fault found ≡ Some fault) → DescribesBuilt text described
    → build_status fault ≡ OutOfMemory
build_built text described found fault each first built =
    let same = same_description found described (each described built.describes) in
    let none : build_fault found ≡ None = subst (λ other. build_fault other ≡ None) same built.builds in
    elim first [ inl is ↦ absurd cc | inr memory ↦ ap build_status memory ]

-- the text describes one thing
pub only_described : (text : List ℕ) (found described : Description)
    → ((other : Description) → Describes text other → Reads (read_as found) (read_as other)) → Describes text described → described ≡ found
only_described text found described each describes = same_description found described (each described describes)

-- what is built is not refused
pub built_not_refused : (text : List ℕ) (found : Description)
    → ((described : Description) → Describes text described → Reads (read_as found) (read_as described))
    → ((other : SynthFault) → SynthRefused text other → Reads (read_as found) (failed other))
    → build_fault found ≡ None → (status : Status) → TopoRefuses text status → ⊥
built_not_refused text found each every none status (inl refuses) = no_fault found refuses.fault (every refuses.fault refuses.refused)
built_not_refused text found each every none status (inr refuses) =
    let same = same_description found refuses.described (each refuses.described refuses.describes) in
    let other : build_fault found ≡ Some refuses.fault =
    subst (λ described. build_fault described ≡ Some refuses.fault) same refuses.refused in
    cc
