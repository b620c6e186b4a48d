-- What `topo` prints, and why it refuses its text.
use Rattle.std.specs.Prelude.{◌≡◌, ◌⊎◌, ℕ, Bool, false, true, List, [], ◌∷◌, ◌++◌, Some, None}
use Rattle.synth_text.specs.declared.description.Description.{Description}
use Rattle.synth_text.specs.declared.fault.SynthFault.{SynthFault}
use Rattle.synth_text.specs.declared.fault.SynthFault.TheVariants as synth
use Rattle.synth_text.specs.Descriptions.{Describes}
use Rattle.synth_text.specs.Faults.{SynthRefused}
use Rattle.synth_text.specs.Canonical.{canonical}
use Rattle.topo_tree.specs.declared.fault.BuildFault.{BuildFault}
use Rattle.topo_tree.specs.declared.fault.BuildFault.TheVariants as build
use Rattle.topo_tree.specs.Building.{build_fault}
use Rattle.topo_tree.specs.Lines.{topology_text}
use Rattle.command_texts.specs.declared.status.Fault.TheVariants.{Synth, Build}
use Rattle.command_texts.specs.declared.status.Status.{Status}
use Rattle.command_texts.specs.declared.status.Status.TheVariants as statuses

-- the tree of a description, or its canonical text
abbrev pub text_of : Bool → Description → List ℕ
text_of false described = topology_text described
text_of true described = canonical described ++ (10 ∷ [])

-- the text describes this, and it is built
pub record DescribesBuilt (text : List ℕ) (described : Description) : Type 0 where
  pub describes : Describes text described
  pub builds : build_fault described ≡ None

-- the text describes something that is built, and that is printed
pub record PrintsTopo (export : Bool) (text printed : List ℕ) : Type 0 where
  pub described : Description
  pub built : DescribesBuilt text described
  pub printed_is : printed ≡ text_of export described

-- the status of a fault: two of them are limits
abbrev pub synth_status : SynthFault → Status
synth_status synth.Empty = statuses.Malformed (Synth synth.Empty)
synth_status (synth.BadType at) = statuses.Malformed (Synth (synth.BadType at))
synth_status (synth.BadArity at) = statuses.Malformed (Synth (synth.BadArity at))
synth_status (synth.BadAttr at) = statuses.Malformed (Synth (synth.BadAttr at))
synth_status (synth.BadIndexes at) = statuses.Malformed (Synth (synth.BadIndexes at))
synth_status (synth.LastNotPu at) = statuses.Malformed (Synth (synth.LastNotPu at))
synth_status (synth.RepeatedType at) = statuses.Malformed (Synth (synth.RepeatedType at))
synth_status synth.TooManyLevels = statuses.Limit (Synth synth.TooManyLevels)
synth_status synth.TooManyObjects = statuses.Limit (Synth synth.TooManyObjects)
synth_status synth.OutOfMemory = statuses.OutOfMemory

abbrev pub build_status : BuildFault → Status
build_status (build.IndexCount found wanted) = statuses.Malformed (Build (build.IndexCount found wanted))
build_status (build.IndexRange number) = statuses.Malformed (Build (build.IndexRange number))
build_status (build.IndexTwice number) = statuses.Malformed (Build (build.IndexTwice number))
build_status build.OutOfMemory = statuses.OutOfMemory

-- the text describes nothing: the first rule that it breaks
pub record ReadRefuses (text : List ℕ) (status : Status) : Type 0 where
  pub fault : SynthFault
  pub refused : SynthRefused text fault
  pub status_is : status ≡ synth_status fault

-- what the text describes isn't built: the first rule that its numbers break
pub record BuildRefuses (text : List ℕ) (status : Status) : Type 0 where
  pub described : Description
  pub describes : Describes text described
  pub fault : BuildFault
  pub refused : build_fault described ≡ Some fault
  pub status_is : status ≡ build_status fault

abbrev pub TopoRefuses : List ℕ → Status → Type 0
TopoRefuses text status = ReadRefuses text status ⊎ BuildRefuses text status
