-- What a text comes to, from what its items mean.
use Rattle.std.proofs.Common.{◌≡◌, ℕ, List, Result, Ok, Err, sym, ap, ◌∙◌}
use Rattle.synth_text.specs.declared.description.Description.{Description}
use Rattle.synth_text.specs.declared.fault.SynthRule.{SynthRule}
use Rattle.synth_text.specs.declared.fault.SynthFault.{SynthFault}
use Rattle.synth_text.specs.declared.items.Item.{Item}
use Rattle.synth_text.specs.Items.{AreItems}
use Rattle.synth_text.specs.Descriptions.{meaning, ComesTo, Describes}
use Rattle.synth_text.specs.Faults.{fault_of, SynthRefused}
use Rattle.synth_text.proofs.ItemLaws.{same_items}

-- what the items of a text mean is all that it comes to
pub same_outcome : (text : List ℕ) (items : List Item) (one other : Result Description SynthRule) → AreItems text 0 items
    → meaning text items ≡ one → ComesTo text other → one ≡ other
same_outcome text items one other cut means h =
    sym means ∙ ap (meaning text) (same_items text 0 items h.items cut h.cut) ∙ h.said

-- what a reading answers
abbrev describing : Description → Result Description SynthRule
describing described = Ok described

abbrev breaking : SynthRule → Result Description SynthRule
breaking rule = Err rule

-- ---- of a text whose items describe something

pub described_by : (text : List ℕ) (items : List Item) (described : Description) → AreItems text 0 items
    → meaning text items ≡ Ok described → Describes text described
described_by text items described cut means = record { items = items; cut = cut; said = means }

pub only_description : (text : List ℕ) (items : List Item) (one other : Description) → AreItems text 0 items
    → meaning text items ≡ Ok one → Describes text other → one ≡ other
only_description text items one other cut means h =
    let same : describing one ≡ describing other = same_outcome text items (Ok one) (Ok other) cut means h in cc

pub no_refusal : (text : List ℕ) (items : List Item) (described : Description) (fault : SynthFault) → AreItems text 0 items
    → meaning text items ≡ Ok described → SynthRefused text fault → ⊥
no_refusal text items described fault cut means h =
    let same : describing described ≡ breaking h.rule = same_outcome text items (Ok described) (Err h.rule) cut means h.first in cc

-- ---- of a text whose items break a rule

pub refused_by : (text : List ℕ) (items : List Item) (rule : SynthRule) (fault : SynthFault) → AreItems text 0 items
    → meaning text items ≡ Err rule → fault ≡ fault_of rule → SynthRefused text fault
refused_by text items rule fault cut means told =
    record { rule = rule; first = record { items = items; cut = cut; said = means }; told = told }

pub no_description : (text : List ℕ) (items : List Item) (rule : SynthRule) (described : Description) → AreItems text 0 items
    → meaning text items ≡ Err rule → Describes text described → ⊥
no_description text items rule described cut means h =
    let same : breaking rule ≡ describing described = same_outcome text items (Err rule) (Ok described) cut means h in cc

pub only_refusal : (text : List ℕ) (items : List Item) (rule : SynthRule) (fault : SynthFault) → AreItems text 0 items
    → meaning text items ≡ Err rule → SynthRefused text fault → fault_of rule ≡ fault
only_refusal text items rule fault cut means h =
    let same : breaking rule ≡ breaking h.rule = same_outcome text items (Err rule) (Err h.rule) cut means h.first in
    let one : rule ≡ h.rule = cc in
    ap fault_of one ∙ sym h.told
