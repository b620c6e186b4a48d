use Rattle.std.proofs.Common.{Ok, Err, inl, ap, ◌∙◌}
use Rattle.synth_text.proofs.SoundRules.{meaning_sound}
use Rattle.synth_text.proofs.Outcomes.{described_by, refused_by, only_description, no_refusal, no_description, only_refusal}
use Rattle.synth_text.proofs.reading.read.Goals as goal

pub returns-in-Ok-clause-described : goal.returns-in-Ok-clause-described
returns-in-Ok-clause-described c =
    described_by c.args.text.now c.in_ok-items.items.items c.in-Ok.description c.in_ok-items.ensures
    (rw c.deref.ensures.value at c.in-Ok.ensures)

pub returns-in-Ok-clause-sound : goal.returns-in-Ok-clause-sound
returns-in-Ok-clause-sound c = meaning_sound c.args.text.now c.deref.result.now c.in-Ok.description c.in-Ok.ensures

pub returns-in-Ok-clause-every_description : goal.returns-in-Ok-clause-every_description
returns-in-Ok-clause-every_description c = λ described h.
    inl (ap Ok (only_description c.args.text.now c.in_ok-items.items.items c.in-Ok.description described c.in_ok-items.ensures
    (rw c.deref.ensures.value at c.in-Ok.ensures) h))

pub returns-in-Ok-clause-every_refusal : goal.returns-in-Ok-clause-every_refusal
returns-in-Ok-clause-every_refusal c = λ fault h.
    absurd (no_refusal c.args.text.now c.in_ok-items.items.items c.in-Ok.description fault c.in_ok-items.ensures
    (rw c.deref.ensures.value at c.in-Ok.ensures) h)

pub returns-in-Err-Fault-clause-refused : goal.returns-in-Err-Fault-clause-refused
returns-in-Err-Fault-clause-refused c =
    inl (refused_by c.args.text.now c.in_ok-items.items.items c.in-Err-Fault.rule c.fault.result c.in_ok-items.ensures
    (rw (c.deref.ensures.value, c.in-Err-Fault.field-0-is) at c.in-Err-Fault.ensures) c.fault.ensures)

pub returns-in-Err-Fault-clause-every_description : goal.returns-in-Err-Fault-clause-every_description
returns-in-Err-Fault-clause-every_description c = λ described h.
    absurd (no_description c.args.text.now c.in_ok-items.items.items c.in-Err-Fault.rule described c.in_ok-items.ensures
    (rw (c.deref.ensures.value, c.in-Err-Fault.field-0-is) at c.in-Err-Fault.ensures) h)

pub returns-in-Err-Fault-clause-every_refusal : goal.returns-in-Err-Fault-clause-every_refusal
returns-in-Err-Fault-clause-every_refusal c = λ fault h.
    inl (ap Err (c.fault.ensures ∙ only_refusal c.args.text.now c.in_ok-items.items.items c.in-Err-Fault.rule fault
    c.in_ok-items.ensures (rw (c.deref.ensures.value, c.in-Err-Fault.field-0-is) at c.in-Err-Fault.ensures) h))
