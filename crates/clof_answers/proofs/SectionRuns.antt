-- A run of sections: what is printed, or the first rule that the input breaks.
use Rattle.std.proofs.Common.{◌≡◌, ◌≤◌, ℕ, Bool, true, false, List, length, map, Ok, inl, inr, refl, sym, ap, subst, ◌∙◌, arith}
use Rattle.std.proofs.lemmas.Bool.{cases_lt}
use Rattle.std.proofs.lemmas.List.{length-map}
use Rattle.std.proofs.lemmas.List.FromFn.{length-enumerate_from}
use Rattle.std.specs.Prelude.{Result}
use Rattle.std.specs.List.{enumerate_from}
use Rattle.out_of_memory.specs.Memory.{UnlessMemory}
use Rattle.synth_text.specs.declared.description.Description.{Description}
use Rattle.synth_text.specs.declared.fault.SynthRule.{SynthRule}
use Rattle.synth_text.specs.Descriptions.{Describes, meaning}
use Rattle.synth_text.proofs.ItemLaws.{same_items}
use Rattle.keep_local.specs.declared.shape.Shape.{Shape}
use Rattle.keep_local.specs.Shapes.{top_of}
use Rattle.lock_plan.specs.declared.plan.Plan.{Plan}
use Rattle.lock_plan.specs.Plans.{IsPlanFor}
use Rattle.lock_plan.proofs.Plans.{plan_is_for}
use Rattle.run_faults.specs.declared.fault.SectionFault.{SectionFault}
use Rattle.run_faults.specs.declared.fault.SectionFault.TheVariants as section
use Rattle.run_texts.specs.Callers.{caller_limit, Placed}
use Rattle.placed_runner.specs.Sections.{IsRefused, Sections, placed, placed_at}
use Rattle.run_texts.specs.Printed.{IsRun}
use Rattle.run_texts.proofs.Printed.{one_history_lem}
use Rattle.placed_runner.proofs.Readings.{one_applies}
use Rattle.placed_runner.proofs.Uniqueness.{refusal_once, sections_once, not_both}
use Rattle.command_words.specs.Asked.{Running}
use Rattle.command_texts.specs.declared.status.Fault.TheVariants.{Input}
use Rattle.command_texts.specs.declared.status.Status.{Status}
use Rattle.command_texts.specs.declared.status.Status.TheVariants as statuses
use Rattle.run_check.specs.Pairs.{input_limit}
use Rattle.clof_answers.specs.Run.{holds_in, section_status, PrintsRun, PrintsSections, PrintsUnder, Refuses, RefusesSections}
use Rattle.fresh_runner.specs.Receipts.{IsMarkedRun}
use Rattle.clof_answers.proofs.Marks.{marked_once}
use Rattle.clof_answers.proofs.Plans.{few_levels, plan_same, shape_same}
use Rattle.clof_answers.specs.Laws.{NotBoth, OneApplies, OneHistory, OneRefusal}

-- the status of a refusal is its own
pub status_found : (described : Description) (input : List ℕ) (fault : SectionFault)
    → UnlessMemory section.OutOfMemory fault (IsRefused described input fault)
    → UnlessMemory statuses.OutOfMemory (section_status fault) (RefusesSections described input (section_status fault))
status_found described input fault (inl refused) = inl (record { fault = fault; refused = refused; status_is = refl })
status_found described input fault (inr memory) = inr (ap section_status memory)

-- and no other's
pub status_only : (described : Description) (input : List ℕ) (fault : SectionFault) (status : Status)
    → UnlessMemory section.OutOfMemory fault (IsRefused described input fault) → RefusesSections described input status
    → UnlessMemory statuses.OutOfMemory (section_status fault) (section_status fault ≡ status)
status_only described input fault status (inl refused) refuses =
    inl (ap section_status (refusal_once described input fault refuses.fault refused refuses.refused) ∙ sym refuses.status_is)
status_only described input fault status (inr memory) refuses = inr (ap section_status memory)

-- what is sections isn't refused
pub sections_not : (described : Description) (input : List ℕ) (sections : List Placed) (status : Status)
    → Sections described input sections → RefusesSections described input status → ⊥
sections_not described input sections status are refuses =
    not_both described input are.written refuses.fault are.are refuses.refused

-- where no status refuses, only memory can be wanting
pub only_memory : (described : Description) (input : List ℕ) (fault : SectionFault)
    → UnlessMemory section.OutOfMemory fault (IsRefused described input fault)
    → ((status : Status) → RefusesSections described input status → ⊥) → section_status fault ≡ statuses.OutOfMemory
only_memory described input fault found none =
    elim (status_found described input fault found) [
      | inl refuses ↦ absurd (none (section_status fault) refuses)
      | inr memory ↦ memory
    ]

-- ---- one history, or one refusal

-- a text describes one topology
pub described_once : (text : List ℕ) (one other : Description) → Describes text one → Describes text other → one ≡ other
described_once text one other first second =
    let items = same_items text 0 first.items second.items first.cut second.cut in
    let both : ◌≡◌ {A = Result Description SynthRule} (Ok one) (Ok other) = sym first.said ∙ ap (meaning text) items ∙ second.said in
    cc

-- an input is one list of sections
pub sections_same : (described : Description) (input : List ℕ) (one other : List Placed) → Sections described input one
    → Sections described input other → one ≡ other
sections_same described input one other first second =
    first.placed_are
    ∙ ap (placed described) (sections_once described input first.written second.written first.are second.are)
    ∙ sym second.placed_are

-- sections are as many as are written
pub few_sections : (described : Description) (input : List ℕ) (sections : List Placed) → Sections described input sections
    → length sections ≤ caller_limit
unfolding placed
few_sections described input sections are =
    let count : length sections ≡ length are.written =
    ap length are.placed_are
    ∙ length-map (enumerate_from 0 are.written) (placed_at described (length are.written))
    ∙ length-enumerate_from 0 are.written in
    omega (arith, count, are.are.few)

-- a text tells one list of holds of the same sections under the lock of one shape
same_holds : (printed : List ℕ) (sections : List Placed) (one other : Shape) → one ≡ other → length sections ≤ caller_limit
    → top_of one ≤ 32 → (first : IsRun sections one printed) (second : IsRun sections other printed) → first.holds ≡ second.holds
same_holds printed sections one other same few low first =
    subst (λ (shape : Shape). (second : IsRun sections shape printed) → first.holds ≡ second.holds) same
    (λ second. one_history_lem sections one printed (omega (arith, few)) low first second)

-- so does one with receipts
same_marked : (printed : List ℕ) (sections : List Placed) (one other : Shape) → one ≡ other → length sections ≤ caller_limit
    → top_of one ≤ 32 → (first : IsMarkedRun sections one printed) (second : IsMarkedRun sections other printed)
    → first.run.holds ≡ second.run.holds
same_marked printed sections one other same few low first =
    subst (λ (shape : Shape). (second : IsMarkedRun sections shape printed) → first.run.holds ≡ second.run.holds) same
    (λ second. marked_once sections one printed (omega (arith, few)) low first second)

-- the same under the lock of one plan
same_under : (receipts : Bool) (described : Description) (plan : Plan) (printed : List ℕ) (sections : List Placed)
    → IsPlanFor described plan → length sections ≤ caller_limit
    → (first second : PrintsRun receipts described plan sections printed)
    → holds_in receipts _ _ _ _ first ≡ holds_in receipts _ _ _ _ second
same_under false described plan printed sections planned few first second =
    let pus = map (λ (section : Placed). section.pu) sections in
    same_holds printed sections first.shape second.shape
    (shape_same described plan pus first.shape second.shape first.shape_is second.shape_is) few
    (few_levels described plan pus first.shape planned first.shape_is) first.run second.run
same_under true described plan printed sections planned few first second =
    let pus = map (λ (section : Placed). section.pu) sections in
    same_marked printed sections first.shape second.shape
    (shape_same described plan pus first.shape second.shape first.shape_is second.shape_is) few
    (few_levels described plan pus first.shape planned first.shape_is) first.marked second.marked

same_runs : (receipts : Bool) (described : Description) (plan : Plan) (printed : List ℕ) (one other : List Placed) → one ≡ other
    → IsPlanFor described plan → length one ≤ caller_limit → (first : PrintsRun receipts described plan one printed)
    (second : PrintsRun receipts described plan other printed) → holds_in receipts _ _ _ _ first ≡ holds_in receipts _ _ _ _ second
same_runs receipts described plan printed one other same planned few first =
    subst (λ (sections : List Placed). (second : PrintsRun receipts described plan sections printed)
    → holds_in receipts _ _ _ _ first ≡ holds_in receipts _ _ _ _ second) same
    (λ second. same_under receipts described plan printed one planned few first second)

-- and the same of an input
same_prints : (receipts : Bool) (described : Description) (input printed : List ℕ) (one other : Plan) → one ≡ other
    → IsPlanFor described one → (first : PrintsUnder receipts described one input printed)
    (second : PrintsUnder receipts described other input printed)
    → holds_in receipts _ _ _ _ first.runs ≡ holds_in receipts _ _ _ _ second.runs
same_prints receipts described input printed one other same planned first =
    subst (λ (plan : Plan). (second : PrintsUnder receipts described plan input printed)
    → holds_in receipts _ _ _ _ first.runs ≡ holds_in receipts _ _ _ _ second.runs) same
    (λ second. same_runs receipts described one printed first.sections second.sections
    (sections_same described input first.sections second.sections first.are second.are) planned
    (few_sections described input first.sections first.are) first.runs second.runs)

-- what is asked for on a topology tells one list of holds
same_sections : (asked : Running) (input printed : List ℕ) (one other : Description) → one ≡ other
    → (first : PrintsSections one asked input printed) (second : PrintsSections other asked input printed)
    → holds_in asked.receipts _ _ _ _ first.prints.runs ≡ holds_in asked.receipts _ _ _ _ second.prints.runs
same_sections asked input printed one other same first =
    subst (λ (described : Description). (second : PrintsSections described asked input printed)
    → holds_in asked.receipts _ _ _ _ first.prints.runs ≡ holds_in asked.receipts _ _ _ _ second.prints.runs) same
    (λ second. same_prints asked.receipts one input printed first.plan second.plan
    (plan_same one asked first.plan second.plan first.plan_is second.plan_is)
    (plan_is_for one asked.locks asked.keep first.plan first.plan_is.levels_are first.plan_is.kinds_are first.plan_is.keeps_are)
    first.prints second.prints)

refused_once : (described : Description) (input : List ℕ) (status other : Status) → Refuses described input status
    → Refuses described input other → status ≡ other
refused_once described input status other (inl long) (inl also) = long.1 ∙ sym also.1
refused_once described input status other (inl long) (inr short) = absurd (omega (arith, long.0, short.0))
refused_once described input status other (inr short) (inl long) = absurd (omega (arith, long.0, short.0))
refused_once described input status other (inr first) (inr second) =
    first.1.status_is
    ∙ ap section_status (refusal_once described input first.1.fault second.1.fault first.1.refused second.1.refused)
    ∙ sym second.1.status_is

not_refused : (described : Description) (asked : Running) (input printed : List ℕ) (status : Status) → length input ≤ input_limit
    → PrintsSections described asked input printed → Refuses described input status → ⊥
not_refused described asked input printed status short prints (inl long) = omega (arith, short, long.0)
not_refused described asked input printed status short prints (inr broken) =
    sections_not described input prints.prints.sections status prints.prints.are broken.1

pub one_history : OneHistory
one_history asked input printed one other =
    same_sections asked input printed one.1.described other.1.described
    (described_once asked.description one.1.described other.1.described one.1.built.describes other.1.built.describes)
    one.1.holds other.1.holds

pub some_applies : OneApplies
some_applies described input =
    elim (cases_lt input_limit (length input)) [
      | inl long ↦ inr (statuses.Limit Input, inl (long, refl))
      | inr short ↦ elim (one_applies described input) [
        | inl sections ↦ inl (omega (arith, short), sections)
        | inr refused ↦ inr (
          section_status refused.0,
          inr (omega (arith, short), record { fault = refused.0; refused = refused.1; status_is = refl }),
        )
      ]
    ]

pub one_refusal : OneRefusal
one_refusal asked input status other first second =
    let same = described_once asked.description first.described second.described first.built.describes second.built.describes in
    refused_once first.described input status other first.holds.1
    (subst (λ d. Refuses d input other) (sym same) second.holds.1)

pub text_or_refusal : NotBoth
text_or_refusal asked input printed status prints refuses =
    let same = described_once asked.description prints.1.described refuses.described prints.1.built.describes refuses.built.describes in
    not_refused prints.1.described asked input printed status prints.0 prints.1.holds
    (subst (λ d. Refuses d input status) (sym same) refuses.holds.1)
