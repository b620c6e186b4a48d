use Rattle.std.proofs.Common.{◌≡◌, ℕ, List, None, inl, inr, refl, sym, subst}
use Rattle.synth_text.specs.declared.description.Description.{Description}
use Rattle.run_faults.specs.declared.fault.SectionFault.{SectionFault}
use Rattle.placed_runner.specs.Heads.{Head}
use Rattle.placed_runner.specs.Places.{place_of}
use Rattle.out_of_memory.specs.Memory.{UnlessMemory}
use Rattle.run_faults.specs.declared.fault.SectionFault.TheVariants as faults
use Rattle.placed_runner.specs.Sections.{HasHead, FrontBreaks}
use Rattle.placed_runner.specs.Views.{head_view}
use Rattle.placed_runner.proofs.Walks.{no_line, no_head, section_behind}
use Rattle.placed_runner.proofs.sections.read_front.Goals as goal

pub returns-in_default-clause-refused : goal.returns-in_default-clause-refused
returns-in_default-clause-refused c = inl (refl, no_line c.args.text.now c.in_default.ensures)

pub returns-in_default-read_head-clause-refused : goal.returns-in_default-read_head-clause-refused
returns-in_default-read_head-clause-refused c =
    inl (refl, no_head c.args.text.now c.in-Some.line.now c.in-Some.behind.now c.in-Some.ensures (sym c.in_default-read_head.ensures))

-- a place that is refused
place_refused : (described : Description) (text : List ℕ) (at : ℕ) (head : Head) (fault : SectionFault) → HasHead text head
    → UnlessMemory faults.OutOfMemory fault ((fault ≡ faults.BadPlace at) × (place_of described head.place ≡ None))
    → UnlessMemory faults.OutOfMemory fault (FrontBreaks described at text fault)
place_refused described text at head fault has (inl broken) =
    inl (subst (FrontBreaks described at text) (sym broken.0) (refl, (head, has, broken.1)))
place_refused described text at head fault has (inr memory) = inr memory

pub returns-in-Err-clause-refused : goal.returns-in-Err-clause-refused
returns-in-Err-clause-refused c =
    place_refused c.args.tree.now c.args.text.now c.args.at (head_view c.in-Some-read_head.head) c.in-Err.fault
    (record {
      line = c.in-Some.line.now;
      behind = c.in-Some.behind.now;
      cut = c.in-Some.ensures;
      head_is = sym c.in-Some-read_head.ensures;
    })
    c.in-Err.ensures.refused

pub returns-in_default-split_bytes-clause-refused : goal.returns-in_default-split_bytes-clause-refused
returns-in_default-split_bytes-clause-refused c =
    let text = c.args.text.now in
    let head = head_view c.in-Some-read_head.head in
    inl (
      refl,
      (
        head,
        c.in-Ok.place,
        record {
          line = c.in-Some.line.now;
          behind = c.in-Some.behind.now;
          cut = c.in-Some.ensures;
          head_is = sym c.in-Some-read_head.ensures;
        },
        c.in-Ok.ensures.found,
        λ section behind begins.
            let parts = section_behind c.args.tree.now text c.in-Some.line.now c.in-Some.behind.now head section behind
            c.in-Some.ensures (sym c.in-Some-read_head.ensures) begins in
            c.in_default-split_bytes.ensures section.bytes behind parts.0 parts.1,
      ),
    )
