-- Every input has a reading, or a refusal.
use Rattle.std.proofs.Common.{◌≡◌, ℕ, zero, suc, ◌-◌, ◌<◌, ◌≤◌, ◌⊎◌, inl, inr, List, [], ◌∷◌, ◌++◌, length, take, drop}
use Rattle.std.proofs.Common.{Option, Some, None, refl, sym, ap, ◌∙◌, subst, arith}
use Rattle.std.specs.Prelude.{◌==◌}
use Rattle.std.proofs.lemmas.Bool.{cases_Bool, cases_lt, eqb-false, eqb-true}
use Rattle.std.proofs.lemmas.List.{drop_at, length-append, length-drop, length-take-le, take-append-drop}
use Rattle.byte_text.specs.Cuts.{IsCutAt, cut}
use Rattle.byte_text.proofs.CutLaws.{CutsAt, cuts_of}
use Rattle.synth_text.specs.declared.description.Description.{Description}
use Rattle.placed_runner.specs.declared.place.Place.{Place}
use Rattle.run_faults.specs.declared.fault.SectionFault.{SectionFault}
use Rattle.run_faults.specs.declared.fault.SectionFault.TheVariants.{BadHead, BadPlace, Short, TooManyCallers}
use Rattle.placed_runner.specs.Heads.{Head, head_of}
use Rattle.placed_runner.specs.Places.{place_of}
use Rattle.run_texts.specs.Callers.{Placed}
use Rattle.placed_runner.specs.Sections.{AreSections, BeginsWith, FrontBreaks, IsRefused, ReadsTo, Sections, Written}
use Rattle.run_texts.specs.Callers.{caller_limit}
use Rattle.placed_runner.specs.Sections.{placed}
use Rattle.placed_runner.proofs.Walks.{begins_longer, no_head, no_line, reads_more, section_behind}

-- a text begins with a section, or breaks a rule of its front
abbrev Front : Description → ℕ → List ℕ → Type 0
Front described offset text =
    ((section : Written) × (behind : List ℕ) × BeginsWith described text section behind)
    ⊎ ((fault : SectionFault) × FrontBreaks described offset text fault)

-- behind a head with a place stands no section
is_short : (described : Description) (offset : ℕ) (text line behind : List ℕ) (head : Head) (place : Place) → IsCutAt 10 text line behind
    → head_of line ≡ Some head → place_of described head.place ≡ Some place
    → ((section : Written) (rest : List ℕ) → BeginsWith described text section rest → ⊥) → FrontBreaks described offset text (Short offset)
is_short described offset text line behind head place cut head_is place_is none =
    (refl, (head, place, record { line = line; behind = behind; cut = cut; head_is = head_is }, place_is, none))

-- behind a head with a place stand the section's bytes and a line end, or they don't
by_bytes : (described : Description) (offset : ℕ) (text line behind : List ℕ) (head : Head) (place : Place) → IsCutAt 10 text line behind
    → head_of line ≡ Some head → place_of described head.place ≡ Some place → (end : List ℕ) → drop head.size behind ≡ end
    → Front described offset text
by_bytes described offset text line behind head place cut head_is place_is [] end_is =
    inr (
      Short offset,
      is_short described offset text line behind head place cut head_is place_is
          (λ section rest begins.
          let parts = section_behind described text line behind head section rest cut head_is begins in
          let there : drop head.size behind ≡ 10 ∷ rest =
          ap (drop head.size) parts.0 ∙ drop_at section.bytes (10 ∷ rest) head.size parts.1 in
          let also = end_is in
          cc),
    )
by_bytes described offset text line behind head place cut head_is place_is (byte ∷ rest) end_is =
    let long : head.size ≤ length behind = omega (arith, ap length end_is, length-drop head.size behind) in
    let size = length-take-le head.size behind long in
    let whole : behind ≡ take head.size behind ++ byte ∷ rest =
    sym (take-append-drop head.size behind) ∙ ap (λ (end : List ℕ). take head.size behind ++ end) end_is in
    elim (cases_Bool (byte == 10)) [
      | inl is ↦
          let parts : behind ≡ take head.size behind ++ 10 ∷ rest =
          whole ∙ ap (λ (b : ℕ). take head.size behind ++ b ∷ rest) (eqb-true byte 10 is) in
          inl (
            record { place = place; bytes = take head.size behind },
            rest,
            record {
              line = line;
              head = head;
              cut = subst (IsCutAt 10 text line) parts cut;
              head_is = head_is;
              size = size;
              place = place_is;
            },
          )
      | inr other ↦ inr (
        Short offset,
        is_short described offset text line behind head place cut head_is place_is
            (λ section end begins.
            let parts = section_behind described text line behind head section end cut head_is begins in
            let there : drop head.size behind ≡ 10 ∷ end =
            ap (drop head.size) parts.0 ∙ drop_at section.bytes (10 ∷ end) head.size parts.1 in
            let also = end_is in
            let same : byte ≡ 10 = cc in
            eqb-false byte 10 other same),
      )
    ]

by_place : (described : Description) (offset : ℕ) (text line behind : List ℕ) (head : Head) → IsCutAt 10 text line behind
    → head_of line ≡ Some head → (place : Option Place) → place_of described head.place ≡ place → Front described offset text
by_place described offset text line behind head cut head_is None place_is =
    inr (BadPlace offset, (refl, (head, record { line = line; behind = behind; cut = cut; head_is = head_is }, place_is)))
by_place described offset text line behind head cut head_is (Some place) place_is =
    by_bytes described offset text line behind head place cut head_is place_is (drop head.size behind) refl

by_head : (described : Description) (offset : ℕ) (text line behind : List ℕ) → IsCutAt 10 text line behind → (head : Option Head)
    → head_of line ≡ head → Front described offset text
by_head described offset text line behind cut None head_is = inr (BadHead offset, (refl, no_head text line behind cut head_is))
by_head described offset text line behind cut (Some head) head_is =
    by_place described offset text line behind head cut head_is (place_of described head.place) refl

by_line : (described : Description) (offset : ℕ) (text : List ℕ) (parts : Option (List ℕ × List ℕ)) → CutsAt 10 text parts
    → Front described offset text
by_line described offset text None lacks = inr (BadHead offset, (refl, no_line text lacks))
by_line described offset text (Some parts) cut = by_head described offset text parts.0 parts.1 cut (head_of parts.0) refl

front : (described : Description) (offset : ℕ) (text : List ℕ) → Front described offset text
front described offset text = by_line described offset text (cut (λ other. other == 10) text) (cuts_of 10 text)

-- an input is some sections, or is refused
abbrev Applies : Description → List ℕ → Type 0
Applies described input =
    ((sections : List Written) × AreSections described input sections) ⊎ ((fault : SectionFault) × IsRefused described input fault)

-- the same, behind sections that were read
read_on : (described : Description) (fuel : ℕ) (input text : List ℕ) (before : List Written) → ReadsTo described input before text
    → length before ≤ caller_limit → length text < fuel → Applies described input
read_on described zero input text before reads few short = absurd (omega arith)
read_on described (suc fuel) input [] before reads few short = inl (before, record { whole = reads; few = few })
read_on described (suc fuel) input (byte ∷ bytes) before reads few short =
    elim (cases_lt (length before) caller_limit) [
      | inr many ↦ inr (
        TooManyCallers,
        record {
          sections = before;
          rest = byte ∷ bytes;
          reads = reads;
          some = omega arith;
          broken = inl (omega (arith, many, few), refl);
        },
      )
      | inl less ↦ elim (front described (length input - length (byte ∷ bytes)) (byte ∷ bytes)) [
        | inl begins ↦
            read_on described fuel input begins.1 (before ++ begins.0 ∷ [])
            (reads_more described before input (byte ∷ bytes) begins.1 begins.0 reads begins.2)
            (omega (arith, less, length-append before (begins.0 ∷ [])))
            (omega (arith, short, begins_longer described (byte ∷ bytes) begins.0 begins.1 begins.2))
        | inr breaks ↦ inr (
          breaks.0,
          record {
            sections = before;
            rest = byte ∷ bytes;
            reads = reads;
            some = omega arith;
            broken = inr (less, breaks.1);
          },
        )
      ]
    ]

-- so one of the two applies to every input
pub one_applies : (described : Description) (input : List ℕ)
    → ((sections : List Placed) × Sections described input sections) ⊎ ((fault : SectionFault) × IsRefused described input fault)
one_applies described input =
    elim (read_on described (suc (length input)) input input [] refl (omega arith) (omega arith)) [
      | inl read ↦ inl (placed described read.0, record { written = read.0; are = read.1; placed_are = refl })
      | inr refused ↦ inr refused
    ]
