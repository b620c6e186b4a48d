-- The walk over the sections of an input.
use Rattle.std.proofs.Common.{◌≡◌, ℕ, ◌+◌, ◌<◌, ◌≤◌, List, [], ◌∷◌, ◌++◌, length, Some, None, refl, sym, ap, ◌∙◌, subst, arith}
use Rattle.std.specs.List.{Contains, sum_by}
use Rattle.std.proofs.lemmas.List.{length-append}
use Rattle.std.proofs.lemmas.List.Sums.{sum_by-cons}
use Rattle.std.proofs.lemmas.List.Elements.{Contains-append_right}
use Rattle.byte_text.specs.Cuts.{IsCutAt}
use Rattle.synth_text.specs.declared.description.Description.{Description}
use Rattle.placed_runner.specs.Heads.{Head, head_of}
use Rattle.placed_runner.specs.Sections.{Written, HasHead, BeginsWith, ReadsTo}
use Rattle.run_texts.proofs.Cuts.{one_cut}

-- a text that is cut at a line end has one
cut_has : (text line behind : List ℕ) → IsCutAt 10 text line behind → Contains text 10
cut_has text line behind cut = rw cut.parts (Contains-append_right line (10 ∷ behind) 10 (0, omega arith, refl))

-- a text without a line end has no head
pub no_line : (text : List ℕ) → ¬ (Contains text 10) → (head : Head) → HasHead text head → ⊥
no_line text lacks = λ head has. lacks (cut_has text has.line has.behind has.cut)

-- the head of the first line
pub head_there : (text line behind : List ℕ) (head : Head) → IsCutAt 10 text line behind → HasHead text head → head_of line ≡ Some head
head_there text line behind head cut has =
    let same = one_cut 10 text has.line has.behind line behind has.cut cut in
    ap head_of (sym same.0) ∙ has.head_is

-- where the first line is no head
pub no_head : (text line behind : List ℕ) → IsCutAt 10 text line behind → head_of line ≡ None → (head : Head) → HasHead text head → ⊥
no_head text line behind cut none = λ head has. let there = head_there text line behind head cut has in cc

-- a section begins with the text's first line, its bytes and a line end
pub section_behind : (described : Description) (text line behind : List ℕ) (head : Head) (section : Written) (rest : List ℕ)
    → IsCutAt 10 text line behind → head_of line ≡ Some head → BeginsWith described text section rest
    → (behind ≡ section.bytes ++ 10 ∷ rest) × (length section.bytes ≡ head.size)
section_behind described text line behind head section rest cut head_is begins =
    let same = one_cut 10 text begins.line (section.bytes ++ 10 ∷ rest) line behind begins.cut cut in
    let there : head_of line ≡ Some begins.head = ap head_of (sym same.0) ∙ begins.head_is in
    let heads : begins.head ≡ head = cc in
    (sym same.1, begins.size ∙ ap (λ (h : Head). h.size) heads)

-- one more section
pub reads_more : (described : Description) (before : List Written) (text rest behind : List ℕ) (section : Written)
    → ReadsTo described text before rest → BeginsWith described rest section behind
    → ReadsTo described text (before ++ section ∷ []) behind
reads_more described [] text rest behind section reads begins =
    (behind, subst (λ t. BeginsWith described t section behind) (sym reads) begins, refl)
reads_more described (first ∷ before) text rest behind section reads begins =
    (reads.0, reads.1, reads_more described before reads.0 rest behind section reads.2 begins)

-- what stands behind a section is shorter than the text, by the section's bytes and two line ends at least
pub begins_longer : (described : Description) (text : List ℕ) (section : Written) (behind : List ℕ)
    → BeginsWith described text section behind
    → length section.bytes + length behind < length text
begins_longer described text section behind begins =
    let whole = length-append begins.line (10 ∷ (section.bytes ++ 10 ∷ behind)) in
    let bytes = length-append section.bytes (10 ∷ behind) in
    omega (arith, ap length begins.cut.parts, whole, bytes)

-- the bytes of the sections of a text, and its rest, are no more than the text's
pub reads_within : (described : Description) (sections : List Written) (text rest : List ℕ) → ReadsTo described text sections rest
    → sum_by (λ section. length section.bytes) sections + length rest ≤ length text
reads_within described [] text rest reads = omega (arith, ap length reads)
reads_within described (section ∷ sections) text rest reads =
    omega (
      arith,
      begins_longer described text section reads.0 reads.1,
      reads_within described sections reads.0 rest reads.2,
      sum_by-cons (λ (s : Written). length s.bytes) section sections,
    )
