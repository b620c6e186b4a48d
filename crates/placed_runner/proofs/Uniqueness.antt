-- An input has one reading, or one refusal.
use Rattle.std.proofs.Common.{◌≡◌, ℕ, zero, suc, ◌-◌, ◌≤◌, List, [], ◌∷◌, ◌++◌, length, take, drop, Some, None, ◌⊎◌, inl, inr, refl, sym}
use Rattle.std.proofs.Common.{ap, ◌∙◌, subst, arith}
use Rattle.std.proofs.lemmas.List.{take_at, drop_at}
use Rattle.synth_text.specs.declared.description.Description.{Description}
use Rattle.placed_runner.specs.declared.place.Place.{Place}
use Rattle.run_faults.specs.declared.fault.SectionFault.{SectionFault}
use Rattle.run_faults.specs.declared.fault.SectionFault.TheVariants.{BadHead, BadPlace, Short, TooManyCallers, OutOfMemory}
use Rattle.placed_runner.specs.Heads.{Head, head_of}
use Rattle.placed_runner.specs.Places.{place_of}
use Rattle.run_texts.specs.Callers.{caller_limit}
use Rattle.placed_runner.specs.Sections.{Written, HasHead, BeginsWith, ReadsTo, FrontBreaks, Breaks, IsRefused, AreSections}
use Rattle.run_texts.proofs.Cuts.{one_cut}
use Rattle.placed_runner.proofs.Walks.{begins_longer}

-- a text has one first head
one_head : (text : List ℕ) (head other : Head) → HasHead text head → HasHead text other → head ≡ other
one_head text head other first second =
    let same = one_cut 10 text first.line first.behind second.line second.behind first.cut second.cut in
    let there : head_of second.line ≡ Some head = ap head_of (sym same.0) ∙ first.head_is in
    let also = second.head_is in
    cc

-- the head of a section is the text's
section_head : (described : Description) (text : List ℕ) (section : Written) (behind : List ℕ)
    → (begins : BeginsWith described text section behind) → HasHead text begins.head
section_head described text section behind begins =
    record { line = begins.line; behind = section.bytes ++ 10 ∷ behind; cut = begins.cut; head_is = begins.head_is }

-- a text begins with one section
begins_once : (described : Description) (text : List ℕ) (section other : Written) (behind after : List ℕ)
    → BeginsWith described text section behind → BeginsWith described text other after → (section ≡ other) × (behind ≡ after)
begins_once described text section other behind after first second =
    let heads = one_head text first.head second.head (section_head described text section behind first)
    (section_head described text other after second) in
    let cuts = one_cut 10 text first.line (section.bytes ++ 10 ∷ behind) second.line (other.bytes ++ 10 ∷ after) first.cut second.cut in
    let size : length other.bytes ≡ length section.bytes = second.size ∙ ap (λ (h : Head). h.size) (sym heads) ∙ sym first.size in
    let bytes : section.bytes ≡ other.bytes =
    sym (take_at section.bytes (10 ∷ behind) (length section.bytes) refl) ∙ ap (take (length section.bytes)) cuts.1
    ∙ take_at other.bytes (10 ∷ after) (length section.bytes) size in
    let ends : 10 ∷ behind ≡ 10 ∷ after =
    sym (drop_at section.bytes (10 ∷ behind) (length section.bytes) refl) ∙ ap (drop (length section.bytes)) cuts.1
    ∙ drop_at other.bytes (10 ∷ after) (length section.bytes) size in
    let there : place_of described second.head.place ≡ Some section.place =
    ap (λ (h : Head). place_of described h.place) (sym heads) ∙ first.place in
    let also = second.place in
    let place : section.place ≡ other.place = cc in (
      ap (λ (p : Place). record { place = p; bytes = section.bytes }) place
          ∙ ap (λ (b : List ℕ). record { place = other.place; bytes = b }) bytes,
      cc,
    )

-- no section begins a text
abbrev pub Stops : Description → List ℕ → Type 0
Stops described text = (section : Written) (behind : List ℕ) → BeginsWith described text section behind → ⊥

-- a reading of at most so many sections ends there
abbrev pub EndsAt : Description → ℕ → ℕ → List ℕ → Type 0
EndsAt described limit callers rest = (callers ≡ limit) ⊎ Stops described rest

ends_less : (described : Description) (limit callers : ℕ) (rest : List ℕ) → EndsAt described (suc limit) (suc callers) rest
    → EndsAt described limit callers rest
ends_less described limit callers rest (inl all) = inl (omega (arith, all))
ends_less described limit callers rest (inr stops) = inr stops

-- two readings that end are one
reads_same : (described : Description) (limit : ℕ) (sections others : List Written) (text rest after : List ℕ)
    → ReadsTo described text sections rest → ReadsTo described text others after → length sections ≤ limit → length others ≤ limit
    → EndsAt described limit (length sections) rest → EndsAt described limit (length others) after → (sections ≡ others) × (rest ≡ after)
reads_same described limit [] [] text rest after reads also few small ends stops = (refl, sym reads ∙ also)
reads_same described limit [] (other ∷ others) text rest after reads also few small (inl all) stops = absurd (omega (arith, all, small))
reads_same described limit [] (other ∷ others) text rest after reads also few small (inr ends) stops =
    absurd (ends other also.0 (subst (λ t. BeginsWith described t other also.0) reads also.1))
reads_same described limit (section ∷ sections) [] text rest after reads also few small ends (inl all) =
    absurd (omega (arith, all, few))
reads_same described limit (section ∷ sections) [] text rest after reads also few small ends (inr stops) =
    absurd (stops section reads.0 (subst (λ t. BeginsWith described t section reads.0) also reads.1))
reads_same described zero (section ∷ sections) (other ∷ others) text rest after reads also few small ends stops =
    absurd (omega (arith, few))
reads_same described (suc limit) (section ∷ sections) (other ∷ others) text rest after reads also few small ends stops =
    let same = begins_once described text section other reads.0 also.0 reads.1 also.1 in
    let later = reads_same described limit sections others reads.0 rest after reads.2
    (subst (λ t. ReadsTo described t others after) (sym same.1) also.2) (omega (arith, few)) (omega (arith, small))
    (ends_less described limit (length sections) rest ends) (ends_less described limit (length others) after stops) in
    (ap (λ (s : Written). s ∷ sections) same.0 ∙ ap (λ (more : List Written). other ∷ more) later.0, later.1)

-- no section begins an empty text
none_stops : (described : Description) → Stops described []
none_stops described section behind begins = omega (arith, begins_longer described [] section behind begins)

-- a text that breaks a rule of its front begins with no section
front_stops : (described : Description) (offset : ℕ) (text : List ℕ) (fault : SectionFault) → FrontBreaks described offset text fault
    → Stops described text
front_stops described offset text (BadHead at) broken = λ section behind begins.
    broken.1 begins.head (section_head described text section behind begins)
front_stops described offset text (BadPlace at) broken = λ section behind begins.
    let heads = one_head text broken.1.0 begins.head broken.1.1 (section_head described text section behind begins) in
    let none : place_of described begins.head.place ≡ None = ap (λ (h : Head). place_of described h.place) (sym heads) ∙ broken.1.2 in
    let place = begins.place in
    cc
front_stops described offset text (Short at) broken = broken.1.4
front_stops described offset text TooManyCallers broken = absurd broken
front_stops described offset text OutOfMemory broken = absurd broken

breaks_ends : (described : Description) (callers offset : ℕ) (text : List ℕ) (fault : SectionFault)
    → Breaks described callers offset text fault → EndsAt described caller_limit callers text
breaks_ends described callers offset text fault (inl many) = inl many.0
breaks_ends described callers offset text fault (inr broken) = inr (front_stops described offset text fault broken.1)

breaks_few : (described : Description) (callers offset : ℕ) (text : List ℕ) (fault : SectionFault)
    → Breaks described callers offset text fault → callers ≤ caller_limit
breaks_few described callers offset text fault (inl many) = omega (arith, many.0)
breaks_few described callers offset text fault (inr broken) = omega (arith, broken.0)

-- the place of a head is read in one way
place_once : (described : Description) (text : List ℕ) (head other : Head) (place : Place) → HasHead text head → HasHead text other
    → place_of described head.place ≡ None → place_of described other.place ≡ Some place → ⊥
place_once described text head other place first second none some =
    let heads = one_head text head other first second in
    let also : place_of described other.place ≡ None = ap (λ (h : Head). place_of described h.place) (sym heads) ∙ none in
    cc

-- a text breaks one rule of its front first
front_once : (described : Description) (offset : ℕ) (text : List ℕ) (fault other : SectionFault) → FrontBreaks described offset text fault
    → FrontBreaks described offset text other → fault ≡ other
front_once described offset text (BadHead at) (BadHead place) broken also = ap BadHead (broken.0 ∙ sym also.0)
front_once described offset text (BadHead at) (BadPlace place) broken also = absurd (broken.1 also.1.0 also.1.1)
front_once described offset text (BadHead at) (Short place) broken also = absurd (broken.1 also.1.0 also.1.2)
front_once described offset text (BadHead at) TooManyCallers broken also = absurd also
front_once described offset text (BadHead at) OutOfMemory broken also = absurd also
front_once described offset text (BadPlace at) (BadHead place) broken also = absurd (also.1 broken.1.0 broken.1.1)
front_once described offset text (BadPlace at) (BadPlace place) broken also = ap BadPlace (broken.0 ∙ sym also.0)
front_once described offset text (BadPlace at) (Short place) broken also =
    absurd (place_once described text broken.1.0 also.1.0 also.1.1 broken.1.1 also.1.2 broken.1.2 also.1.3)
front_once described offset text (BadPlace at) TooManyCallers broken also = absurd also
front_once described offset text (BadPlace at) OutOfMemory broken also = absurd also
front_once described offset text (Short at) (BadHead place) broken also = absurd (also.1 broken.1.0 broken.1.2)
front_once described offset text (Short at) (BadPlace place) broken also =
    absurd (place_once described text also.1.0 broken.1.0 broken.1.1 also.1.1 broken.1.2 also.1.2 broken.1.3)
front_once described offset text (Short at) (Short place) broken also = ap Short (broken.0 ∙ sym also.0)
front_once described offset text (Short at) TooManyCallers broken also = absurd also
front_once described offset text (Short at) OutOfMemory broken also = absurd also
front_once described offset text TooManyCallers other broken also = absurd broken
front_once described offset text OutOfMemory other broken also = absurd broken

breaks_once : (described : Description) (callers offset : ℕ) (text : List ℕ) (fault other : SectionFault)
    → Breaks described callers offset text fault → Breaks described callers offset text other → fault ≡ other
breaks_once described callers offset text fault other (inl many) (inl also) = many.1 ∙ sym also.1
breaks_once described callers offset text fault other (inl many) (inr also) = absurd (omega (arith, many.0, also.0))
breaks_once described callers offset text fault other (inr broken) (inl also) = absurd (omega (arith, broken.0, also.0))
breaks_once described callers offset text fault other (inr broken) (inr also) =
    front_once described offset text fault other broken.1 also.1

-- ---- the laws

pub sections_once : (described : Description) (input : List ℕ) (sections others : List Written) → AreSections described input sections
    → AreSections described input others → sections ≡ others
sections_once described input sections others are also =
    (reads_same described caller_limit sections others input [] [] are.whole also.whole are.few also.few (inr (none_stops described))
    (inr (none_stops described))).0

pub refusal_once : (described : Description) (input : List ℕ) (fault other : SectionFault) → IsRefused described input fault
    → IsRefused described input other → fault ≡ other
refusal_once described input fault other refused also =
    let offset = length input - length refused.rest in
    let later = length input - length also.rest in
    let same = reads_same described caller_limit refused.sections also.sections input refused.rest also.rest refused.reads also.reads
    (breaks_few described (length refused.sections) offset refused.rest fault refused.broken)
    (breaks_few described (length also.sections) later also.rest other also.broken)
    (breaks_ends described (length refused.sections) offset refused.rest fault refused.broken)
    (breaks_ends described (length also.sections) later also.rest other also.broken) in
    breaks_once described (length refused.sections) offset refused.rest fault other refused.broken
    (subst (λ (n : ℕ). Breaks described n offset refused.rest other) (ap length (sym same.0))
    (subst (λ (t : List ℕ). Breaks described (length also.sections) (length input - length t) t other) (sym same.1) also.broken))

pub not_both : (described : Description) (input : List ℕ) (sections : List Written) (fault : SectionFault)
    → AreSections described input sections → IsRefused described input fault → ⊥
not_both described input sections fault are refused =
    let offset = length input - length refused.rest in
    let same = reads_same described caller_limit sections refused.sections input [] refused.rest are.whole refused.reads are.few
    (breaks_few described (length refused.sections) offset refused.rest fault refused.broken) (inr (none_stops described))
    (breaks_ends described (length refused.sections) offset refused.rest fault refused.broken) in
    let some = refused.some in
    omega (arith, ap length same.1)
