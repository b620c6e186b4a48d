-- The lines of a trace have one reading, or one refusal.
use Rattle.std.proofs.Common.{◌≡◌, ℕ, zero, suc, ◌-◌, ◌<◌, ◌≤◌, List, [], ◌∷◌, ◌++◌, length, Option, Some, None, ◌⊎◌, inl, inr, refl, sym}
use Rattle.std.proofs.Common.{ap}
use Rattle.std.proofs.Common.{◌∙◌, subst, arith}
use Rattle.std.specs.List.{Contains}
use Rattle.std.proofs.lemmas.List.{length-append}
use Rattle.std.proofs.lemmas.List.Elements.{Contains-append_right}
use Rattle.byte_text.specs.Cuts.{IsCutAt}
use Rattle.byte_text.proofs.CutLaws.{cut-from_IsCutAt}
use Rattle.synth_text.specs.Rules.{pu_count}
use Rattle.run_faults.specs.declared.select.SelectFault.{SelectFault}
use Rattle.run_faults.specs.declared.select.SelectFault.TheVariants as faults
use Rattle.lock_select.specs.Traces.{line_number, BeginsWith, ReadsTo, FrontBreaks, Breaks, turn_limit}
use Rattle.lock_select.specs.Laws.{OneTrace, OneRefusal, NotBoth}

same_pair : {A B : Type 0} (a c : A) (b d : B) (p q : Option (A × B)) → p ≡ Some (a, b) → q ≡ Some (c, d) → p ≡ q → (a ≡ c) × (b ≡ d)
same_pair {A} {B} a c b d p q first second same =
    let x : A × B = (a, b) in
    let y : A × B = (c, d) in
    let pairs : x ≡ y = cc in
    (ap (λ (r : A × B). r.0) pairs, ap (λ (r : A × B). r.1) pairs)

-- a text has one cut at a line end
pub one_cut : (text line behind other after : List ℕ) → IsCutAt 10 text line behind → IsCutAt 10 text other after
    → (line ≡ other) × (behind ≡ after)
one_cut text line behind other after first second =
    same_pair line other behind after _ _ (cut-from_IsCutAt 10 text line behind first) (cut-from_IsCutAt 10 text other after second) refl

-- a text that is cut at a line end has one
pub cut_has : (text line behind : List ℕ) → IsCutAt 10 text line behind → Contains text 10
cut_has text line behind cut = rw cut.parts (Contains-append_right line (10 ∷ behind) 10 (0, omega arith, refl))

-- a text without a line end, or whose first line has not its form
pub no_line : (text : List ℕ) → ¬ (Contains text 10) → (line behind : List ℕ) → IsCutAt 10 text line behind → line_number line ≡ None
no_line text lacks = λ line behind cut. absurd (lacks (cut_has text line behind cut))

pub bad_line : (text line behind : List ℕ) → IsCutAt 10 text line behind → line_number line ≡ None → (other after : List ℕ)
    → IsCutAt 10 text other after → line_number other ≡ None
bad_line text line behind cut none = λ other after also. ap line_number (sym (one_cut text line behind other after cut also).0) ∙ none

-- one line more
pub reads_more : (pus : ℕ) (before : List ℕ) (text rest behind : List ℕ) (pu : ℕ) → ReadsTo pus text before rest
    → BeginsWith pus rest pu behind → ReadsTo pus text (before ++ pu ∷ []) behind
reads_more pus [] text rest behind pu reads begins = (behind, subst (λ (t : List ℕ). BeginsWith pus t pu behind) (sym reads) begins, refl)
reads_more pus (first ∷ before) text rest behind pu reads begins =
    (reads.0, reads.1, reads_more pus before reads.0 rest behind pu reads.2 begins)

-- what stands behind a line is shorter than the text
pub begins_longer : (pus : ℕ) (text : List ℕ) (pu : ℕ) (behind : List ℕ) → BeginsWith pus text pu behind → length behind < length text
begins_longer pus text pu behind begins = omega (arith, ap length begins.cut.parts, length-append begins.line (10 ∷ behind))

-- ---- one answer

begins_once : (pus : ℕ) (text : List ℕ) (pu other : ℕ) (behind after : List ℕ) → BeginsWith pus text pu behind
    → BeginsWith pus text other after → (pu ≡ other) × (behind ≡ after)
begins_once pus text pu other behind after first second =
    let same = one_cut text first.line behind second.line after first.cut second.cut in
    let there : line_number second.line ≡ Some pu = ap line_number (sym same.0) ∙ first.number in
    let also = second.number in
    (cc, same.1)

-- no line begins a text
abbrev Stops : ℕ → List ℕ → Type 0
Stops pus text = (pu : ℕ) (behind : List ℕ) → BeginsWith pus text pu behind → ⊥

-- a reading of at most so many lines ends there
abbrev EndsAt : ℕ → ℕ → ℕ → List ℕ → Type 0
EndsAt pus limit turns rest = (turns ≡ limit) ⊎ Stops pus rest

ends_less : (pus limit turns : ℕ) (rest : List ℕ) → EndsAt pus (suc limit) (suc turns) rest → EndsAt pus limit turns rest
ends_less pus limit turns rest (inl all) = inl (omega (arith, all))
ends_less pus limit turns rest (inr stops) = inr stops

-- two readings that end are one
reads_same : (pus limit : ℕ) (trace others : List ℕ) (text rest after : List ℕ) → ReadsTo pus text trace rest
    → ReadsTo pus text others after → length trace ≤ limit → length others ≤ limit → EndsAt pus limit (length trace) rest
    → EndsAt pus limit (length others) after
    → (trace ≡ others) × (rest ≡ after)
reads_same pus limit [] [] text rest after reads also few small ends stops = (refl, sym reads ∙ also)
reads_same pus limit [] (other ∷ others) text rest after reads also few small (inl all) stops = absurd (omega (arith, all, small))
reads_same pus limit [] (other ∷ others) text rest after reads also few small (inr ends) stops =
    absurd (ends other also.0 (subst (λ (t : List ℕ). BeginsWith pus t other also.0) reads also.1))
reads_same pus limit (pu ∷ trace) [] text rest after reads also few small ends (inl all) = absurd (omega (arith, all, few))
reads_same pus limit (pu ∷ trace) [] text rest after reads also few small ends (inr stops) =
    absurd (stops pu reads.0 (subst (λ (t : List ℕ). BeginsWith pus t pu reads.0) also reads.1))
reads_same pus zero (pu ∷ trace) (other ∷ others) text rest after reads also few small ends stops = absurd (omega (arith, few))
reads_same pus (suc limit) (pu ∷ trace) (other ∷ others) text rest after reads also few small ends stops =
    let same = begins_once pus text pu other reads.0 also.0 reads.1 also.1 in
    let later = reads_same pus limit trace others reads.0 rest after reads.2
    (subst (λ (t : List ℕ). ReadsTo pus t others after) (sym same.1) also.2) (omega (arith, few)) (omega (arith, small))
    (ends_less pus limit (length trace) rest ends) (ends_less pus limit (length others) after stops) in
    (ap (λ (n : ℕ). n ∷ trace) same.0 ∙ ap (λ (more : List ℕ). other ∷ more) later.0, later.1)

none_stops : (pus : ℕ) → Stops pus []
none_stops pus pu behind begins = omega (arith, begins_longer pus [] pu behind begins)

-- a text that breaks a rule of its front begins with no line
front_stops : (pus offset : ℕ) (text : List ℕ) (fault : SelectFault) → FrontBreaks pus offset text fault → Stops pus text
front_stops pus offset text faults.Weights broken = absurd broken
front_stops pus offset text faults.Keep broken = absurd broken
front_stops pus offset text (faults.Line at) broken = λ pu behind begins.
    let none = broken.1 begins.line behind begins.cut in
    let some = begins.number in
    absurd cc
front_stops pus offset text (faults.Place at) broken = λ pu behind begins.
    let same = one_cut text broken.1.0 broken.1.1 begins.line behind broken.1.3 begins.cut in
    let there : line_number begins.line ≡ Some broken.1.2 = ap line_number (sym same.0) ∙ broken.1.4 in
    let some = begins.number in
    let number : broken.1.2 ≡ pu = cc in
    let place = begins.place in
    omega (arith, number, place, broken.1.5)
front_stops pus offset text faults.TooManyTurns broken = absurd broken
front_stops pus offset text faults.OutOfMemory broken = absurd broken

breaks_ends : (pus turns offset : ℕ) (text : List ℕ) (fault : SelectFault) → Breaks pus turns offset text fault
    → EndsAt pus turn_limit turns text
breaks_ends pus turns offset text fault (inl many) = inl many.0
breaks_ends pus turns offset text fault (inr broken) = inr (front_stops pus offset text fault broken.1)

breaks_few : (pus turns offset : ℕ) (text : List ℕ) (fault : SelectFault) → Breaks pus turns offset text fault → turns ≤ turn_limit
breaks_few pus turns offset text fault (inl many) = omega (arith, many.0)
breaks_few pus turns offset text fault (inr broken) = omega (arith, broken.0)

-- a line is not of the right form and of another
form_once : (text line behind : List ℕ) (number : ℕ) → ((other after : List ℕ) → IsCutAt 10 text other after → line_number other ≡ None)
    → IsCutAt 10 text line behind → line_number line ≡ Some number → ⊥
form_once text line behind number none cut some = let no = none line behind cut in absurd cc

-- a text breaks one rule of its front
front_once : (pus offset : ℕ) (text : List ℕ) (fault other : SelectFault) → FrontBreaks pus offset text fault
    → FrontBreaks pus offset text other → fault ≡ other
front_once pus offset text faults.Weights other broken also = absurd broken
front_once pus offset text faults.Keep other broken also = absurd broken
front_once pus offset text faults.TooManyTurns other broken also = absurd broken
front_once pus offset text faults.OutOfMemory other broken also = absurd broken
front_once pus offset text (faults.Line at) faults.Weights broken also = absurd also
front_once pus offset text (faults.Line at) faults.Keep broken also = absurd also
front_once pus offset text (faults.Line at) (faults.Line place) broken also = ap faults.Line (broken.0 ∙ sym also.0)
front_once pus offset text (faults.Line at) (faults.Place place) broken also =
    absurd (form_once text also.1.0 also.1.1 also.1.2 broken.1 also.1.3 also.1.4)
front_once pus offset text (faults.Line at) faults.TooManyTurns broken also = absurd also
front_once pus offset text (faults.Line at) faults.OutOfMemory broken also = absurd also
front_once pus offset text (faults.Place at) faults.Weights broken also = absurd also
front_once pus offset text (faults.Place at) faults.Keep broken also = absurd also
front_once pus offset text (faults.Place at) (faults.Line place) broken also =
    absurd (form_once text broken.1.0 broken.1.1 broken.1.2 also.1 broken.1.3 broken.1.4)
front_once pus offset text (faults.Place at) (faults.Place place) broken also = ap faults.Place (broken.0 ∙ sym also.0)
front_once pus offset text (faults.Place at) faults.TooManyTurns broken also = absurd also
front_once pus offset text (faults.Place at) faults.OutOfMemory broken also = absurd also

breaks_once : (pus turns offset : ℕ) (text : List ℕ) (fault other : SelectFault) → Breaks pus turns offset text fault
    → Breaks pus turns offset text other → fault ≡ other
breaks_once pus turns offset text fault other (inl many) (inl also) = many.1 ∙ sym also.1
breaks_once pus turns offset text fault other (inl many) (inr also) = absurd (omega (arith, many.0, also.0))
breaks_once pus turns offset text fault other (inr broken) (inl also) = absurd (omega (arith, broken.0, also.0))
breaks_once pus turns offset text fault other (inr broken) (inr also) = front_once pus offset text fault other broken.1 also.1

pub trace_once : OneTrace
trace_once described bytes trace other is also =
    (reads_same (pu_count described) turn_limit trace other bytes [] [] is.whole also.whole is.few also.few
    (inr (none_stops (pu_count described))) (inr (none_stops (pu_count described)))).0

pub refusal_once : OneRefusal
refusal_once described bytes fault other refused also =
    let pus : ℕ = pu_count described in
    let offset : ℕ = length bytes - length refused.rest in
    let later : ℕ = length bytes - length also.rest in
    let same = reads_same pus turn_limit refused.trace also.trace bytes refused.rest also.rest refused.reads also.reads
    (breaks_few pus (length refused.trace) offset refused.rest fault refused.broken)
    (breaks_few pus (length also.trace) later also.rest other also.broken)
    (breaks_ends pus (length refused.trace) offset refused.rest fault refused.broken)
    (breaks_ends pus (length also.trace) later also.rest other also.broken) in
    breaks_once pus (length refused.trace) offset refused.rest fault other refused.broken
    (subst (λ (n : ℕ). Breaks pus n offset refused.rest other) (sym (ap length same.0))
    (subst (λ (t : List ℕ). Breaks pus (length also.trace) (length bytes - length t) t other) (sym same.1) also.broken))

pub not_both : NotBoth
not_both described bytes trace fault is refused =
    let pus : ℕ = pu_count described in
    let offset : ℕ = length bytes - length refused.rest in
    let same = reads_same pus turn_limit trace refused.trace bytes [] refused.rest is.whole refused.reads is.few
    (breaks_few pus (length refused.trace) offset refused.rest fault refused.broken) (inr (none_stops pus))
    (breaks_ends pus (length refused.trace) offset refused.rest fault refused.broken) in
    let some = refused.some in
    omega (arith, ap length same.1, some)
