-- Parts, read one after another.
use Rattle.std.proofs.Common.{◌≡◌, ℕ, ◌+◌, ◌-◌, ◌≤◌, false, ◌==◌, List, [], ◌∷◌, ◌++◌, length, get_or, Option, Some, None}
use Rattle.std.proofs.Common.{Ok, Err, refl, sym, ap, ◌∙◌, append_assoc, arith}
use Rattle.std.specs.Prelude.{Result, Contains}
use Rattle.std.specs.Borrow.{Bor}
use Rattle.std.specs.List.{slice_split, AllByRecursion, All}
use Rattle.std.proofs.lemmas.Bool.{ne_eqb}
use Rattle.std.proofs.lemmas.List.{append-nil, length-append}
use Rattle.std.proofs.lemmas.List.Elements.{All-from_get_or, Contains-get_or}
use Rattle.std.proofs.lemmas.List.Splits.{slice_split_none, slice_split_at}
use Rattle.byte_text.specs.Cuts.{IsFirstPart}
use Rattle.synth_text.specs.declared.description.Description.{Description}
use Rattle.synth_text.specs.Flaws.{◌>>=◌}
use Rattle.calc_query.specs.declared.fault.CalcFault.{CalcFault}
use Rattle.calc_query.specs.declared.query.Part.{Part}
use Rattle.calc_query.specs.Readings.{part_of, parts_from}

-- ---- pieces

abbrev pub pieces_of : List ℕ → List (List ℕ)
pieces_of text = slice_split (λ byte. byte == 46) text

abbrev pub pieces_left : Option (Bor (List ℕ)) → List (List ℕ)
pieces_left None = []
pieces_left (Some text) = pieces_of text.now

-- how long the text is that is left
abbrev pub length_left : Option (Bor (List ℕ)) → ℕ
length_left None = 0
length_left (Some text) = length text.now + 1

none_is : (byte : ℕ) (text : List ℕ) → ¬ (Contains text byte) → All (λ other. (other == byte) ≡ false) text
none_is byte text lacks = All-from_get_or (λ other. (other == byte) ≡ false) text 0 (λ i within.
    ne_eqb (get_or text i 0) byte (λ same. lacks (rw (← same) (Contains-get_or text i 0 within))))

pub first_of_pieces : (text piece : List ℕ) (behind : Option (Bor (List ℕ))) → IsFirstPart 46 text piece behind
    → pieces_of text ≡ piece ∷ pieces_left behind
first_of_pieces text piece None whole = slice_split_none (λ byte. byte == 46) text (none_is 46 text whole.0)
    ∙ ap (λ t. t ∷ []) (sym whole.1)
first_of_pieces text piece (Some behind) cut = ap pieces_of cut.parts
    ∙ slice_split_at (λ byte. byte == 46) piece 46 behind.now (none_is 46 piece cut.first) refl

pub pieces_shorter : (text piece : List ℕ) (behind : Option (Bor (List ℕ))) → IsFirstPart 46 text piece behind
    → length_left behind + length piece ≤ length text
pieces_shorter text piece None whole = omega (arith, ap length whole.1)
pieces_shorter text piece (Some behind) cut = omega (arith, ap length cut.parts, length-append piece (46 ∷ behind.now))

-- ---- what was read, before what is left

abbrev pub after : List Part → Result (List Part) CalcFault → Result (List Part) CalcFault
after parts reading = reading >>= λ more. Ok (parts ++ more)

after-cons : (parts : List Part) (part : Part) (reading : Result (List Part) CalcFault)
    → after parts (reading >>= λ more. Ok (part ∷ more)) ≡ after (parts ++ part ∷ []) reading
after-cons parts part (Ok more) = ap Ok (sym (append_assoc parts (part ∷ []) more))
after-cons parts part (Err fault) = refl

-- where the text that is left begins
abbrev pub begins : ℕ → Option (Bor (List ℕ)) → ℕ
begins end None = end
begins end (Some text) = end - length text.now

module _ (described : Description) (word : ℕ) where
  goes_on : (at next : ℕ) (parts : List Part) (piece : List ℕ) (part : Part) (pieces : List (List ℕ)) (total : Result (List Part) CalcFault)
      → part_of described word at piece ≡ Ok part → next ≡ at + length piece + 1
      → after parts (parts_from described word at (piece ∷ pieces)) ≡ total
      → after (parts ++ part ∷ []) (parts_from described word next pieces) ≡ total
  goes_on at next parts piece part pieces total said there so_far =
      ap (λ n. after (parts ++ part ∷ []) (parts_from described word n pieces)) there
      ∙ sym (ap (λ first. after parts (first >>= λ p. parts_from described word (at + length piece + 1) pieces >>= λ more. Ok (p ∷ more)))
      said
      ∙ after-cons parts part (parts_from described word (at + length piece + 1) pieces))
      ∙ so_far

  pub stops : (at : ℕ) (parts : List Part) (text piece : List ℕ) (fault : CalcFault) (behind : Option (Bor (List ℕ)))
      (total : Result (List Part) CalcFault)
      → IsFirstPart 46 text piece behind → part_of described word at piece ≡ Err fault
      → after parts (parts_from described word at (pieces_of text)) ≡ total → total ≡ Err fault
  stops at parts text piece fault behind total cut said so_far =
      sym so_far ∙ ap (λ pieces. after parts (parts_from described word at pieces)) (first_of_pieces text piece behind cut)
      ∙ ap (λ first. after parts (first >>= λ p. parts_from described word (at + length piece + 1) (pieces_left behind) >>=
      λ more. Ok (p ∷ more))) said

  pub next_read : (end : ℕ) (parts : List Part) (text piece : List ℕ) (part : Part) (behind : Option (Bor (List ℕ)))
      (total : Result (List Part) CalcFault)
      → IsFirstPart 46 text piece behind → length text ≤ end → part_of described word (end - length text) piece ≡ Ok part
      → after parts (parts_from described word (end - length text) (pieces_of text)) ≡ total
      → after (parts ++ part ∷ []) (parts_from described word (begins end behind) (pieces_left behind)) ≡ total
  next_read end parts text piece part None total cut within said so_far =
      goes_on (end - length text) (end - length text + length piece + 1) parts piece part [] total said refl
      (ap (λ pieces. after parts (parts_from described word (end - length text) pieces)) (sym (first_of_pieces text piece None cut))
      ∙ so_far)
  next_read end parts text piece part (Some behind) total cut within said so_far =
      goes_on (end - length text) (begins end (Some behind)) parts piece part (pieces_of behind.now) total said
      (omega (arith, ap length cut.parts, length-append piece (46 ∷ behind.now)))
      (ap (λ pieces. after parts (parts_from described word (end - length text) pieces))
      (sym (first_of_pieces text piece (Some behind) cut)) ∙ so_far)

  pub all_read : (parts : List Part) (at : ℕ) (total : Result (List Part) CalcFault) → after parts (parts_from described word at []) ≡ total
      → total ≡ Ok parts
  all_read parts at total so_far = sym so_far ∙ ap Ok (append-nil parts)

pub start_read : (parts : List Part) (reading : Result (List Part) CalcFault) → parts ≡ [] → after parts reading ≡ reading
start_read parts (Ok more) none = ap (λ ps. Ok (ps ++ more)) none
start_read parts (Err fault) none = refl

pub all_push : {X : Type 0} (P : X → Type 0) (xs : List X) (x : X) → AllByRecursion P xs → P x → AllByRecursion P (xs ++ x ∷ [])
all_push P [] x all here = (here, tt)
all_push P (y ∷ ys) x all here = (all.0, all_push P ys x all.1 here)
