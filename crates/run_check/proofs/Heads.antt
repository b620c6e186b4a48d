-- The head of an input.
use Rattle.std.proofs.Common.{◌≡◌, ℕ, List, ◌∷◌, ◌++◌, length, Some, None, refl, sym, ap, ◌∙◌, arith}
use Rattle.std.proofs.lemmas.List.Elements.{Contains-append_right}
use Rattle.std.specs.List.{Contains}
use Rattle.byte_text.specs.Cuts.{IsCutAt}
use Rattle.run_texts.proofs.Cuts.{one_cut}
use Rattle.run_check.specs.Pairs.{ArePair, HasHead, size_of}

-- bytes without a line end have no head
pub no_line : (bytes : List ℕ) → ¬ (Contains bytes 10) → (size : ℕ) → HasHead bytes size → ⊥
no_line bytes lacks size has = lacks (rw has.cut.parts (Contains-append_right has.line (10 ∷ has.behind) 10 (0, omega arith, refl)))

-- the first line tells the size of a head
pub size_there : (bytes line behind : List ℕ) (size : ℕ) → IsCutAt 10 bytes line behind → HasHead bytes size → size_of line ≡ Some size
size_there bytes line behind size cut has =
    let same = one_cut 10 bytes has.line has.behind line behind has.cut cut in
    ap size_of (sym same.0) ∙ has.size_is

-- a first line that is no head
pub no_head : (bytes line behind : List ℕ) → IsCutAt 10 bytes line behind → size_of line ≡ None → (size : ℕ) → HasHead bytes size → ⊥
no_head bytes line behind cut none size has = let there = size_there bytes line behind size cut has in cc

-- what stands behind the head of a pair
pub pair_behind : (bytes line behind input printed : List ℕ) (size : ℕ) → IsCutAt 10 bytes line behind → size_of line ≡ Some size
    → ArePair bytes input printed → (behind ≡ input ++ 10 ∷ printed) × (length input ≡ size)
pair_behind bytes line behind input printed size cut size_is pair =
    let same = one_cut 10 bytes pair.line (input ++ 10 ∷ printed) line behind pair.cut cut in
    let there : size_of line ≡ Some (length input) = ap size_of (sym same.0) ∙ pair.size_is in
    let sizes : length input ≡ size = cc in
    (sym same.1, sizes)
