-- Bytes are one input with one printed text behind it, or they have one refusal.
use Rattle.std.proofs.Common.{◌≡◌, ℕ, ◌+◌, ◌<◌, ◌≤◌, ◌&&◌, Bool, true, false, List, ◌∷◌, ◌++◌, length, take, drop, Option, Some, None}
use Rattle.std.proofs.Common.{refl, sym, ap, ◌∙◌, subst, arith, length-append}
use Rattle.std.specs.Prelude.{nat_lt, if◌then◌else◌}
use Rattle.std.proofs.lemmas.Bool.{ltb-true}
use Rattle.std.proofs.lemmas.List.{take_at, drop_at}
use Rattle.std.specs.Str.Parse.{digits_value}
use Rattle.byte_text.specs.Numerals.{is_decimal, number_below}
use Rattle.run_faults.specs.declared.fault.CheckFault.{CheckFault}
use Rattle.run_faults.specs.declared.fault.CheckFault.TheVariants.{BadHead, Short}
use Rattle.run_check.specs.Pairs.{ArePair, IsRefused, length_of, size_of}
use Rattle.run_check.proofs.Heads.{pair_behind}
use Rattle.run_check.specs.Pairs.{input_limit}

-- the parts are shorter than the whole
pub parts_short : (bytes input printed : List ℕ) → ArePair bytes input printed → length input + length printed < length bytes
parts_short bytes input printed pair =
    let whole : length bytes ≡ length (pair.line ++ 10 ∷ (input ++ 10 ∷ printed)) = ap length pair.cut.parts in
    let first = length-append pair.line (10 ∷ (input ++ 10 ∷ printed)) in
    let second = length-append input (10 ∷ printed) in
    omega (arith, whole, first, second)

-- bytes are one input with one text
pub one_pair : (bytes input printed other after : List ℕ) → ArePair bytes input printed → ArePair bytes other after
    → (input ≡ other) × (printed ≡ after)
one_pair bytes input printed other after first second =
    let behind = pair_behind bytes first.line (input ++ 10 ∷ printed) other after (length input) first.cut first.size_is second in
    let inputs : input ≡ other =
    sym (take_at input (10 ∷ printed) (length input) refl) ∙ ap (take (length input)) behind.0
    ∙ take_at other (10 ∷ after) (length input) behind.1 in
    let ends : 10 ∷ printed ≡ 10 ∷ after =
    sym (drop_at input (10 ∷ printed) (length input) refl) ∙ ap (drop (length input)) behind.0
    ∙ drop_at other (10 ∷ after) (length input) behind.1 in
    (inputs, cc)

-- these are not refused
pub pair_not : (bytes input printed : List ℕ) (fault : CheckFault) → ArePair bytes input printed → IsRefused bytes fault → ⊥
pair_not bytes input printed BadHead pair refused =
    refused (length input) (record { line = pair.line; behind = input ++ 10 ∷ printed; cut = pair.cut; size_is = pair.size_is })
pair_not bytes input printed Short pair refused = refused.1 input printed pair

-- and what is refused has one fault
pub one_fault : (bytes : List ℕ) (fault other : CheckFault) → IsRefused bytes fault → IsRefused bytes other → fault ≡ other
one_fault bytes BadHead BadHead first second = refl
one_fault bytes BadHead Short first second = absurd (first second.0.0 second.0.1)
one_fault bytes Short BadHead first second = absurd (second first.0.0 first.0.1)
one_fault bytes Short Short first second = refl

-- ---- how long an input is

if_some : (test : Bool) (value : Option ℕ) (n : ℕ) → (if test then value else None) ≡ Some n → value ≡ Some n
if_some true value n is = is
if_some false value n is = absurd (cc)

if_both : (one other : Bool) (value n : ℕ) → (if one && other then Some value else None) ≡ Some n → (other ≡ true) × (value ≡ n)
if_both true true value n is = (refl, cc)
if_both true false value n is = absurd (cc)
if_both false true value n is = absurd (cc)
if_both false false value n is = absurd (cc)

below : (limit n : ℕ) (text : List ℕ) → number_below limit text ≡ Some n → n < limit
unfolding number_below
below limit n text is =
    let both = if_both (is_decimal text) (nat_lt (digits_value 10 text) limit) (digits_value 10 text) n is in
    subst (λ (m : ℕ). m < limit) both.1 (ltb-true (digits_value 10 text) limit both.0)

length_within : (digits : List ℕ) (n : ℕ) → length_of digits ≡ Some n → n ≤ input_limit
unfolding length_of
length_within digits n is =
    let less = below (input_limit + 1) n digits (if_some _ (number_below (input_limit + 1) digits) n is) in omega (arith, less)

size_within : (line : List ℕ) (n : ℕ) → size_of line ≡ Some n → n ≤ input_limit
unfolding size_of
size_within line n is = length_within (drop 6 line) n (if_some _ (length_of (drop 6 line)) n is)

-- an input that stands in a pair is within the limit
pub input_within : (bytes input printed : List ℕ) → ArePair bytes input printed → length input ≤ input_limit
input_within bytes input printed pair = size_within pair.line (length input) pair.size_is
