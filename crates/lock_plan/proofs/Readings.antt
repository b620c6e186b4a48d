-- Reading the pieces of a list one behind another.
use Rattle.std.proofs.Common.{◌≡◌, ℕ, suc, ◌+◌, ◌≤◌, Bool, List, [], ◌∷◌, ◌++◌, length, Option, Some, None}
use Rattle.std.proofs.Common.{refl, sym, ap, ◌∙◌}
use Rattle.std.proofs.Common.{arith, length-append, inl, inr, subst}
use Rattle.std.specs.Prelude.{option_map, cond}
use Rattle.std.specs.List.{AllByRecursion}
use Rattle.std.specs.Option.{option_and_then}
use Rattle.std.proofs.lemmas.Bool.{cases_Bool, lt-ltb}
use Rattle.std.proofs.lemmas.Bool.Decides.{nat_tests}
use Rattle.byte_text.specs.Cuts.{cut, with_byte, piece_or, first_piece}
use Rattle.byte_text.proofs.CutLaws.{left}
use Rattle.synth_text.specs.IndexTexts.{entries_of}
use Rattle.synth_text.proofs.Entries as entries
use Rattle.synth_text.proofs.Entries.{after}
use Rattle.lock_plan.specs.Lists.{first_unknown}

-- ---- how long pieces are

onto : (byte : ℕ) (bytes : List ℕ) (o : Option (List ℕ × List ℕ))
    → length bytes + 1 ≡ length (piece_or bytes o).0 + 1 + left (piece_or bytes o).1
    → length (byte ∷ bytes) + 1
    ≡ length (piece_or (byte ∷ bytes) (option_map (with_byte byte) o)).0 + 1
    + left (piece_or (byte ∷ bytes) (option_map (with_byte byte) o)).1
onto byte bytes None whole = omega arith
onto byte bytes (Some parts) whole = omega arith

-- a text is its first piece, the byte behind it or its end, and the rest
pub left_parts : (test : ℕ → Bool) (text : List ℕ)
    → length text + 1 ≡ length (first_piece test text).0 + 1 + left (first_piece test text).1
unfolding first_piece
left_parts test [] = omega arith
left_parts test (byte ∷ bytes) =
    elim (cases_Bool (test byte)) [
      | inl passes ↦ rw passes (omega arith)
      | inr fails ↦ rw fails (onto byte bytes (cut test bytes) (left_parts test bytes))
    ]

-- ---- the first piece that says nothing

module _ {X : Type 0} (says : List ℕ → Option X) where
  -- behind a piece that says something
  unknown_later : (piece : List ℕ) (entry : X) (rest : List (List ℕ)) → says piece ≡ Some entry
      → first_unknown says (piece ∷ rest) ≡ option_map (λ n. n + 1) (first_unknown says rest)
  unknown_later piece entry rest said = rw said (grind (arith, nat_tests))

  -- at a piece that says nothing
  unknown_here : (piece : List ℕ) (rest : List (List ℕ)) → says piece ≡ None → first_unknown says (piece ∷ rest) ≡ Some 0
  unknown_here piece rest said = rw said (ap (λ b. cond b (Some 0) None) (lt-ltb 0 (suc (length rest)) (omega arith)))

  -- a piece that says something isn't empty, where an empty one says nothing
  pub nonempty : (piece : List ℕ) (entry : X) → says piece ≡ Some entry → says [] ≡ None → 1 ≤ length piece
  nonempty [] entry said none = absurd (let e : None ≡ Some entry = sym none ∙ said in cc)
  nonempty (byte ∷ bytes) entry said none = omega arith

  -- ---- what was read

  -- behind some pieces that say these entries stand the rest of all pieces, and the entries are few
  pub record HasRead (all : List (List ℕ)) (read : List X) (rest : List (List ℕ)) : Type 0 where
    pub said : after read (entries_of says rest) ≡ entries_of says all
    pub unknown : option_map (λ n. n + length read) (first_unknown says rest) ≡ first_unknown says all

  none_before : (o : Option ℕ) → option_map (λ n. n + 0) o ≡ o
  none_before None = refl
  none_before (Some n) = let e : n + 0 ≡ n = omega arith in ap Some e

  starts_with : (o : Option (List X)) → after [] o ≡ o
  starts_with None = refl
  starts_with (Some read) = refl

  pub starts : (all : List (List ℕ)) → HasRead all [] all
  starts all = record { said = starts_with (entries_of says all); unknown = none_before (first_unknown says all) }

  one_more : (count : ℕ) (o : Option ℕ) → option_map (λ n. n + (count + 1)) o ≡ option_map (λ n. n + count) (option_map (λ n. n + 1) o)
  one_more count None = refl
  one_more count (Some n) = let e : n + (count + 1) ≡ n + 1 + count = omega arith in ap Some e

  pub goes_on : (all rest : List (List ℕ)) (read : List X) (piece : List ℕ) (entry : X) → says piece ≡ Some entry
      → HasRead all read (piece ∷ rest) → HasRead all (read ++ entry ∷ []) rest
  goes_on all rest read piece entry said so_far =
      let more : length (read ++ entry ∷ []) ≡ length read + 1 = length-append read (entry ∷ []) ∙ (omega arith) in
      record {
        said = entries.goes_on says read piece entry rest (entries_of says all) said so_far.said;
        unknown =
            ap (λ (count : ℕ). option_map (λ n. n + count) (first_unknown says rest)) more
            ∙ one_more (length read) (first_unknown says rest)
            ∙ ap (λ (o : Option ℕ). option_map (λ n. n + length read) o) (sym (unknown_later piece entry rest said))
            ∙ so_far.unknown;
      }

  pub stops : (all rest : List (List ℕ)) (read : List X) (piece : List ℕ) → says piece ≡ None → HasRead all read (piece ∷ rest)
      → first_unknown says all ≡ Some (length read)
  stops all rest read piece said so_far =
      sym so_far.unknown
      ∙ ap (λ (o : Option ℕ). option_map (λ n. n + length read) o) (unknown_here piece rest said)
      ∙ (let e : 0 + length read ≡ length read = omega arith in ap Some e)

  pub ends : (all : List (List ℕ)) (read : List X) → HasRead all read [] → entries_of says all ≡ Some read
  ends all read so_far = entries.is_done read (entries_of says all) so_far.said

  -- ---- what all pieces say

  split_entries : (o : Option X) (rest : Option (List X)) (all : List X)
      → option_and_then (λ entry. option_map (λ others. entry ∷ others) rest) o ≡ Some all
      → (entry : X) × (others : List X) × (o ≡ Some entry) × (rest ≡ Some others) × (all ≡ entry ∷ others)
  split_entries None rest all said = absurd cc
  split_entries (Some entry) None all said = absurd cc
  split_entries (Some entry) (Some others) all said = (entry, others, refl, refl, cc)

  -- where each piece says something, none is unknown
  pub known_from_entries : (pieces : List (List ℕ)) (all : List X) → entries_of says pieces ≡ Some all → first_unknown says pieces ≡ None
  known_from_entries [] all said = refl
  known_from_entries (piece ∷ rest) all said =
      let parts = split_entries (says piece) (entries_of says rest) all said in
      unknown_later piece parts.0 rest parts.2
      ∙ ap (λ (o : Option ℕ). option_map (λ n. n + 1) o) (known_from_entries rest parts.1 parts.3)

  pub length-entries : (pieces : List (List ℕ)) (all : List X) → entries_of says pieces ≡ Some all → length all ≡ length pieces
  length-entries [] all said = ap length (let e : all ≡ [] = cc in e)
  length-entries (piece ∷ rest) all said =
      let parts = split_entries (says piece) (entries_of says rest) all said in
      ap length parts.4 ∙ ap suc (length-entries rest parts.1 parts.3)

  -- what holds of what any piece says holds of each entry
  pub All-entries : (P : X → Type 0) → ((piece : List ℕ) (entry : X) → says piece ≡ Some entry → P entry) → (pieces : List (List ℕ))
      (all : List X) → entries_of says pieces ≡ Some all → AllByRecursion P all
  All-entries P each [] all said = subst (AllByRecursion P) (let e : [] ≡ all = cc in e) tt
  All-entries P each (piece ∷ rest) all said =
      let parts = split_entries (says piece) (entries_of says rest) all said in
      subst (AllByRecursion P) (sym parts.4) (each piece parts.0 parts.2, All-entries P each rest parts.1 parts.3)

  none_later : (o : Option ℕ) → option_map (λ n. n + 1) o ≡ None → o ≡ None
  none_later None none = refl
  none_later (Some n) none = absurd cc

  -- where none is unknown, each piece says something
  pub record Says (pieces : List (List ℕ)) : Type 0 where
    pub all : List X
    pub said : entries_of says pieces ≡ Some all

  entries_more : (piece : List ℕ) (rest : List (List ℕ)) (o : Option X) → says piece ≡ o → (first_unknown says rest ≡ None → Says rest)
      → first_unknown says (piece ∷ rest) ≡ None → Says (piece ∷ rest)
  entries_more piece rest None said more none = absurd (let e : Some 0 ≡ None = sym (unknown_here piece rest said) ∙ none in cc)
  entries_more piece rest (Some entry) said more none =
      let later = more (none_later (first_unknown says rest) (sym (unknown_later piece entry rest said) ∙ none)) in
      record {
        all = entry ∷ later.all;
        said =
            ap (λ (one : Option X). option_and_then (λ entry. option_map (λ others. entry ∷ others) (entries_of says rest)) one) said
            ∙ ap (λ (others : Option (List X)). option_map (λ others. entry ∷ others) others) later.said;
      }

  pub entries_from_known : (pieces : List (List ℕ)) → first_unknown says pieces ≡ None → Says pieces
  entries_from_known [] none = record { all = []; said = refl }
  entries_from_known (piece ∷ rest) none = entries_more piece rest (says piece) refl (entries_from_known rest) none
