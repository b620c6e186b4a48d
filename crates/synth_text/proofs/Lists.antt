-- Steps along a list, and lists of texts with a byte between them.
use Rattle.std.proofs.Common.{
  ◌≡◌,
  ℕ,
  suc,
  ◌+◌,
  ◌<◌,
  List,
  [],
  ◌∷◌,
  ◌++◌,
  length,
  get_or,
  take,
  drop,
  map,
  refl,
  sym,
  ap,
  ◌∙◌,
  append_assoc,
  add-one,
  min,
  arith,
  inl,
  inr,
}
use Rattle.std.proofs.Math.Seq.{drop-cons}
use Rattle.std.proofs.Math.ListN.{drop_of_length-le}
use Rattle.std.proofs.lemmas.List.{take_more, map_push, append-nil}
use Rattle.std.proofs.lemmas.Bool.{cases_lt}
use Rattle.std.specs.List.{join_with_byte}
use Rattle.synth_text.specs.Canonical.{joined_before, joined_behind}

pub drop_element : {X : Type 0} (xs : List X) (i : ℕ) (x : X) → i < length xs → x ≡ get_or xs i x → drop i xs ≡ x ∷ drop (i + 1) xs
drop_element xs i x lt is = drop-cons xs i x lt ∙ ap (λ y. y ∷ drop (suc i) xs) (sym is) ∙ rw add-one refl

pub drop_at_index : {X : Type 0} (xs : List X) (i : ℕ) (d : X) → i < length xs → drop i xs ≡ get_or xs i d ∷ drop (i + 1) xs
drop_at_index xs i d lt = drop-cons xs i d lt ∙ rw add-one refl

pub map-take-element : {X Y : Type 0} (f : X → Y) (xs : List X) (i : ℕ) (x : X) → i < length xs → x ≡ get_or xs i x
    → map f (take (i + 1) xs) ≡ map f (take i xs) ++ f x ∷ []
map-take-element f xs i x lt is = ap (map f) (take_more xs i x lt ∙ ap (λ y. take i xs ++ y ∷ []) (sym is)) ∙ map_push f (take i xs) x

-- one more text behind others
pub join_more : (byte : ℕ) (texts : List (List ℕ)) (text : List ℕ) → 0 < length texts
    → join_with_byte byte (texts ++ text ∷ []) ≡ join_with_byte byte texts ++ byte ∷ text
join_more byte [] text some = absurd (omega arith)
join_more byte (first ∷ []) text some = refl
join_more byte (first ∷ second ∷ texts) text some =
    ap (λ (rest : List ℕ). first ++ byte ∷ rest) (join_more byte (second ∷ texts) text (omega arith))
    ∙ sym (append_assoc first (byte ∷ join_with_byte byte (second ∷ texts)) (byte ∷ text))

-- a text between others
pub join_around : (byte : ℕ) (above : List (List ℕ)) (text : List ℕ) (below : List (List ℕ))
    → join_with_byte byte (above ++ text ∷ below) ≡ joined_before byte above ++ (text ++ joined_behind byte below)
join_around byte [] text [] = sym (append-nil text)
join_around byte [] text (next ∷ below) = refl
join_around byte (first ∷ []) text below =
    ap (λ (rest : List ℕ). first ++ byte ∷ rest) (join_around byte [] text below)
    ∙ sym (append_assoc first (byte ∷ []) (text ++ joined_behind byte below))
join_around byte (first ∷ second ∷ above) text below =
    ap (λ (rest : List ℕ). first ++ byte ∷ rest) (join_around byte (second ∷ above) text below)
    ∙ ap (λ (rest : List ℕ). first ++ byte ∷ rest)
    (append_assoc (join_with_byte byte (second ∷ above)) (byte ∷ []) (text ++ joined_behind byte below))
    ∙ sym (append_assoc first (byte ∷ join_with_byte byte (second ∷ above)) (byte ∷ (text ++ joined_behind byte below)))
    ∙ sym (append_assoc (first ++ byte ∷ join_with_byte byte (second ∷ above)) (byte ∷ []) (text ++ joined_behind byte below))

pub joined_all : (byte : ℕ) (out : List ℕ) (above : List (List ℕ)) (text : List ℕ) (below : List (List ℕ))
    → ((out ++ joined_before byte above) ++ text) ++ joined_behind byte below ≡ out ++ join_with_byte byte (above ++ text ∷ below)
joined_all byte out above text below =
    append_assoc (out ++ joined_before byte above) text (joined_behind byte below)
    ∙ append_assoc out (joined_before byte above) (text ++ joined_behind byte below)
    ∙ ap (λ (rest : List ℕ). out ++ rest) (sym (join_around byte above text below))

pub drop_min : {X : Type 0} (n : ℕ) (xs : List X) → drop (min n (length xs)) xs ≡ drop n xs
drop_min n xs =
    elim (cases_lt n (length xs)) [
      | inl less ↦ let e : min n (length xs) ≡ n = omega arith in rw e refl
      | inr past ↦ let e : min n (length xs) ≡ length xs = omega arith in
          rw e (drop_of_length-le xs (omega arith) ∙ sym (drop_of_length-le xs past))
    ]
