-- How many bytes and commands sections have.
use Rattle.std.proofs.Common.{◌≡◌, ℕ, zero, suc, ◌+◌, List, [], ◌∷◌, ◌++◌, length, map, take, refl, ap, ◌∙◌, arith, Some}
use Rattle.std.specs.Prelude.{option_map, slice_get}
use Rattle.std.specs.List.{sum_by}
use Rattle.std.specs.Borrow.{Bor}
use Rattle.std.proofs.lemmas.List.Sums.{sum_by-cons}
use Rattle.run_texts.specs.declared.section.Section.{Section}

-- the bytes of lent texts
pub sum_texts : (texts : List (Bor (List ℕ)))
    → sum_by (λ (one : Bor (List ℕ)). length one.now) texts ≡ sum_by (λ (one : List ℕ). length one) (map (λ one. one.now) texts)
sum_texts [] = refl
sum_texts (text ∷ texts) =
    omega (
      arith,
      sum_texts texts,
      sum_by-cons (λ (one : Bor (List ℕ)). length one.now) text texts,
      sum_by-cons (λ (one : List ℕ). length one) text.now (map (λ one. one.now) texts),
    )

-- and those of sections
pub sum_sections : (sections : List Section)
    → sum_by (λ (section : Section). length section.bytes.now) sections
    ≡ sum_by (λ (one : List ℕ). length one) (map (λ section. section.bytes.now) sections)
sum_sections [] = refl
sum_sections (section ∷ sections) =
    omega (
      arith,
      sum_sections sections,
      sum_by-cons (λ (one : Section). length one.bytes.now) section sections,
      sum_by-cons (λ (one : List ℕ). length one) section.bytes.now (map (λ one. one.bytes.now) sections),
    )

-- one item more of a list, by what is read off it
pub one_read : {A B : Type 0} (f : A → B) (xs : List A) (k : ℕ) (b : B) → option_map f (slice_get xs k) ≡ Some b
    → map f (take (k + 1) xs) ≡ map f (take k xs) ++ b ∷ []
one_read f [] k b e = absurd (cc)
one_read f (x ∷ xs) zero b e = let same : f x ≡ b = cc in ap (λ y. y ∷ []) same
one_read f (x ∷ xs) (suc k) b e =
    let one : suc k + 1 ≡ suc (k + 1) = omega arith in
    ap (λ n. map f (take n (x ∷ xs))) one ∙ ap (λ l. f x ∷ l) (one_read f xs k b e)
