-- Items, joined by a separator one after another.
use Rattle.std.proofs.Common.{◌≡◌, ℕ, ◌+◌, ◌<◌, ◌≤◌, List, [], ◌∷◌, ◌++◌, length, take, get_or, refl, sym, ap, ◌∙◌, append_assoc, arith}
use Rattle.std.proofs.Common.{zero, suc}
use Rattle.std.specs.List.{join_by, flat_map}
use Rattle.std.proofs.lemmas.List.{append-nil, flat_map_more, length-take-le, take_more}
use Rattle.calc_text.specs.Texts.{gap}

pub gap-first : (place : ℕ) (separator : List ℕ) → place ≡ 0 → gap place separator ≡ []
gap-first place separator is = ap (λ p. gap p separator) is

pub gap-later : (place : ℕ) (separator : List ℕ) → 0 < place → gap place separator ≡ separator
gap-later zero separator later = absurd (omega arith)
gap-later (suc place) separator later = refl

module _ {X : Type 0} (f : X → List ℕ) (separator : List ℕ) where
  join_by-push : (xs : List X) (x : X) → (join_by f separator xs ++ gap (length xs) separator) ++ f x ≡ join_by f separator (xs ++ x ∷ [])
  join_by-push [] x = sym (append-nil (f x))
  join_by-push (first ∷ xs) x =
      append_assoc (join_by f separator (first ∷ xs)) separator (f x)
      ∙ flat_map_more (λ y. separator ++ f y) (f first) xs x

  joined-more : (xs : List X) (i : ℕ) (d : X) (before out : List ℕ) → i < length xs
      → out ≡ before ++ join_by f separator (take i xs)
      → (out ++ gap i separator) ++ f (get_or xs i d) ≡ before ++ join_by f separator (take (i + 1) xs)
  joined-more xs i d before out within so_far =
      let x = get_or xs i d in
      let joined = join_by f separator (take i xs) in
      let count : length (take i xs) ≡ i = length-take-le i xs (omega arith) in
      ap (λ text. (text ++ gap i separator) ++ f x) so_far
      ∙ ap (λ text. text ++ f x) (append_assoc before joined (gap i separator))
      ∙ append_assoc before (joined ++ gap i separator) (f x)
      ∙ ap (λ place. before ++ ((joined ++ gap place separator) ++ f x)) (sym count)
      ∙ ap (λ text. before ++ text) (join_by-push (take i xs) x)
      ∙ ap (λ items. before ++ join_by f separator items) (sym (take_more xs i d within))

  -- one item more
  pub joined-step : (xs : List X) (i : ℕ) (d : X) (before out separated new : List ℕ) → i < length xs
      → out ≡ before ++ join_by f separator (take i xs) → separated ≡ out ++ gap i separator → new ≡ separated ++ f (get_or xs i d)
      → new ≡ before ++ join_by f separator (take (i + 1) xs)
  joined-step xs i d before out separated new within so_far gapped pushed =
      pushed ∙ ap (λ text. text ++ f (get_or xs i d)) gapped ∙ joined-more xs i d before out within so_far
