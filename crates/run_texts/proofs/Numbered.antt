-- Lists whose elements are numbered from 0, one element more.
use Rattle.std.proofs.Common.{◌≡◌, ℕ, zero, suc, ◌+◌, ◌<◌, ◌≤◌, List, [], ◌∷◌, ◌++◌, length, map, get_or, take, refl, sym, ap, ◌∙◌, arith}
use Rattle.std.specs.List.{flat_map, enumerate_from}
use Rattle.std.proofs.lemmas.List.{map-append, take_more, length-take-le, length-map, append-nil}
use Rattle.std.proofs.lemmas.Grind.{flat_map-append}

-- the elements so far, and one more
pub views_more : {A B : Type 0} (view : A → B) (xs : List A) (place : ℕ) (x d : A) → place < length xs → x ≡ get_or xs place d
    → map view (take (place + 1) xs) ≡ map view (take place xs) ++ view x ∷ []
views_more view xs place x d within is =
    ap (map view) (take_more xs place d within)
    ∙ map-append view (take place xs) (get_or xs place d ∷ [])
    ∙ ap (λ y. map view (take place xs) ++ (view y ∷ [])) (sym is)

pub enumerate_push : {A : Type 0} (n : ℕ) (xs : List A) (x : A)
    → enumerate_from n (xs ++ x ∷ []) ≡ enumerate_from n xs ++ (n + length xs, x) ∷ []
enumerate_push n [] x = let same : n ≡ n + 0 = omega arith in ap (λ k. (k, x) ∷ []) same
enumerate_push n (first ∷ xs) x =
    let same : (n + 1) + length xs ≡ n + length (first ∷ xs) = omega arith in
    ap (λ rest. (n, first) ∷ rest) (enumerate_push (n + 1) xs x ∙ ap (λ k. enumerate_from (n + 1) xs ++ ((k, x) ∷ [])) same)

-- how many elements there are so far
size_so_far : {A B : Type 0} (view : A → B) (xs : List A) (place : ℕ) → place < length xs → 0 + length (map view (take place xs)) ≡ place
size_so_far view xs place within = omega (arith, length-map (take place xs) view, length-take-le place xs (omega arith))

numbers_more : {A B : Type 0} (view : A → B) (xs : List A) (place : ℕ) (x d : A) → place < length xs → x ≡ get_or xs place d
    → enumerate_from 0 (map view (take (place + 1) xs)) ≡ enumerate_from 0 (map view (take place xs)) ++ (place, view x) ∷ []
numbers_more view xs place x d within is =
    ap (enumerate_from 0) (views_more view xs place x d within is)
    ∙ enumerate_push 0 (map view (take place xs)) (view x)
    ∙ ap (λ k. enumerate_from 0 (map view (take place xs)) ++ ((k, view x) ∷ [])) (size_so_far view xs place within)

-- what is made of each element and its number
pub mapped_more : {A B C : Type 0} (view : A → B) (f : ℕ × B → C) (xs : List A) (place : ℕ) (x d : A) → place < length xs
    → x ≡ get_or xs place d
    → map f (enumerate_from 0 (map view (take (place + 1) xs)))
    ≡ map f (enumerate_from 0 (map view (take place xs))) ++ f (place, view x) ∷ []
mapped_more view f xs place x d within is =
    ap (map f) (numbers_more view xs place x d within is)
    ∙ map-append f (enumerate_from 0 (map view (take place xs))) ((place, view x) ∷ [])

-- and the lists that are made so
pub joined_more : {A B C : Type 0} (view : A → B) (f : ℕ × B → List C) (xs : List A) (place : ℕ) (x d : A) → place < length xs
    → x ≡ get_or xs place d
    → flat_map f (enumerate_from 0 (map view (take (place + 1) xs)))
    ≡ flat_map f (enumerate_from 0 (map view (take place xs))) ++ f (place, view x)
joined_more view f xs place x d within is =
    let so_far = enumerate_from 0 (map view (take place xs)) in
    ap (flat_map f) (numbers_more view xs place x d within is)
    ∙ flat_map-append f so_far ((place, view x) ∷ [])
    ∙ ap (λ last. flat_map f so_far ++ last) (append-nil (f (place, view x)))

-- all elements
pub take_all : {A : Type 0} (xs : List A) (n : ℕ) → length xs ≤ n → take n xs ≡ xs
take_all [] zero all = refl
take_all [] (suc n) all = refl
take_all (x ∷ xs) zero all = absurd (omega arith)
take_all (x ∷ xs) (suc n) all = ap (λ rest. x ∷ rest) (take_all xs n (omega arith))
