-- Beginnings of lists.
use Rattle.std.proofs.Common.{◌≡◌, ℕ, ◌⊎◌, inl, inr, Bool, true, false, cond, List, [], ◌∷◌, ◌++◌, length, get_or}
use Rattle.std.proofs.Common.{nat_lt, refl, ap, sym, ◌∙◌, ⊎_elim}
use Rattle.std.specs.Prelude.{All}
use Rattle.std.proofs.lemmas.List.{append-nil, append_assoc}
use Rattle.fresh_root.specs.Prefixes.{IsPrefixOf}
use Rattle.fresh_root.specs.Views.{longer, shorter}

pub none_prefix : (all : List ℕ) → IsPrefixOf [] all
none_prefix all = record { behind = all; all_are = refl }

pub whole_prefix : (all : List ℕ) → IsPrefixOf all all
whole_prefix all = record { behind = []; all_are = sym (append-nil all) }

-- a longer history begins so too
pub still_prefix : (xs all more : List ℕ) → IsPrefixOf xs all → IsPrefixOf xs (all ++ more)
still_prefix xs all more is = record {
  behind = is.behind ++ more;
  all_are = ap (λ (l : List ℕ). l ++ more) is.all_are ∙ append_assoc xs is.behind more;
}

pub all_still : (xss : List (List ℕ)) (all more : List ℕ) → All (λ xs. IsPrefixOf xs all) xss → All (λ xs. IsPrefixOf xs (all ++ more)) xss
all_still xss all more are = λ i d h. still_prefix (get_or xss i d) all more (are i d h)

-- what holds of both lists holds of the longer and of the shorter
of_one : (P : List ℕ → Type 0) (b : Bool) (xs ys : List ℕ) → P xs → P ys → P (cond b xs ys)
of_one P true xs ys p q = p
of_one P false xs ys p q = q

pub longer_prefix : (xs ys all : List ℕ) → IsPrefixOf xs all → IsPrefixOf ys all → IsPrefixOf (longer xs ys) all
longer_prefix xs ys all p q = of_one (λ l. IsPrefixOf l all) (nat_lt (length ys) (length xs)) xs ys p q

pub shorter_prefix : (xs ys all : List ℕ) → IsPrefixOf xs all → IsPrefixOf ys all → IsPrefixOf (shorter xs ys) all
shorter_prefix xs ys all p q = of_one (λ l. IsPrefixOf l all) (nat_lt (length ys) (length xs)) ys xs q p

-- of two beginnings of one list one begins the other
pub ordered : (xs ys all : List ℕ) → IsPrefixOf xs all → IsPrefixOf ys all → IsPrefixOf xs ys ⊎ IsPrefixOf ys xs
ordered [] ys all p q = inl (none_prefix ys)
ordered (x ∷ xs) [] all p q = inr (none_prefix (x ∷ xs))
ordered (x ∷ xs) (y ∷ ys) [] p q = let e : [] ≡ x ∷ (xs ++ p.behind) = p.all_are in absurd (cc)
ordered (x ∷ xs) (y ∷ ys) (z ∷ zs) p q =
    let e : z ∷ zs ≡ x ∷ (xs ++ p.behind) = p.all_are in
    let f : z ∷ zs ≡ y ∷ (ys ++ q.behind) = q.all_are in
    let same : x ≡ y = cc in
    let p' : IsPrefixOf xs zs = record { behind = p.behind; all_are = cc } in
    let q' : IsPrefixOf ys zs = record { behind = q.behind; all_are = cc } in
    ⊎_elim
    (λ (r : IsPrefixOf xs ys). inl (record { behind = r.behind; all_are = λ i. sym same i ∷ r.all_are i }))
    (λ (r : IsPrefixOf ys xs). inr (record { behind = r.behind; all_are = λ i. same i ∷ r.all_are i }))
    (ordered xs ys zs p' q')
