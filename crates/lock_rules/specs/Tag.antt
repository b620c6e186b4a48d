-- Tags and names: plain data of one type, a tree of numbers. A list of trees is a chain of forks that ends in a leaf.
use Rattle.std.specs.Prelude.{◌≡◌, ℕ, List, [], ◌∷◌, ◌++◌}
use Rattle.std.proofs.Common.{sym, ◌∙◌, ap, append_assoc}
use base.Stored.{Coded, coded_ℕ, coded_list, coded_via}

pub data Tag : Type 0 where
  leaf : ℕ → Tag
  fork : Tag → Tag → Tag

-- a tree written down as numbers, in the order of its parts
abbrev pub written : Tag → List ℕ
written (leaf n) = 0 ∷ n ∷ []
written (fork a b) = 1 ∷ (written a ++ written b)

-- a tree is told by what is written, whatever follows
pub written-begins : (a b : Tag) (r s : List ℕ) → written a ++ r ≡ written b ++ s → (a ≡ b) × (r ≡ s)
written-begins (leaf n) (leaf m) r s e = (ap leaf cc, cc)
written-begins (leaf n) (fork c d) r s e = absurd (cc)
written-begins (fork a b) (leaf m) r s e = absurd (cc)
written-begins (fork a b) (fork c d) r s e =
    let e' : (written a ++ written b) ++ r ≡ (written c ++ written d) ++ s = cc in
    let e'' : written a ++ (written b ++ r) ≡ written c ++ (written d ++ s) = sym (append_assoc (written a) (written b) r) ∙ e'
    ∙ append_assoc (written c) (written d) s in
    let left = written-begins a c (written b ++ r) (written d ++ s) e'' in
    let right = written-begins b d r s left.1 in
    (λ i. fork (left.0 i) (right.0 i), right.1)

pub written-tells : (a b : Tag) → written a ≡ written b → a ≡ b
written-tells a b e = (written-begins a b [] [] (ap (λ (w : List ℕ). w ++ []) e)).0

abbrev pub tag_code : Coded Tag
tag_code = coded_via (coded_list coded_ℕ) written written-tells
