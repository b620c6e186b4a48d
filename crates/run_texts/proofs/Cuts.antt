-- A text has one cut at a byte.
use Rattle.std.proofs.Common.{◌≡◌, ℕ, List, Option, Some, refl, ap}
use Rattle.byte_text.specs.Cuts.{IsCutAt}
use Rattle.byte_text.proofs.CutLaws.{cut-from_IsCutAt}

same_pair : {A B : Type 0} (a c : A) (b d : B) (p q : Option (A × B)) → p ≡ Some (a, b) → q ≡ Some (c, d) → p ≡ q → (a ≡ c) × (b ≡ d)
same_pair {A} {B} a c b d p q first second same =
    let x : A × B = (a, b) in
    let y : A × B = (c, d) in
    let pairs : x ≡ y = cc in
    (ap (λ (r : A × B). r.0) pairs, ap (λ (r : A × B). r.1) pairs)

pub one_cut : (byte : ℕ) (text xs ys before behind : List ℕ) → IsCutAt byte text xs ys → IsCutAt byte text before behind
    → (xs ≡ before) × (ys ≡ behind)
one_cut byte text xs ys before behind first second =
    same_pair xs before ys behind _ _ (cut-from_IsCutAt byte text xs ys first) (cut-from_IsCutAt byte text before behind second) refl
