-- Pairs in an option.
use Rattle.std.proofs.Common.{◌≡◌, Option, Some, ap}

-- equal pairs have equal parts
pub some_pair : {A B : Type 0} (a c : A) (b d : B)
    → (let p : Option (A × B) = Some (a, b) in let q : Option (A × B) = Some (c, d) in p ≡ q) → (a ≡ c) × (b ≡ d)
some_pair {A} {B} a c b d is =
    let p : A × B = (a, b) in
    let q : A × B = (c, d) in
    let same : p ≡ q = cc in
    (ap (λ (r : A × B). r.0) same, ap (λ (r : A × B). r.1) same)
