-- The numbers of a set, found one after another.
use Rattle.std.proofs.Common.{◌≡◌, ℕ, ◌+◌, ◌<◌, ◌≤◌, Bool, true, false, ◌&&◌, nat_le, List, [], ◌∷◌, refl, sym, ap, ◌∙◌, arith}
use Rattle.std.proofs.lemmas.Bool.{and_right, le-leb, lt-leb}
use Rattle.cpu_set.specs.Sets.{has}
use Rattle.cpu_set.specs.Texts.{numbers_from}
use Rattle.cpu_set.specs.SetLaws.{has-filter, has_first, has_later}

and_yes : (b : Bool) → (b && true) ≡ b
and_yes true = refl
and_yes false = refl

-- a set has from a number on what it has
from_on : (from : ℕ) (set : List ℕ) (index : ℕ) → from ≤ index → has set index ≡ has (numbers_from from set) index
from_on from set index on =
    sym (has-filter (λ n. nat_le from n) set index
    ∙ ap (λ b. has set index && b) (le-leb from index on) ∙ and_yes (has set index))

before : (from : ℕ) (set : List ℕ) (index : ℕ) → index < from → has (numbers_from from set) index ≡ false
before from set index low =
    has-filter (λ n. nat_le from n) set index
    ∙ and_right (has set index) (nat_le from index) (lt-leb from index low)

pub none_found : (from : ℕ) (set : List ℕ) (index : ℕ) → numbers_from from set ≡ [] → from ≤ index → has set index ≡ false
none_found from set index none on = from_on from set index on ∙ ap (λ xs. has xs index) none

pub one_found : (from number : ℕ) (set : List ℕ) → numbers_from from set ≡ number ∷ numbers_from (number + 1) set → from ≤ number
    → has set number ≡ true
one_found from number set is on =
    from_on from set number on ∙ ap (λ xs. has xs number) is ∙ has_first number number (numbers_from (number + 1) set) refl

pub none_before : (from number : ℕ) (set : List ℕ) (index : ℕ) → numbers_from from set ≡ number ∷ numbers_from (number + 1) set
    → from ≤ index → index < number → has set index ≡ false
none_before from number set index is on low =
    from_on from set index on ∙ ap (λ xs. has xs index) is
    ∙ has_later number index (numbers_from (number + 1) set) false (λ same. absurd (omega (arith, same, low)))
    (before (number + 1) set index (omega arith))
