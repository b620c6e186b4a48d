-- Numbers and the set of them: both pass the same tests against another set.
use Rattle.std.proofs.Common.{◌≡◌, ℕ, ◌<◌, ◌↔◌, Bool, true, List, [], ◌∷◌, length, IsTrue, refl, ap, ◌∙◌, subst, inl, inr, ◌==◌, arith}
use Rattle.std.specs.List.{All, Contains, list_any}
use Rattle.std.proofs.lemmas.Bool.{eq-eqb, false≢true, or_left, or_right, or_cases}
use Rattle.std.proofs.lemmas.List.{take_all}
use Rattle.cpu_set.specs.Sets.{has, numbers_where}
use Rattle.cpu_set.specs.SetLaws.{has-numbers_below, Decides-has}
use Rattle.cpu_set.specs.Tests.{meets, is_inside}
use Rattle.cpu_set.proofs.TestLaws.{same_tests, passes-has, inside-at, inside-by, meets-by}
use Rattle.topo_tree.proofs.CoverLaws.{has_take}

-- what `has` of a set answers
pub has_found : (set : List ℕ) (number : ℕ) (found : Bool) → IsTrue found ↔ Contains set number → found ≡ has set number
has_found set number found tells =
    same_tests found (has set number) (λ yes. (Decides-has set number).1 (tells.0 yes))
    (λ yes. tells.1 ((Decides-has set number).0 yes))

low : (numbers : List ℕ) (n : ℕ) → All (λ number. number < 4096) numbers → has numbers n ≡ true → n < 4096
low numbers n below found =
    let at = has_take numbers (length numbers) n (ap (λ ns. has ns n) (take_all (length numbers) numbers (omega arith)) ∙ found) in
    subst (λ k. k < 4096) at.3 (below at.0 0 at.2)

-- a number that is in both
both : (numbers set : List ℕ) → list_any (has set) numbers ≡ true → (n : ℕ) × (has numbers n ≡ true) × (has set n ≡ true)
both [] set some = absurd (false≢true some)
both (x ∷ xs) set some =
    elim (or_cases (has set x) (list_any (has set) xs) some) [
      | inl here ↦ (x, or_left (x == x) (has xs x) (eq-eqb x x refl), here)
      | inr later ↦ let at = both xs set later in (at.0, or_right (x == at.0) (has xs at.0) at.1, at.2)
    ]

pub meets-numbers : (numbers set : List ℕ) → All (λ number. number < 4096) numbers
    → meets numbers set ≡ meets (numbers_where (has numbers)) set
unfolding meets
meets-numbers numbers set below =
    same_tests (meets numbers set) (meets (numbers_where (has numbers)) set)
    (λ some. let at = both numbers set some in
    meets-by (numbers_where (has numbers)) set at.0
    (has-numbers_below 4096 (has numbers) at.0 (low numbers at.0 below at.1) ∙ at.1) at.2)
    (λ some. let at = both (numbers_where (has numbers)) set some in
    meets-by numbers set at.0 (passes-has (has numbers) at.0 at.1).1 at.2)

pub inside-numbers : (numbers set : List ℕ) → All (λ number. number < 4096) numbers
    → is_inside numbers set ≡ is_inside (numbers_where (has numbers)) set
inside-numbers numbers set below =
    same_tests (is_inside numbers set) (is_inside (numbers_where (has numbers)) set)
    (λ all. inside-by (numbers_where (has numbers)) set (λ n found. inside-at numbers set n all (passes-has (has numbers) n found).1))
    (λ all. inside-by numbers set (λ n found. inside-at (numbers_where (has numbers)) set n all
    (has-numbers_below 4096 (has numbers) n (low numbers n below found) ∙ found)))
