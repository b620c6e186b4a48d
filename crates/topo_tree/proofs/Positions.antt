-- Positions of physical numbers.
use Rattle.std.proofs.Common.{
  ◌≡◌,
  ℕ,
  zero,
  suc,
  ◌<◌,
  Bool,
  true,
  false,
  not,
  ◌||◌,
  ◌==◌,
  cond,
  nat_le,
  List,
  [],
  ◌∷◌,
  length,
  take,
  slice_index,
  Some,
  None,
  refl,
  sym,
  ap,
  subst,
  ◌∙◌,
  arith,
}
use Rattle.std.specs.List.{position, prefix_len}
use Rattle.std.proofs.lemmas.Bool.{false≢true, eq-eqb, leb-false, lt-ltb}
use Rattle.std.proofs.lemmas.List.Sums.{prefix_len_is}
use Rattle.std.proofs.lemmas.List.{get_or-take, length-take-le}
use Rattle.cpu_set.specs.Sets.{has}
use Rattle.topo_tree.specs.Numbers.{is_bad}

-- ---- good numbers

or_none : (a b : Bool) → (a || b) ≡ false → (a ≡ false) × (b ≡ false)
or_none true b none = absurd (false≢true (sym none))
or_none false b none = (refl, none)

pub good_low : (numbers : List ℕ) (place : ℕ) → is_bad numbers place ≡ false → slice_index numbers place < 4096
good_low numbers place good =
    leb-false 4096 (slice_index numbers place)
    (or_none (nat_le 4096 (slice_index numbers place)) (has (take place numbers) (slice_index numbers place)) good).0

pub good_new : (numbers : List ℕ) (place : ℕ) → is_bad numbers place ≡ false → has (take place numbers) (slice_index numbers place) ≡ false
good_new numbers place good =
    (or_none (nat_le 4096 (slice_index numbers place)) (has (take place numbers) (slice_index numbers place)) good).1

-- ---- the position of a number that is good

-- how many numbers stand before the first that is k
abbrev others : ℕ → List ℕ → ℕ
others k xs = prefix_len (λ x. not (x == k)) xs

position-before : (k : ℕ) (xs : List ℕ) → others k xs < length xs → position (λ x. x == k) xs ≡ Some (others k xs)
position-before k xs before = ap (λ b. cond b (Some (others k xs)) None) (lt-ltb (others k xs) (length xs) before)

absent : (xs : List ℕ) (n place : ℕ) → has xs n ≡ false → place < length xs → (slice_index xs place == n) ≡ false
absent [] n place none within = absurd (omega arith)
absent (x ∷ xs) n zero none within = (or_none (x == n) (has xs n) none).0
absent (x ∷ xs) n (suc place) none within = absent xs n place (or_none (x == n) (has xs n) none).1 (omega arith)

pub position-at : (numbers : List ℕ) (place : ℕ) → place < length numbers → is_bad numbers place ≡ false
    → position (λ x. x == slice_index numbers place) numbers ≡ Some place
position-at numbers place within good =
    let n = slice_index numbers place in
    let long : length (take place numbers) ≡ place = length-take-le place numbers (omega arith) in
    let at : others n numbers ≡ place =
    prefix_len_is (λ x. not (x == n)) numbers place 0 (omega arith)
    (λ k before. ap not (ap (λ x. x == n) (sym (get_or-take place numbers k 0 before))
    ∙ absent (take place numbers) n k (good_new numbers place good) (subst (λ m. k < m) (sym long) before)))
    (λ inside. ap not (eq-eqb n n refl)) in
    position-before n numbers (omega (arith, at)) ∙ ap (λ m. Some m) at
