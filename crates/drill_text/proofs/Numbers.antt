-- Numbers below another, and sums over the classes of a list.
use Rattle.std.proofs.Common.{
  ◌≡◌,
  ℕ,
  zero,
  suc,
  ◌+◌,
  ◌<◌,
  ◌≤◌,
  Bool,
  true,
  false,
  cond,
  List,
  [],
  ◌∷◌,
  ◌++◌,
  inl,
  inr,
  refl,
  sym,
  ap,
  ◌∙◌,
  arith,
}
use Rattle.std.specs.Prelude.{filter, sum_by, ◌==◌, map}
use Rattle.std.specs.List.{AllByRecursion, range_with_len}
use Rattle.std.proofs.lemmas.Bool.{cases_order, eq-eqb, ne_eqb}
use Rattle.std.proofs.lemmas.List.Sums.{sum_by-cons}

-- ---- ranges

-- one number more
range_more : (a n j : ℕ) → a + n ≡ j → range_with_len a (suc n) ≡ range_with_len a n ++ j ∷ []
range_more a zero j e = let same : a ≡ j = omega (arith, e) in ap (λ (x : ℕ). x ∷ []) same
range_more a (suc n) j e = ap (λ (xs : List ℕ). a ∷ xs) (range_more (a + 1) n j (omega (arith, e)))

pub below_more : (n : ℕ) → range_with_len 0 (n + 1) ≡ range_with_len 0 n ++ n ∷ []
below_more n = let more : n + 1 ≡ suc n = omega arith in ap (range_with_len 0) more ∙ range_more 0 n n (omega arith)

-- each is below their end
range_within : (a n end : ℕ) → a + n ≤ end → AllByRecursion (λ x. x < end) (range_with_len a n)
range_within a zero end within = tt
range_within a (suc n) end within = (omega (arith, within), range_within (a + 1) n end (omega (arith, within)))

pub below_within : (n : ℕ) → AllByRecursion (λ x. x < n) (range_with_len 0 n)
below_within n = range_within 0 n n (omega arith)

-- ---- sums over the numbers below another

abbrev pub sum_up : ℕ → (ℕ → ℕ) → ℕ
sum_up zero g = 0
sum_up (suc n) g = sum_up n g + g n

pub same_up : (n : ℕ) (g h : ℕ → ℕ) → ((w : ℕ) → w < n → g w ≡ h w) → sum_up n g ≡ sum_up n h
same_up zero g h same = refl
same_up (suc n) g h same =
    let before : sum_up n g ≡ sum_up n h = same_up n g h (λ w within. same w (omega (arith, within))) in
    let here : g n ≡ h n = same n (omega arith) in
    omega (arith, before, here)

none_up : (n : ℕ) → sum_up n (λ _. 0) ≡ 0
none_up zero = refl
none_up (suc n) = omega (arith, none_up n)

both_up : (n : ℕ) (g h : ℕ → ℕ) → sum_up n (λ w. g w + h w) ≡ sum_up n g + sum_up n h
both_up zero g h = refl
both_up (suc n) g h = omega (arith, both_up n g h)

-- a value counted at one number alone
before_up : (n c v : ℕ) → n ≤ c → sum_up n (λ w. cond (c == w) v 0) ≡ 0
before_up zero c v low = refl
before_up (suc n) c v low =
    let other : (c == n) ≡ false = ne_eqb c n (λ is. omega (arith, is, low)) in
    let here : cond (c == n) v 0 ≡ 0 = ap (λ b. cond b v 0) other in
    omega (arith, here, before_up n c v (omega (arith, low)))

one_up : (n c v : ℕ) → c < n → sum_up n (λ w. cond (c == w) v 0) ≡ v
one_up zero c v within = absurd (omega (arith, within))
one_up (suc n) c v within =
    elim (cases_order c n) [
      | inl same ↦
          let here : cond (c == n) v 0 ≡ v = ap (λ b. cond b v 0) (eq-eqb c n same) in
          omega (arith, here, before_up n c v (omega (arith, same)))
      | inr apart ↦ elim apart [
        | inl less ↦
            let here : cond (c == n) v 0 ≡ 0 = ap (λ b. cond b v 0) (ne_eqb c n (λ is. omega (arith, is, less))) in
            omega (arith, here, one_up n c v less)
        | inr more ↦ absurd (omega (arith, within, more))
      ]
    ]

-- ---- sums over the classes of a list

filter_sum : {A : Type 0} (p : A → Bool) (f : A → ℕ) (x : A) (xs : List A)
    → sum_by f (filter p (x ∷ xs)) ≡ cond (p x) (f x) 0 + sum_by f (filter p xs)
filter_sum {A} p f x xs = chosen (p x)
  where
    chosen : (b : Bool) → sum_by f (cond b (x ∷ filter p xs) (filter p xs)) ≡ cond b (f x) 0 + sum_by f (filter p xs)
    chosen true = sum_by-cons f x (filter p xs)
    chosen false = omega arith

-- the sum over what passes a test
pub sum_by-filter : {A : Type 0} (p : A → Bool) (f : A → ℕ) (xs : List A)
    → sum_by f (filter p xs) ≡ sum_by (λ x. cond (p x) (f x) 0) xs
sum_by-filter p f [] = refl
sum_by-filter {A} p f (x ∷ xs) =
    filter_sum p f x xs
    ∙ ap (λ (n : ℕ). cond (p x) (f x) 0 + n) (sum_by-filter p f xs)
    ∙ sym (sum_by-cons (λ (y : A). cond (p y) (f y) 0) x xs)

-- a sum over a list is the sum of those over its classes
pub by_class : {A : Type 0} (class : A → ℕ) (f : A → ℕ) (n : ℕ) (xs : List A) → AllByRecursion (λ x. class x < n) xs
    → sum_up n (λ w. sum_by f (filter (λ x. class x == w) xs)) ≡ sum_by f xs
by_class class f n [] within = none_up n
by_class {A} class f n (x ∷ xs) within =
    same_up n (λ w. sum_by f (filter (λ (y : A). class y == w) (x ∷ xs)))
    (λ w. cond (class x == w) (f x) 0 + sum_by f (filter (λ (y : A). class y == w) xs))
    (λ w _. filter_sum (λ (y : A). class y == w) f x xs)
    ∙ both_up n (λ w. cond (class x == w) (f x) 0) (λ w. sum_by f (filter (λ (y : A). class y == w) xs))
    ∙ ap (λ (a : ℕ). a + sum_up n (λ w. sum_by f (filter (λ (y : A). class y == w) xs))) (one_up n (class x) (f x) within.0)
    ∙ ap (λ (b : ℕ). f x + b) (by_class class f n xs within.1)
    ∙ sym (sum_by-cons f x xs)

-- the sum over a list's image
pub sum_by-map : {A B : Type 0} (g : A → B) (f : B → ℕ) (xs : List A) → sum_by f (map g xs) ≡ sum_by (λ x. f (g x)) xs
sum_by-map g f [] = refl
sum_by-map {A} g f (x ∷ xs) =
    sum_by-cons f (g x) (map g xs)
    ∙ ap (λ (n : ℕ). f (g x) + n) (sum_by-map g f xs)
    ∙ sym (sum_by-cons (λ (y : A). f (g y)) x xs)

-- terms that are the same at each element
pub same_sum : {A : Type 0} (f g : A → ℕ) (xs : List A) → ((x : A) → f x ≡ g x) → sum_by f xs ≡ sum_by g xs
same_sum f g xs same = λ i. sum_by (λ x. same x i) xs

pub zero_sum : {A : Type 0} (xs : List A) → sum_by (λ _. 0) xs ≡ 0
zero_sum [] = refl
zero_sum {A} (x ∷ xs) = omega (arith, sum_by-cons (λ (_ : A). 0) x xs, zero_sum xs)
