-- Sets collected one number after another.
use Rattle.std.proofs.Common.{◌≡◌, ℕ, zero, suc, ◌+◌, ◌-◌, ◌<◌, ◌≤◌, Bool, true, false, ◌||◌, ◌==◌, List, [], ◌∷◌, lit<, refl, sym, ap, ◌∙◌}
use Rattle.std.proofs.Common.{arith}
use Rattle.std.proofs.Common.{◌↔◌}
use Rattle.std.specs.Prelude.{IsTrue}
use Rattle.std.specs.List.{range_with_len, list_any, Contains}
use Rattle.std.proofs.lemmas.Bool.{false_from_ne_true, false≢true}
use Rattle.std.proofs.lemmas.List.Elements.{All-cons, All-nil}
use Rattle.cpu_set.specs.Sets.{IsSet, has, numbers_where, union}
use Rattle.cpu_set.specs.SetLaws.{has-numbers_below, numbers_below-same, numbers_where-has, Decides-has}
use Rattle.calc_query.proofs.Ranges.{any_more}

or_none : (b : Bool) → (b || false) ≡ b
or_none true = refl
or_none false = refl

-- what a test of membership answered, as `has` says it
pub has_yes : (set : List ℕ) (n : ℕ) (found : Bool) → IsTrue found ↔ Contains set n → found ≡ true → has set n ≡ true
has_yes set n found tells yes_a = (Decides-has set n).1 (tells.0 yes_a)

pub has_no : (set : List ℕ) (n : ℕ) (found : Bool) → IsTrue found ↔ Contains set n → found ≡ false → has set n ≡ false
has_no set n found tells no_a = false_from_ne_true (has set n) (λ is. absurd (false≢true (sym no_a ∙ tells.1 ((Decides-has set n).0 is))))

empty_is_set : IsSet []
empty_is_set = record { ascending = λ k within. absurd (omega arith); below = All-nil (λ n. n < 4096) }

zero_is_set : IsSet (0 ∷ [])
zero_is_set = record {
  ascending = λ k within. absurd (omega arith);
  below =
      All-cons (λ n. n < 4096) 0 [] (lit< tt) (All-nil (λ n. n < 4096));
}

-- Machine alone
pub machine_alone : union [] (0 ∷ []) ≡ 0 ∷ []
machine_alone = numbers_where-has (0 ∷ []) zero_is_set

module _ (test : ℕ → ℕ → Bool) where
  -- the numbers that pass at one of the first places
  abbrev pub collected : ℕ → List ℕ
  collected places = numbers_where (λ n. list_any (test n) (range_with_len 0 places))

  pub collect_none : [] ≡ collected 0
  collect_none = sym (numbers_where-has [] empty_is_set)

  pub collect_more : (set other : List ℕ) (place : ℕ) → set ≡ collected place → ((n : ℕ) → n < 4096 → has other n ≡ test n place)
      → union set other ≡ collected (place + 1)
  collect_more set other place so_far here =
      ap (λ s. union s other) so_far
      ∙ numbers_below-same 4096 (λ n. has (collected place) n || has other n) (λ n. list_any (test n) (range_with_len 0 (place + 1)))
      (λ n below.
      ap (λ b. b || has other n) (has-numbers_below 4096 (λ m. list_any (test m) (range_with_len 0 place)) n below)
      ∙ ap (λ b. list_any (test n) (range_with_len 0 place) || b) (here n below) ∙ sym (any_more (test n) place))

  pub collect_same : (set : List ℕ) (place : ℕ) → set ≡ collected place → ((n : ℕ) → n < 4096 → test n place ≡ false)
      → set ≡ collected (place + 1)
  collect_same set place so_far none =
      so_far
      ∙ numbers_below-same 4096 (λ n. list_any (test n) (range_with_len 0 place)) (λ n. list_any (test n) (range_with_len 0 (place + 1)))
      (λ n below. sym (any_more (test n) place ∙ ap (λ b. list_any (test n) (range_with_len 0 place) || b) (none n below)
      ∙ or_none (list_any (test n) (range_with_len 0 place))))

  -- places at which nothing passes add nothing
  pub collect_past : (from gap : ℕ) → ((place n : ℕ) → from ≤ place → place < from + gap → n < 4096 → test n place ≡ false)
      → collected from ≡ collected (from + gap)
  collect_past from zero none = ap collected (let e : from ≡ from + 0 = omega arith in e)
  collect_past from (suc gap) none =
      collect_same (collected from) (from + gap)
      (collect_past from gap (λ place n on low below. none place n on (omega arith) below))
      (λ n below. none (from + gap) n (omega arith) (omega arith) below)
      ∙ ap collected (let e : from + gap + 1 ≡ from + suc gap = omega arith in e)

  pub collect_up : (from to : ℕ) → from ≤ to → ((place n : ℕ) → from ≤ place → place < to → n < 4096 → test n place ≡ false)
      → collected from ≡ collected to
  collect_up from to up none =
      collect_past from (to - from) (λ place n on low below. none place n on (omega arith) below)
      ∙ ap collected (let e : from + (to - from) ≡ to = omega arith in e)

-- one number passes where it is the one
pub has_one : (one n : ℕ) → has (one ∷ []) n ≡ (one == n)
has_one one n = or_none (one == n)
