-- The laws of sets by their members.
use Rattle.std.proofs.Common.{◌≡◌, ℕ, ◌<◌, Bool, false, not, ◌&&◌, ◌||◌, List, refl, sym, ap, ◌∙◌, arith, ◌⊎◌, inl, inr, ◌↔◌}
use Rattle.std.specs.Bool.{Decides, IsTrue}
use Rattle.std.specs.List.{Contains}
use Rattle.std.proofs.lemmas.Bool.{cases_lt, false≢true}
use Rattle.std.proofs.lemmas.Bool.Decides.{same_from_decides, Decides-like, Decides-and, Decides-or, Decides-not}
use Rattle.cpu_set.specs.Sets.{has, numbers_where, IsSet}
use Rattle.cpu_set.specs.SetLaws.{has-numbers_below, has-numbers_below_past, IsSet-numbers_where, same_set, Decides-has, has-past}
use Rattle.cpu_set.specs.Laws.{HasJust, SameByMembers, CombinesSets}

numbers-HasJust : (test : ℕ → Bool) (n : ℕ) → Contains (numbers_where test) n ↔ ((n < 4096) × IsTrue (test n))
numbers-HasJust test n = elim (cases_lt n 4096) [
  | inl below ↦
      let same = has-numbers_below 4096 test n below in
      let decides = Decides-has (numbers_where test) n in
      (λ found. (below, sym same ∙ decides.1 found), λ both. decides.0 (same ∙ both.1))
  | inr past ↦
      let none = has-numbers_below_past 4096 test n past in
      let decides = Decides-has (numbers_where test) n in
      (λ found. absurd (false≢true (sym none ∙ decides.1 found)), λ both. absurd (omega (arith, both.0)))
]

pub HasJust-all : (test : ℕ → Bool) → HasJust test
HasJust-all test = record { set = IsSet-numbers_where test; members = numbers-HasJust test }

pub SameByMembers-all : (one other : List ℕ) → SameByMembers one other
SameByMembers-all one other one_set other_set agree = same_set one other one_set other_set (λ n below.
    same_from_decides (has one n) (has other n) (Decides-has one n)
    (Decides-like (has other n) (agree n).1 (agree n).0 (Decides-has other n)))

-- a set made of two, by a test of what each has
module _ (one other : List ℕ) (one_set : IsSet one) (other_set : IsSet other) where
  combined : (test : Bool → Bool → Bool) → test false false ≡ false → (n : ℕ)
      → has (numbers_where (λ m. test (has one m) (has other m))) n ≡ test (has one n) (has other n)
  combined test none n = elim (cases_lt n 4096) [
    | inl below ↦ has-numbers_below 4096 (λ m. test (has one m) (has other m)) n below
    | inr past ↦ has-numbers_below_past 4096 (λ m. test (has one m) (has other m)) n past
        ∙ sym (ap (λ t. test t (has other n)) (has-past one n one_set past) ∙ ap (λ t. test false t) (has-past other n other_set past)
        ∙ none)
  ]

  members : (test : Bool → Bool → Bool) (Kept : Type 0) (n : ℕ) → test false false ≡ false → Decides (test (has one n) (has other n)) Kept
      → Contains (numbers_where (λ m. test (has one m) (has other m))) n ↔ Kept
  members test Kept n none decides =
      let same = combined test none n in
      let here = Decides-has (numbers_where (λ m. test (has one m) (has other m))) n in
      (λ found. decides.0 (sym same ∙ here.1 found), λ kept. here.0 (same ∙ decides.1 kept))

  pub CombinesSets-all : CombinesSets one other
  CombinesSets-all = record {
    union =
        λ n. members (λ a b. a || b) (Contains one n ⊎ Contains other n) n refl
        (Decides-or (has one n) (has other n) (Decides-has one n) (Decides-has other n));
    minus = λ n. members (λ a b. a && not b) (Contains one n × ¬ (Contains other n)) n refl
        (Decides-and (has one n) (not (has other n)) (Decides-has one n) (Decides-not (has other n) (Decides-has other n)));
    meet =
        λ n. members (λ a b. a && b) (Contains one n × Contains other n) n refl
        (Decides-and (has one n) (has other n) (Decides-has one n) (Decides-has other n));
    xor =
        λ n. members (λ a b. (a && not b) || (b && not a))
        ((Contains one n × ¬ (Contains other n)) ⊎ (Contains other n × ¬ (Contains one n))) n refl
        (Decides-or (has one n && not (has other n)) (has other n && not (has one n))
        (Decides-and (has one n) (not (has other n)) (Decides-has one n) (Decides-not (has other n) (Decides-has other n)))
        (Decides-and (has other n) (not (has one n)) (Decides-has other n) (Decides-not (has one n) (Decides-has one n))));
  }
