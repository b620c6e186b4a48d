-- What lawful turns imply.
use Rattle.std.proofs.Common.{◌≡◌, ℕ, suc, ◌+◌, ◌<◌, ◌≤◌, Bool, true, false, ◌&&◌, List, [], ◌∷◌, ◌++◌, get_or, slice_index, ◌==◌, nat_lt}
use Rattle.std.proofs.Common.{eq-eqb, refl, ap, sym, ◌∙◌, subst, arith, append_assoc}
use Rattle.std.specs.Prelude.{All}
use Rattle.std.specs.Int.{bit_at}
use Rattle.std.specs.List.{count_by, enumerate_from}
use Rattle.std.proofs.lemmas.List.{append-nil}
use Rattle.std.proofs.lemmas.List.Sums.{sum_by-cons, position_or_len_is}
use Rattle.std.proofs.lemmas.List.Elements.{All-head, All-tail}
use Rattle.std.proofs.lemmas.List.FromFn.{length-enumerate_from, get_or-enumerate_from}
use Rattle.std.proofs.lemmas.Bool.Decides.{nat_tests}
use mathlib.Core.Logic.{dite}
use native.Mathlib.Decide.{dec_le, ℕ_discrete}
use Rattle.keep_local.specs.declared.shape.Shape.{Shape}
use Rattle.keep_local.specs.declared.turn.Turn.{Turn}
use Rattle.keep_local.specs.Shapes.{top_of}
use Rattle.keep_local.specs.Turns.{run, IsDue, IsLeft, Follows, FollowEachOther, IsLawful}
use Rattle.keep_local.specs.Laws.{KeepsAtMost, TurnIsFixed, left_of}
use Rattle.keep_local.proofs.Counts.{one_if}
use Rattle.keep_local.proofs.Runs.{run_none, run_same, run_lower, run_higher}

module _ (shape : Shape) (level : ℕ) where
  abbrev keep : ℕ
  keep = slice_index shape.keeps level

  abbrev here : Turn → ℕ
  here t = one_if (t.left == level)

  -- one more turn keeps a run within the keep
  run_step : (before : List Turn) (t : Turn) → level < top_of shape → Follows shape before t → run level before ≤ keep
      → run level (before ++ t ∷ []) ≤ keep
  run_step before t below follows within = dite (ℕ_discrete t.left level)
      (λ same. let due : IsDue shape before t.tests t.left = follows.ends.left.due (omega (arith, same, below)) in
      let below_keep : run level before < keep = subst (λ (k : ℕ). run k before < slice_index shape.keeps k) same due.below in
      let a = run_same level before t same in omega (arith, a, below_keep))
      (λ other. dite (dec_le (suc t.left) level)
      (λ lower. let a = run_lower level before t lower in omega (arith, a, within))
      (λ not_lower. let above : level < t.left = omega arith in let a = run_higher level before t above in omega (arith, a)))

  pub run_within : (before turns : List Turn) → level < top_of shape → FollowEachOther shape before turns → run level before ≤ keep
      → run level (before ++ turns) ≤ keep
  run_within before [] below all within = subst (λ (ts : List Turn). run level ts ≤ keep) (sym (append-nil before)) within
  run_within before (t ∷ ts) below all within =
      subst (λ (us : List Turn). run level us ≤ keep) (append_assoc before (t ∷ []) ts)
      (run_within (before ++ t ∷ []) ts below all.1 (run_step before t below all.0 within))

  -- turns that did not leave higher add to the run those that left at this level
  run_between : (before between : List Turn) → All (λ t. t.left ≤ level) between
      → run level (before ++ between) ≡ run level before + count_by (λ t. t.left == level) between
  run_between before [] all = let a = ap (run level) (append-nil before) in omega (arith, a)
  run_between before (t ∷ ts) all =
      let within : t.left ≤ level = All-head (λ (u : Turn). u.left ≤ level) t ts all in
      let rest = run_between (before ++ t ∷ []) ts (All-tail (λ (u : Turn). u.left ≤ level) t ts all) in
      let same = ap (run level) (append_assoc before (t ∷ []) ts) in
      let count = sum_by-cons here t ts in
      let one : run level (before ++ t ∷ []) ≡ run level before + here t = dite (ℕ_discrete t.left level)
      (λ e. let a = run_same level before t e in let b : here t ≡ 1 = ap one_if (eq-eqb t.left level e) in omega (arith, a, b))
      (λ ne. let a = run_lower level before t (omega (arith, within, ne)) in let b : here t ≡ 0 = grind (arith, nat_tests) in
      omega (arith, a, b)) in
      omega (arith, rest, same, count, one)

-- the first of turns that follow each other do so
pub follow_front : (shape : Shape) (before xs ys : List Turn) → FollowEachOther shape before (xs ++ ys) → FollowEachOther shape before xs
follow_front shape before [] ys all = tt
follow_front shape before (t ∷ xs) ys all = (all.0, follow_front shape (before ++ t ∷ []) xs ys all.1)

pub keeps_at_most_lem : KeepsAtMost
keeps_at_most_lem shape level before between after lawful below all =
    let front : IsLawful shape (before ++ between) =
    follow_front shape [] (before ++ between) after (subst (IsLawful shape) (sym (append_assoc before between after)) lawful) in
    let none = run_none level in
    let within : run level (before ++ between) ≤ keep shape level =
    run_within shape level [] (before ++ between) below front (omega (arith, none)) in
    let added = run_between shape level before between all in
    omega (arith, within, added)

-- the test of a level, by its index and its keep
abbrev is_due : List Turn → ℕ → ℕ × ℕ → Bool
is_due before tests at = bit_at tests at.0 == 1 && nat_lt (run at.0 before) at.1

due_is : (shape : Shape) (before : List Turn) (tests level : ℕ) → IsDue shape before tests level
    → is_due before tests (level, slice_index shape.keeps level) ≡ true
due_is shape before tests level due =
    let a : (bit_at tests level == 1) ≡ true = eq-eqb (bit_at tests level) 1 due.queued in
    let b : nat_lt (run level before) (slice_index shape.keeps level) ≡ true = let h = due.below in grind (arith, nat_tests) in
    λ i. a i && b i

due_from : (shape : Shape) (before : List Turn) (tests level : ℕ) → is_due before tests (level, slice_index shape.keeps level) ≡ true
    → IsDue shape before tests level
due_from shape before tests level e = record { queued = grind (arith, nat_tests); below = grind (arith, nat_tests) }

not_due_is : (shape : Shape) (before : List Turn) (tests level : ℕ) → ¬ IsDue shape before tests level
    → is_due before tests (level, slice_index shape.keeps level) ≡ false
not_due_is shape before tests level not_due =
    elim (is_due before tests (level, slice_index shape.keeps level)) as
    (λ b. is_due before tests (level, slice_index shape.keeps level) ≡ b
    → is_due before tests (level, slice_index shape.keeps level) ≡ false) [
      | true ↦ λ e. absurd (not_due (due_from shape before tests level e))
      | false ↦ λ e. e
    ] refl

-- where a turn leaves is the first level that is due
pub left_is : (shape : Shape) (before : List Turn) (tests left : ℕ) → IsLeft shape before tests left → left_of shape before tests ≡ left
left_is shape before tests left is =
    let xs : List (ℕ × ℕ) = enumerate_from 0 shape.keeps in
    let long = length-enumerate_from 0 shape.keeps in
    let within = is.within in
    let at : (k : ℕ) → k < top_of shape
    → get_or xs k (0, 0) ≡ (k, slice_index shape.keeps k) = λ k h. get_or-enumerate_from 0 shape.keeps k (0, 0) h
    ∙ (let e : 0 + k ≡ k = omega arith in λ i. (e i, slice_index shape.keeps k)) in
    position_or_len_is (is_due before tests) xs left (0, 0) (omega (arith, long, within))
    (λ k h. ap (is_due before tests) (at k (omega (arith, h, within))) ∙ not_due_is shape before tests k (is.least k h))
    (λ h. let below : left < top_of shape = omega (arith, h, long) in
    ap (is_due before tests) (at left below) ∙ due_is shape before tests left (is.due below))

pub turn_is_fixed_lem : TurnIsFixed
turn_is_fixed_lem shape before t follows =
    let left = sym (left_is shape before t.tests t.left follows.ends.left) in
    λ i. record { caller = t.caller; climb = follows.begins.climb i; tests = t.tests; left = left i }
