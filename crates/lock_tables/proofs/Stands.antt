-- A number of a numbering stands in a seat exactly where the seat has it.
use Rattle.std.proofs.Common.{◌≡◌, ℕ, zero, suc, ◌<◌, ◌≤◌, true, false, cond, List, [], ◌∷◌, ◌==◌, slice_get, refl, ap, inl, inr, ⊎_elim}
use Rattle.std.proofs.Common.{arith, Some}
use Rattle.std.specs.List.{sum_by, count_by}
use Rattle.std.proofs.lemmas.List.Sums.{sum_by-cons}
use Rattle.std.proofs.lemmas.Bool.Decides.{nat_tests}
use mathlib.Core.Logic.{dite}
use native.Mathlib.Decide.{ℕ_discrete}
use Rattle.lock_rules.specs.declared.view.View.{View}
use Rattle.lock_tables.specs.Numbers.{Numbering, stands_in}
use Rattle.lock_tables.specs.Points.{Has, HasOneSeat}
use Rattle.lock_tables.specs.Queue.{IsIn}
use Rattle.lock_rules.proofs.Sums.{parts_le, some_part}
use Rattle.lock_tables.proofs.Numbers.{span, hits, stands_unspent}

counted : (k : ℕ) (l : List ℕ) → 0 < count_by (λ x. x == k) l → IsIn k l
counted k [] h = absurd (omega arith)
counted k (x ∷ xs) h = dite (ℕ_discrete x k)
    (λ e. (0, ap Some e))
    (λ ne.
    let c = sum_by-cons (λ (y : ℕ). cond (y == k) 1 0) x xs in
    let z : hits x k ≡ 0 = grind (arith, nat_tests) in
    let r = counted k xs (omega (arith, c, z)) in (suc r.0, r.1))

counts : (k : ℕ) (l : List ℕ) (i : ℕ) → slice_get l i ≡ Some k → 0 < count_by (λ x. x == k) l
counts k [] i e = absurd (cc)
counts k (x ∷ xs) zero e =
    let s : x ≡ k = cc in
    let c = sum_by-cons (λ (y : ℕ). cond (y == k) 1 0) x xs in
    let z : hits x k ≡ 1 = grind (arith, nat_tests) in omega (arith, c, z)
counts k (x ∷ xs) (suc i) e = let c = sum_by-cons (λ (y : ℕ). cond (y == k) 1 0) x xs in let r = counts k xs i e in omega (arith, c, r)

pub hit : (a k : ℕ) → 0 < hits a k → a ≡ k
hit a k h = dite (ℕ_discrete a k) (λ e. e) (λ ne. absurd (let z : hits a k ≡ 0 = grind (arith, nat_tests) in omega arith))

in_span : (from to k : ℕ) → 0 < span from to k → (from ≤ k) × (k < to)
in_span from to k h = (grind (arith, nat_tests), grind (arith, nat_tests))

module _ (m : Numbering) (k : ℕ) where
  has_unspent : (v : View) → 0 < stands_in m k v → v.spent ≡ false → Has m k v
  has_unspent v h live =
      let s = stands_unspent m k v live in
      dite (ℕ_discrete (hits (m.own v) k) 0)
      (λ a. dite (ℕ_discrete (span v.from v.to k) 0)
      (λ b. inr (inr (counted k (m.taken v) (omega (arith, s, a, b, h)))))
      (λ b. inr (inl (in_span v.from v.to k (omega arith)))))
      (λ a. inl (hit (m.own v) k (omega arith)))

  -- a seat in which the number stands is not spent and has it
  pub stands_has : (v : View) → 0 < stands_in m k v → (v.spent ≡ false) × Has m k v
  stands_has v h = elim (v.spent) as (λ b. v.spent ≡ b → (v.spent ≡ false) × Has m k v) [
    | true ↦ λ e. absurd (let z : stands_in m k v ≡ 0 = rw e refl in omega arith)
    | false ↦ λ e. (e, has_unspent v h e)
  ] refl

  -- and the other way round
  pub has_stands : (v : View) → v.spent ≡ false → Has m k v → 0 < stands_in m k v
  has_stands v live h =
      let s = stands_unspent m k v live in
      ⊎_elim (λ (e : m.own v ≡ k). let a : hits (m.own v) k ≡ 1 = grind (arith, nat_tests) in omega (arith, s, a))
      (λ t. ⊎_elim
      (λ (r : (v.from ≤ k) × (k < v.to)). let a = r.0 in let b = r.1 in let c : span v.from v.to k ≡ 1 = grind (arith, nat_tests) in
      omega (arith, s, c))
      (λ (r : IsIn k (m.taken v)). let a = counts k (m.taken v) r.0 r.1 in omega (arith, s, a)) t) h

  -- a number that stands once in all has exactly one seat
  pub one_seat_has : (views : List View) → sum_by (stands_in m k) views ≡ 1 → HasOneSeat m k views
  one_seat_has views once =
      let p = some_part (stands_in m k) views (omega (arith, once)) in
      let h = stands_has p.1 p.3 in record {
        seat = p.0;
        view = p.1;
        at = record { at = p.2; unspent = h.0 };
        has = h.1;
        alone = λ j v at has. dite (ℕ_discrete j p.0) (λ e. e) (λ ne. absurd (
            let both = parts_le (stands_in m k) views j p.0 v p.1 ne at.at p.2 in
            let mine = has_stands v at.unspent has in
            let other = p.3 in
            omega (arith, both, mine, other, once)));
      }
