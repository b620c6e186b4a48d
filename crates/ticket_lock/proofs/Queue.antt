-- The queue that is computed from words and views is that of the rule.
use Rattle.std.proofs.Common.{◌≡◌, ◌≢◌, ℕ, zero, suc, ◌+◌, ◌-◌, ◌%◌, ◌^◌, ◌<◌, true, false, cond, ◌&&◌, ◌==◌, eq-eqb, List, []}
use Rattle.std.proofs.Common.{◌∷◌, length, map, slice_index, refl, ap, sym, ◌∙◌, ⊎_elim, arith}
use Rattle.std.proofs.Math.Nat.{mod-add-mod}
use mathlib.Core.Option.{some, some-injective, some-ne-none}
use lib.ListN.{get_elem?}
use borrow.Author.Tests.{eqb-true}
use Rattle.atomic_table.proofs.Lists.{at_set}
use Rattle.lock_rules.specs.Rows.{waiting}
use Rattle.lock_rules.specs.Tag.{Tag}
use Rattle.lock_rules.specs.declared.view.View.{View}
use Rattle.lock_tables.specs.Laws.{IsDisciplined, number_at}
use Rattle.lock_tables.specs.Rule.{is_busy, IsBusyAt, IsQueued}
use Rattle.lock_tables.proofs.Lists.{number_is, at_below, both_true, wrote_else}
use Rattle.lock_tables.proofs.Queues.{few_seats, placed_before_split, placed_before_join}
use Rattle.ticket_lock.specs.Rule.{next, serving, pass_with, passes_from, queue_of, ticket_discipline}
use Rattle.ticket_lock.proofs.Rounds.{out_is, one_place, first_ticket}

pass_with_is : (views : List View) (j : ℕ) (v : View) (t : ℕ) → get_elem? views j ≡ some v → is_busy false v.phase ≡ true → v.ticket ≡ t
    → ((k : ℕ) (u : View) → get_elem? views k ≡ some u → is_busy false u.phase ≡ true → u.ticket ≡ t → k ≡ j) → pass_with views t ≡ v.number
pass_with_is [] j v t at b e only = absurd (some-ne-none v (sym at))
pass_with_is (u ∷ us) zero v t at b e only =
    let s : u ≡ v = some-injective u v at in
    let p : is_busy false u.phase ≡ true = ap (λ (x : View). is_busy false x.phase) s ∙ b in
    let q : (u.ticket == t) ≡ true = eq-eqb u.ticket t (ap (λ (x : View). x.ticket) s ∙ e) in
    rw (p, q) (ap (λ (x : View). x.number) s)
pass_with_is (u ∷ us) (suc j) v t at b e only =
    elim (is_busy false u.phase && (u.ticket == t)) as (λ x. (is_busy false u.phase && (u.ticket == t)) ≡ x
    → cond x u.number (pass_with us t) ≡ v.number) [
      | true ↦ λ h. let p = both_true (is_busy false u.phase) (u.ticket == t) h in
          let z : zero ≡ suc j = only zero u refl p.0 (eqb-true u.ticket t p.1) in absurd (omega arith)
      | false ↦ λ h. pass_with_is us j v t at b e (λ k w at' b' e'. let z : suc k ≡ suc j = only (suc k) w at' b' e' in omega arith)
    ] refl

-- no two seats in the queue have one ticket
abbrev pub AreApart : List View → Type 0
AreApart views = (j k : ℕ) (u w : View) → get_elem? views j ≡ some u → get_elem? views k ≡ some w → is_busy false u.phase ≡ true
    → is_busy false w.phase ≡ true → u.ticket ≡ w.ticket → j ≡ k

-- the seat of each place is in the queue with the ticket of this place
abbrev Placed : List View → ℕ → ℕ → ℕ → Type 0
Placed views f i j = (p : IsBusyAt false views j) × (p.view.ticket ≡ (f + i) % 2 ^ 64)

passes_are : (views : List View) (f t : ℕ) (seats : List ℕ) → t % 2 ^ 64 ≡ f % 2 ^ 64 → AreApart views
    → ((i j : ℕ) → get_elem? seats i ≡ some j → Placed views f i j)
    → passes_from views t (length seats) ≡ map (number_at views) seats
passes_are views f t [] e apart places = refl
passes_are views f t (j ∷ js) e apart places =
    let x = places 0 j refl in
    let p = x.0 in
    let tick : p.view.ticket ≡ t % 2 ^ 64 = x.1 ∙ first_ticket f ∙ sym e in
    let h : pass_with views (t % 2 ^ 64) ≡ number_at views j =
    pass_with_is views j p.view (t % 2 ^ 64) p.at p.is tick (λ k u at b e'. apart k j u p.view at p.at b p.is (e' ∙ sym tick))
    ∙ sym (number_is views j p.view p.at) in
    let step : (t + 1) % 2 ^ 64 ≡ (f + 1) % 2 ^ 64 = sym (mod-add-mod t (2 ^ 64) 1) ∙ ap (λ (x' : ℕ). (x' + 1) % 2 ^ 64) e
    ∙ mod-add-mod f (2 ^ 64) 1 in
    let rest = passes_are views (f + 1) (t + 1) js step apart (λ i k at. let q = places (suc i) k at in
    let s : f + suc i ≡ f + 1 + i = omega arith in (q.0, q.1 ∙ ap (λ (x' : ℕ). x' % 2 ^ 64) s)) in
    λ i. h i ∷ rest i

module _ (n : ℕ) (tag : Tag) (words seats : List ℕ) (views : List View) (q : IsQueued ticket_discipline n tag words seats views) where
  -- the place of a seat in the queue is below 2 ^ 64
  pub place_below : (i j : ℕ) → get_elem? seats i ≡ some j → i < 2 ^ 64
  place_below i j e = let a = at_below seats i j e in let f = few_seats ticket_discipline n tag words seats views q in let g = q.few in
      omega arith

  -- a seat in the queue has a place, and the ticket of this place
  pub place_of : (j : ℕ) (v : View) → get_elem? views j ≡ some v → is_busy false v.phase ≡ true → (i : ℕ) × (get_elem? seats i ≡ some j)
      × (v.ticket ≡ (q.core.first + i) % 2 ^ 64)
  place_of j v at b = let p = (q.each_seat j v at).placed b in (p.0, p.1, q.core.tickets p.0 j v p.1 at)

  are_apart : AreApart views
  are_apart j k u w at at' b b' e =
      let x = place_of j u at b in
      let y = place_of k w at' b' in
      let same = one_place q.core.first x.0 y.0 (place_below x.0 j x.1) (place_below y.0 k y.1) (sym x.2 ∙ e ∙ y.2) in
      some-injective j k (sym x.1 ∙ ap (get_elem? seats) same ∙ y.1)

  pub out_are : (slice_index words next + (2 ^ 64 - slice_index words serving)) % 2 ^ 64 ≡ length seats
  out_are = let f = few_seats ticket_discipline n tag words seats views q in let g = q.few in
      (λ i. (q.core.next_is i + (2 ^ 64 - q.core.serving_is i)) % 2 ^ 64) ∙ out_is q.core.first (length seats) (omega arith)

  pub queue_is : queue_of words views ≡ map (number_at views) seats
  queue_is =
      let f = q.core.first in
      let m : slice_index words serving % 2 ^ 64 ≡ f % 2 ^ 64 = ap (λ (x : ℕ). x % 2 ^ 64) q.core.serving_is
      ∙ sym (first_ticket (f % 2 ^ 64)) ∙ mod-add-mod f (2 ^ 64) 0 ∙ first_ticket f in
      let p = passes_are views f (slice_index words serving) seats m are_apart (λ i j e. let b = q.each_place i j e in
      (b, q.core.tickets i j b.view e b.at)) in
      ap (λ (c : ℕ). passes_from views (slice_index words serving) c) out_are ∙ p

pub disciplined : IsDisciplined ticket_discipline
disciplined = record {
  opens_long = λ n. refl;
  opens_unannounced = λ n. refl;
  opens = λ c n tag some_pass few. record {
    first = 0;
    next_is = refl;
    serving_is = refl;
    tickets = λ i j v e. absurd (some-ne-none j (sym e));
  };
  notes = λ n words seats views x id v w at noted core. record {
    first = core.first;
    next_is = wrote_else words waiting next x (λ e. omega arith) ∙ core.next_is;
    serving_is = wrote_else words waiting serving x (λ e. omega arith) ∙ core.serving_is;
    tickets = λ i j u e e'. ⊎_elim
        (λ (t : (j ≡ id) × (w ≡ u)). ap (λ (y : View). y.ticket) (sym t.1) ∙ ap (λ (y : View). y.ticket) noted
        ∙ core.tickets i j v e (ap (get_elem? views) t.0 ∙ at))
        (λ (t : (j ≢ id) × (get_elem? views j ≡ some u)). core.tickets i j u e t.1)
        (at_set views id j w u e');
  };
  splits = λ n tag words seats views id v q at live more. record {
    first = q.core.first;
    next_is = q.core.next_is;
    serving_is = q.core.serving_is;
    tickets = λ i j u e e'. let w = placed_before_split ticket_discipline n tag words seats views q id v at i j u e e' in w.same.ticket
        ∙ q.core.tickets i j w.view e w.at;
  };
  joins = λ n tag words seats views id v other w q at live apart at' idle plain. record {
    first = q.core.first;
    next_is = q.core.next_is;
    serving_is = q.core.serving_is;
    tickets = λ i j u e e'. let x = placed_before_join ticket_discipline n tag words seats views q id v other w at at' apart idle i j u e
        e' in x.same.ticket ∙ q.core.tickets i j x.view e x.at;
  };
  queue_is = queue_is;
}
