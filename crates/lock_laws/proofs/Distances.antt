-- The distances of the passes in the queue of a Ticket lock.
use Rattle.std.proofs.Common.{◌≡◌, ℕ, ◌+◌, ◌-◌, ◌%◌, ◌^◌, ◌<◌, List, ap, sym, ◌∙◌, arith}
use mathlib.Core.Option.{some-injective}
use lib.ListN.{get_elem?}
use Rattle.lock_rules.specs.Tag.{Tag}
use Rattle.lock_rules.specs.declared.view.View.{View}
use Rattle.lock_tables.specs.Rule.{IsQueued}
use Rattle.lock_tables.proofs.Lists.{at_below, there}
use Rattle.lock_laws.specs.Distances.{distance, HasDistances}
use Rattle.ticket_lock.specs.Rule.{ticket_discipline}
use Rattle.ticket_lock.proofs.Queue.{place_below, place_of, out_are}
use Rattle.ticket_lock.proofs.Rounds.{out_is}

module _ (n : ℕ) (tag : Tag) (words seats : List ℕ) (views : List View) (q : IsQueued ticket_discipline n tag words seats views) where
  distance_is : (i : ℕ) (v : View) → v.ticket ≡ (q.core.first + i) % 2 ^ 64 → i < 2 ^ 64 → distance words v ≡ i
  distance_is i v e h = (λ k. (e k + (2 ^ 64 - q.core.serving_is k)) % 2 ^ 64) ∙ out_is q.core.first i h

  pub has_distances : HasDistances words views
  has_distances = record {
    below = λ j v at b.
        let p = place_of n tag words seats views q j v at b in
        let d = distance_is p.0 v p.2 (place_below n tag words seats views q p.0 j p.1) in
        let t = out_are n tag words seats views q in
        let l = at_below seats p.0 j p.1 in omega (arith, d, t, l);
    each = λ i h.
        let t = out_are n tag words seats views q in
        let a = there seats i (omega (arith, h, t)) in
        let x = q.each_place i a.0 a.1 in
        let d = distance_is i x.view (q.core.tickets i a.0 x.view a.1 x.at) (place_below n tag words seats views q i a.0 a.1) in
        (a.0, record { view = x.view; at = x.at; busy = x.is; is = d });
    once = λ i j k x y.
        let p = place_of n tag words seats views q j x.view x.at x.busy in
        let r = place_of n tag words seats views q k y.view y.at y.busy in
        let a : p.0 ≡ i = sym (distance_is p.0 x.view p.2 (place_below n tag words seats views q p.0 j p.1)) ∙ x.is in
        let b : r.0 ≡ i = sym (distance_is r.0 y.view r.2 (place_below n tag words seats views q r.0 k r.1)) ∙ y.is in
        some-injective j k (sym p.1 ∙ ap (get_elem? seats) (a ∙ sym b) ∙ r.1);
  }
