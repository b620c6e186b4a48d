-- Each kind of step of a Ticket lock keeps the rule.
use Rattle.std.proofs.Common.{◌≡◌, ◌≢◌, ℕ, suc, ◌+◌, ◌%◌, ◌^◌, ◌<◌, Bool, true, false, not, ◌==◌, eq-eqb, List, [], ◌∷◌, ◌++◌}
use Rattle.std.proofs.Common.{length, set, slice_index, refl, ap, sym, ◌∙◌, inl, ⊎_elim, arith, length-append}
use mathlib.Core.Option.{some}
use mathlib.Core.Logic.{dite}
use native.Mathlib.Decide.{ℕ_discrete}
use lib.ListN.{get_elem?}
use Rattle.atomic_table.proofs.Lists.{at_set}
use Rattle.lock_rules.specs.Views.{answer_of}
use Rattle.lock_rules.specs.declared.step.Answer.TheVariants.{No, Yes}
use Rattle.lock_rules.specs.declared.view.Phase.TheVariants.{Queued}
use Rattle.lock_rules.specs.declared.view.View.{View}
use Rattle.lock_tables.specs.Happened.{missed_view, took_view, tested_view}
use Rattle.lock_tables.specs.KeptKinds.{Moment, IsKept}
use Rattle.lock_tables.specs.Rule.{is_busy, is_holder}
use Rattle.lock_tables.proofs.Lists.{at_end, at_below, head_cut, wrote_here, wrote_else}
use Rattle.lock_tables.proofs.Makes.{loaded_core}
use Rattle.lock_tables.proofs.Queues.{no_place, wrong_phase}
use Rattle.ticket_lock.specs.Kinds.{after, queued_view, left_view, others_wait, add_next, load_serving, load_next, store_serving}
use Rattle.ticket_lock.specs.Rule.{next, serving, HasTickets, ticket_discipline}
use Rattle.ticket_lock.proofs.Rounds.{next_ticket, one_place, first_ticket}
use Rattle.ticket_lock.proofs.Queue.{place_below}

-- the tickets after a load, where the seat gets a view with the same ticket
loaded : (s : Moment ticket_discipline) (word : ℕ) (w : View) → w.ticket ≡ s.view.ticket
    → HasTickets s.passes (set s.words word (slice_index s.words word)) s.seats (set s.views s.seat w)
loaded s word w t = loaded_core (λ words. HasTickets s.passes words s.seats (set s.views s.seat w)) s.words word (record {
  first = s.queued.core.first;
  next_is = s.queued.core.next_is;
  serving_is = s.queued.core.serving_is;
  tickets = λ i j u e e'. ⊎_elim
      (λ (x : (j ≡ s.seat) × (w ≡ u)). ap (λ (y : View). y.ticket) (sym x.1) ∙ t
      ∙ s.queued.core.tickets i j s.view e (ap (get_elem? s.views) x.0 ∙ s.at))
      (λ (x : (j ≢ s.seat) × (get_elem? s.views j ≡ some u)). s.queued.core.tickets i j u e x.1)
      (at_set s.views s.seat j w u e');
})

-- the tickets after an addition to `next`
entered : (s : Moment ticket_discipline) → is_busy false s.view.phase ≡ false
    → HasTickets s.passes (set s.words next (after (slice_index s.words next))) (s.seats ++ s.seat ∷ [])
    (set s.views s.seat (queued_view s.view (slice_index s.words next)))
entered s idle =
    let q = s.queued in
    let found : ℕ = slice_index s.words next in
    let w : View = queued_view s.view found in
    let long : length (s.seats ++ s.seat ∷ []) ≡ length s.seats + 1 = omega (arith, length-append s.seats (s.seat ∷ [])) in
    let size = q.long in
    let other = no_place ticket_discipline s.passes s.tag s.words s.seats s.views s.seat s.view q s.at idle in record {
      first = q.core.first;
      next_is = wrote_here s.words next (after found) (omega (arith, size)) ∙ ap after q.core.next_is
          ∙ next_ticket q.core.first (length s.seats)
          ∙ ap (λ (x : ℕ). (q.core.first + x) % 2 ^ 64) (sym long);
      serving_is = wrote_else s.words next serving (after found) (λ e. omega arith) ∙ q.core.serving_is;
      tickets = λ i j u e e'. ⊎_elim
          (λ (f : get_elem? s.seats i ≡ some j). ⊎_elim
          (λ (x : (j ≡ s.seat) × (w ≡ u)). absurd (other i j f x.0))
          (λ (x : (j ≢ s.seat) × (get_elem? s.views j ≡ some u)). q.core.tickets i j u f x.1)
          (at_set s.views s.seat j w u e'))
          (λ (f : (i ≡ length s.seats) × (s.seat ≡ j)). ⊎_elim
          (λ (x : (j ≡ s.seat) × (w ≡ u)). ap (λ (y : View). y.ticket) (sym x.1) ∙ q.core.next_is
          ∙ ap (λ (y : ℕ). (q.core.first + y) % 2 ^ 64) (sym f.0))
          (λ (x : (j ≢ s.seat) × (get_elem? s.views j ≡ some u)). absurd (x.0 (sym f.1)))
          (at_set s.views s.seat j w u e'))
          (at_end s.seats s.seat j i e);
    }

pub adds : IsKept ticket_discipline add_next
adds = record {
  noted = λ v found. record { same = refl; steps = refl; entered = refl; read = (refl, refl, refl) };
  keeps = λ s asks low. record {
    apart = λ e. omega arith;
    told = tt;
    kept = record { idle = asks.0; queued = refl; announced = asks.1; core = entered s (ap (is_busy false) asks.0) };
  };
}

-- where the ticket is served, the pass is the head
first_served : (s : Moment ticket_discipline) → s.view.phase ≡ Queued → slice_index s.words serving ≡ s.view.ticket
    → get_elem? s.seats 0 ≡ some s.seat
first_served s queued e =
    let q = s.queued in
    let p = (q.each_seat s.seat s.view s.at).placed (ap (is_busy false) queued) in
    let same : p.0 ≡ 0 = one_place q.core.first p.0 0 (place_below s.passes s.tag s.words s.seats s.views q p.0 s.seat p.1) (omega arith)
    (sym (q.core.tickets p.0 s.seat s.view p.1 s.at) ∙ sym e ∙ q.core.serving_is ∙ sym (first_ticket q.core.first)) in
    ap (get_elem? s.seats) (sym same) ∙ p.1

pub polls : IsKept ticket_discipline load_serving
polls = record {
  noted = λ v found. (
    record { same = refl; steps = refl; entered = refl; read = refl },
    record { same = refl; steps = refl; entered = refl; read = refl },
  );
  keeps = λ s asks low. record {
    apart = λ e. omega arith;
    told = tt;
    kept = (
      λ e. record {
        loaded = refl;
        queued = asks;
        first = first_served s asks e;
        held = refl;
        untested = refl;
        alone = refl;
        core = loaded s serving (took_view s.view) refl;
      },
      λ ne. let idle = wrong_phase (is_holder false) (missed_view s.view) Queued asks refl in record {
        calm = inl refl;
        busy = refl;
        holds = refl;
        tested = λ h _. absurd (idle h);
        followed = λ h _. absurd (idle h);
        core = loaded s serving (missed_view s.view) refl;
      },
    );
  };
}

-- where the next ticket isn't the one behind the holder's, another pass is queued
others_behind : (s : Moment ticket_discipline) → get_elem? s.seats 0 ≡ some s.seat
    → answer_of (others_wait s.view (slice_index s.words next)) ≡ Yes → 1 < length s.seats
others_behind s first noted = dite (ℕ_discrete (length s.seats) 1)
    (λ one.
    let q = s.queued in
    let ticket = q.core.tickets 0 s.seat s.view first s.at in
    let behind : after s.view.ticket ≡ (q.core.first + 1) % 2 ^ 64 = ap after ticket ∙ next_ticket q.core.first 0 in
    let found : slice_index s.words next ≡ (q.core.first + 1) % 2 ^ 64 = q.core.next_is
    ∙ ap (λ (x : ℕ). (q.core.first + x) % 2 ^ 64) one in
    let same : (slice_index s.words next == after s.view.ticket) ≡ true = eq-eqb (slice_index s.words next) (after s.view.ticket) (found
    ∙ sym behind) in
    let no : No ≡ Yes = sym (ap (λ (b : Bool). answer_of (not b)) same) ∙ noted in absurd cc)
    (λ ne. let b = at_below s.seats 0 s.seat first in omega arith)

pub waits : IsKept ticket_discipline load_next
waits = record {
  noted = λ v found. record { same = refl; steps = refl; entered = refl; read = refl };
  keeps = λ s asks low. let stands = s.queued.each_seat s.seat s.view s.at in record {
    apart = λ e. omega arith;
    told = tt;
    kept = record {
      calm = inl refl;
      busy = refl;
      holds = refl;
      tested = λ h noted. (asks.1, inl (others_behind s (stands.first h) noted));
      followed = stands.followed;
      core = loaded s next (tested_view s.view (others_wait s.view (slice_index s.words next))) refl;
    };
  };
}

-- the tickets after the store of the next one in `serving`
served : (s : Moment ticket_discipline) (tail : List ℕ) → s.seats ≡ s.seat ∷ tail
    → HasTickets s.passes (set s.words serving (after s.view.ticket)) tail (set s.views s.seat (left_view s.view))
served s tail cut =
    let q = s.queued in
    let w : View = left_view s.view in
    let first : get_elem? s.seats 0 ≡ some s.seat = ap (λ (l : List ℕ). get_elem? l 0) cut in
    let one : length s.seats ≡ suc (length tail) = ap length cut in
    let size = q.long in
    let shift : q.core.first + length s.seats ≡ q.core.first + 1 + length tail = omega (arith, one) in record {
      first = q.core.first + 1;
      next_is = wrote_else s.words serving next (after s.view.ticket) (λ e. omega arith) ∙ q.core.next_is
          ∙ ap (λ (y : ℕ). y % 2 ^ 64) shift;
      serving_is = wrote_here s.words serving (after s.view.ticket) (omega (arith, size))
          ∙ ap after (q.core.tickets 0 s.seat s.view first s.at) ∙ next_ticket q.core.first 0;
      tickets = λ i j u e e'.
          let e'' : get_elem? s.seats (suc i) ≡ some j = ap (λ (l : List ℕ). get_elem? l (suc i)) cut ∙ e in
          let far : q.core.first + suc i ≡ q.core.first + 1 + i = omega arith in ⊎_elim
          (λ (y : (j ≡ s.seat) × (w ≡ u)). absurd (let z : suc i ≡ 0 = q.once (suc i) 0 s.seat (e'' ∙ ap some y.0) first in omega arith))
          (λ (y : (j ≢ s.seat) × (get_elem? s.views j ≡ some u)). q.core.tickets (suc i) j u e'' y.1
          ∙ ap (λ (z : ℕ). z % 2 ^ 64) far)
          (at_set s.views s.seat j w u e');
    }

pub gives_back : IsKept ticket_discipline store_serving
gives_back = record {
  noted = λ v found. record { same = refl; steps = refl; entered = refl; read = (refl, refl, refl) };
  keeps = λ s asks low.
      let held = ap (is_holder false) asks.0 in
      let cut = head_cut s.seats s.seat ((s.queued.each_seat s.seat s.view s.at).first held) in record {
        apart = λ e. omega arith;
        told = tt;
        kept = record {
          silent = asks.1;
          held = held;
          tail = cut.0;
          cut = cut.1;
          free = refl;
          unheld = refl;
          core = served s cut.0 cut.1;
        };
      };
}
