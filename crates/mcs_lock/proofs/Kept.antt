-- Each kind of step of an MCS lock keeps the rule.
use Rattle.std.proofs.Common.{◌≡◌, ◌≢◌, ℕ, zero, suc, ◌<◌, ◌≤◌, Bool, true, false, not, ◌==◌, eq-eqb, List, [], ◌∷◌, length, set}
use Rattle.std.proofs.Common.{slice_index, refl, ap, sym, ◌∙◌, inl, inr, arith}
use mathlib.Core.Option.{some}
use mathlib.Core.Logic.{dite}
use native.Mathlib.Decide.{ℕ_discrete}
use lib.ListN.{get_elem?}
use Rattle.lock_rules.specs.Views.{answer_of}
use Rattle.lock_rules.specs.declared.step.Answer.TheVariants.{No, Yes}
use Rattle.lock_rules.specs.declared.view.Phase.TheVariants.{Queued, Leaving}
use Rattle.lock_rules.specs.declared.view.View.{View}
use Rattle.lock_tables.specs.Happened.{missed_view, took_view, tested_view}
use Rattle.lock_tables.specs.Kinds.{no_event}
use Rattle.lock_tables.specs.KeptKinds.{Moment, CoreAfter, MakesEvent, IsKept}
use Rattle.lock_tables.specs.Rule.{is_busy, is_holder}
use Rattle.lock_tables.proofs.Lists.{at_below, head_cut, no_true}
use Rattle.lock_tables.proofs.Makes.{loaded_core}
use Rattle.lock_tables.proofs.Queues.{held_busy}
use Rattle.mcs_lock.specs.Kinds.{cleared_view, raised_view, linked_view, looked_view, followed_view, others_wait, store_next, store_locked}
use Rattle.mcs_lock.specs.Kinds.{fetch_and_store_tail, store_predecessor_next, load_locked, load_tail, load_next, store_successor_locked}
use Rattle.mcs_lock.specs.Kinds.{compare_and_swap_tail}
use Rattle.mcs_lock.specs.Rule.{tail, next, locked, name, pass_named, IsPlaced, NamesBehind, IsLinked, mcs_discipline}
use Rattle.mcs_lock.proofs.Places.{none_left, no_seats, live_at, below_at, placed_at}
use Rattle.mcs_lock.proofs.Links.{core_clears, core_raises, core_enters, core_takes, core_links, core_loads, core_passes, core_ends}
use Rattle.mcs_lock.proofs.Links.{alone_is}

module _ (s : Moment mcs_discipline) where
  -- no event, by a pass that doesn't hold and stays in its phase
  waiting_still : (word now : ℕ) (w : View) → w.phase ≡ s.view.phase → is_holder true s.view.phase ≡ false
      → CoreAfter mcs_discipline s word now w s.seats → MakesEvent mcs_discipline s word now w no_event
  waiting_still word now w same free core =
      let idle : is_holder true w.phase ≡ false = ap (is_holder true) same ∙ free in record {
        calm = inl same;
        busy = ap (is_busy true) same;
        holds = ap (is_holder true) same;
        tested = λ h _. absurd (no_true (sym h ∙ idle));
        followed = λ h _. absurd (no_true (sym h ∙ idle));
        core = core;
      }

  -- the links after a load by a pass in the queue
  loaded : (word : ℕ) (w : View) → (w.number ≡ s.view.number) × (w.predecessor ≡ s.view.predecessor) × (w.linked ≡ s.view.linked)
      × (w.unlinked ≡ s.view.unlinked) × (w.raised ≡ s.view.raised) → (w.phase ≡ Queued → s.view.phase ≡ Queued)
      → is_busy true s.view.phase ≡ true
      → ((i : ℕ) → IsPlaced s.seats s.views i s.view → w.successor ≢ 0 → NamesBehind s.seats s.views i w.successor)
      → CoreAfter mcs_discipline s word (slice_index s.words word) w s.seats
  loaded word w same queued busy own =
      loaded_core (λ words. IsLinked s.passes words s.seats (set s.views s.seat w)) s.words word
      (core_loads s.queued s.seat s.at s.live w
      (record { number = same.0; predecessor = same.1; linked = λ e. same.2 ∙ e; queued = queued }) busy same.3 same.4 own)

  -- a word that is none, or names a pass of the lock
  behind_within : (i x : ℕ) → NamesBehind s.seats s.views i x → x ≤ s.view.count
  behind_within i x b =
      let l = below_at s.queued b.placed.seat b.view b.placed.at (live_at s.queued (suc i) b.view b.placed) in
      let e = b.named in let c = (s.queued.each_seat s.seat s.view s.at).counted s.live in omega (arith, l, e, c)

  tail_within : slice_index s.words tail ≤ s.view.count
  tail_within = elim (length s.seats) as (λ x. length s.seats ≡ x → slice_index s.words tail ≤ s.view.count) [
    | zero ↦ λ e. let z = s.queued.core.empty e in omega (arith, z)
    | suc m ↦ λ e.
        let u = placed_at s.queued m (omega (arith, e)) in
        let l = below_at s.queued u.1.seat u.0 u.1.at (live_at s.queued m u.0 u.1) in
        let z = s.queued.core.last m u.0 u.1 e in
        let c = (s.queued.each_seat s.seat s.view s.at).counted s.live in omega (arith, l, z, c)
  ] refl

  -- a holder has the first place
  first : is_holder true s.view.phase ≡ true → get_elem? s.seats 0 ≡ some s.seat
  first held = (s.queued.each_seat s.seat s.view s.at).first held

  next_within : is_holder true s.view.phase ≡ true → slice_index s.words (next s.view.number) ≤ s.view.count
  next_within held = let x : ℕ = slice_index s.words (next s.view.number) in dite (ℕ_discrete x 0)
      (λ e. omega (arith, e))
      (λ ne. behind_within 0 x (s.queued.core.links 0 s.view (record { seat = s.seat; place = first held; at = s.at }) ne))

  -- a pass whose `locked` is 0 is the first
  first_at : (i : ℕ) → get_elem? s.seats i ≡ some s.seat → slice_index s.words (locked s.view.number) ≡ 0
      → get_elem? s.seats 0 ≡ some s.seat
  first_at zero p e = p
  first_at (suc i) p e =
      let u = placed_at s.queued i (let b = at_below s.seats (suc i) s.seat p in omega arith) in
      let b = (s.queued.core.behind i u.0 s.view u.1 (record { seat = s.seat; place = p; at = s.at })).waits in
      absurd (omega (arith, b, e))

  -- where `tail` names another than the holder, another pass is queued
  others_behind : is_holder true s.view.phase ≡ true → slice_index s.words tail ≢ name s.view.number → 1 < length s.seats
  others_behind held other = dite (ℕ_discrete (length s.seats) 1)
      (λ one. absurd (other (s.queued.core.last 0 s.view (record { seat = s.seat; place = first held; at = s.at }) one)))
      (λ ne. let b = at_below s.seats 0 s.seat (first held) in omega arith)

said_yes : (v : View) (found : ℕ) → answer_of (others_wait v found) ≡ Yes → found ≢ name v.number
said_yes v found noted e =
    let same : (found == name v.number) ≡ true = eq-eqb found (name v.number) e in
    let no : No ≡ Yes = sym (ap (λ (b : Bool). answer_of (not b)) same) ∙ noted in absurd cc

pub clears : IsKept mcs_discipline store_next
clears = record {
  noted = λ v found. record { same = refl; steps = refl; entered = refl; read = (refl, refl, refl) };
  keeps = λ s asks low. record {
    apart = λ e. omega arith;
    told = tt;
    kept = waiting_still s (next s.view.number) 0 (cleared_view s.view) refl (ap (is_holder true) asks)
        (core_clears s.queued s.seat s.at s.live asks);
  };
}

pub raises : IsKept mcs_discipline store_locked
raises = record {
  noted = λ v found. record { same = refl; steps = refl; entered = refl; read = (refl, refl, refl) };
  keeps = λ s asks low. record {
    apart = λ e. omega arith;
    told = tt;
    kept = waiting_still s (locked s.view.number) 1 (raised_view s.view) refl (ap (is_holder true) asks)
        (core_raises s.queued s.seat s.at s.live asks);
  };
}

pub swaps : IsKept mcs_discipline fetch_and_store_tail
swaps = record {
  noted = λ v found. (
    record { same = refl; steps = refl; entered = refl; read = (refl, refl) },
    record { same = refl; steps = refl; entered = refl; read = (refl, refl, refl) },
  );
  keeps = λ s asks low. record {
    apart = λ e. omega arith;
    told = tail_within s;
    kept = (
      λ e. record {
        idle = asks.0;
        empty = no_seats s.queued e;
        held = refl;
        untested = refl;
        alone = refl;
        core = core_takes s.queued s.seat s.at s.live asks.2;
      },
      λ ne. record {
        idle = asks.0;
        queued = refl;
        announced = asks.1;
        core = core_enters s.queued s.seat s.at s.live asks.0 asks.2 asks.3 ne;
      },
    );
  };
}

pub links : IsKept mcs_discipline store_predecessor_next
links = record {
  noted = λ v found. record { same = refl; steps = refl; entered = refl; read = (refl, refl, refl) };
  keeps = λ s asks low. record {
    apart = λ e. omega arith;
    told = tt;
    kept = waiting_still s (next (pass_named s.view.predecessor)) (name s.view.number) (linked_view s.view) refl
        (ap (is_holder true) asks.0) (core_links s.queued s.seat s.at s.live asks.0 asks.1);
  };
}

pub polls : IsKept mcs_discipline load_locked
polls = record {
  noted = λ v found. (
    record { same = refl; steps = refl; entered = refl; read = refl },
    record { same = refl; steps = refl; entered = refl; read = refl },
  );
  keeps = λ s asks low.
      let word : ℕ = locked s.view.number in
      let busy : is_busy true s.view.phase ≡ true = ap (is_busy true) asks in
      let p = (s.queued.each_seat s.seat s.view s.at).placed busy in record {
        apart = λ e. omega arith;
        told = tt;
        kept = (
          λ e. record {
            loaded = refl;
            queued = asks;
            first = first_at s p.0 p.1 e;
            held = refl;
            untested = refl;
            alone = refl;
            core = loaded s word (took_view s.view) (refl, refl, refl, refl, refl) (λ _. asks) busy (λ i. s.queued.core.noted i s.view);
          },
          λ ne. waiting_still s word (slice_index s.words word) (missed_view s.view) refl (ap (is_holder true) asks)
              (loaded s word (missed_view s.view) (refl, refl, refl, refl, refl) (λ e. e) busy (λ i. s.queued.core.noted i s.view)),
        );
      };
}

pub waits : IsKept mcs_discipline load_tail
waits = record {
  noted = λ v found. record { same = refl; steps = refl; entered = refl; read = refl };
  keeps = λ s asks low.
      let found : ℕ = slice_index s.words tail in
      let busy = held_busy true s.view.phase (ap (is_holder true) asks.0) in record {
        apart = λ e. omega arith;
        told = tt;
        kept = record {
          calm = inl refl;
          busy = refl;
          holds = refl;
          tested = λ h noted. (asks.1, inl (others_behind s h (said_yes s.view found noted)));
          followed = (s.queued.each_seat s.seat s.view s.at).followed;
          core = loaded s tail (tested_view s.view (others_wait s.view found)) (refl, refl, refl, refl, refl) (λ e. e) busy
              (λ i. s.queued.core.noted i s.view);
        };
      };
}

pub looks : IsKept mcs_discipline load_next
looks = record {
  noted = λ v found. record { same = refl; steps = refl; entered = refl; read = refl };
  keeps = λ s asks low. let word : ℕ = next s.view.number in record {
    apart = λ e. omega arith;
    told = next_within s asks;
    kept = record {
      calm = inl refl;
      busy = refl;
      holds = refl;
      tested = (s.told.each s.seat s.view s.at).tested;
      followed = (s.queued.each_seat s.seat s.view s.at).followed;
      core = loaded s word (looked_view s.view (slice_index s.words word)) (refl, refl, refl, refl, refl) (λ e. e)
          (held_busy true s.view.phase asks) (λ i. s.queued.core.links i s.view);
    };
  };
}

pub passes : IsKept mcs_discipline store_successor_locked
passes = record {
  noted = λ v found. record { same = refl; steps = refl; entered = refl; read = (refl, refl, refl) };
  keeps = λ s asks low. let cut = head_cut s.seats s.seat (first s asks.0) in record {
    apart = λ e. omega arith;
    told = tt;
    kept = record {
      silent = asks.1;
      held = asks.0;
      tail = cut.0;
      cut = cut.1;
      free = refl;
      unheld = refl;
      core = core_passes s.queued s.seat s.at s.live cut.0 cut.1 (held_busy true s.view.phase asks.0) asks.2;
    };
  };
}

pub exchanges : IsKept mcs_discipline compare_and_swap_tail
exchanges = record {
  noted = λ v found. (
    record { same = refl; steps = refl; entered = refl; read = (refl, refl, refl) },
    record { same = refl; steps = refl; entered = refl; read = (refl, refl, refl) },
  );
  keeps = λ s asks low.
      let held : is_holder true s.view.phase ≡ true = ap (is_holder true) asks.0 in
      let busy = held_busy true s.view.phase held in record {
        apart = λ e. omega arith;
        told = tt;
        kept = (
          λ e.
              let cut = head_cut s.seats s.seat (first s held) in
              let one = alone_is s.queued s.seat s.at s.live (first s held) e in
              let long : length s.seats ≡ suc (length cut.0) = ap length cut.1 in
              let none = none_left cut.0 (omega (arith, long, one)) in record {
                silent = asks.1;
                held = held;
                tail = [];
                cut = cut.1 ∙ ap (λ (l : List ℕ). s.seat ∷ l) none;
                free = refl;
                unheld = refl;
                core = core_ends s.queued s.seat s.at s.live busy;
              },
          λ ne. record {
            calm = inr (refl, asks.1);
            busy = sym busy;
            holds = sym held;
            tested = λ _ _. (asks.1, inl (others_behind s held ne));
            followed = λ _ _. others_behind s held ne;
            core = loaded s tail (followed_view s.view) (refl, refl, refl, refl, refl)
                (λ e. absurd (let z : Leaving ≡ Queued = e in cc)) busy (λ i. s.queued.core.noted i s.view);
          },
        );
      };
}
