-- Each kind of step of a CLH lock keeps the rule.
use Rattle.std.proofs.Common.{◌≡◌, ◌≢◌, ℕ, zero, suc, ◌+◌, ◌*◌, ◌<◌, ◌≤◌, Bool, true, false, cond, not, ◌||◌, ◌==◌, eq-eqb, List, [], ◌∷◌}
use Rattle.std.proofs.Common.{◌++◌, length, set, slice_index, nat_le, refl, ap, sym, ◌∙◌, subst, inl, ⊎_elim, arith}
use Rattle.std.specs.List.{sum_by}
use mathlib.Core.Option.{some}
use mathlib.Core.Logic.{dite}
use native.Mathlib.Decide.{ℕ_discrete}
use lib.ListN.{get_elem?}
use Rattle.atomic_table.proofs.Lists.{at_set}
use Rattle.lock_rules.specs.Views.{answer_of}
use Rattle.lock_rules.specs.declared.step.Answer.TheVariants.{No, Yes}
use Rattle.lock_rules.specs.declared.view.Phase.TheVariants.{Idle, Queued}
use Rattle.lock_rules.specs.declared.view.View.{View}
use Rattle.lock_tables.specs.Happened.{missed_view, took_view, tested_view}
use Rattle.lock_tables.specs.KeptKinds.{Moment, IsKept}
use Rattle.lock_tables.specs.Numbers.{by_node, stands_in}
use Rattle.lock_tables.specs.Rule.{is_busy, is_holder, IsBusyAt}
use Rattle.lock_tables.proofs.Lists.{set_at, at_below, head_cut, no_true, wrote_here, wrote_else}
use Rattle.lock_tables.proofs.Makes.{loaded_core}
use Rattle.lock_tables.proofs.Numbers.{hits, stands_unspent}
use Rattle.lock_tables.proofs.Queues.{lives, no_place, wrong_phase}
use Rattle.lock_rules.proofs.Sums.{sum_set}
use Rattle.clh_lock.specs.Kinds.{raised_view, queued_view, left_view, others_wait, store_pending, fetch_and_store_tail, load_watched}
use Rattle.clh_lock.specs.Kinds.{load_tail, store_granted}
use Rattle.clh_lock.specs.Rule.{tail, flag, pending, granted, is_pending, Leads, HasNodes, clh_discipline}
use Rattle.clh_lock.proofs.Nodes.{stays_pending, Once, nodes_stay, free_within, own_within, not_free, nodes_apart}
use Rattle.clh_lock.proofs.Chain.{leads_stay, had_else, leads_end, leads_before, leads_alone, leads_within}
use Rattle.clh_lock.proofs.Queue.{same_nodes}

-- the nodes, where the head goes with the free node, and leaves its own free
nodes_swapped : (n : ℕ) (views : List View) (free id : ℕ) (v : View) → get_elem? views id ≡ some v → v.spent ≡ false
    → v.predecessor ≡ free → Once n views free → Once n (set views id (left_view v)) v.node
nodes_swapped n views free id v at live watched once k =
    let s = sum_set (stands_in by_node k) views id v (left_view v) at in
    let a = stands_unspent by_node k v live in
    let b = stands_unspent by_node k (left_view v) live in
    let c : ℕ = cond (nat_le k n) 1 0 in
    let o : sum_by (stands_in by_node k) views + hits free k ≡ c = once k in
    let f : hits v.predecessor k ≡ hits free k = ap (λ (x : ℕ). hits x k) watched in
    let goal : sum_by (stands_in by_node k) (set views id (left_view v)) + hits v.node k ≡ c = omega (arith, s, a, b, o, f) in goal

module _ (s : Moment clh_discipline) where
  -- each seat in the queue lives, with a node of the lock
  busy_lives : (j : ℕ) (b : IsBusyAt false s.views j) → b.view.spent ≡ false
  busy_lives j b = lives clh_discipline s.passes s.tag s.words s.seats s.views s.queued j b.view b.at b.is

  tail_within : slice_index s.words tail ≤ s.passes
  tail_within =
      let core = s.queued.core in
      leads_within s.views s.passes s.seats core.free (slice_index s.words tail) s.queued.each_place
      (λ j b. own_within s.passes s.views core.free core.once j b.view b.at (busy_lives j b))
      (free_within s.passes s.views core.free core.once) core.leads

  -- words are as many as the lines of the lock hold
  own_inside : flag s.view.node < length s.words
  own_inside =
      let long : length s.words ≡ 16 * (s.passes + 2 + 1) = s.queued.long in
      let within = own_within s.passes s.views s.queued.core.free s.queued.core.once s.seat s.view s.at s.live in
      omega (arith, long, within)

  -- the nodes after a load, where the seat gets a view with the same nodes
  loaded : (word : ℕ) (w : View) → ((k : ℕ) → stands_in by_node k w ≡ stands_in by_node k s.view) → w.node ≡ s.view.node
      → w.predecessor ≡ s.view.predecessor → (is_pending w ≡ true → is_pending s.view ≡ true)
      → HasNodes s.passes (set s.words word (slice_index s.words word)) s.seats (set s.views s.seat w)
  loaded word w stand node predecessor was =
      let core = s.queued.core in
      loaded_core (λ (words : List ℕ). HasNodes s.passes words s.seats (set s.views s.seat w)) s.words word
      (same_nodes s.passes s.words s.words s.seats s.views s.seat s.view w core s.at stand node predecessor refl core.free_granted
      (λ raised _. ap (λ (k : ℕ). slice_index s.words (flag k)) node ∙ core.own_pending s.seat s.view s.at s.live (was raised)) (λ k e. e))

  -- the nodes after the store of own flag for the swap to come
  raised : HasNodes s.passes (set s.words (flag s.view.node) pending) s.seats (set s.views s.seat (raised_view s.view))
  raised =
      let core = s.queued.core in
      let own : ℕ = flag s.view.node in
      same_nodes s.passes s.words (set s.words own pending) s.seats s.views s.seat s.view (raised_view s.view) core s.at (λ k. refl)
      refl refl (wrote_else s.words own tail pending (λ e. omega (arith, e)))
      (wrote_else s.words own (flag core.free) pending (λ e. not_free s.passes s.views core.free core.once s.seat s.view s.at s.live
      (omega (arith, e))) ∙ core.free_granted)
      (λ _ _. wrote_here s.words own pending own_inside)
      (λ k e. stays_pending s.words own (flag k) own_inside e)

  -- the nodes after the swap of `tail`
  swapped : s.view.phase ≡ Idle → s.view.raised ≡ true
      → HasNodes s.passes (set s.words tail s.view.node) (s.seats ++ s.seat ∷ [])
      (set s.views s.seat (queued_view s.view (slice_index s.words tail)))
  swapped idle raised =
      let q = s.queued in
      let found : ℕ = slice_index s.words tail in
      let w : View = queued_view s.view found in
      let words : List ℕ = set s.words tail s.view.node in
      let flags = λ (k : ℕ). wrote_else s.words tail (flag k) s.view.node (λ e. omega (arith, e)) in
      let up : is_pending s.view ≡ true = ap (λ (b : Bool). is_busy false s.view.phase || b) raised
      ∙ (λ i. is_busy false (idle i) || true) in
      let other = no_place clh_discipline s.passes s.tag s.words s.seats s.views s.seat s.view q s.at (ap (is_busy false) idle) in
      let before = leads_stay s.views (set s.views s.seat w) s.seats q.core.free found
      (λ i j u e e'. had_else s.views s.seat w j u (other i j e) e') q.core.leads in record {
        free = q.core.free;
        once = nodes_stay s.passes s.views q.core.free s.seat s.view w s.at (λ k. refl) q.core.once;
        leads = subst (λ (t : ℕ). Leads (set s.views s.seat w) q.core.free (s.seats ++ s.seat ∷ []) t)
            (sym (wrote_here s.words tail s.view.node (let long : length s.words ≡ 16 * (s.passes + 2 + 1) = q.long in
            omega (arith, long))))
            (leads_end (set s.views s.seat w) s.seats q.core.free found s.seat w (set_at s.views s.seat s.view w s.at) refl before);
        free_granted = flags q.core.free ∙ q.core.free_granted;
        own_pending = λ j u e live raised'. ⊎_elim
            (λ (x : (j ≡ s.seat) × (w ≡ u)). ap (λ (y : View). slice_index words (flag y.node)) (sym x.1) ∙ flags s.view.node
            ∙ q.core.own_pending s.seat s.view s.at s.live up)
            (λ (x : (j ≢ s.seat) × (get_elem? s.views j ≡ some u)). flags u.node ∙ q.core.own_pending j u x.1 live raised')
            (at_set s.views s.seat j w u e);
      }

  -- where the node that a pass watches is granted, the pass is the head: each other one watches the node of a pass in the queue, which is
  -- pending
  head_at : slice_index s.words (flag s.view.predecessor) ≡ granted → (i : ℕ) → get_elem? s.seats i ≡ some s.seat
      → get_elem? s.seats 0 ≡ some s.seat
  head_at e zero p = p
  head_at e (suc i) p =
      let core = s.queued.core in
      let b = leads_before s.views s.seats core.free (slice_index s.words tail) i s.seat s.view s.queued.each_place core.leads p s.at in
      let up : is_pending b.1.view ≡ true = ap (λ (x : Bool). x || b.1.view.raised) b.1.is in
      let raised : slice_index s.words (flag b.1.view.node) ≡ 1 = core.own_pending b.0 b.1.view b.1.at (busy_lives b.0 b.1) up in
      let lowered : slice_index s.words (flag b.1.view.node) ≡ 0 = ap (λ (k : ℕ). slice_index s.words (flag k)) (sym b.2) ∙ e in
      absurd (omega (arith, raised, lowered))

  -- where `tail` is not the holder's own node, another pass is queued
  others_behind : get_elem? s.seats 0 ≡ some s.seat → answer_of (others_wait s.view (slice_index s.words tail)) ≡ Yes → 1 < length s.seats
  others_behind first noted = dite (ℕ_discrete (length s.seats) 1)
      (λ one.
      let found : ℕ = slice_index s.words tail in
      let last = leads_alone s.views s.seats s.queued.core.free found s.seat s.view s.queued.core.leads first s.at one in
      let same : (found == s.view.node) ≡ true = eq-eqb found s.view.node last in
      let no : No ≡ Yes = sym (ap (λ (b : Bool). answer_of (not b)) same) ∙ noted in absurd cc)
      (λ ne. let b = at_below s.seats 0 s.seat first in omega arith)

  -- the nodes after the store of own flag by which the head leaves
  left : (rest : List ℕ) → s.seats ≡ s.seat ∷ rest
      → HasNodes s.passes (set s.words (flag s.view.node) granted) rest (set s.views s.seat (left_view s.view))
  left rest cut =
      let q = s.queued in
      let v : View = s.view in
      let w : View = left_view v in
      let last : ℕ = slice_index s.words tail in
      let first : get_elem? s.seats 0 ≡ some s.seat = ap (λ (l : List ℕ). get_elem? l 0) cut in
      let led = subst (λ (l : List ℕ). Leads s.views q.core.free l last) cut q.core.leads v s.at in
      let other : (i j : ℕ) → get_elem? rest i ≡ some j → j ≢ s.seat = λ i j e same. (
      let z : suc i ≡ 0 = q.once (suc i) 0 s.seat (ap (λ (l : List ℕ). get_elem? l (suc i)) cut ∙ e ∙ ap some same) first in
      absurd (omega arith)) in record {
        free = v.node;
        once = nodes_swapped s.passes s.views q.core.free s.seat v s.at s.live led.0 q.core.once;
        leads = subst (λ (t : ℕ). Leads (set s.views s.seat w) v.node rest t) (sym
            (wrote_else s.words (flag v.node) tail granted (λ e. omega (arith, e))))
            (leads_stay s.views (set s.views s.seat w) rest v.node last
            (λ i j u e e'. had_else s.views s.seat w j u (other i j e) e') led.1);
        free_granted = wrote_here s.words (flag v.node) granted own_inside;
        own_pending = λ j u e live raised. ⊎_elim
            (λ (y : (j ≡ s.seat) × (w ≡ u)). absurd (no_true (sym raised ∙ ap is_pending (sym y.1))))
            (λ (y : (j ≢ s.seat) × (get_elem? s.views j ≡ some u)).
            wrote_else s.words (flag v.node) (flag u.node) granted (λ e. nodes_apart s.passes s.views q.core.free
            q.core.once s.seat j v u s.at y.1 s.live live y.0 (omega (arith, e)))
            ∙ q.core.own_pending j u y.1 live raised)
            (at_set s.views s.seat j w u e);
      }

pub raises : IsKept clh_discipline store_pending
raises = record {
  noted = λ v found. record { same = refl; steps = refl; entered = refl; read = (refl, refl, refl) };
  keeps = λ s asks low. let quiet = wrong_phase (is_holder false) (raised_view s.view) Idle asks refl in record {
    apart = λ e. omega (arith, e);
    told = tt;
    kept = record {
      calm = inl refl;
      busy = refl;
      holds = refl;
      tested = λ h _. absurd (quiet h);
      followed = λ h _. absurd (quiet h);
      core = raised s;
    };
  };
}

pub swaps : IsKept clh_discipline fetch_and_store_tail
swaps = record {
  noted = λ v found. record { same = refl; steps = refl; entered = refl; read = (refl, refl, refl) };
  keeps = λ s asks low. record {
    apart = λ e. omega (arith, e);
    told = subst (λ (c : ℕ). slice_index s.words tail ≤ c) (sym ((s.queued.each_seat s.seat s.view s.at).counted s.live)) (tail_within s);
    kept = record { idle = asks.0; queued = refl; announced = asks.2; core = swapped s asks.0 asks.1 };
  };
}

pub polls : IsKept clh_discipline load_watched
polls = record {
  noted = λ v found. (
    record { same = refl; steps = refl; entered = refl; read = refl },
    record {
      same = refl;
      steps = refl;
      entered = refl;
      read = refl;
    },
  );
  keeps = λ s asks low.
      let placed = (s.queued.each_seat s.seat s.view s.at).placed (ap (is_busy false) asks) in
      let idle = wrong_phase (is_holder false) (missed_view s.view) Queued asks refl in record {
        apart = λ e. omega (arith, e);
        told = tt;
        kept = (
          λ e. record {
            loaded = refl;
            queued = asks;
            first = head_at s e placed.0 placed.1;
            held = refl;
            untested = refl;
            alone = refl;
            core = loaded s (flag s.view.predecessor) (took_view s.view) (λ k. refl) refl refl
                (λ _. ap (λ (x : Bool). x || s.view.raised) (ap (is_busy false) asks));
          },
          λ ne. record {
            calm = inl refl;
            busy = refl;
            holds = refl;
            tested = λ h _. absurd (idle h);
            followed = λ h _. absurd (idle h);
            core = loaded s (flag s.view.predecessor) (missed_view s.view) (λ k. refl) refl refl (λ x. x);
          },
        );
      };
}

pub waits : IsKept clh_discipline load_tail
waits = record {
  noted = λ v found. record { same = refl; steps = refl; entered = refl; read = refl };
  keeps = λ s asks low. let stands = s.queued.each_seat s.seat s.view s.at in record {
    apart = λ e. omega (arith, e);
    told = tt;
    kept = record {
      calm = inl refl;
      busy = refl;
      holds = refl;
      tested = λ h noted. (asks.1, inl (others_behind s (stands.first h) noted));
      followed = stands.followed;
      core = loaded s tail (tested_view s.view (others_wait s.view (slice_index s.words tail))) (λ k. refl) refl refl (λ x. x);
    };
  };
}

pub gives_back : IsKept clh_discipline store_granted
gives_back = record {
  noted = λ v found. record { same = refl; steps = refl; entered = refl; read = (refl, refl, refl) };
  keeps = λ s asks low.
      let held = ap (is_holder false) asks.0 in
      let cut = head_cut s.seats s.seat ((s.queued.each_seat s.seat s.view s.at).first held) in record {
        apart = λ e. omega (arith, e);
        told = tt;
        kept = record {
          silent = asks.1;
          held = held;
          tail = cut.0;
          cut = cut.1;
          free = refl;
          unheld = refl;
          core = left s cut.0 cut.1;
        };
      };
}
