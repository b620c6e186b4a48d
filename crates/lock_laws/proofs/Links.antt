-- What the rule of an MCS lock says of its words.
use Rattle.std.proofs.Common.{◌≡◌, ◌⊎◌, ℕ, suc, List, [], ◌∷◌, length, map, slice_get, slice_index, refl, ap, sym, ◌∙◌, subst, inl, inr}
use Rattle.std.proofs.Common.{arith, Some}
use mathlib.Core.Logic.{dite}
use native.Mathlib.Decide.{ℕ_discrete}
use Rattle.lock_rules.specs.Tag.{Tag}
use Rattle.lock_rules.specs.declared.view.View.{View}
use Rattle.lock_tables.specs.Laws.{number_at}
use Rattle.lock_tables.specs.Rule.{IsQueued}
use Rattle.lock_tables.proofs.Lists.{there, mapped, mapped_at, number_is}
use Rattle.lock_laws.specs.Links.{IsLinkedBehind, HasLinks}
use Rattle.mcs_lock.specs.Rule.{next, name, queue_of, IsPlaced, mcs_discipline}
use Rattle.mcs_lock.proofs.Places.{live_at, no_seats}
use Rattle.mcs_lock.proofs.Queue.{queue_is}

none_mapped : (f : ℕ → ℕ) (l : List ℕ) → map f l ≡ [] → length l ≡ 0
none_mapped f [] e = omega arith
none_mapped f (x ∷ xs) e = let z : suc (length (map f xs)) ≡ 0 = ap length e in absurd (omega (arith, z))

module _ {n : ℕ} {tag : Tag} {words seats : List ℕ} {views : List View} (q : IsQueued mcs_discipline n tag words seats views) where
  abbrev passes : List ℕ
  passes = map (number_at views) seats

  placed_pass : (i : ℕ) (v : View) (p : IsPlaced seats views i v) → slice_get passes i ≡ Some v.number
  placed_pass i v p =
      mapped_at (number_at views) seats i p.seat p.place ∙ ap (λ (x : ℕ). Some x) (number_is views p.seat v p.at)

  links_of : (i : ℕ) (v : View) → IsPlaced seats views i v
      → (slice_index words (next v.number) ≡ 0) ⊎ ((r : ℕ) × (slice_index words (next v.number) ≡ name r)
      × IsLinkedBehind passes views i r)
  links_of i v p = dite (ℕ_discrete (slice_index words (next v.number)) 0) (λ e. inl e) (λ ne.
      let b = q.core.links i v p ne in inr (
        b.view.number,
        b.named,
        record {
          place = placed_pass (suc i) b.view b.placed;
          seat = b.placed.seat;
          view = b.view;
          at = record { at = b.placed.at; unspent = live_at q (suc i) b.view b.placed };
          pass = refl;
          linked = b.linked;
        },
      ))

  passes_linked : HasLinks passes words views
  passes_linked = record {
    empty = λ e. q.core.empty (none_mapped (number_at views) seats e);
    only_empty = λ e. ap (map (number_at views)) (no_seats q e);
    links = λ i p e.
        let m = mapped (number_at views) seats i p e in
        let b = q.each_place i m.0 m.1 in
        subst (λ (x : ℕ). (slice_index words (next x) ≡ 0) ⊎ ((r : ℕ) × (slice_index words (next x) ≡ name r)
        × IsLinkedBehind passes views i r)) (sym (number_is views m.0 b.view b.at) ∙ m.2)
        (links_of i b.view (record { seat = m.0; place = m.1; at = b.at }));
    unlinked = λ j v at e. ((q.core.prepared j v at.at at.unspent).unlinked e).1;
    raised = λ j v at e. ((q.core.prepared j v at.at at.unspent).raised e).1;
    followed = λ j v at h e.
        let t = there seats 1 ((q.each_seat j v at.at).followed h e) in
        (number_at views t.0, mapped_at (number_at views) seats 1 t.0 t.1);
  }

  pub has_links : HasLinks (queue_of words views) words views
  has_links = subst (λ (l : List ℕ). HasLinks l words views) (sym (queue_is q)) passes_linked
