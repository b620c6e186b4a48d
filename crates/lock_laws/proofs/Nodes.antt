-- Each node of a CLH lock is the free one or has exactly one seat.
use Rattle.std.proofs.Common.{◌≡◌, ℕ, ◌+◌, ◌<◌, ◌≤◌, cond, List, [], ◌∷◌, map, slice_index, slice_get}
use Rattle.std.proofs.Common.{nat_le, ap, sym, ◌∙◌, subst, arith}
use Rattle.std.specs.List.{sum_by}
use Rattle.std.proofs.lemmas.Bool.Decides.{nat_tests}
use mathlib.Core.Logic.{dite}
use native.Mathlib.Decide.{ℕ_discrete}
use lib.ListN.{get_elem?}
use Rattle.lock_rules.specs.Tag.{Tag}
use Rattle.lock_rules.specs.declared.view.View.{View}
use Rattle.lock_tables.specs.Numbers.{by_node, stands_in}
use Rattle.lock_tables.specs.Points.{IsAt, Has, HasOneSeat}
use Rattle.lock_tables.specs.Queue.{IsHead}
use Rattle.lock_tables.specs.Laws.{number_at}
use Rattle.lock_tables.specs.Rule.{IsQueued}
use Rattle.lock_tables.proofs.Lists.{head_cut, mapped, number_is}
use Rattle.lock_tables.proofs.Numbers.{hits, hits_self}
use Rattle.lock_tables.proofs.Queues.{lives, one_seat_of}
use Rattle.lock_tables.proofs.Stands.{hit, has_stands, one_seat_has}
use Rattle.lock_rules.proofs.Sums.{part_le}
use Rattle.lock_laws.specs.Nodes.{AreNodes}
use Rattle.clh_lock.specs.Rule.{tail, queue_of, Leads, clh_discipline}
use Rattle.clh_lock.proofs.Nodes.{Once, is_within, at_most_one, free_within}
use Rattle.clh_lock.proofs.Queue.{disciplined}

no_hit : (a k : ℕ) → ¬ (k ≡ a) → hits a k ≡ 0
no_hit a k ne = dite (ℕ_discrete (hits a k) 0) (λ z. z) (λ some_hit. absurd (ne (sym (hit a k (omega arith)))))

module _ (n : ℕ) (views : List View) (free : ℕ) (once : Once n views free) where
  one_owner : (k : ℕ) → k ≤ n → ¬ (k ≡ free) → HasOneSeat by_node k views
  one_owner k within other =
      let c : ℕ = cond (nat_le k n) 1 0 in
      let is_one : c ≡ 1 = grind (arith, nat_tests) in
      let o : sum_by (stands_in by_node k) views + hits free k ≡ c = once k in
      let not_free = no_hit free k other in one_seat_has by_node k views (omega (arith, o, is_one, not_free))

  unowned : (j : ℕ) (v : View) → IsAt views j v → ¬ Has by_node free v
  unowned j v at has =
      let o : sum_by (stands_in by_node free) views + hits free free ≡ cond (nat_le free n) 1 0 = once free in
      let most = at_most_one free n in
      let self = hits_self free in
      let mine = has_stands by_node free v at.unspent has in
      let part = part_le (stands_in by_node free) views j v at.at in
      omega (arith, o, most, self, mine, part)

  no_other : (k j : ℕ) (v : View) → IsAt views j v → Has by_node k v → k ≤ n
  no_other k j v at has =
      let c : ℕ = cond (nat_le k n) 1 0 in
      let o : sum_by (stands_in by_node k) views + hits free k ≡ c = once k in
      let mine = has_stands by_node k v at.unspent has in
      let part = part_le (stands_in by_node k) views j v at.at in
      let pos : 0 < c = omega (arith, o, mine, part) in is_within k n pos

-- where the queue is empty, the last node is the first
leads_none : (name : ℕ → ℕ) (views : List View) (seats : List ℕ) (first last : ℕ) → map name seats ≡ []
    → Leads views first seats last → last ≡ first
leads_none name views [] first last none_there l = l
leads_none name views (j ∷ js) first last none_there l = absurd (cc)

module _ (n : ℕ) (tag : Tag) (words seats : List ℕ) (views : List View) (q : IsQueued clh_discipline n tag words seats views) where
  queue_is : queue_of words views ≡ map (number_at views) seats
  queue_is = disciplined.queue_is n tag words seats views q

  -- the head of the queue is the first seat, which watches the free node
  watched : (j : ℕ) (v : View) → IsAt views j v → IsHead v.number (queue_of words views) → v.predecessor ≡ q.core.free
  watched j v at head =
      let m = mapped (number_at views) seats 0 v.number (ap (λ (l : List ℕ). slice_get l 0) (sym queue_is) ∙ head) in
      let p = q.each_place 0 m.0 m.1 in
      let live = lives clh_discipline n tag words seats views q m.0 p.view p.at p.is in
      let number : p.view.number ≡ v.number = sym (number_is views m.0 p.view p.at) ∙ m.2 in
      let same : m.0 ≡ j = one_seat_of clh_discipline n tag words seats views q j m.0 v p.view at.at p.at at.unspent live number in
      let cut = head_cut seats m.0 m.1 in
      let led = subst (λ (l : List ℕ). Leads views q.core.free l (slice_index words tail)) cut.1 q.core.leads in
      (led v (ap (get_elem? views) same ∙ at.at)).0

  pub are_nodes : AreNodes n (queue_of words views) words views
  are_nodes = record {
    free = q.core.free;
    free_within = free_within n views q.core.free q.core.once;
    one_owner = one_owner n views q.core.free q.core.once;
    unowned = unowned n views q.core.free q.core.once;
    no_other = no_other n views q.core.free q.core.once;
    empty = λ e. leads_none (number_at views) views seats q.core.free (slice_index words tail) (sym queue_is ∙ e) q.core.leads;
    watched = watched;
    free_granted = q.core.free_granted;
    own_pending = λ j v at raised. q.core.own_pending j v at.at at.unspent raised;
  }
