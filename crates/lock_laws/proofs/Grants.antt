-- What the rule of a Hemlock says of the passes that leave, in words that name only its words, its views and its queue.
use Rattle.std.proofs.Common.{◌≡◌, ◌≢◌, ℕ, zero, suc, ◌+◌, true, false, refl, ap, sym, ◌∙◌, subst, inl, inr, arith, Some}
use Rattle.std.proofs.Common.{List, length, map, slice_get, slice_index}
use Rattle.std.proofs.lemmas.List.{length-map}
use mathlib.Core.Option.{some, some-injective}
use mathlib.Core.Logic.{dite}
use native.Mathlib.Decide.{ℕ_discrete}
use lib.ListN.{get_elem?}
use Rattle.lock_rules.specs.Tag.{Tag}
use Rattle.lock_rules.specs.declared.view.Phase.TheVariants.{Leaving}
use Rattle.lock_rules.specs.declared.view.View.{View}
use Rattle.lock_tables.specs.Laws.{number_at}
use Rattle.lock_tables.specs.Points.{IsAt}
use Rattle.lock_tables.specs.Queue.{IsIn, IsHead}
use Rattle.lock_tables.specs.Rule.{is_busy, is_holder, IsQueued}
use Rattle.lock_tables.proofs.Lists.{number_is, mapped, mapped_at, at_below, there, no_true}
use Rattle.lock_tables.proofs.Queues.{lives, one_seat_of, not_in}
use Rattle.lock_laws.specs.Grants.{IsGranting, IsCleared, LeaveByGrants}
use Rattle.hemlock_lock.specs.Kinds.{own_name}
use Rattle.hemlock_lock.specs.Rule.{grant, queue_of, hemlock_discipline}
use Rattle.hemlock_lock.proofs.Chains.{no_seats, name_within, not_named, none_queued}
use Rattle.hemlock_lock.proofs.Queue.{queue_is}

module _ (n : ℕ) (tag : Tag) (words seats : List ℕ) (views : List View) (q : IsQueued hemlock_discipline n tag words seats views) where
  queue : queue_of words views ≡ map (number_at views) seats
  queue = queue_is n tag words seats views q

  -- the pass at a place of the queue is that of the seat there
  placed_at : (i j : ℕ) (v : View) → get_elem? seats i ≡ some j → get_elem? views j ≡ some v
      → slice_get (queue_of words views) i ≡ Some v.number
  placed_at i j v e at = ap (λ (l : List ℕ). slice_get l i) queue ∙ mapped_at (number_at views) seats i j e
      ∙ ap Some (number_is views j v at)

  -- the seat at the first place has the head
  head_at : (j : ℕ) (v : View) → get_elem? seats 0 ≡ some j → get_elem? views j ≡ some v → IsHead v.number (queue_of words views)
  head_at = placed_at 0

  -- and the other way round
  at_head : (j : ℕ) (v : View) → IsAt views j v → IsHead v.number (queue_of words views) → get_elem? seats 0 ≡ some j
  at_head j v at head =
      let m = mapped (number_at views) seats 0 v.number (ap (λ (l : List ℕ). slice_get l 0) (sym queue) ∙ head) in
      let p = q.each_place 0 m.0 m.1 in
      let live = lives hemlock_discipline n tag words seats views q m.0 p.view p.at p.is in
      let number : p.view.number ≡ v.number = sym (number_is views m.0 p.view p.at) ∙ m.2 in
      m.1 ∙ ap some (one_seat_of hemlock_discipline n tag words seats views q j m.0 v p.view at.at p.at at.unspent live number)

  -- a seat that names a pass which is leaving has the first place
  names_first : (k : ℕ) (u : View) (j : ℕ) (v : View) → IsAt views k u → IsAt views j v → v.phase ≡ Leaving → u.predecessor ≡ own_name v
      → get_elem? seats 0 ≡ some k
  names_first k u j v at at' leaves named = elim (is_busy false u.phase) as (λ b. is_busy false u.phase ≡ b → get_elem? seats 0 ≡ some k) [
    | false ↦ λ free. let none : u.predecessor ≡ 0 = q.core.nameless k u at.at free in absurd (omega arith)
    | true ↦ λ busy. let p = (q.each_seat k u at.at).placed busy in from p.0 p.1
  ] refl
    where
      from : (i : ℕ) → get_elem? seats i ≡ some k → get_elem? seats 0 ≡ some k
      from zero e = e
      from (suc i) e =
          let b = at_below seats (suc i) k e in
          let t = there seats i (omega arith) in
          let p = q.each_place i t.0 t.1 in
          let s : suc i ≡ i + 1 = omega arith in
          let ahead : u.predecessor ≡ own_name p.view = q.core.chained.behind i t.0 k p.view u t.1 p.at (ap (get_elem? seats) (sym s)
          ∙ e) at.at in
          let live = lives hemlock_discipline n tag words seats views q t.0 p.view p.at p.is in
          let number : p.view.number ≡ v.number = omega arith in
          let same = one_seat_of hemlock_discipline n tag words seats views q j t.0 v p.view at'.at p.at at'.unspent live number in
          let one : p.view ≡ v = some-injective p.view v (sym p.at ∙ ap (get_elem? views) same ∙ at'.at) in
          absurd (no_true (sym p.is ∙ ap (λ (x : View). is_busy false x.phase) one ∙ ap (is_busy false) leaves))

  granting : (j : ℕ) (v : View) → IsAt views j v → v.phase ≡ Leaving → own_name v ≡ q.core.named → IsGranting words views v
  granting j v at leaves is =
      let some_name : q.core.named ≢ 0 = λ z. (let a : own_name v ≡ 0 = is ∙ z in omega arith) in
      let some_seat : length seats ≢ 0 = λ z. some_name (q.core.chained.none_first z) in
      let first = there seats 0 (omega arith) in
      let head = q.each_place 0 first.0 first.1 in record {
        granted = ap (λ (x : ℕ). slice_index words (grant x)) is ∙ q.core.given some_name;
        followed = (head.view.number, head_at first.0 head.view first.1 head.at);
        by_head = λ k u at' e. q.core.chained.first k u (at_head k u at' e) at'.at ∙ sym is;
        by_no_other = λ k u at' e. head_at k u (names_first k u j v at' at leaves e) at'.at;
      }

  cleared : (j : ℕ) (v : View) → IsAt views j v → v.phase ≡ Leaving → own_name v ≢ q.core.named → IsCleared words views v
  cleared j v at leaves apart = record {
    cleared = q.core.kept (own_name v) (omega arith) (name_within n tag words seats views q j v at.at at.unspent) apart;
    by_none = λ k u at' e. apart (sym e ∙ q.core.chained.first k u (names_first k u j v at' at leaves e) at'.at);
  }

  pub leave_by_grants : LeaveByGrants words views
  leave_by_grants = record {
    none_last = λ e. q.core.chained.none_last (sym (length-map seats (number_at views)) ∙ ap length (sym queue ∙ e));
    none_queued = λ e. queue ∙ ap (map (number_at views)) (no_seats seats (none_queued n tag words seats views q e));
    kept = λ j v at stays. q.core.kept (own_name v) (omega arith) (name_within n tag words seats views q j v at.at at.unspent)
        (not_named n tag words seats views q j v at.at at.unspent stays);
    out = λ j v at leaves e. not_in hemlock_discipline n tag words seats views q j v at.at at.unspent (ap (is_busy false) leaves)
        (subst (IsIn v.number) queue e);
    leaves = λ j v at leaves. dite (ℕ_discrete (own_name v) q.core.named) (λ e. inl (granting j v at leaves e))
        (λ ne. inr (cleared j v at leaves ne));
    followed = λ j v at held set.
        let t = there seats 1 ((q.each_seat j v at.at).followed (ap (is_holder false) held) set) in
        let p = q.each_place 1 t.0 t.1 in (p.view.number, placed_at 1 t.0 p.view t.1 p.at);
  }
