-- The links of the queue at each kind of step.
use Rattle.std.proofs.Common.{◌≡◌, ◌≢◌, ◌⊎◌, ℕ, zero, suc, ◌+◌, ◌<◌, ◌≤◌, true, false, List, [], ◌∷◌, ◌++◌, length, set, slice_index, refl}
use Rattle.std.proofs.Common.{ap, sym, ◌∙◌, subst, inl, inr, ⊎_elim, arith, length-append}
use Rattle.std.proofs.Math.ListN.{length-set}
use mathlib.Core.Option.{some, some-injective, some-ne-none}
use mathlib.Core.Logic.{dite}
use native.Mathlib.Decide.{ℕ_discrete}
use lib.ListN.{get_elem?}
use Rattle.atomic_table.proofs.Lists.{at_set, set_else, at_longer}
use Rattle.lock_rules.specs.Tag.{Tag}
use Rattle.lock_rules.specs.declared.view.Phase.TheVariants.{Idle, Queued, Holding}
use Rattle.lock_rules.specs.declared.view.View.{View}
use Rattle.lock_tables.specs.Rule.{is_busy, IsQueued}
use Rattle.lock_tables.proofs.Lists.{set_at, at_end, at_below, no_true, wrote_here, wrote_else}
use Rattle.lock_tables.proofs.Queues.{no_place}
use Rattle.mcs_lock.specs.Rule.{tail, next, locked, name, pass_named, IsPlaced, NamesBehind, IsPrepared, IsLinked, mcs_discipline}
use Rattle.mcs_lock.specs.Kinds.{cleared_view, raised_view, queued_view, entered_view, linked_view, left_view}
use Rattle.mcs_lock.proofs.Places.{one_view, KeepsLinks, keeps_all, WasPlaced, IsStill, still, names_still, names_as, core_from, live_at}
use Rattle.mcs_lock.proofs.Places.{below_at, same_place, other_pass, other_seat, place_of, placed_at, fresh_prepared}

module _ {n : ℕ} {tag : Tag} {words seats : List ℕ} {views : List View} (q : IsQueued mcs_discipline n tag words seats views) where
  -- a pass that is idle is none of the passes of the queue
  idle_apart : (j : ℕ) (u : View) → get_elem? views j ≡ some u → u.spent ≡ false → u.phase ≡ Idle → (i : ℕ) (z : View)
      → IsPlaced seats views i z → u.number ≢ z.number
  idle_apart j u at live idle i z p e = other_pass q j u at live (ap (is_busy true) idle) i z p (sym e)

  next_in : (j : ℕ) (u : View) → get_elem? views j ≡ some u → u.spent ≡ false → next u.number < length words
  next_in j u at live = let b = below_at q j u at live in let size = q.long in omega (arith, b, size)

  locked_in : (j : ℕ) (u : View) → get_elem? views j ≡ some u → u.spent ≡ false → locked u.number < length words
  locked_in j u at live = let b = below_at q j u at live in let size = q.long in omega (arith, b, size)

  module _ (id : ℕ) {v : View} (at : get_elem? views id ≡ some v) (live : v.spent ≡ false) where
    long_set : (w : View) → length views ≤ length (set views id w)
    long_set w = let a = length-set views id w in omega (arith, a)

    was_set : (w : View) → KeepsLinks v w → (i : ℕ) (u : View) → IsPlaced seats (set views id w) i u → WasPlaced seats views i u
    was_set w keeps i u p = ⊎_elim
        (λ (t : (p.seat ≡ id) × (w ≡ u)). subst (WasPlaced seats views i) t.1 (record {
          view = v;
          placed = record { seat = p.seat; place = p.place; at = ap (get_elem? views) t.0 ∙ at };
          keeps = keeps;
        }))
        (λ (t : (p.seat ≢ id) × (get_elem? views p.seat ≡ some u)).
        record { view = u; placed = record { seat = p.seat; place = p.place; at = t.1 }; keeps = keeps_all u })
        (at_set views id p.seat w u p.at)

    stays_placed : (w : View) → KeepsLinks v w → (i : ℕ) (u : View) → IsPlaced seats views i u → IsStill seats (set views id w) i u
    stays_placed w keeps = still (long_set w) (was_set w keeps)

    names_set : (w : View) → KeepsLinks v w → (i x : ℕ) → NamesBehind seats views i x → NamesBehind seats (set views id w) i x
    names_set w keeps i x = names_still (stays_placed w keeps (suc i))

    -- what was noted of the pass behind
    noted_set : (w : View) → KeepsLinks v w
        → ((i : ℕ) → IsPlaced seats views i v → w.successor ≢ 0 → NamesBehind seats views i w.successor)
        → (i : ℕ) (u : View) → IsPlaced seats (set views id w) i u → u.successor ≢ 0 → NamesBehind seats (set views id w) i u.successor
    noted_set w keeps own i u p ne = names_set w keeps i u.successor (⊎_elim
        (λ (t : (p.seat ≡ id) × (w ≡ u)). let same = ap (λ (x : View). x.successor) t.1 in
        names_as same (own i (record { seat = p.seat; place = p.place; at = ap (get_elem? views) t.0 ∙ at }) (λ e. ne (sym same ∙ e))))
        (λ (t : (p.seat ≢ id) × (get_elem? views p.seat ≡ some u)). q.core.noted i u
        (record { seat = p.seat; place = p.place; at = t.1 }) ne)
        (at_set views id p.seat w u p.at))

    -- what is stored for a swap to come, where the words of the other idle passes stay
    prepared_set : (words' : List ℕ) (w : View) → IsPrepared words' w
        → ((j : ℕ) (u : View) → j ≢ id → get_elem? views j ≡ some u → u.spent ≡ false → u.phase ≡ Idle
        → (slice_index words' (next u.number) ≡ slice_index words (next u.number))
        × (slice_index words' (locked u.number) ≡ slice_index words (locked u.number)))
        → (j : ℕ) (u : View) → get_elem? (set views id w) j ≡ some u → u.spent ≡ false → IsPrepared words' u
    prepared_set words' w mine same j u e live' = ⊎_elim
        (λ (t : (j ≡ id) × (w ≡ u)). subst (IsPrepared words') t.1 mine)
        (λ (t : (j ≢ id) × (get_elem? views j ≡ some u)). let k = q.core.prepared j u t.1 live' in record {
          unlinked = λ e'. let r = k.unlinked e' in (r.0, (same j u t.0 t.1 live' r.0).0 ∙ r.1);
          raised = λ e'. let r = k.raised e' in (r.0, (same j u t.0 t.1 live' r.0).1 ∙ r.1);
        })
        (at_set views id j w u e)

    -- where `tail` is stored
    prepared_tail : (x : ℕ) (w : View) → IsPrepared (set words tail x) w → (j : ℕ) (u : View) → get_elem? (set views id w) j ≡ some u
        → u.spent ≡ false → IsPrepared (set words tail x) u
    prepared_tail x w mine = prepared_set (set words tail x) w mine (λ j u _ _ _ _.
        (wrote_else words tail (next u.number) x (λ e. omega arith), wrote_else words tail (locked u.number) x (λ e. omega arith)))

    -- a pass in the queue has nothing stored
    busy_prepared : (words' : List ℕ) (w : View) → is_busy true v.phase ≡ true → w.unlinked ≡ v.unlinked → w.raised ≡ v.raised
        → IsPrepared words' w
    busy_prepared words' w busy a b = let k = q.core.prepared id v at live in record {
      unlinked = λ e. absurd (no_true (sym busy ∙ ap (is_busy true) (k.unlinked (sym a ∙ e)).0));
      raised = λ e. absurd (no_true (sym busy ∙ ap (is_busy true) (k.raised (sym b ∙ e)).0));
    }

    placed_id : (i : ℕ) → IsPlaced seats views i v → get_elem? seats i ≡ some id
    placed_id i p = p.place ∙ ap some (dite (ℕ_discrete p.seat id) (λ e. e)
        (λ ne. absurd (other_seat q id p.seat v v at p.at live live ne refl)))

    -- a step that leaves the words
    pub core_loads : (w : View) → KeepsLinks v w → is_busy true v.phase ≡ true → w.unlinked ≡ v.unlinked → w.raised ≡ v.raised
        → ((i : ℕ) → IsPlaced seats views i v → w.successor ≢ 0 → NamesBehind seats views i w.successor)
        → IsLinked n words seats (set views id w)
    core_loads w keeps busy a b own = core_from words (set views id w) q.core refl (long_set w) (was_set w keeps) (λ i u p. refl)
        (λ i u p ne. names_set w keeps i (slice_index words (next u.number)) (q.core.links i u p ne))
        (noted_set w keeps own)
        (prepared_set words w (busy_prepared words w busy a b) (λ j u _ _ _ _. (refl, refl)))

    -- a store of an idle pass in one of its own words
    core_stores : (words' : List ℕ) (w : View) → v.phase ≡ Idle → slice_index words' tail ≡ slice_index words tail
        → ((p : ℕ) → p ≢ v.number → slice_index words' (next p) ≡ slice_index words (next p))
        → ((p : ℕ) → p ≢ v.number → slice_index words' (locked p) ≡ slice_index words (locked p))
        → KeepsLinks v w → IsPrepared words' w → IsLinked n words' seats (set views id w)
    core_stores words' w idle ends a b keeps mine =
        let free = ap (is_busy true) idle in
        let apart = other_pass q id v at live free in
        core_from words' (set views id w) q.core ends (long_set w) (was_set w keeps) (λ i u p. b u.number (apart i u p))
        (λ i u p ne. let same = a u.number (apart i u p) in
        names_set w keeps i (slice_index words' (next u.number)) (names_as (sym same) (q.core.links i u p (λ e. ne (same ∙ e)))))
        (noted_set w keeps (λ i p _. absurd (no_place mcs_discipline n tag words seats views id v q at free i id (placed_id i p) refl)))
        (prepared_set words' w mine (λ j u ne e live' _. let far = other_seat q id j v u at e live live' ne in
        (a u.number far, b u.number far)))

    tail_below : tail < length words
    tail_below = let size = q.long in omega (arith, size)

    -- store of own `next`
    pub core_clears : v.phase ≡ Idle → IsLinked n (set words (next v.number) 0) seats (set views id (cleared_view v))
    core_clears idle = let o : ℕ = next v.number in core_stores (set words o 0) (cleared_view v) idle
        (wrote_else words o tail 0 (λ e. omega arith))
        (λ p ne. wrote_else words o (next p) 0 (λ e. ne (omega arith)))
        (λ p _. wrote_else words o (locked p) 0 (λ e. omega arith))
        (record { number = refl; predecessor = refl; linked = λ e. e; queued = λ e. e })
        (record {
          unlinked = λ _. (idle, wrote_here words o 0 (next_in id v at live));
          raised = λ e. (idle, wrote_else words o (locked v.number) 0 (λ e'. omega arith) ∙ ((q.core.prepared id v at live).raised e).1);
        })

    -- store of own `locked`
    pub core_raises : v.phase ≡ Idle → IsLinked n (set words (locked v.number) 1) seats (set views id (raised_view v))
    core_raises idle = let o : ℕ = locked v.number in core_stores (set words o 1) (raised_view v) idle
        (wrote_else words o tail 1 (λ e. omega arith))
        (λ p _. wrote_else words o (next p) 1 (λ e. omega arith))
        (λ p ne. wrote_else words o (locked p) 1 (λ e. ne (omega arith)))
        (record { number = refl; predecessor = refl; linked = λ e. e; queued = λ e. e })
        (record {
          unlinked = λ e. (idle, wrote_else words o (next v.number) 1 (λ e'. omega arith) ∙ ((q.core.prepared id v at live).unlinked e).1);
          raised = λ _. (idle, wrote_here words o 1 (locked_in id v at live));
        })

    -- a place of the queue behind which another pass enters
    enter_cases : (w : View) (i : ℕ) (u : View) → v.phase ≡ Idle → IsPlaced (seats ++ id ∷ []) (set views id w) i u
        → IsPlaced seats views i u ⊎ ((i ≡ length seats) × (w ≡ u))
    enter_cases w i u idle p = ⊎_elim
        (λ (f : get_elem? seats i ≡ some p.seat). ⊎_elim
        (λ (t : (p.seat ≡ id) × (w ≡ u)). absurd
        (no_place mcs_discipline n tag words seats views id v q at (ap (is_busy true) idle) i p.seat f t.0))
        (λ (t : (p.seat ≢ id) × (get_elem? views p.seat ≡ some u)). inl (record { seat = p.seat; place = f; at = t.1 }))
        (at_set views id p.seat w u p.at))
        (λ (f : (i ≡ length seats) × (id ≡ p.seat)). ⊎_elim
        (λ (t : (p.seat ≡ id) × (w ≡ u)). inr (f.0, t.1))
        (λ (t : (p.seat ≢ id) × (get_elem? views p.seat ≡ some u)). absurd (t.0 (sym f.1)))
        (at_set views id p.seat w u p.at))
        (at_end seats id p.seat i p.place)

    names_enter : (w : View) (i x : ℕ) → v.phase ≡ Idle → NamesBehind seats views i x → NamesBehind (seats ++ id ∷ []) (set views id w) i x
    names_enter w i x idle b = let p = b.placed in record {
      view = b.view;
      placed = record {
        seat = p.seat;
        place = at_longer seats (id ∷ []) (suc i) p.seat p.place;
        at = set_else views id p.seat w
            (no_place mcs_discipline n tag words seats views id v q at (ap (is_busy true) idle) (suc i) p.seat p.place) ∙ p.at;
      };
      named = b.named;
      linked = b.linked;
    }

    -- swap of `tail` that found a pass
    pub core_enters : v.phase ≡ Idle → v.unlinked ≡ true → v.raised ≡ true → slice_index words tail ≢ 0
        → IsLinked n (set words tail (name v.number)) (seats ++ id ∷ []) (set views id (queued_view v (slice_index words tail)))
    core_enters idle cleared raised some_pass =
        let w : View = queued_view v (slice_index words tail) in
        let words' : List ℕ = set words tail (name v.number) in
        let k = q.core in
        let mine = k.prepared id v at live in
        let long : length (seats ++ id ∷ []) ≡ length seats + 1 = omega (arith, length-append seats (id ∷ [])) in
        let next_same = λ (p : ℕ). wrote_else words tail (next p) (name v.number) (λ e. omega arith) in
        let locked_same = λ (p : ℕ). wrote_else words tail (locked p) (name v.number) (λ e. omega arith) in record {
          empty = λ e. absurd (omega (arith, e, long));
          last = λ i u p e. ⊎_elim
              (λ (r : IsPlaced seats views i u). absurd (let b = at_below seats i r.seat r.place in omega (arith, b, e, long)))
              (λ (t : (i ≡ length seats) × (w ≡ u)). wrote_here words tail (name v.number) tail_below
              ∙ ap (λ (x : View). name x.number) t.1)
              (enter_cases w i u idle p);
          first = λ u p. ⊎_elim
              (λ (r : IsPlaced seats views 0 u). let f = k.first u r in record {
                free = ⊎_elim (λ (e : u.predecessor ≡ 0). inl e)
                    (λ (e : slice_index words (locked u.number) ≡ 0). inr (locked_same u.number ∙ e)) f.free;
                linked = f.linked;
              })
              (λ (t : (0 ≡ length seats) × (w ≡ u)). absurd (some_pass (k.empty (sym t.0))))
              (enter_cases w 0 u idle p);
          behind = λ i u z p r. ⊎_elim
              (λ (r' : IsPlaced seats views (suc i) z). ⊎_elim
              (λ (p' : IsPlaced seats views i u). let b = k.behind i u z p' r'
              in record { named = b.named; waits = locked_same z.number ∙ b.waits })
              (λ (t : (i ≡ length seats) × (w ≡ u)). absurd (let b = at_below seats (suc i) r'.seat r'.place in omega (arith, b, t.0)))
              (enter_cases w i u idle p))
              (λ (t : (suc i ≡ length seats) × (w ≡ z)). ⊎_elim
              (λ (p' : IsPlaced seats views i u). record {
                named = ap (λ (x : View). x.predecessor) (sym t.1) ∙ k.last i u p' (sym t.0);
                waits = ap (λ (x : View). slice_index words' (locked x.number)) (sym t.1) ∙ locked_same v.number ∙ (mine.raised raised).1;
              })
              (λ (t' : (i ≡ length seats) × (w ≡ u)). absurd (omega (arith, t.0, t'.0)))
              (enter_cases w i u idle p))
              (enter_cases w (suc i) z idle r);
          links = λ i u p ne. ⊎_elim
              (λ (r : IsPlaced seats views i u). let same = next_same u.number in
              names_as (sym same) (names_enter w i (slice_index words (next u.number)) idle (k.links i u r (λ e. ne (same ∙ e)))))
              (λ (t : (i ≡ length seats) × (w ≡ u)). absurd
              (ne (ap (λ (x : View). slice_index words' (next x.number)) (sym t.1) ∙ next_same v.number ∙ (mine.unlinked cleared).1)))
              (enter_cases w i u idle p);
          noted = λ i u p ne. ⊎_elim
              (λ (r : IsPlaced seats views i u). names_enter w i u.successor idle (k.noted i u r ne))
              (λ (t : (i ≡ length seats) × (w ≡ u)). absurd (ne (ap (λ (x : View). x.successor) (sym t.1))))
              (enter_cases w i u idle p);
          prepared = prepared_tail (name v.number) w (fresh_prepared words' w refl refl);
        }

    only_one : (w : View) (i : ℕ) (u : View) → IsPlaced (id ∷ []) (set views id w) i u → (i ≡ 0) × (w ≡ u)
    only_one w zero u p = (
      refl,
      some-injective w u (sym (set_at views id v w at) ∙ ap (get_elem? (set views id w)) (some-injective id p.seat p.place)
          ∙ p.at),
    )
    only_one w (suc i) u p = absurd (some-ne-none p.seat (sym p.place))

    -- swap of `tail` that found none
    pub core_takes : v.unlinked ≡ true → IsLinked n (set words tail (name v.number)) (id ∷ []) (set views id (entered_view v))
    core_takes cleared =
        let w : View = entered_view v in
        let words' : List ℕ = set words tail (name v.number) in record {
          empty = λ e. absurd (omega (arith, e));
          last = λ i u p e. wrote_here words tail (name v.number) tail_below ∙ ap (λ (x : View). name x.number) (only_one w i u p).1;
          first = λ u p. let s = (only_one w 0 u p).1 in record {
            free = inl (ap (λ (x : View). x.predecessor) (sym s));
            linked = λ e. absurd (let z : Holding ≡ Queued = ap (λ (x : View). x.phase) s ∙ e in cc);
          };
          behind = λ i u z p r. absurd (some-ne-none r.seat (sym r.place));
          links = λ i u p ne. absurd (ne (ap (λ (x : View). slice_index words' (next x.number)) (sym (only_one w i u p).1)
              ∙ wrote_else words tail (next v.number) (name v.number) (λ e. omega arith)
              ∙ ((q.core.prepared id v at live).unlinked cleared).1));
          noted = λ i u p ne. absurd (ne (ap (λ (x : View). x.successor) (sym (only_one w i u p).1)));
          prepared = prepared_tail (name v.number) w (fresh_prepared words' w refl refl);
        }

    -- a queued pass that hasn't stored its link is behind another
    link_at : (i : ℕ) → IsPlaced seats views i v → v.phase ≡ Queued → v.linked ≡ false → (i : ℕ) × (u : View) × IsPlaced seats views i u
        × IsPlaced seats views (suc i) v × (v.predecessor ≡ name u.number)
    link_at zero p queued open_link = absurd (no_true (sym ((q.core.first v p).linked queued) ∙ open_link))
    link_at (suc i) p queued open_link =
        let u = placed_at q i (let b = at_below seats (suc i) p.seat p.place in omega arith) in
        (i, u.0, u.1, p, (q.core.behind i u.0 v u.1 p).named)

    -- the seat of a place that it has, with its new view
    own_placed : (w : View) (i : ℕ) → IsPlaced seats views i v → IsPlaced seats (set views id w) i w
    own_placed w i p = record { seat = id; place = placed_id i p; at = set_at views id v w at }

    -- store of the predecessor's `next`
    pub core_links : v.phase ≡ Queued → v.linked ≡ false
        → IsLinked n (set words (next (pass_named v.predecessor)) (name v.number)) seats (set views id (linked_view v))
    core_links queued open_link =
        let w : View = linked_view v in
        let o : ℕ = next (pass_named v.predecessor) in
        let words' : List ℕ = set words o (name v.number) in
        let busy = ap (is_busy true) queued in
        let b = place_of q id v at busy in
        let l = link_at b.0 b.1 queued open_link in
        let far : o ≡ next l.1.number = let named = l.4 in omega (arith, named) in
        let keeps : KeepsLinks v w = record { number = refl; predecessor = refl; linked = λ _. refl; queued = λ e. e } in
        let here : slice_index words' o ≡ name v.number = wrote_here words o (name v.number)
        (let h = next_in l.2.seat l.1 l.2.at (live_at q l.0 l.1 l.2) in omega (arith, h, far)) in
        let locked_same = λ (p : ℕ). wrote_else words o (locked p) (name v.number) (λ e. omega arith) in
        core_from words' (set views id w) q.core (wrote_else words o tail (name v.number) (λ e. omega arith))
        (long_set w) (was_set w keeps) (λ i u p. locked_same u.number)
        (λ i u p ne. dite (ℕ_discrete u.number l.1.number)
        (λ e.
        let place : i ≡ l.0 = same_place q i l.0 u l.1 p l.2 e in
        let same : slice_index words' (next u.number) ≡ name v.number = ap (λ (x : ℕ). slice_index words' (next x)) e
        ∙ ap (slice_index words') (sym far) ∙ here in
        record {
          view = w;
          placed = subst (λ (x : ℕ). IsPlaced seats (set views id w) (suc x) w) (sym place)
              (own_placed w (suc l.0) l.3);
          named = same;
          linked = refl;
        })
        (λ far'. let same = wrote_else words o (next u.number) (name v.number) (λ e. far' (omega (arith, e, far))) in
        names_as (sym same) (names_set w keeps i (slice_index words (next u.number)) (q.core.links i u p (λ e. ne (same ∙ e))))))
        (noted_set w keeps (λ i p ne. q.core.noted i v p ne))
        (prepared_set words' w (busy_prepared words' w busy refl refl) (λ j u _ e live' idle.
        let far' = idle_apart j u e live' idle l.0 l.1 l.2 in
        (wrote_else words o (next u.number) (name v.number) (λ e'. far' (omega (arith, e', far))), locked_same u.number)))

    -- a seat behind the head is another
    not_head : (rest : List ℕ) → seats ≡ id ∷ rest → (i j : ℕ) → get_elem? seats (suc i) ≡ some j → j ≢ id
    not_head rest cut i j place e =
        let z : suc i ≡ 0 = q.once (suc i) 0 id (place ∙ ap some e) (ap (λ (l : List ℕ). get_elem? l 0) cut) in omega arith

    -- a place of the queue that the head leaves
    leave_was : (w : View) (rest : List ℕ) → seats ≡ id ∷ rest → (i : ℕ) (u : View) → IsPlaced rest (set views id w) i u
        → IsPlaced seats views (suc i) u
    leave_was w rest cut i u p =
        let place : get_elem? seats (suc i) ≡ some p.seat = ap (λ (l : List ℕ). get_elem? l (suc i)) cut ∙ p.place in
        record { seat = p.seat; place = place; at = sym (set_else views id p.seat w (not_head rest cut i p.seat place)) ∙ p.at }

    names_leave : (w : View) (rest : List ℕ) → seats ≡ id ∷ rest → (i x : ℕ) → NamesBehind seats views (suc i) x
        → NamesBehind rest (set views id w) i x
    names_leave w rest cut i x b = let p = b.placed in record {
      view = b.view;
      placed = record {
        seat = p.seat;
        place = ap (λ (l : List ℕ). get_elem? l (suc (suc i))) (sym cut) ∙ p.place;
        at = set_else views id p.seat w (not_head rest cut (suc i) p.seat p.place) ∙ p.at;
      };
      named = b.named;
      linked = b.linked;
    }

    -- store of the successor's `locked`
    pub core_passes : (rest : List ℕ) → seats ≡ id ∷ rest → is_busy true v.phase ≡ true → v.successor ≢ 0
        → IsLinked n (set words (locked (pass_named v.successor)) 0) rest (set views id (left_view v))
    core_passes rest cut busy followed =
        let w : View = left_view v in
        let o : ℕ = locked (pass_named v.successor) in
        let words' : List ℕ = set words o 0 in
        let k = q.core in
        let b = k.noted 0 v (record { seat = id; place = ap (λ (l : List ℕ). get_elem? l 0) cut; at = at }) followed in
        let far : o ≡ locked b.view.number = let named = b.named in omega (arith, named) in
        let one : length seats ≡ suc (length rest) = ap length cut in
        let here : slice_index words' o ≡ 0 = wrote_here words o 0
        (let h = locked_in b.placed.seat b.view b.placed.at (live_at q 1 b.view b.placed) in omega (arith, h, far)) in
        let next_same = λ (p : ℕ). wrote_else words o (next p) 0 (λ e. omega arith) in record {
          empty = λ e. absurd (let l = at_below seats 1 b.placed.seat b.placed.place in omega (arith, l, one, e));
          last = λ i u p e. wrote_else words o tail 0 (λ e'. omega arith) ∙ k.last (suc i) u (leave_was w rest cut i u p) (one ∙ ap suc e);
          first = λ u p. let s : b.view ≡ u = one_view b.placed (leave_was w rest cut 0 u p) in record {
            free = inr (ap (λ (y : View). slice_index words' (locked y.number)) (sym s) ∙ ap (slice_index words') (sym far) ∙ here);
            linked = λ _. ap (λ (z : View). z.linked) (sym s) ∙ b.linked;
          };
          behind = λ i u z p r.
              let r' = leave_was w rest cut (suc i) z r in
              let h = k.behind (suc i) u z (leave_was w rest cut i u p) r' in
              let other : z.number ≢ b.view.number = λ e.
              (let m : suc (suc i) ≡ 1 = same_place q (suc (suc i)) 1 z b.view r' b.placed e in omega arith) in record {
                named = h.named;
                waits = wrote_else words o (locked z.number) 0 (λ e. other (omega (arith, e, far))) ∙ h.waits;
              };
          links = λ i u p ne. let same = next_same u.number in
              names_as (sym same) (names_leave w rest cut i (slice_index words (next u.number))
              (k.links (suc i) u (leave_was w rest cut i u p) (λ e. ne (same ∙ e))));
          noted = λ i u p ne. names_leave w rest cut i u.successor (k.noted (suc i) u (leave_was w rest cut i u p) ne);
          prepared = prepared_set words' w (busy_prepared words' w busy refl refl) (λ j u _ e live' idle.
              let far' = idle_apart j u e live' idle 1 b.view b.placed in
              (next_same u.number, wrote_else words o (locked u.number) 0 (λ e'. far' (omega (arith, e', far)))));
        }

    -- exchange of `tail` from own to 0
    pub core_ends : is_busy true v.phase ≡ true → IsLinked n (set words tail 0) [] (set views id (left_view v))
    core_ends busy = record {
      empty = λ _. wrote_here words tail 0 tail_below;
      last = λ i u p. absurd (some-ne-none p.seat (sym p.place));
      first = λ u p. absurd (some-ne-none p.seat (sym p.place));
      behind = λ i u z p. absurd (some-ne-none p.seat (sym p.place));
      links = λ i u p. absurd (some-ne-none p.seat (sym p.place));
      noted = λ i u p. absurd (some-ne-none p.seat (sym p.place));
      prepared = prepared_tail 0 (left_view v) (busy_prepared (set words tail 0) (left_view v) busy refl refl);
    }

    alone_at : get_elem? seats 0 ≡ some id → slice_index words tail ≡ name v.number → (m : ℕ) → length seats ≡ m → 0 < m → m ≡ 1
    alone_at first e zero long h = absurd (omega arith)
    alone_at first e (suc m) long h =
        let u = placed_at q m (omega (arith, long)) in
        let named : suc u.0.number ≡ suc v.number = sym (q.core.last m u.0 u.1 long) ∙ e in
        ap suc (same_place q m 0 u.0 v u.1 (record { seat = id; place = first; at = at }) (omega (arith, named)))

    -- `tail` names the head alone where nobody is behind it
    pub alone_is : get_elem? seats 0 ≡ some id → slice_index words tail ≡ name v.number → length seats ≡ 1
    alone_is first e = let b = at_below seats 0 id first in alone_at first e (length seats) refl b
