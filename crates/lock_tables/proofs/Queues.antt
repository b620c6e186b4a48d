-- The words and the views of a lock's table at each kind of event.
use Rattle.std.proofs.Common.{◌≡◌, ◌≢◌, ◌⊎◌, ℕ, zero, suc, ◌+◌, ◌-◌, ◌^◌, ◌<◌, ◌≤◌, Bool, true, false, cond, ◌==◌, List, [], ◌∷◌}
use Rattle.std.proofs.Common.{◌++◌, length, map, set, refl, ap, sym, ◌∙◌, subst, inl, inr, ⊎_elim, arith, length-append, nat_le}
use Rattle.std.proofs.Common.{nat_lt, ◌&&◌}
use Rattle.std.proofs.Math.ListN.{length-set}
use Rattle.std.specs.List.{count_by}
use Rattle.std.proofs.lemmas.List.Sums.{sum_by_push}
use mathlib.Core.Option.{some, some-injective, some-ne-none}
use mathlib.Core.Logic.{dite}
use native.Mathlib.Decide.{ℕ_discrete}
use lib.ListN.{get_elem?}
use Rattle.atomic_table.proofs.Lists.{at_set, set_else, at_longer, at_last}
use Rattle.lock_rules.specs.Rows.{row_of}
use Rattle.lock_rules.specs.Tag.{Tag}
use Rattle.lock_rules.specs.Views.{IsPlain, first_view, without_next, next_split, joined_view, spent_view}
use Rattle.lock_rules.specs.declared.view.Phase.{Phase}
use Rattle.lock_rules.specs.declared.view.Phase.TheVariants.{Idle, Queued, Holding, Leaving}
use Rattle.lock_rules.specs.declared.view.View.{View}
use Rattle.lock_rules.specs.declared.view.Waiters.{Waiters}
use Rattle.lock_tables.specs.Numbers.{by_pass, passes_of, stands_in}
use Rattle.lock_tables.specs.Queue.{IsIn}
use Rattle.lock_tables.specs.Rule.{Discipline, is_holder, is_busy, busy, SeatStands, IsBusyAt, IsQueued}
use Rattle.lock_tables.specs.Laws.{number_at}
use Rattle.lock_rules.proofs.Sums.{sum_set, sum_le}
use Rattle.lock_tables.proofs.Lists.{set_at, at_end, at_below, mapped, no_true, number_is}
use Rattle.lock_tables.proofs.Numbers.{passes_unspent, numbers_first, numbers_step, numbers_split, numbers_join, one_number}

-- a step that leaves which passes the seat has, and what it knows of its lock
pub record IsLike (v w : View) : Type 0 where
  pub number : w.number ≡ v.number
  pub from : w.from ≡ v.from
  pub to : w.to ≡ v.to
  pub joined : w.joined ≡ v.joined
  pub spent : w.spent ≡ v.spent
  pub tag : w.tag.tag ≡ v.tag.tag
  pub count : w.count ≡ v.count
  pub waiters : w.waiters ≡ v.waiters

pub like : (v w : View) → w.number ≡ v.number → w.from ≡ v.from → w.to ≡ v.to → w.joined ≡ v.joined → w.spent ≡ v.spent
    → w.tag.tag ≡ v.tag.tag → w.count ≡ v.count → w.waiters ≡ v.waiters → IsLike v w
like v w a b c d e f g h = record { number = a; from = b; to = c; joined = d; spent = e; tag = f; count = g; waiters = h }

like_size : (v w : View) → IsLike v w → passes_of w ≡ passes_of v
like_size v w l = λ i. cond (l.spent i) 0 (1 + (l.to i - l.from i) + length (l.joined i))

like_stands : (v w : View) → IsLike v w → (k : ℕ) → stands_in by_pass k w ≡ stands_in by_pass k v
like_stands v w l k = λ i. cond (l.spent i) 0 (cond (l.number i == k) 1 0 + cond (nat_le (l.from i) k && nat_lt k (l.to i)) 1 0 + count_by
    (λ x. x == k) (l.joined i))

-- a phase that is known, where its test says otherwise
pub wrong_phase : (test : Phase → Bool) (v : View) (p : Phase) → v.phase ≡ p → test p ≡ false → ¬ (test v.phase ≡ true)
wrong_phase test v p e f t = no_true (sym t ∙ ap test e ∙ f)

pub held_busy : (lingers : Bool) (p : Phase) → is_holder lingers p ≡ true → is_busy lingers p ≡ true
held_busy lingers Idle e = absurd (no_true (sym e))
held_busy lingers Queued e = refl
held_busy lingers Holding e = refl
held_busy lingers Leaving e = e

at_one : (a i j : ℕ) → get_elem? (a ∷ []) i ≡ some j → (i ≡ 0) × (a ≡ j)
at_one a zero j e = (refl, some-injective a j e)
at_one a (suc i) j e = absurd (some-ne-none j (sym e))

-- a place of another seat than the head's
behind_head : (id : ℕ) (rest : List ℕ) (i j : ℕ) → j ≢ id → get_elem? (id ∷ rest) i ≡ some j → (k : ℕ) × (get_elem? rest k ≡ some j)
behind_head id rest zero j ne e = absurd (ne (sym (some-injective id j e)))
behind_head id rest (suc i) j ne e = (i, e)

module _ (d : Discipline) (n : ℕ) (tag : Tag) where
  abbrev pub Q : List ℕ → List ℕ → List View → Type 0
  Q = IsQueued d n tag

  abbrev pub Stands : List ℕ → ℕ → View → Type 0
  Stands = SeatStands d.lingers n tag

  abbrev pub are_busy : Phase → Bool
  are_busy = is_busy d.lingers

  abbrev pub holds : Phase → Bool
  holds = is_holder d.lingers

  -- what stays of a seat's view
  tagged_like : (seats : List ℕ) (id : ℕ) (v w : View) → IsLike v w → Stands seats id v → w.spent ≡ false → w.tag.tag ≡ tag
  tagged_like seats id v w l st e = l.tag ∙ st.tagged (sym l.spent ∙ e)

  counted_like : (seats : List ℕ) (id : ℕ) (v w : View) → IsLike v w → Stands seats id v → w.spent ≡ false → w.count ≡ n
  counted_like seats id v w l st e = l.count ∙ st.counted (sym l.spent ∙ e)

  lives_like : (v w : View) → IsLike v w → v.spent ≡ false → ¬ (w.spent ≡ true)
  lives_like v w l live e = no_true (sym e ∙ l.spent ∙ live)

  -- a step of the seat id, from its view v to w
  step : (words words' seats seats' : List ℕ) (views : List View) (id : ℕ) (v w : View) (q : Q words seats views)
      → get_elem? views id ≡ some v → IsLike v w
      → length words' ≡ length words → length seats' + busy d.lingers v ≡ length seats + busy d.lingers w
      → ((i k j : ℕ) → get_elem? seats' i ≡ some j → get_elem? seats' k ≡ some j → i ≡ k)
      → Stands seats' id w → ((j : ℕ) (u : View) → j ≢ id → get_elem? views j ≡ some u → Stands seats' j u)
      → ((i j : ℕ) → get_elem? seats' i ≡ some j → IsBusyAt d.lingers (set views id w) j)
      → d.Core n words' seats' (set views id w) → Q words' seats' (set views id w)
  step words words' seats seats' views id v w q at l same count once mine others places core = record {
    few = q.few;
    long = same ∙ q.long;
    numbers = numbers_step n views id v w at (like_size v w l) (like_stands v w l) q.numbers;
    busy_are = let t = sum_set (busy d.lingers) views id v w at in omega (arith, t, count, q.busy_are);
    once = once;
    each_seat = λ j u e. ⊎_elim (λ (t : (j ≡ id) × (w ≡ u)). subst (λ (x : ℕ × View). Stands seats' x.0 x.1) (λ i. (sym t.0 i, t.1 i)) mine)
        (λ (t : (j ≢ id) × (get_elem? views j ≡ some u)). others j u t.0 t.1) (at_set views id j w u e);
    each_place = places;
    core = core;
  }

  -- the seat of a place, after a step that leaves it busy
  place_same : (views : List View) (id : ℕ) (v w : View) → get_elem? views id ≡ some v → (are_busy v.phase ≡ true → are_busy w.phase ≡ true)
      → (j : ℕ) → IsBusyAt d.lingers views j → IsBusyAt d.lingers (set views id w) j
  place_same views id v w at b j p = dite (ℕ_discrete j id)
      (λ e. let same : p.view ≡ v = some-injective p.view v (sym p.at ∙ ap (get_elem? views) e ∙ at) in record {
        view = w;
        at = ap (get_elem? (set views id w)) e ∙ set_at views id v w at;
        is = b (sym (ap (λ (x : View). are_busy x.phase) same) ∙ p.is);
      })
      (λ ne. record { view = p.view; at = set_else views id j w ne ∙ p.at; is = p.is })

  place_else : (views : List View) (id : ℕ) (w : View) (j : ℕ) → j ≢ id → IsBusyAt d.lingers views j → IsBusyAt d.lingers (set views id w) j
  place_else views id w j ne p = record { view = p.view; at = set_else views id j w ne ∙ p.at; is = p.is }

  -- a seat that isn't busy has no place
  pub no_place : (words seats : List ℕ) (views : List View) (id : ℕ) (v : View) → Q words seats views → get_elem? views id ≡ some v
      → are_busy v.phase ≡ false
      → (i j : ℕ) → get_elem? seats i ≡ some j → j ≢ id
  no_place words seats views id v q at free i j e same =
      let p = q.each_place i j e in
      let one : p.view ≡ v = some-injective p.view v (sym p.at ∙ ap (get_elem? views) same ∙ at) in
      no_true (sym p.is ∙ ap (λ (x : View). are_busy x.phase) one ∙ free)

  pub busy_is : (v : View) (b : Bool) → are_busy v.phase ≡ b → busy d.lingers v ≡ cond b 1 0
  busy_is v b e = ap (λ (x : Bool). cond x 1 0) e

  -- a step that is no event
  pub stays : (words words' seats : List ℕ) (views : List View) (id : ℕ) (v w : View) (q : Q words seats views)
      → get_elem? views id ≡ some v → v.spent ≡ false → IsLike v w
      → length words' ≡ length words → are_busy w.phase ≡ are_busy v.phase → holds w.phase ≡ holds v.phase
      → (holds w.phase ≡ true → w.followed ≡ true → 1 < length seats)
      → d.Core n words' seats (set views id w) → Q words' seats (set views id w)
  stays words words' seats views id v w q at live l same b h followed core =
      let st = q.each_seat id v at in
      let c : busy d.lingers w ≡ busy d.lingers v = ap (λ (x : Bool). cond x 1 0) b in
      step words words' seats seats views id v w q at l same (omega (arith, c)) q.once
      (record {
        tagged = tagged_like seats id v w l st;
        counted = counted_like seats id v w l st;
        ended = λ e. absurd (lives_like v w l live e);
        placed = λ e. st.placed (sym b ∙ e);
        first = λ e. st.first (sym h ∙ e);
        followed = followed;
      })
      (λ j u ne e. q.each_seat j u e)
      (λ i j e. place_same views id v w at (λ e'. b ∙ e') j (q.each_place i j e))
      core

  -- Enter
  pub enters : (words words' seats : List ℕ) (views : List View) (id : ℕ) (v w : View) (q : Q words seats views)
      → get_elem? views id ≡ some v → v.spent ≡ false → IsLike v w
      → length words' ≡ length words → v.phase ≡ Idle → w.phase ≡ Queued
      → d.Core n words' (seats ++ id ∷ []) (set views id w) → Q words' (seats ++ id ∷ []) (set views id w)
  enters words words' seats views id v w q at live l same idle queued core =
      let st = q.each_seat id v at in
      let long : length (seats ++ id ∷ []) ≡ length seats + 1 = omega (arith, length-append seats (id ∷ [])) in
      let b = busy_is v false (ap are_busy idle) in
      let b' = busy_is w true (ap are_busy queued) in
      let other = no_place words seats views id v q at (ap are_busy idle) in
      step words words' seats (seats ++ id ∷ []) views id v w q at l same (omega (arith, long, b, b'))
      (λ i k j e e'. ⊎_elim
      (λ (f : get_elem? seats i ≡ some j). ⊎_elim (λ (f' : get_elem? seats k ≡ some j). q.once i k j f f')
      (λ (f' : (k ≡ length seats) × (id ≡ j)). absurd (other i j f (sym f'.1))) (at_end seats id j k e'))
      (λ (f : (i ≡ length seats) × (id ≡ j)). ⊎_elim (λ (f' : get_elem? seats k ≡ some j). absurd (other k j f' (sym f.1)))
      (λ (f' : (k ≡ length seats) × (id ≡ j)). f.0 ∙ sym f'.0) (at_end seats id j k e'))
      (at_end seats id j i e))
      (record {
        tagged = tagged_like seats id v w l st;
        counted = counted_like seats id v w l st;
        ended = λ e. absurd (lives_like v w l live e);
        placed = λ _. (length seats, at_last seats id (length seats) refl);
        first = λ e. absurd (wrong_phase holds w Queued queued refl e);
        followed = λ e _. absurd (wrong_phase holds w Queued queued refl e);
      })
      (λ j u ne e. let su = q.each_seat j u e in record {
        tagged = su.tagged;
        counted = su.counted;
        ended = su.ended;
        placed = λ t. let p = su.placed t in (p.0, at_longer seats (id ∷ []) p.0 j p.1);
        first = λ t. at_longer seats (id ∷ []) 0 j (su.first t);
        followed = λ t y. let m = su.followed t y in omega (arith, long, m);
      })
      (λ i j e. ⊎_elim (λ (f : get_elem? seats i ≡ some j). place_else views id w j (other i j f) (q.each_place i j f))
      (λ (f : (i ≡ length seats) × (id ≡ j)). record {
        view = w;
        at = ap (get_elem? (set views id w)) (sym f.1) ∙ set_at views id v w at;
        is = ap are_busy queued;
      })
      (at_end seats id j i e))
      core

  -- Take
  pub takes : (words words' seats : List ℕ) (views : List View) (id : ℕ) (v w : View) (q : Q words seats views)
      → get_elem? views id ≡ some v → v.spent ≡ false → IsLike v w
      → length words' ≡ length words → v.phase ≡ Queued → get_elem? seats 0 ≡ some id → w.phase ≡ Holding → w.followed ≡ false
      → d.Core n words' seats (set views id w) → Q words' seats (set views id w)
  takes words words' seats views id v w q at live l same queued first held alone core =
      let st = q.each_seat id v at in
      let b = busy_is v true (ap are_busy queued) in
      let b' = busy_is w true (ap are_busy held) in
      step words words' seats seats views id v w q at l same (omega (arith, b, b')) q.once
      (record {
        tagged = tagged_like seats id v w l st;
        counted = counted_like seats id v w l st;
        ended = λ e. absurd (lives_like v w l live e);
        placed = λ _. (0, first);
        first = λ _. first;
        followed = λ _ e. absurd (no_true (sym e ∙ alone));
      })
      (λ j u ne e. q.each_seat j u e)
      (λ i j e. place_same views id v w at (λ _. ap are_busy held) j (q.each_place i j e))
      core

  -- Enter and Take
  pub enters_and_takes : (words words' seats : List ℕ) (views : List View) (id : ℕ) (v w : View) (q : Q words seats views)
      → get_elem? views id ≡ some v → v.spent ≡ false → IsLike v w
      → length words' ≡ length words → v.phase ≡ Idle → seats ≡ [] → w.phase ≡ Holding → w.followed ≡ false
      → d.Core n words' (id ∷ []) (set views id w) → Q words' (id ∷ []) (set views id w)
  enters_and_takes words words' seats views id v w q at live l same idle empty held alone core =
      let st = q.each_seat id v at in
      let b = busy_is v false (ap are_busy idle) in
      let b' = busy_is w true (ap are_busy held) in
      let none_there : (i j : ℕ) → ¬ (get_elem? seats i ≡ some j) =
      λ i j e. some-ne-none j (sym (ap (λ (s : List ℕ). get_elem? s i) (sym empty) ∙ e)) in
      step words words' seats (id ∷ []) views id v w q at l same (let z = ap length empty in omega (arith, z, b, b'))
      (λ i k j e e'. let x = at_one id i j e in let y = at_one id k j e' in x.0 ∙ sym y.0)
      (record {
        tagged = tagged_like seats id v w l st;
        counted = counted_like seats id v w l st;
        ended = λ e. absurd (lives_like v w l live e);
        placed = λ _. (0, refl);
        first = λ _. refl;
        followed = λ _ e. absurd (no_true (sym e ∙ alone));
      })
      (λ j u ne e. let su = q.each_seat j u e in record {
        tagged = su.tagged;
        counted = su.counted;
        ended = su.ended;
        placed = λ t. let p = su.placed t in absurd (none_there p.0 j p.1);
        first = λ t. absurd (none_there 0 j (su.first t));
        followed = λ t _. absurd (none_there 0 j (su.first t));
      })
      (λ i j e. let x = at_one id i j e in record {
        view = w;
        at = ap (get_elem? (set views id w)) (sym x.1) ∙ set_at views id v w at;
        is = ap are_busy held;
      })
      core

  -- Leave: the head goes
  pub leaves : (words words' seats rest : List ℕ) (views : List View) (id : ℕ) (v w : View) (q : Q words seats views)
      → get_elem? views id ≡ some v → v.spent ≡ false → IsLike v w
      → length words' ≡ length words → holds v.phase ≡ true → seats ≡ id ∷ rest → are_busy w.phase ≡ false → holds w.phase ≡ false
      → d.Core n words' rest (set views id w) → Q words' rest (set views id w)
  leaves words words' seats rest views id v w q at live l same held cut free idle core =
      let st = q.each_seat id v at in
      let b = busy_is v true (held_busy d.lingers v.phase held) in
      let b' = busy_is w false free in
      let one : length seats ≡ suc (length rest) = ap length cut in
      let later : (i j : ℕ) → get_elem? rest i ≡ some j
      → get_elem? seats (suc i) ≡ some j = λ i j e. ap (λ (s : List ℕ). get_elem? s (suc i)) cut ∙ e in
      let here : get_elem? seats 0 ≡ some id = ap (λ (s : List ℕ). get_elem? s 0) cut in
      let other : (i j : ℕ) → get_elem? rest i ≡ some j
      → j ≢ id = λ i j e same'. (let z : suc i ≡ 0 = q.once (suc i) 0 id (later i id (e ∙ ap some same')) here in
      absurd (omega arith)) in
      let not_head : (j : ℕ) (u : View) → j ≢ id → get_elem? views j ≡ some u → ¬ (holds u.phase ≡ true)
      = λ j u ne e t. ne (some-injective j id (sym ((q.each_seat j u e).first t) ∙ here)) in
      step words words' seats rest views id v w q at l same (omega (arith, one, b, b'))
      (λ i k j e e'. let z : suc i ≡ suc k = q.once (suc i) (suc k) j (later i j e) (later k j e') in omega arith)
      (record {
        tagged = tagged_like seats id v w l st;
        counted = counted_like seats id v w l st;
        ended = λ e. absurd (lives_like v w l live e);
        placed = λ e. absurd (no_true (sym e ∙ free));
        first = λ e. absurd (no_true (sym e ∙ idle));
        followed = λ e _. absurd (no_true (sym e ∙ idle));
      })
      (λ j u ne e. let su = q.each_seat j u e in record {
        tagged = su.tagged;
        counted = su.counted;
        ended = su.ended;
        placed = λ t. let p = su.placed t in behind_head id rest p.0 j ne (ap (λ (s : List ℕ). get_elem? s p.0) (sym cut) ∙ p.1);
        first = λ t. absurd (not_head j u ne e t);
        followed = λ t _. absurd (not_head j u ne e t);
      })
      (λ i j e. place_else views id w j (other i j e) (q.each_place (suc i) j (later i j e)))
      core

  -- a pass is split off
  pub splits : (words seats : List ℕ) (views : List View) (id : ℕ) (v : View) (q : Q words seats views) → get_elem? views id ≡ some v
      → v.spent ≡ false → v.from < v.to
      → d.Core n words seats (set views id (without_next v) ++ next_split v ∷ [])
      → Q words seats (set views id (without_next v) ++ next_split v ∷ [])
  splits words seats views id v q at live more core =
      let w : View = without_next v in
      let new : View = next_split v in
      let st = q.each_seat id v at in record {
        few = q.few;
        long = q.long;
        numbers = numbers_split n views id v at live more q.numbers;
        busy_are = let t = sum_set (busy d.lingers) views id v w at in let p = sum_by_push (busy d.lingers) (set views id w) new in
            omega (arith, t, p, q.busy_are);
        once = q.once;
        each_seat = λ j u e. ⊎_elim
            (λ (e' : get_elem? (set views id w) j ≡ some u). ⊎_elim
            (λ (t : (j ≡ id) × (w ≡ u)). subst (λ (x : ℕ × View). Stands seats x.0 x.1) (λ i. (sym t.0 i, t.1 i))
            (record {
              tagged = st.tagged;
              counted = st.counted;
              ended = st.ended;
              placed = st.placed;
              first = st.first;
              followed = st.followed;
            }))
            (λ (t : (j ≢ id) × (get_elem? views j ≡ some u)). q.each_seat j u t.1)
            (at_set views id j w u e'))
            (λ (t : (j ≡ length (set views id w)) × (new ≡ u)). subst (Stands seats j) t.1 (record {
              tagged = λ _. st.tagged live;
              counted = λ _. st.counted live;
              ended = λ _. refl;
              placed = λ e'. absurd (no_true (sym e'));
              first = λ e'. absurd (no_true (sym e'));
              followed = λ e' _. absurd (no_true (sym e'));
            }))
            (at_end (set views id w) new u j e);
        each_place = λ i j e. let p = place_same views id v w at (λ b. b) j (q.each_place i j e) in
            record { view = p.view; at = at_longer (set views id w) (new ∷ []) j p.view p.at; is = p.is };
        core = core;
      }

  -- a seat is joined into another
  pub joins : (words seats : List ℕ) (views : List View) (id : ℕ) (v : View) (other : ℕ) (w : View) (q : Q words seats views)
      → get_elem? views id ≡ some v → v.spent ≡ false
      → get_elem? (set views id (joined_view v w)) other ≡ some w → w.phase ≡ Idle → IsPlain w
      → d.Core n words seats (set (set views id (joined_view v w)) other spent_view)
      → Q words seats (set (set views id (joined_view v w)) other spent_view)
  joins words seats views id v other w q at live at' idle plain core =
      let both : View = joined_view v w in
      let mid : List View = set views id both in
      let st = q.each_seat id v at in
      let b = busy_is w false (ap are_busy idle) in record {
        few = q.few;
        long = q.long;
        numbers = numbers_join n views id v other w at at' live plain q.numbers;
        busy_are = let t = sum_set (busy d.lingers) views id v both at in let p = sum_set (busy d.lingers) mid other w spent_view at' in
            omega (arith, t, p, b, q.busy_are);
        once = q.once;
        each_seat = λ j u e. ⊎_elim
            (λ (t : (j ≡ other) × (spent_view ≡ u)). subst (Stands seats j) t.1 (record {
              tagged = λ e'. absurd (no_true e');
              counted = λ e'. absurd (no_true e');
              ended = λ _. refl;
              placed = λ e'. absurd (no_true (sym e'));
              first = λ e'. absurd (no_true (sym e'));
              followed = λ e' _. absurd (no_true (sym e'));
            }))
            (λ (t : (j ≢ other) × (get_elem? mid j ≡ some u)). ⊎_elim
            (λ (x : (j ≡ id) × (both ≡ u)). subst (λ (y : ℕ × View). Stands seats y.0 y.1) (λ i. (sym x.0 i, x.1 i))
            (record {
              tagged = st.tagged;
              counted = st.counted;
              ended = st.ended;
              placed = st.placed;
              first = st.first;
              followed = st.followed;
            }))
            (λ (x : (j ≢ id) × (get_elem? views j ≡ some u)). q.each_seat j u x.1)
            (at_set views id j both u t.1))
            (at_set mid other j spent_view u e);
        each_place = λ i j e.
            let p = place_same views id v both at (λ x. x) j (q.each_place i j e) in
            let ne : j ≢ other = λ x. (
            let same : p.view ≡ w = some-injective p.view w (sym p.at ∙ ap (get_elem? mid) x ∙ at') in
            no_true (sym p.is ∙ ap (λ (y : View). are_busy y.phase) same ∙ ap are_busy idle)) in
            place_else mid other spent_view j ne p;
        core = core;
      }

  -- the first seat alone
  pub starts : (c : Waiters) (words : List ℕ) → 0 < n → n < 2 ^ 32 → length words ≡ row_of d.algorithm n
      → d.Core n words [] (first_view d.algorithm c n tag ∷ []) → Q words [] (first_view d.algorithm c n tag ∷ [])
  starts c words some_pass few long core = record {
    few = few;
    long = long;
    numbers = numbers_first d.algorithm c n tag some_pass;
    busy_are = refl;
    once = λ i k j e. absurd (some-ne-none j (sym e));
    each_seat = λ j u e. ⊎_elim (λ (t : get_elem? [] j ≡ some u). absurd (some-ne-none u (sym t)))
        (λ (t : (j ≡ 0) × (first_view d.algorithm c n tag ≡ u)). subst (Stands [] j) t.1 (record {
          tagged = λ _. refl;
          counted = λ _. refl;
          ended = λ _. refl;
          placed = λ e'. absurd (no_true (sym e'));
          first = λ e'. absurd (no_true (sym e'));
          followed = λ e' _. absurd (no_true (sym e'));
        }))
        (at_end [] (first_view d.algorithm c n tag) u j e);
    each_place = λ i j e. absurd (some-ne-none j (sym e));
    core = core;
  }

  -- the seat at a place isn't spent
  pub lives : (words seats : List ℕ) (views : List View) (q : Q words seats views) (j : ℕ) (v : View) → get_elem? views j ≡ some v
      → are_busy v.phase ≡ true → v.spent ≡ false
  lives words seats views q j v at b = elim (v.spent) as (λ x. v.spent ≡ x → v.spent ≡ false) [
    | false ↦ λ e. e
    | true ↦ λ e. absurd (no_true (sym b ∙ ap are_busy ((q.each_seat j v at).ended e)))
  ] refl

  busy_le : (words seats : List ℕ) (views : List View) (q : Q words seats views) (j : ℕ) (v : View) → get_elem? views j ≡ some v
      → busy d.lingers v ≤ passes_of v
  busy_le words seats views q j v at = elim (are_busy v.phase) as (λ x. are_busy v.phase ≡ x → busy d.lingers v ≤ passes_of v) [
    | false ↦ λ e. let b = busy_is v false e in omega (arith, b)
    | true ↦ λ e. let m = passes_unspent v (lives words seats views q j v at e) in let b = busy_is v true e in omega (arith, m, b)
  ] refl

  -- the queue is no longer than the number of passes
  pub few_seats : (words seats : List ℕ) (views : List View) → Q words seats views → length seats ≤ n
  few_seats words seats views q = let l = sum_le (busy d.lingers) passes_of views (λ j v at. busy_le words seats views q j v at) in
      omega (arith, l, q.busy_are, q.numbers.in_all)

  -- two seats that are not spent and have one pass are one
  pub one_seat_of : (words seats : List ℕ) (views : List View) → Q words seats views → (a b : ℕ) (u w : View) → get_elem? views a ≡ some u
      → get_elem? views b ≡ some w
      → u.spent ≡ false → w.spent ≡ false → w.number ≡ u.number → b ≡ a
  one_seat_of words seats views q a b u w at at' live live' e =
      dite (ℕ_discrete b a) (λ x. x) (λ ne. absurd (one_number n views q.numbers a b u w at at' live live' ne e))

  -- a pass that isn't busy is not in the queue
  pub not_in : (words seats : List ℕ) (views : List View) (q : Q words seats views) (id : ℕ) (v : View) → get_elem? views id ≡ some v
      → v.spent ≡ false → are_busy v.phase ≡ false
      → ¬ IsIn v.number (map (number_at views) seats)
  not_in words seats views q id v at live free (i, e) =
      let m = mapped (number_at views) seats i v.number e in
      let p = q.each_place i m.0 m.1 in
      let b = lives words seats views q m.0 p.view p.at p.is in
      let num : p.view.number ≡ v.number = sym (number_is views m.0 p.view p.at) ∙ m.2 in
      no_place words seats views id v q at free i m.0 m.1 (one_seat_of words seats views q id m.0 v p.view at p.at live b num)

-- two views that are the same but for the passes that their seats have
pub record IsSame (u v : View) : Type 0 where
  pub phase : u.phase ≡ v.phase
  pub number : u.number ≡ v.number
  pub spent : u.spent ≡ v.spent
  pub ticket : u.ticket ≡ v.ticket
  pub node : u.node ≡ v.node
  pub predecessor : u.predecessor ≡ v.predecessor
  pub unlinked : u.unlinked ≡ v.unlinked
  pub raised : u.raised ≡ v.raised
  pub linked : u.linked ≡ v.linked
  pub successor : u.successor ≡ v.successor
  pub owes : u.owes ≡ v.owes

same_view : (u v : View) → u ≡ v → IsSame u v
same_view u v e = record {
  phase = ap (λ (x : View). x.phase) e;
  number = ap (λ (x : View). x.number) e;
  spent = ap (λ (x : View). x.spent) e;
  ticket = ap (λ (x : View). x.ticket) e;
  node = ap (λ (x : View). x.node) e;
  predecessor = ap (λ (x : View). x.predecessor) e;
  unlinked = ap (λ (x : View). x.unlinked) e;
  raised = ap (λ (x : View). x.raised) e;
  linked = ap (λ (x : View). x.linked) e;
  successor = ap (λ (x : View). x.successor) e;
  owes = ap (λ (x : View). x.owes) e;
}

left_same : (u v : View) → without_next v ≡ u → IsSame u v
left_same u v e = let s = same_view u (without_next v) (sym e) in record {
  phase = s.phase;
  number = s.number;
  spent = s.spent;
  ticket = s.ticket;
  node = s.node;
  predecessor = s.predecessor;
  unlinked = s.unlinked;
  raised = s.raised;
  linked = s.linked;
  successor = s.successor;
  owes = s.owes;
}

both_same : (u v w : View) → joined_view v w ≡ u → IsSame u v
both_same u v w e = let s = same_view u (joined_view v w) (sym e) in record {
  phase = s.phase;
  number = s.number;
  spent = s.spent;
  ticket = s.ticket;
  node = s.node;
  predecessor = s.predecessor;
  unlinked = s.unlinked;
  raised = s.raised;
  linked = s.linked;
  successor = s.successor;
  owes = s.owes;
}

-- the seat j had the same view
pub record WasAt (views : List View) (j : ℕ) (u : View) : Type 0 where
  pub view : View
  pub at : get_elem? views j ≡ some view
  pub same : IsSame u view

-- a seat after a pass is split off: it was there, or is the new one
pub after_split : (views : List View) (id : ℕ) (v : View) → get_elem? views id ≡ some v → (j : ℕ) (u : View)
    → get_elem? (set views id (without_next v) ++ next_split v ∷ []) j ≡ some u
    → WasAt views j u ⊎ ((j ≡ length views) × (next_split v ≡ u))
after_split views id v at j u e = ⊎_elim
    (λ (e' : get_elem? (set views id (without_next v)) j ≡ some u). inl (⊎_elim
    (λ (t : (j ≡ id) × (without_next v ≡ u)). record { view = v; at = ap (get_elem? views) t.0 ∙ at; same = left_same u v t.1 })
    (λ (t : (j ≢ id) × (get_elem? views j ≡ some u)). record { view = u; at = t.1; same = same_view u u refl })
    (at_set views id j (without_next v) u e')))
    (λ (t : (j ≡ length (set views id (without_next v))) × (next_split v ≡ u)). inr (t.0 ∙ length-set views id (without_next v), t.1))
    (at_end (set views id (without_next v)) (next_split v) u j e)

-- a seat after another was joined into one: it was there, or is the one that is spent
pub after_join : (views : List View) (id : ℕ) (v : View) (other : ℕ) (w : View) → get_elem? views id ≡ some v → (j : ℕ) (u : View)
    → get_elem? (set (set views id (joined_view v w)) other spent_view) j ≡ some u
    → ((j ≢ other) × WasAt views j u) ⊎ ((j ≡ other) × (spent_view ≡ u))
after_join views id v other w at j u e = ⊎_elim
    (λ (t : (j ≡ other) × (spent_view ≡ u)). inr t)
    (λ (t : (j ≢ other) × (get_elem? (set views id (joined_view v w)) j ≡ some u)). inl (
      t.0,
      ⊎_elim
          (λ (x : (j ≡ id) × (joined_view v w ≡ u)). record { view = v; at = ap (get_elem? views) x.0 ∙ at; same = both_same u v w x.1 })
          (λ (x : (j ≢ id) × (get_elem? views j ≡ some u)). record { view = u; at = x.1; same = same_view u u refl })
          (at_set views id j (joined_view v w) u t.1),
    ))
    (at_set (set views id (joined_view v w)) other j spent_view u e)

module _ (d : Discipline) (n : ℕ) (tag : Tag) (words seats : List ℕ) (views : List View) (q : IsQueued d n tag words seats views) where
  -- a seat in the queue was there before a pass was split off
  pub placed_before_split : (id : ℕ) (v : View) → get_elem? views id ≡ some v → (i j : ℕ) (u : View) → get_elem? seats i ≡ some j
      → get_elem? (set views id (without_next v) ++ next_split v ∷ []) j ≡ some u → WasAt views j u
  placed_before_split id v at i j u e e' = ⊎_elim (λ a. a) (λ (t : (j ≡ length views) × (next_split v ≡ u)).
      let p = q.each_place i j e in let b = at_below views j p.view p.at in absurd (omega (arith, b, t.0)))
      (after_split views id v at j u e')

  -- and before a seat was joined
  pub placed_before_join : (id : ℕ) (v : View) (other : ℕ) (w : View) → get_elem? views id ≡ some v
      → get_elem? (set views id (joined_view v w)) other ≡ some w → ¬ (other ≡ id) → w.phase ≡ Idle
      → (i j : ℕ) (u : View) → get_elem? seats i ≡ some j → get_elem? (set (set views id (joined_view v w)) other spent_view) j ≡ some u
      → WasAt views j u
  placed_before_join id v other w at at' apart idle i j u e e' = ⊎_elim (λ (t : (j ≢ other) × WasAt views j u). t.1)
      (λ (t : (j ≡ other) × (spent_view ≡ u)).
      let was : get_elem? views other ≡ some w = sym (set_else views id other (joined_view v w) apart) ∙ at' in
      absurd (no_place d n tag words seats views other w q was (ap (is_busy d.lingers) idle) i j e t.0))
      (after_join views id v other w at j u e')
