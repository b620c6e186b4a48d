-- Each kind of step of a Hemlock keeps the rule.
use Rattle.std.proofs.Common.{◌≡◌, ◌≢◌, ℕ, zero, suc, ◌+◌, ◌<◌, ◌≤◌, Bool, false, not, eq-eqb, refl, ap, sym, ◌∙◌, inl, inr}
use Rattle.std.proofs.Common.{⊎_elim, arith, length-append, List, [], ◌∷◌, ◌++◌, length, set, slice_index}
use mathlib.Core.Option.{some, some-injective, some-ne-none}
use mathlib.Core.Logic.{dite}
use native.Mathlib.Decide.{ℕ_discrete}
use lib.ListN.{get_elem?}
use Rattle.atomic_table.proofs.Lists.{at_set}
use Rattle.lock_rules.specs.Rows.{line, waiting}
use Rattle.lock_rules.specs.Views.{answer_of}
use Rattle.lock_rules.specs.declared.step.Answer.TheVariants.{No, Yes}
use Rattle.lock_rules.specs.declared.view.Phase.TheVariants.{Idle, Queued, Holding, Leaving}
use Rattle.lock_rules.specs.declared.view.View.{View}
use Rattle.lock_tables.specs.Happened.{missed_view, tested_view}
use Rattle.lock_tables.specs.Kinds.{no_event}
use Rattle.lock_tables.specs.KeptKinds.{Moment, MakesEvent, IsKept}
use Rattle.lock_tables.specs.Rule.{is_busy, is_holder, is_leaving}
use Rattle.lock_tables.proofs.Lists.{set_at, at_end, at_below, head_cut, there, no_true, wrote_here, wrote_else}
use Rattle.lock_tables.proofs.Makes.{loaded_core}
use Rattle.lock_tables.proofs.Queues.{no_place, one_seat_of}
use Rattle.hemlock_lock.specs.Kinds.{own_name, queued_view, entered_view, granted_view, cleared_view, followed_view, left_view}
use Rattle.hemlock_lock.specs.Kinds.{done_view, others_wait}
use Rattle.hemlock_lock.specs.Kinds.{swap_tail, load_predecessor_grant, clear_predecessor_grant, load_tail, exchange_tail, store_grant}
use Rattle.hemlock_lock.specs.Kinds.{load_grant}
use Rattle.hemlock_lock.specs.Rule.{tail, grant, IsChained, HasGrants, hemlock_discipline}
use Rattle.hemlock_lock.proofs.Chains.{no_seats, is_new, is_old, leaver_stays, owing_set, nameless_set, same_grants, calm_grants}
use Rattle.hemlock_lock.proofs.Chains.{name_within, busy_ungranted, last_seat, none_queued, tail_within, queued_names}

-- the words at lines aren't the one that counts waiters
apart : (k : ℕ) → line k ≢ waiting
apart k e = omega arith

-- the word of a grant isn't `tail`, nor that of another's grant
not_tail : (name : ℕ) → name ≢ 0 → grant name ≢ tail
not_tail name ne e = ne (omega arith)

not_other : (a b : ℕ) → a ≢ b → grant a ≢ grant b
not_other a b ne e = ne (omega arith)

at_one : (a i j : ℕ) → get_elem? (a ∷ []) i ≡ some j → (i ≡ 0) × (a ≡ j)
at_one a zero j e = (refl, some-injective a j e)
at_one a (suc i) j e = absurd (some-ne-none j (sym e))

idle_not_held : ¬ (Idle ≡ Holding)
idle_not_held e = absurd cc

queued_not_held : ¬ (Queued ≡ Holding)
queued_not_held e = absurd cc

-- a phase that is known isn't another
other_phase : (v : View) → v.phase ≡ Idle → ¬ (v.phase ≡ Leaving)
other_phase v e f = let no : Idle ≡ Leaving = sym e ∙ f in absurd cc

queued_stays : (v : View) → v.phase ≡ Queued → ¬ (v.phase ≡ Leaving)
queued_stays v e f = let no : Queued ≡ Leaving = sym e ∙ f in absurd cc

module _ (s : Moment hemlock_discipline) where
  -- names and grants after a step that gave the seat the view w
  abbrev After : List ℕ → List ℕ → View → Type 0
  After words seats w = HasGrants s.passes words seats (set s.views s.seat w)

  new : (w : View) (j : ℕ) (u : View) → s.seat ≡ j → get_elem? (set s.views s.seat w) j ≡ some u → w ≡ u
  new w = is_new s.views s.seat s.view w s.at

  -- where no grant is 1, and the seat names none
  none_named : (words seats : List ℕ) (w : View) → w.predecessor ≡ 0 → IsChained 0 words seats (set s.views s.seat w)
      → ((name : ℕ) → 0 < name → name ≤ s.passes → slice_index words (grant name) ≡ 0) → After words seats w
  none_named words seats w clear chained kept = record {
    named = 0;
    chained = chained;
    given = λ z. absurd (z refl);
    kept = λ name some_name within _. kept name some_name within;
    leaver = λ z. absurd (z refl);
    nameless = nameless_set s.passes s.words s.seats s.views s.seat w s.queued.core (λ _. clear);
    owing = owing_set s.passes s.words s.seats s.views s.seat w s.queued.core (λ _ z. absurd (z clear));
  }

  -- after a load of a word
  loaded : (word : ℕ) (w : View) → After s.words s.seats w → After (set s.words word (slice_index s.words word)) s.seats w
  loaded word w = loaded_core (λ (words : List ℕ). After words s.seats w) s.words word

  -- where a step leaves all words, its seat's names, and where its pass stands
  calm : (w : View) → w.number ≡ s.view.number → w.predecessor ≡ s.view.predecessor → w.phase ≡ s.view.phase → w.owes ≡ s.view.owes
      → After s.words s.seats w
  calm w = calm_grants s.passes s.words s.seats s.views s.seat w s.queued.core s.words s.view s.at (λ _. refl)

  -- a seat that is new in the queue is behind all others
  entered_grants : s.view.phase ≡ Idle → slice_index s.words tail ≢ 0
      → After (set s.words tail (own_name s.view)) (s.seats ++ s.seat ∷ []) (queued_view s.view (slice_index s.words tail))
  entered_grants idle ne =
      let found : ℕ = slice_index s.words tail in
      let w : View = queued_view s.view found in
      let c = s.queued.core.chained in
      let size = s.queued.long in
      let wrote = wrote_here s.words tail (own_name s.view) (omega (arith, size)) in
      let long : length (s.seats ++ s.seat ∷ []) ≡ length s.seats + 1 = omega (arith, length-append s.seats (s.seat ∷ [])) in
      let other = no_place hemlock_discipline s.passes s.tag s.words s.seats s.views s.seat s.view s.queued s.at
      (ap (is_busy false) idle) in
      let old = is_old s.views s.seat w in record {
        named = s.queued.core.named;
        chained = record {
          none_last = λ e. absurd (omega (arith, long));
          last = λ i j u l e e'. ⊎_elim
              (λ (f : get_elem? s.seats i ≡ some j). absurd (let b = at_below s.seats i j f in omega (arith, long)))
              (λ (f : (i ≡ length s.seats) × (s.seat ≡ j)). wrote ∙ ap (λ (x : View). x.number + 1) (new w j u f.1 e'))
              (at_end s.seats s.seat j i e);
          none_first = λ e. absurd (omega (arith, long));
          first = λ j u e e'. ⊎_elim
              (λ (f : get_elem? s.seats 0 ≡ some j). c.first j u f (old j u (other 0 j f) e'))
              (λ (f : (0 ≡ length s.seats) × (s.seat ≡ j)). absurd (ne (c.none_last (sym f.0))))
              (at_end s.seats s.seat j 0 e);
          waits = λ j u e e' queued. ⊎_elim
              (λ (f : get_elem? s.seats 0 ≡ some j). c.waits j u f (old j u (other 0 j f) e') queued)
              (λ (f : (0 ≡ length s.seats) × (s.seat ≡ j)). absurd (ne (c.none_last (sym f.0))))
              (at_end s.seats s.seat j 0 e);
          behind = λ i j k a b e ea e' eb. ⊎_elim
              (λ (f : get_elem? s.seats i ≡ some j). ⊎_elim
              (λ (f' : get_elem? s.seats (i + 1) ≡ some k). c.behind i j k a b f (old j a (other i j f) ea) f'
              (old k b (other (i + 1) k f') eb))
              (λ (f' : (i + 1 ≡ length s.seats) × (s.seat ≡ k)). ap (λ (x : View). x.predecessor) (sym (new w k b f'.1 eb))
              ∙ c.last i j a (sym f'.0) f (old j a (other i j f) ea))
              (at_end s.seats s.seat k (i + 1) e'))
              (λ (f : (i ≡ length s.seats) × (s.seat ≡ j)). absurd (let x = at_below (s.seats ++ s.seat ∷ []) (i + 1) k e' in let y = f.0 in
              omega (arith, long)))
              (at_end s.seats s.seat j i e);
        };
        given = λ z. wrote_else s.words tail (grant s.queued.core.named) (own_name s.view) (not_tail s.queued.core.named z)
            ∙ s.queued.core.given z;
        kept = λ name some_name within apart. wrote_else s.words tail (grant name) (own_name s.view) (not_tail name (λ z. omega arith))
            ∙ s.queued.core.kept name some_name within apart;
        leaver = λ z. leaver_stays s.views s.seat s.view w s.queued.core.named s.at refl
            (λ l _. absurd (other_phase s.view idle l)) (s.queued.core.leaver z);
        nameless = nameless_set s.passes s.words s.seats s.views s.seat w s.queued.core (λ busy. absurd (no_true busy));
        owing = owing_set s.passes s.words s.seats s.views s.seat w s.queued.core (λ h _. absurd (queued_not_held h));
      }

  -- a seat that found the queue empty is alone
  alone_grants : s.view.phase ≡ Idle → length s.seats ≡ 0
      → After (set s.words tail (own_name s.view)) (s.seat ∷ []) (entered_view s.view)
  alone_grants idle empty =
      let w : View = entered_view s.view in
      let size = s.queued.long in
      let none : s.queued.core.named ≡ 0 = s.queued.core.chained.none_first empty in
      let held : ¬ (Holding ≡ Queued) = λ e. absurd cc in
      none_named (set s.words tail (own_name s.view)) (s.seat ∷ []) w refl
      (record {
        none_last = λ e. absurd (omega arith);
        last = λ i j u l e e'. wrote_here s.words tail (own_name s.view) (omega (arith, size))
            ∙ ap (λ (x : View). x.number + 1) (new w j u (at_one s.seat i j e).1 e');
        none_first = λ _. refl;
        first = λ j u e e'. ap (λ (x : View). x.predecessor) (sym (new w j u (at_one s.seat 0 j e).1 e'));
        waits = λ j u e e' queued. absurd (held (ap (λ (x : View). x.phase) (new w j u (at_one s.seat 0 j e).1 e')
            ∙ queued));
        behind = λ i j k a b e ea e' eb. absurd (let z : i + 1 ≡ 0 = (at_one s.seat (i + 1) k e').0 in omega arith);
      })
      (λ name some_name within. wrote_else s.words tail (grant name) (own_name s.view) (not_tail name (λ z. omega arith))
      ∙ s.queued.core.kept name some_name within (λ e. omega arith))

  -- a word that names a pass of the lock, or none
  tail_names : slice_index s.words tail ≤ s.view.count
  tail_names =
      let within = tail_within s.passes s.tag s.words s.seats s.views s.queued in
      let count = (s.queued.each_seat s.seat s.view s.at).counted s.live in omega (arith, within, count)

  -- where the grant of the predecessor is 1, the pass is the head
  granted_first : slice_index s.words (grant s.view.predecessor) ≡ 1
      → (i : ℕ) → get_elem? s.seats i ≡ some s.seat → get_elem? s.seats 0 ≡ some s.seat
  granted_first one zero e = e
  granted_first one (suc i) e =
      let b = at_below s.seats (suc i) s.seat e in
      let t = there s.seats i (omega arith) in
      let p = s.queued.each_place i t.0 t.1 in
      let next : suc i ≡ i + 1 = omega arith in
      let a : s.view.predecessor ≡ own_name p.view = s.queued.core.chained.behind i t.0 s.seat p.view s.view t.1 p.at
      (ap (get_elem? s.seats) (sym next) ∙ e) s.at in
      let none : slice_index s.words (grant s.view.predecessor) ≡ 0 = ap (λ (x : ℕ). slice_index s.words (grant x)) a
      ∙ busy_ungranted s.passes s.tag s.words s.seats s.views s.queued t.0 p.view p.at p.is in
      absurd (omega arith)

  -- where the head clears its predecessor's grant
  cleared_grants : s.view.phase ≡ Holding → get_elem? s.seats 0 ≡ some s.seat → s.view.predecessor ≢ 0
      → After (set s.words (grant s.view.predecessor) 0) s.seats (cleared_view s.view)
  cleared_grants held first some_name =
      let w : View = cleared_view s.view in
      let c = s.queued.core.chained in
      let here : s.view.predecessor ≡ s.queued.core.named = c.first s.seat s.view first s.at in
      let same : slice_index (set s.words (grant s.view.predecessor) 0) tail ≡ slice_index s.words tail =
      wrote_else s.words (grant s.view.predecessor) tail 0 (λ e. not_tail s.view.predecessor some_name (sym e)) in
      let below = at_below s.seats 0 s.seat first in
      let no : ¬ (Holding ≡ Queued) = λ e. absurd cc in
      let at_head = λ (j : ℕ) (u : View) (e : get_elem? s.seats 0 ≡ some j) (e' : get_elem? (set s.views s.seat w) j ≡ some u). new
      w j u (some-injective s.seat j (sym first ∙ e)) e' in
      let old = λ (i k : ℕ) (u : View) (e : get_elem? s.seats (i + 1) ≡ some k) (e' : get_elem? (set s.views s.seat w) k ≡ some u).
      is_old s.views s.seat w k u (λ x. (let z : i + 1 ≡ 0 = s.queued.once (i + 1) 0 s.seat (e ∙ ap some x) first in omega arith)) e' in
      let number = λ (j : ℕ) (u : View) (e : get_elem? (set s.views s.seat w) j ≡ some u). ⊎_elim
      (λ (t : (j ≡ s.seat) × (w ≡ u)). let x : (x : View) × (get_elem? s.views j ≡ some x)
      × (u.number ≡ x.number) = (s.view, ap (get_elem? s.views) t.0 ∙ s.at, ap (λ (y : View). y.number) (sym t.1)) in x)
      (λ (t : (j ≢ s.seat) × (get_elem? s.views j ≡ some u)). (u, t.1, refl))
      (at_set s.views s.seat j w u e) in
      none_named (set s.words (grant s.view.predecessor) 0) s.seats w refl
      (record {
        none_last = λ e. absurd (omega arith);
        last = λ i j u l e e'. let x = number j u e' in same ∙ c.last i j x.0 l e x.1 ∙ ap (λ (y : ℕ). y + 1) (sym x.2);
        none_first = λ _. refl;
        first = λ j u e e'. ap (λ (x : View). x.predecessor) (sym (at_head j u e e'));
        waits = λ j u e e' queued. absurd (no (sym held ∙ ap (λ (x : View). x.phase) (at_head j u e e') ∙ queued));
        behind = λ i j k a b e ea e' eb. let x = number j a ea in c.behind i j k x.0 b e x.1 e' (old i k b e' eb)
            ∙ ap (λ (y : ℕ). y + 1) (sym x.2);
      })
      (λ name some_one within. dite (ℕ_discrete name s.view.predecessor)
      (λ e. ap (λ (x : ℕ). slice_index (set s.words (grant s.view.predecessor) 0) (grant x)) e
      ∙ wrote_here s.words (grant s.view.predecessor) 0 (let size = s.queued.long in omega (arith, size)))
      (λ ne. wrote_else s.words (grant s.view.predecessor) (grant name) 0 (not_other name s.view.predecessor ne)
      ∙ s.queued.core.kept name some_one within (λ e. ne (e ∙ sym here))))

  -- where `tail` names another than the head, another pass is queued
  others_behind : get_elem? s.seats 0 ≡ some s.seat
      → slice_index s.words tail ≢ own_name s.view → 1 < length s.seats
  others_behind first other = dite (ℕ_discrete (length s.seats) 1)
      (λ one. absurd (other (s.queued.core.chained.last 0 s.seat s.view one first s.at)))
      (λ ne. let b = at_below s.seats 0 s.seat first in omega arith)

  -- where `tail` names the head, it is alone
  head_alone : get_elem? s.seats 0 ≡ some s.seat
      → slice_index s.words tail ≡ own_name s.view → s.seats ≡ s.seat ∷ []
  head_alone first own =
      let b = at_below s.seats 0 s.seat first in
      let l = last_seat s.passes s.tag s.words s.seats s.views s.queued (omega arith) in
      let named : slice_index s.words tail ≡ own_name l.2 = s.queued.core.chained.last l.0 l.1 l.2 l.3 l.4 l.5 in
      let number : l.2.number ≡ s.view.number = omega arith in
      let same : l.1 ≡ s.seat = one_seat_of hemlock_discipline s.passes s.tag s.words s.seats s.views s.queued s.seat l.1 s.view l.2 s.at
      l.5 s.live l.6 number in
      let zero_th : l.0 ≡ 0 = s.queued.once l.0 0 s.seat (l.4 ∙ ap some same) first in
      let one : length s.seats ≡ 1 = (let a = l.3 in omega arith) in
      let cut = head_cut s.seats s.seat first in
      let rest = no_seats cut.0 (let a : length s.seats ≡ suc (length cut.0) = ap length cut.1 in omega arith) in
      cut.1 ∙ ap (λ (y : List ℕ). s.seat ∷ y) rest

  -- where the last pass leaves
  left_grants : get_elem? s.seats 0 ≡ some s.seat → s.view.predecessor ≡ 0
      → After (set s.words tail 0) [] (left_view Idle s.view)
  left_grants first clear =
      let w : View = left_view Idle s.view in
      let here : s.view.predecessor ≡ s.queued.core.named = s.queued.core.chained.first s.seat s.view first s.at in
      let size = s.queued.long in
      none_named (set s.words tail 0) [] w clear
      (record {
        none_last = λ _. wrote_here s.words tail 0 (omega (arith, size));
        last = λ i j u l e _. absurd (some-ne-none j (sym e));
        none_first = λ _. refl;
        first = λ j u e _. absurd (some-ne-none j (sym e));
        waits = λ j u e _ _. absurd (some-ne-none j (sym e));
        behind = λ i j k a b e _ _ _. absurd (some-ne-none j (sym e));
      })
      (λ name some_name within. wrote_else s.words tail (grant name) 0 (not_tail name (λ z. omega arith))
      ∙ s.queued.core.kept name some_name within (λ e. omega arith))

  -- a holder that owes nothing names nobody
  names_none : s.view.phase ≡ Holding → s.view.owes ≡ false → s.view.predecessor ≡ 0
  names_none held paid = dite (ℕ_discrete s.view.predecessor 0) (λ z. z)
      (λ ne. absurd (no_true (sym (s.queued.core.owing s.seat s.view s.at held ne) ∙ paid)))

  -- where the head leaves to the next
  granting_grants : (rest : List ℕ) → s.seats ≡ s.seat ∷ rest → 1 < length s.seats
      → s.view.predecessor ≡ 0 → After (set s.words (grant (own_name s.view)) 1) rest (left_view Leaving s.view)
  granting_grants rest cut more clear =
      let w : View = left_view Leaving s.view in
      let c = s.queued.core.chained in
      let first : get_elem? s.seats 0 ≡ some s.seat = ap (λ (l : List ℕ). get_elem? l 0) cut in
      let here : s.view.predecessor ≡ s.queued.core.named = c.first s.seat s.view first s.at in
      let long : length s.seats ≡ suc (length rest) = ap length cut in
      let within = name_within s.passes s.tag s.words s.seats s.views s.queued s.seat s.view s.at s.live in
      let size = s.queued.long in
      let same : slice_index (set s.words (grant (own_name s.view)) 1) tail ≡ slice_index s.words tail =
      wrote_else s.words (grant (own_name s.view)) tail 1 (λ e. not_tail (own_name s.view) (λ z. omega arith) (sym e)) in
      let later = λ (i j : ℕ) (e : get_elem? rest i ≡ some j). (let next : i + 1 ≡ suc i = omega arith in
      let x : get_elem? s.seats (i + 1) ≡ some j = ap (get_elem? s.seats) next ∙ ap (λ (l : List ℕ). get_elem? l (suc i)) cut ∙ e in x) in
      let old = λ (i j : ℕ) (u : View) (e : get_elem? rest i ≡ some j) (e' : get_elem? (set s.views s.seat w) j ≡ some u).
      is_old s.views s.seat w j u
      (λ x. (let z : i + 1 ≡ 0 = s.queued.once (i + 1) 0 s.seat (later i j e ∙ ap some x) first in omega arith)) e' in record {
        named = own_name s.view;
        chained = record {
          none_last = λ e. absurd (omega arith);
          last = λ i j u l e e'. same ∙ c.last (i + 1) j u (omega arith) (later i j e) (old i j u e e');
          none_first = λ e. absurd (omega arith);
          first = λ j u e e'. c.behind 0 s.seat j s.view u first s.at (later 0 j e) (old 0 j u e e');
          waits = λ j u e e' queued z. omega arith;
          behind = λ i j k a b e ea e' eb. c.behind (i + 1) j k a b (later i j e) (old i j a e ea) (later (i + 1) k e')
              (old (i + 1) k b e' eb);
        };
        given = λ _. wrote_here s.words (grant (own_name s.view)) 1 (omega (arith, size));
        kept = λ name some_name below apart.
            wrote_else s.words (grant (own_name s.view)) (grant name) 1 (not_other name (own_name s.view) apart)
            ∙ s.queued.core.kept name some_name below (λ e. omega arith);
        leaver = λ _. record { seat = s.seat; view = w; at = set_at s.views s.seat s.view w s.at; leaves = refl; is = refl };
        nameless = nameless_set s.passes s.words s.seats s.views s.seat w s.queued.core (λ _. clear);
        owing = owing_set s.passes s.words s.seats s.views s.seat w s.queued.core (λ _ z. absurd (z clear));
      }

  -- a load that showed the predecessor's grant
  took_grants : s.view.phase ≡ Queued → After s.words s.seats (granted_view s.view)
  took_grants queued =
      let held : ¬ (Holding ≡ Queued) = λ x. absurd cc in
      same_grants s.passes s.words s.seats s.views s.seat (granted_view s.view) s.queued.core s.words s.view s.at (λ _. refl) refl refl
      (λ x. absurd (held x)) (sym (ap (is_busy false) queued)) (λ l _. absurd (queued_stays s.view queued l)) (λ _ _. refl)

  -- a load that showed that the own grant was cleared
  done_grants : s.view.phase ≡ Leaving → slice_index s.words (grant (own_name s.view)) ≡ 0
      → After s.words s.seats (done_view s.view)
  done_grants leaving e =
      let idle : ¬ (Idle ≡ Queued) = λ x. absurd cc in
      let gone : own_name s.view ≢ s.queued.core.named = λ x. (
      let one : slice_index s.words (grant (own_name s.view)) ≡ 1 = ap (λ (y : ℕ). slice_index s.words (grant y)) x
      ∙ s.queued.core.given (λ z. omega arith) in omega arith) in
      same_grants s.passes s.words s.seats s.views s.seat (done_view s.view) s.queued.core s.words s.view s.at (λ _. refl) refl refl
      (λ x. absurd (idle x)) (sym (ap (is_busy false) leaving)) (λ _ x. absurd (gone x)) (λ h _. absurd (idle_not_held h))

  -- a load that missed, by a pass that doesn't hold
  missed_still : (word : ℕ) → is_holder false s.view.phase ≡ false
      → MakesEvent hemlock_discipline s word (slice_index s.words word) (missed_view s.view) no_event
  missed_still word free = record {
    calm = inl refl;
    busy = refl;
    holds = refl;
    tested = λ h _. absurd (no_true (sym h ∙ free));
    followed = λ h _. absurd (no_true (sym h ∙ free));
    core = loaded word (missed_view s.view) (calm (missed_view s.view) refl refl refl refl);
  }

said_yes : (v : View) (found : ℕ) → answer_of (others_wait v found) ≡ Yes → found ≢ own_name v
said_yes v found noted e =
    let no : No ≡ Yes = sym (ap (λ (b : Bool). answer_of (not b)) (eq-eqb found (own_name v) e)) ∙ noted in absurd cc

pub swaps : IsKept hemlock_discipline swap_tail
swaps = record {
  noted = λ v found. (
    record { same = refl; steps = refl; entered = refl; read = (refl, refl) },
    record { same = refl; steps = refl; entered = refl; read = (refl, refl, refl) },
  );
  keeps = λ s asks low. record {
    apart = apart 0;
    told = tail_names s;
    kept = (
      λ e. let none = none_queued s.passes s.tag s.words s.seats s.views s.queued e in record {
        idle = asks.0;
        empty = no_seats s.seats none;
        held = refl;
        untested = refl;
        alone = refl;
        core = alone_grants s asks.0 none;
      },
      λ ne. record { idle = asks.0; queued = refl; announced = asks.1; core = entered_grants s asks.0 ne },
    );
  };
}

pub polls : IsKept hemlock_discipline load_predecessor_grant
polls = record {
  noted = λ v found. (
    record { same = refl; steps = refl; entered = refl; read = refl },
    record { same = refl; steps = refl; entered = refl; read = refl },
  );
  keeps = λ s asks low.
      let placed = (s.queued.each_seat s.seat s.view s.at).placed (ap (is_busy false) asks) in record {
        apart = apart s.view.predecessor;
        told = queued_names s.passes s.tag s.words s.seats s.views s.queued s.seat s.view s.at asks;
        kept = (
          λ e. record {
            loaded = refl;
            queued = asks;
            first = granted_first s e placed.0 placed.1;
            held = refl;
            untested = refl;
            alone = refl;
            core = loaded s (grant s.view.predecessor) (granted_view s.view) (took_grants s asks);
          },
          λ _. missed_still s (grant s.view.predecessor) (ap (is_holder false) asks),
        );
      };
}

pub clears : IsKept hemlock_discipline clear_predecessor_grant
clears = record {
  noted = λ v found. record { same = refl; steps = refl; entered = refl; read = (refl, refl, refl) };
  keeps = λ s asks low. let stands = s.queued.each_seat s.seat s.view s.at in record {
    apart = apart s.view.predecessor;
    told = tt;
    kept = record {
      calm = inl refl;
      busy = refl;
      holds = refl;
      tested = (s.told.each s.seat s.view s.at).tested;
      followed = stands.followed;
      core = cleared_grants s asks.0 (stands.first (ap (is_holder false) asks.0)) asks.1;
    };
  };
}

pub waits : IsKept hemlock_discipline load_tail
waits = record {
  noted = λ v found. record { same = refl; steps = refl; entered = refl; read = refl };
  keeps = λ s asks low.
      let stands = s.queued.each_seat s.seat s.view s.at in
      let found : ℕ = slice_index s.words tail in
      let w : View = tested_view s.view (others_wait s.view found) in record {
        apart = apart 0;
        told = tt;
        kept = record {
          calm = inl refl;
          busy = refl;
          holds = refl;
          tested = λ h noted. (asks.1, inl (others_behind s (stands.first h) (said_yes s.view found noted)));
          followed = stands.followed;
          core = loaded s tail w (calm s w refl refl refl refl);
        };
      };
}

pub exchanges : IsKept hemlock_discipline exchange_tail
exchanges = record {
  noted = λ v found. (
    record { same = refl; steps = refl; entered = refl; read = (refl, refl, refl) },
    record { same = refl; steps = refl; entered = refl; read = (refl, refl, refl) },
  );
  keeps = λ s asks low.
      let held = ap (is_holder false) asks.0 in
      let first = (s.queued.each_seat s.seat s.view s.at).first held in record {
        apart = apart 0;
        told = tt;
        kept = (
          λ e. record {
            silent = asks.1;
            held = held;
            tail = [];
            cut = head_alone s first e;
            free = refl;
            unheld = refl;
            core = left_grants s first (names_none s asks.0 asks.2);
          },
          λ ne. record {
            calm = inl refl;
            busy = refl;
            holds = refl;
            tested = (s.told.each s.seat s.view s.at).tested;
            followed = λ _ _. others_behind s first ne;
            core = loaded s tail (followed_view s.view) (calm s (followed_view s.view) refl refl refl refl);
          },
        );
      };
}

pub grants : IsKept hemlock_discipline store_grant
grants = record {
  noted = λ v found. record { same = refl; steps = refl; entered = refl; read = (refl, refl, refl) };
  keeps = λ s asks low.
      let held = ap (is_holder false) asks.0 in
      let stands = s.queued.each_seat s.seat s.view s.at in
      let cut = head_cut s.seats s.seat (stands.first held) in record {
        apart = apart (own_name s.view);
        told = tt;
        kept = record {
          silent = asks.1;
          held = held;
          tail = cut.0;
          cut = cut.1;
          free = refl;
          unheld = refl;
          core = granting_grants s cut.0 cut.1 (stands.followed held asks.3) (names_none s asks.0 asks.2);
        };
      };
}

pub looks : IsKept hemlock_discipline load_grant
looks = record {
  noted = λ v found. (
    record { same = refl; steps = refl; entered = refl; read = refl },
    record { same = refl; steps = refl; entered = refl; read = refl },
  );
  keeps = λ s asks low. record {
    apart = apart (own_name s.view);
    told = tt;
    kept = (
      λ e. record {
        calm = inr (refl, (s.told.each s.seat s.view s.at).leaving (ap is_leaving asks));
        busy = sym (ap (is_busy false) asks);
        holds = sym (ap (is_holder false) asks);
        tested = λ h _. absurd (no_true (sym h));
        followed = λ h _. absurd (no_true (sym h));
        core = loaded s (grant (own_name s.view)) (done_view s.view) (done_grants s asks e);
      },
      λ _. missed_still s (grant (own_name s.view)) (ap (is_holder false) asks),
    );
  };
}
