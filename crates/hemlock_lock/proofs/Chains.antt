-- The names in the queue of a Hemlock, and its grants.
use Rattle.std.proofs.Common.{◌≡◌, ◌≢◌, ℕ, zero, suc, ◌+◌, ◌-◌, ◌<◌, ◌≤◌, true, false, refl, ap, sym, ◌∙◌, inl, ⊎_elim, arith}
use Rattle.std.proofs.Common.{List, [], ◌∷◌, length, set, slice_index}
use mathlib.Core.Option.{some, some-injective}
use mathlib.Core.Logic.{dite}
use native.Mathlib.Decide.{ℕ_discrete}
use lib.ListN.{get_elem?}
use Rattle.atomic_table.proofs.Lists.{at_set, set_else}
use Rattle.lock_rules.specs.Rows.{line}
use Rattle.lock_rules.specs.Tag.{Tag}
use Rattle.lock_rules.specs.declared.view.Phase.TheVariants.{Idle, Queued, Holding, Leaving}
use Rattle.lock_rules.specs.declared.view.View.{View}
use Rattle.lock_tables.specs.Rule.{is_busy, IsQueued}
use Rattle.lock_tables.proofs.Lists.{set_at, at_below, there, no_true}
use Rattle.lock_tables.proofs.Points.{no_other}
use Rattle.lock_tables.proofs.Queues.{lives, one_seat_of}
use Rattle.hemlock_lock.specs.Kinds.{own_name}
use Rattle.hemlock_lock.specs.Rule.{tail, grant, IsLeaving, IsChained, HasGrants, hemlock_discipline}

pub no_seats : (l : List ℕ) → length l ≡ 0 → l ≡ []
no_seats [] e = refl
no_seats (x ∷ xs) e = absurd (omega arith)

-- the seat j had a view with the same names
pub record WasNamed (views : List View) (j : ℕ) (u : View) : Type 0 where
  pub view : View
  pub at : get_elem? views j ≡ some view
  pub number : u.number ≡ view.number
  pub predecessor : u.predecessor ≡ view.predecessor
  pub queued : u.phase ≡ Queued → view.phase ≡ Queued

-- the queue's names stay where its seats keep theirs
pub chained_stays : (named : ℕ) (words words' seats : List ℕ) (views views' : List View) → IsChained named words seats views
    → slice_index words' tail ≡ slice_index words tail
    → ((i j : ℕ) (u : View) → get_elem? seats i ≡ some j → get_elem? views' j ≡ some u → WasNamed views j u)
    → IsChained named words' seats views'
chained_stays named words words' seats views views' c same was = record {
  none_last = λ e. same ∙ c.none_last e;
  last = λ i j v e at at'. let w = was i j v at at' in same ∙ c.last i j w.view e at w.at ∙ (λ t. sym w.number t + 1);
  none_first = c.none_first;
  first = λ j v at at'. let w = was 0 j v at at' in w.predecessor ∙ c.first j w.view at w.at;
  waits = λ j v at at' q. let w = was 0 j v at at' in c.waits j w.view at w.at (w.queued q);
  behind = λ i j k u v at au at' av.
      let x = was i j u at au in
      let y = was (i + 1) k v at' av in y.predecessor ∙ c.behind i j k x.view y.view at x.at at' y.at ∙ (λ t. sym x.number t + 1);
}

-- the new view of the seat that stepped
pub is_new : (views : List View) (id : ℕ) (v w : View) → get_elem? views id ≡ some v → (j : ℕ) (u : View) → id ≡ j
    → get_elem? (set views id w) j ≡ some u → w ≡ u
is_new views id v w at j u e at' = some-injective w u (sym (set_at views id v w at) ∙ ap (get_elem? (set views id w)) e ∙ at')

-- the old view of another seat
pub is_old : (views : List View) (id : ℕ) (w : View) (j : ℕ) (u : View) → j ≢ id → get_elem? (set views id w) j ≡ some u
    → get_elem? views j ≡ some u
is_old views id w j u ne at = sym (set_else views id j w ne) ∙ at

-- a seat whose step leaves its names
pub was_set : (views : List View) (id : ℕ) (v w : View) → get_elem? views id ≡ some v → w.number ≡ v.number
    → w.predecessor ≡ v.predecessor → (w.phase ≡ Queued → v.phase ≡ Queued)
    → (j : ℕ) (u : View) → get_elem? (set views id w) j ≡ some u → WasNamed views j u
was_set views id v w at number predecessor queued j u e = ⊎_elim
    (λ (t : (j ≡ id) × (w ≡ u)). record {
      view = v;
      at = ap (get_elem? views) t.0 ∙ at;
      number = ap (λ (x : View). x.number) (sym t.1) ∙ number;
      predecessor = ap (λ (x : View). x.predecessor) (sym t.1) ∙ predecessor;
      queued = λ q. queued (ap (λ (x : View). x.phase) t.1 ∙ q);
    })
    (λ (t : (j ≢ id) × (get_elem? views j ≡ some u)). record { view = u; at = t.1; number = refl; predecessor = refl; queued = λ q. q })
    (at_set views id j w u e)

-- a pass that is leaving stays where the step of a seat leaves it so
pub leaver_stays : (views : List View) (id : ℕ) (v w : View) (name : ℕ) → get_elem? views id ≡ some v → w.number ≡ v.number
    → (v.phase ≡ Leaving → own_name v ≡ name → w.phase ≡ Leaving)
    → IsLeaving views name → IsLeaving (set views id w) name
leaver_stays views id v w name at number stays l = dite (ℕ_discrete l.seat id)
    (λ e.
    let same : l.view ≡ v = some-injective l.view v (sym l.at ∙ ap (get_elem? views) e ∙ at) in
    let named : own_name v ≡ name = (λ i. (sym same i).number + 1) ∙ l.is in record {
      seat = id;
      view = w;
      at = set_at views id v w at;
      leaves = stays (ap (λ (x : View). x.phase) (sym same) ∙ l.leaves) named;
      is = (λ i. number i + 1) ∙ named;
    })
    (λ ne. record { seat = l.seat; view = l.view; at = set_else views id l.seat w ne ∙ l.at; leaves = l.leaves; is = l.is })

module _ (n : ℕ) (words seats : List ℕ) (views : List View) (id : ℕ) (w : View) (core : HasGrants n words seats views) where
  -- what holders owe, where the seat that stepped owes as it should
  pub owing_set : (w.phase ≡ Holding → w.predecessor ≢ 0 → w.owes ≡ true)
      → (j : ℕ) (u : View) → get_elem? (set views id w) j ≡ some u → u.phase ≡ Holding → u.predecessor ≢ 0 → u.owes ≡ true
  owing_set owes j u e held some_name = ⊎_elim
      (λ (t : (j ≡ id) × (w ≡ u)). ap (λ (x : View). x.owes) (sym t.1)
      ∙ owes (ap (λ (x : View). x.phase) t.1 ∙ held) (λ z. some_name (ap (λ (x : View). x.predecessor) (sym t.1) ∙ z)))
      (λ (t : (j ≢ id) × (get_elem? views j ≡ some u)). core.owing j u t.1 held some_name)
      (at_set views id j w u e)

  -- and who names none
  pub nameless_set : (is_busy false w.phase ≡ false → w.predecessor ≡ 0)
      → (j : ℕ) (u : View) → get_elem? (set views id w) j ≡ some u → is_busy false u.phase ≡ false → u.predecessor ≡ 0
  nameless_set none j u e free = ⊎_elim
      (λ (t : (j ≡ id) × (w ≡ u)). ap (λ (x : View). x.predecessor) (sym t.1) ∙ none (ap (λ (x : View). is_busy false x.phase) t.1 ∙ free))
      (λ (t : (j ≢ id) × (get_elem? views j ≡ some u)). core.nameless j u t.1 free)
      (at_set views id j w u e)

  -- names and grants, where a step leaves all words at lines and its seat's names
  pub same_grants : (words' : List ℕ) (v : View) → get_elem? views id ≡ some v
      → ((k : ℕ) → slice_index words' (line k) ≡ slice_index words (line k))
      → w.number ≡ v.number → w.predecessor ≡ v.predecessor
      → (w.phase ≡ Queued → v.phase ≡ Queued) → is_busy false w.phase ≡ is_busy false v.phase
      → (v.phase ≡ Leaving → own_name v ≡ core.named → w.phase ≡ Leaving)
      → (w.phase ≡ Holding → w.predecessor ≢ 0 → w.owes ≡ true) → HasGrants n words' seats (set views id w)
  same_grants words' v at same number predecessor queued busy leaves owes = record {
    named = core.named;
    chained = chained_stays core.named words words' seats views (set views id w) core.chained (same 0)
        (λ _ j u _ e. was_set views id v w at number predecessor queued j u e);
    given = λ ne. same core.named ∙ core.given ne;
    kept = λ name some_name within apart. same name ∙ core.kept name some_name within apart;
    leaver = λ ne. leaver_stays views id v w core.named at number leaves (core.leaver ne);
    nameless = nameless_set (λ free. predecessor ∙ core.nameless id v at (sym busy ∙ free));
    owing = owing_set owes;
  }

  -- the same, where its pass stands as it stood
  pub calm_grants : (words' : List ℕ) (v : View) → get_elem? views id ≡ some v
      → ((k : ℕ) → slice_index words' (line k) ≡ slice_index words (line k))
      → w.number ≡ v.number → w.predecessor ≡ v.predecessor → w.phase ≡ v.phase → w.owes ≡ v.owes
      → HasGrants n words' seats (set views id w)
  calm_grants words' v at same number predecessor phase owes =
      same_grants words' v at same number predecessor (λ e. sym phase ∙ e) (ap (is_busy false) phase) (λ l _. phase ∙ l)
      (λ h some_name. owes ∙ core.owing id v at (sym phase ∙ h) (λ z. some_name (predecessor ∙ z)))

module _ (n : ℕ) (tag : Tag) (words seats : List ℕ) (views : List View) (q : IsQueued hemlock_discipline n tag words seats views) where
  -- the name of a pass is at most n
  pub name_within : (j : ℕ) (v : View) → get_elem? views j ≡ some v → v.spent ≡ false → own_name v ≤ n
  name_within j v at live = let b = no_other n views q.numbers v.number j v (record { at = at; unspent = live }) (inl refl) in omega arith

  -- a pass that is leaving has a seat that isn't spent
  leaving_lives : (j : ℕ) (v : View) → get_elem? views j ≡ some v → v.phase ≡ Leaving → v.spent ≡ false
  leaving_lives j v at leaves = elim (v.spent) as (λ x. v.spent ≡ x → v.spent ≡ false) [
    | false ↦ λ e. e
    | true ↦ λ e. let no : Leaving ≡ Idle = sym leaves ∙ (q.each_seat j v at).ended e in absurd cc
  ] refl

  -- a pass that isn't leaving isn't the one that the head names
  pub not_named : (j : ℕ) (v : View) → get_elem? views j ≡ some v → v.spent ≡ false → ¬ (v.phase ≡ Leaving) → own_name v ≢ q.core.named
  not_named j v at live stays e =
      let l = q.core.leaver (λ z. let a : own_name v ≡ 0 = e ∙ z in omega arith) in
      let number : l.view.number ≡ v.number = (let a : l.view.number + 1 ≡ v.number + 1 = l.is ∙ sym e in omega arith) in
      let same = one_seat_of hemlock_discipline n tag words seats views q j l.seat v l.view at l.at live
      (leaving_lives l.seat l.view l.at l.leaves) number in
      let one : v ≡ l.view = some-injective v l.view (sym at ∙ ap (get_elem? views) (sym same) ∙ l.at) in
      stays (ap (λ (x : View). x.phase) one ∙ l.leaves)

  -- nor is a pass in the queue
  pub busy_not_named : (j : ℕ) (v : View) → get_elem? views j ≡ some v → is_busy false v.phase ≡ true → own_name v ≢ q.core.named
  busy_not_named j v at b = not_named j v at (lives hemlock_discipline n tag words seats views q j v at b)
      (λ e. no_true (sym b ∙ ap (is_busy false) e))

  -- and its grant is 0
  pub busy_ungranted : (j : ℕ) (v : View) → get_elem? views j ≡ some v → is_busy false v.phase ≡ true
      → slice_index words (grant (own_name v)) ≡ 0
  busy_ungranted j v at b =
      let within = name_within j v at (lives hemlock_discipline n tag words seats views q j v at b) in
      q.core.kept (own_name v) (omega arith) within (busy_not_named j v at b)

  -- the last seat, where there is one
  pub last_seat : 0 < length seats → (i : ℕ) × (j : ℕ) × (v : View) × (length seats ≡ i + 1) × (get_elem? seats i ≡ some j)
      × (get_elem? views j ≡ some v) × (v.spent ≡ false)
  last_seat some_seat =
      let t = there seats (length seats - 1) (omega arith) in
      let p = q.each_place (length seats - 1) t.0 t.1 in
      let live = lives hemlock_discipline n tag words seats views q t.0 p.view p.at p.is in
      (length seats - 1, t.0, p.view, omega arith, t.1, p.at, live)

  -- `tail` is 0 exactly where the queue is empty
  pub none_queued : slice_index words tail ≡ 0 → length seats ≡ 0
  none_queued e = dite (ℕ_discrete (length seats) 0) (λ z. z) (λ ne.
      let l = last_seat (omega arith) in
      let named : slice_index words tail ≡ own_name l.2 = q.core.chained.last l.0 l.1 l.2 l.3 l.4 l.5 in absurd (omega arith))

  -- `tail` is at most n
  pub tail_within : slice_index words tail ≤ n
  tail_within = dite (ℕ_discrete (length seats) 0)
      (λ e. let z = q.core.chained.none_last e in omega arith)
      (λ ne.
      let l = last_seat (omega arith) in
      let named : slice_index words tail ≡ own_name l.2 = q.core.chained.last l.0 l.1 l.2 l.3 l.4 l.5 in
      let within = name_within l.1 l.2 l.5 l.6 in omega arith)

  -- a pass that waits names another
  pub queued_names : (j : ℕ) (v : View) → get_elem? views j ≡ some v → v.phase ≡ Queued → v.predecessor ≢ 0
  queued_names j v at queued =
      let p = (q.each_seat j v at).placed (ap (is_busy false) queued) in
      names p.0 p.1
    where
      names : (i : ℕ) → get_elem? seats i ≡ some j → v.predecessor ≢ 0
      names zero e z = q.core.chained.waits j v e at queued (sym (q.core.chained.first j v e at) ∙ z)
      names (suc i) e z =
          let b = at_below seats (suc i) j e in
          let t = there seats i (omega arith) in
          let p = q.each_place i t.0 t.1 in
          let s : suc i ≡ i + 1 = omega arith in
          let a : v.predecessor ≡ own_name p.view = q.core.chained.behind i t.0 j p.view v t.1 p.at (ap (get_elem? seats) (sym s)
          ∙ e) at in omega arith
