-- How the seats of a CLH lock's queue stand one behind another.
use Rattle.std.proofs.Common.{◌≡◌, ◌≢◌, ℕ, zero, suc, ◌+◌, ◌≤◌, true, false, cond, ◌&&◌, ◌==◌, eq-eqb, List, [], ◌∷◌, ◌++◌, length}
use Rattle.std.proofs.Common.{map, set, refl, ap, sym, ◌∙◌, subst, ⊎_elim, arith, append_assoc}
use Rattle.std.proofs.lemmas.List.{append-nil}
use mathlib.Core.Option.{some, some-injective, some-ne-none}
use lib.ListN.{get_elem?}
use borrow.Author.Tests.{eqb-true}
use Rattle.atomic_table.proofs.Lists.{at_set}
use Rattle.lock_rules.specs.declared.view.View.{View}
use Rattle.lock_tables.specs.Laws.{number_at}
use Rattle.lock_tables.specs.Rule.{is_busy, IsBusyAt}
use Rattle.lock_tables.proofs.Lists.{number_is, both_true}
use Rattle.clh_lock.specs.Rule.{owner_of, passes_to, Leads}

-- the seat j had a view with the same node and predecessor
pub record HadNode (views : List View) (j : ℕ) (u : View) : Type 0 where
  pub view : View
  pub at : get_elem? views j ≡ some view
  pub node : u.node ≡ view.node
  pub predecessor : u.predecessor ≡ view.predecessor

-- a step that leaves the nodes and predecessors of the seats in the queue
pub leads_stay : (views views' : List View) (seats : List ℕ) (first last : ℕ) → ((i j : ℕ) (u : View) → get_elem? seats i ≡ some j
    → get_elem? views' j ≡ some u → HadNode views j u)
    → Leads views first seats last → Leads views' first seats last
leads_stay views views' [] first last had e = e
leads_stay views views' (j ∷ js) first last had l = λ u at.
    let h = had 0 j u refl at in
    let r = l h.view h.at in (
      h.predecessor ∙ r.0,
      subst (λ (k : ℕ). Leads views' k js last) (sym h.node) (leads_stay views views' js h.view.node last
          (λ i. had (suc i)) r.1),
    )

-- a step of one seat that leaves its node and predecessor
pub had_before : (views : List View) (id : ℕ) (v w : View) → get_elem? views id ≡ some v → w.node ≡ v.node → w.predecessor ≡ v.predecessor
    → (j : ℕ) (u : View) → get_elem? (set views id w) j ≡ some u → HadNode views j u
had_before views id v w at node predecessor j u e = ⊎_elim
    (λ (x : (j ≡ id) × (w ≡ u)). record {
      view = v;
      at = ap (get_elem? views) x.0 ∙ at;
      node = ap (λ (y : View). y.node) (sym x.1) ∙ node;
      predecessor = ap (λ (y : View). y.predecessor) (sym x.1) ∙ predecessor;
    })
    (λ (x : (j ≢ id) × (get_elem? views j ≡ some u)). record { view = u; at = x.1; node = refl; predecessor = refl })
    (at_set views id j w u e)

-- a step of a seat that is not the one asked for
pub had_else : (views : List View) (id : ℕ) (w : View) (j : ℕ) (u : View) → j ≢ id → get_elem? (set views id w) j ≡ some u
    → HadNode views j u
had_else views id w j u ne e = ⊎_elim
    (λ (x : (j ≡ id) × (w ≡ u)). absurd (ne x.0))
    (λ (x : (j ≢ id) × (get_elem? views j ≡ some u)). record { view = u; at = x.1; node = refl; predecessor = refl })
    (at_set views id j w u e)

-- a seat goes behind the others
pub leads_end : (views : List View) (seats : List ℕ) (first last id : ℕ) (w : View) → get_elem? views id ≡ some w
    → w.predecessor ≡ last → Leads views first seats last
    → Leads views first (seats ++ id ∷ []) w.node
leads_end views [] first last id w at p e = λ u at'.
    let same : w ≡ u = some-injective w u (sym at ∙ at') in
    (ap (λ (x : View). x.predecessor) (sym same) ∙ p ∙ e, ap (λ (x : View). x.node) same)
leads_end views (j ∷ js) first last id w at p l = λ u at'. let r = l u at' in (r.0, leads_end views js u.node last id w at p r.1)

module _ (views : List View) where
  abbrev pub AllBusy : List ℕ → Type 0
  AllBusy seats = (i j : ℕ) → get_elem? seats i ≡ some j → IsBusyAt false views j

  -- each seat but the head watches the node of one in the queue
  pub leads_before : (seats : List ℕ) (first last i j : ℕ) (v : View) → AllBusy seats → Leads views first seats last
      → get_elem? seats (suc i) ≡ some j → get_elem? views j ≡ some v
      → (k : ℕ) × (b : IsBusyAt false views k) × (v.predecessor ≡ b.view.node)
  leads_before [] first last i j v busy l e at = absurd (some-ne-none j (sym e))
  leads_before (a ∷ []) first last i j v busy l e at = absurd (some-ne-none j (sym e))
  leads_before (a ∷ c ∷ js) first last zero j v busy l e at =
      let b = busy 0 a refl in
      let same : c ≡ j = some-injective c j e in
      (a, b, ((l b.view b.at).1 v (ap (get_elem? views) same ∙ at)).0)
  leads_before (a ∷ c ∷ js) first last (suc i) j v busy l e at =
      let b = busy 0 a refl in leads_before (c ∷ js) b.view.node last i j v (λ k. busy (suc k)) (l b.view b.at).1 e at

  -- where one seat stands alone, its node is the last
  pub leads_alone : (seats : List ℕ) (first last id : ℕ) (v : View) → Leads views first seats last → get_elem? seats 0 ≡ some id
      → get_elem? views id ≡ some v → length seats ≡ 1 → last ≡ v.node
  leads_alone [] first last id v l e at one = absurd (some-ne-none id (sym e))
  leads_alone (a ∷ []) first last id v l e at one = let same : a ≡ id = some-injective a id e in (l v (ap (get_elem? views) same ∙ at)).1
  leads_alone (a ∷ c ∷ js) first last id v l e at one = absurd (omega arith)

  -- the last node is one of the lock's
  pub leads_within : (n : ℕ) (seats : List ℕ) (first last : ℕ) → AllBusy seats → ((j : ℕ) → (b : IsBusyAt false views j)
      → b.view.node ≤ n) → first ≤ n → Leads views first seats last → last ≤ n
  leads_within n [] first last busy within h e = omega (arith, e, h)
  leads_within n (j ∷ js) first last busy within h l = let b = busy 0 j refl in leads_within n js b.view.node last
      (λ i. busy (suc i)) within (within j b) (l b.view b.at).1

owner_is : (views : List View) (j : ℕ) (v : View) (t : ℕ) → get_elem? views j ≡ some v → is_busy false v.phase ≡ true → v.node ≡ t
    → ((k : ℕ) (u : View) → get_elem? views k ≡ some u → is_busy false u.phase ≡ true → u.node ≡ t → k ≡ j) → owner_of views t ≡ v
owner_is [] j v t at b e only = absurd (some-ne-none v (sym at))
owner_is (u ∷ us) zero v t at b e only =
    let s : u ≡ v = some-injective u v at in
    let p : is_busy false u.phase ≡ true = ap (λ (x : View). is_busy false x.phase) s ∙ b in
    let q : (u.node == t) ≡ true = eq-eqb u.node t (ap (λ (x : View). x.node) s ∙ e) in
    rw (p, q) s
owner_is (u ∷ us) (suc j) v t at b e only =
    elim (is_busy false u.phase && (u.node == t)) as (λ x. (is_busy false u.phase && (u.node == t)) ≡ x → cond x u (owner_of us t) ≡ v) [
      | true ↦ λ h. let p = both_true (is_busy false u.phase) (u.node == t) h in let z : zero ≡ suc j
          = only zero u refl p.0 (eqb-true u.node t p.1) in absurd (omega arith)
      | false ↦ λ h. owner_is us j v t at b e (λ k w at' b' e'. let z : suc k ≡ suc j = only (suc k) w at' b' e' in omega arith)
    ] refl

-- no two seats in the queue have one node
abbrev pub AreApart : List View → Type 0
AreApart views = (j k : ℕ) (u w : View) → get_elem? views j ≡ some u → get_elem? views k ≡ some w → is_busy false u.phase ≡ true
    → is_busy false w.phase ≡ true → u.node ≡ w.node → j ≡ k

-- the passes that are found from the last node back are those of the seats, and before them those found from the first node back
pub passes_are : (views : List View) (seats : List ℕ) (first last m : ℕ) → AreApart views → AllBusy views seats
    → Leads views first seats last
    → passes_to views (length seats + m) last ≡ passes_to views m first ++ map (number_at views) seats
passes_are views [] first last m apart busy e =
    let none_more : 0 + m ≡ m = omega arith in
    ap (λ (c : ℕ). passes_to views c last) none_more ∙ ap (passes_to views m) e ∙ sym (append-nil (passes_to views m first))
passes_are views (j ∷ js) first last m apart busy l =
    let b = busy 0 j refl in
    let v : View = b.view in
    let r = l v b.at in
    let count : length (j ∷ js) + m ≡ length js + suc m = omega arith in
    let rest = passes_are views js v.node last (suc m) apart (λ i. busy (suc i)) r.1 in
    let owner : owner_of views v.node ≡ v = owner_is views j v v.node b.at b.is refl (λ k u at b' e'. apart k j u v at b.at b' b.is e') in
    let number : v.number ≡ number_at views j = sym (number_is views j v b.at) in
    let here : passes_to views (suc m) v.node ≡ passes_to views m first ++ number_at views j ∷ []
    = (λ i. passes_to views m (owner i).predecessor ++ (owner i).number ∷ []) ∙ (λ i. passes_to views m (r.0 i) ++ number i ∷ []) in
    ap (λ (c : ℕ). passes_to views c last) count ∙ rest ∙ ap (λ (x : List ℕ). x ++ map (number_at views) js) here
    ∙ append_assoc (passes_to views m first) (number_at views j ∷ []) (map (number_at views) js)
