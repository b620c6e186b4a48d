-- The CLH lock's part of the rule holds at the start, is kept where seats are split off and joined, and tells the queue.
use Rattle.std.proofs.Common.{◌≡◌, ◌≢◌, ℕ, ◌+◌, ◌<◌, true, false, cond, ◌||◌, ◌==◌, List, [], ◌∷◌, ◌++◌, length, map, set, replicate}
use Rattle.std.proofs.Common.{slice_index, ap, sym, ◌∙◌, subst, ⊎_elim, arith}
use Rattle.std.proofs.Math.ListN.{length-set}
use Rattle.std.proofs.lemmas.List.{length-replicate}
use Rattle.std.specs.List.{sum_by}
use mathlib.Core.Option.{some, some-ne-none}
use mathlib.Core.Logic.{dite}
use native.Mathlib.Decide.{ℕ_discrete}
use lib.ListN.{get_elem?}
use Rattle.atomic_table.proofs.Lists.{at_set}
use Rattle.lock_rules.specs.Rows.{row_of, waiting}
use Rattle.lock_rules.specs.Tag.{Tag}
use Rattle.lock_rules.specs.Views.{IsPlain, first_view, without_next, next_split, joined_view, spent_view}
use Rattle.lock_rules.specs.declared.view.Algorithm.TheVariants.{Clh}
use Rattle.lock_rules.specs.declared.view.Phase.TheVariants.{Idle}
use Rattle.lock_rules.specs.declared.view.View.{View}
use Rattle.lock_rules.specs.declared.view.Waiters.{Waiters}
use Rattle.lock_tables.specs.Laws.{IsDisciplined, IsNoted, number_at}
use Rattle.lock_tables.specs.Numbers.{by_node, stands_in}
use Rattle.lock_tables.specs.Rule.{is_busy, busy, IsQueued}
use Rattle.lock_tables.proofs.Lists.{at_end, no_true, wrote_here, wrote_else}
use Rattle.lock_tables.proofs.Numbers.{node_dealt, stands_first, stands_split, stands_join}
use Rattle.lock_tables.proofs.Queues.{WasAt, lives, after_split, after_join, placed_before_split, placed_before_join}
use Rattle.clh_lock.specs.Rule.{tail, flag, pending, granted, opens, queue_of, passes_to, is_pending, Leads, HasNodes, clh_discipline}
use Rattle.clh_lock.proofs.Nodes.{zeros, with_last, nodes_stay, nodes_apart}
use Rattle.clh_lock.proofs.Chain.{HadNode, AreApart, leads_stay, had_before, passes_are}

-- a seat that was there with the same node and predecessor
had_node : (views : List View) (j : ℕ) (u : View) → WasAt views j u → HadNode views j u
had_node views j u w = record { view = w.view; at = w.at; node = w.same.node; predecessor = w.same.predecessor }

-- the flag of a seat that was there
flag_before : (n : ℕ) (words seats : List ℕ) (views : List View) (nodes : HasNodes n words seats views) (j : ℕ) (u : View)
    → WasAt views j u → u.spent ≡ false → is_pending u ≡ true
    → slice_index words (flag u.node) ≡ pending
flag_before n words seats views nodes j u w live raised =
    ap (λ (k : ℕ). slice_index words (flag k)) w.same.node
    ∙ nodes.own_pending j w.view w.at (sym w.same.spent ∙ live) (sym (λ i. is_busy false (w.same.phase i) || w.same.raised i) ∙ raised)

opens_nodes : (c : Waiters) (n : ℕ) (tag : Tag) → 0 < n → HasNodes n (opens n) [] (first_view Clh c n tag ∷ [])
opens_nodes c n tag some_pass =
    let zero_words : List ℕ = replicate (row_of Clh n) granted in
    let size : length zero_words ≡ row_of Clh n = length-replicate (row_of Clh n) granted in record {
      free = n;
      once = λ k. ap (λ (x : ℕ). x + cond (n == k) 1 0) (stands_first by_node node_dealt Clh c n tag k some_pass) ∙ with_last n k;
      leads = wrote_here zero_words tail n (omega (arith, size));
      free_granted = wrote_else zero_words tail (flag n) n (λ e. omega (arith, e)) ∙ zeros (row_of Clh n) (flag n);
      own_pending = λ j v at live raised. ⊎_elim
          (λ (t : get_elem? [] j ≡ some v). absurd (some-ne-none v (sym t)))
          (λ (t : (j ≡ 0) × (first_view Clh c n tag ≡ v)). absurd (no_true (sym raised ∙ ap is_pending (sym t.1))))
          (at_end [] (first_view Clh c n tag) v j at);
    }

-- the nodes, where a seat gets a view with the same nodes that is pending only where its flag is
pub same_nodes : (n : ℕ) (words words' seats : List ℕ) (views : List View) (id : ℕ) (v w : View) (nodes : HasNodes n words seats views)
    → get_elem? views id ≡ some v
    → ((k : ℕ) → stands_in by_node k w ≡ stands_in by_node k v) → w.node ≡ v.node → w.predecessor ≡ v.predecessor
    → slice_index words' tail ≡ slice_index words tail
    → slice_index words' (flag nodes.free) ≡ granted → (is_pending w ≡ true → w.spent ≡ false → slice_index words' (flag w.node) ≡ pending)
    → ((k : ℕ) → slice_index words (flag k) ≡ pending → slice_index words' (flag k) ≡ pending) → HasNodes n words' seats (set views id w)
same_nodes n words words' seats views id v w nodes at stand node predecessor last free own others = record {
  free = nodes.free;
  once = nodes_stay n views nodes.free id v w at stand nodes.once;
  leads = subst (λ (t : ℕ). Leads (set views id w) nodes.free seats t) (sym last)
      (leads_stay views (set views id w) seats nodes.free (slice_index words tail)
      (λ i j u _ e. had_before views id v w at node predecessor j u e) nodes.leads);
  free_granted = free;
  own_pending = λ j u e live raised. ⊎_elim
      (λ (x : (j ≡ id) × (w ≡ u)). subst (λ (y : View). slice_index words' (flag y.node) ≡ pending) x.1 (own (ap is_pending x.1
      ∙ raised) (ap (λ (y : View). y.spent) x.1 ∙ live)))
      (λ (x : (j ≢ id) × (get_elem? views j ≡ some u)). others u.node (nodes.own_pending j u x.1 live raised))
      (at_set views id j w u e);
}

-- they say nothing of the word `waiting`, nor of what a seat knows of steps and waiters
notes : (n : ℕ) (words seats : List ℕ) (views : List View) (x id : ℕ) (v w : View) → get_elem? views id ≡ some v → IsNoted v w
    → HasNodes n words seats views → HasNodes n (set words waiting x) seats (set views id w)
notes n words seats views x id v w at noted nodes =
    let flags = λ (k : ℕ). wrote_else words waiting (flag k) x (λ e. omega (arith, e)) in
    let node : w.node ≡ v.node = ap (λ (u : View). u.node) noted in
    same_nodes n words (set words waiting x) seats views id v w nodes at (λ k. ap (stands_in by_node k) noted) node
    (ap (λ (u : View). u.predecessor) noted) (wrote_else words waiting tail x (λ e. omega (arith, e)))
    (flags nodes.free ∙ nodes.free_granted)
    (λ raised live. flags w.node ∙ ap (λ (k : ℕ). slice_index words (flag k)) node
    ∙ nodes.own_pending id v at (sym (ap (λ (u : View). u.spent) noted) ∙ live) (sym (ap is_pending noted) ∙ raised))
    (λ k e. flags k ∙ e)

module _ (n : ℕ) (tag : Tag) (words seats : List ℕ) (views : List View) (q : IsQueued clh_discipline n tag words seats views) where
  splits : (id : ℕ) (v : View) → get_elem? views id ≡ some v → v.spent ≡ false → v.from < v.to
      → HasNodes n words seats (set views id (without_next v) ++ next_split v ∷ [])
  splits id v at live more = record {
    free = q.core.free;
    once = λ k. ap (λ (x : ℕ). x + cond (q.core.free == k) 1 0) (stands_split by_node node_dealt views id v k at live more) ∙ q.core.once k;
    leads = leads_stay views (set views id (without_next v) ++ next_split v ∷ []) seats q.core.free (slice_index words tail)
        (λ i j u e e'. had_node views j u (placed_before_split clh_discipline n tag words seats views q id v at i j u e e')) q.core.leads;
    free_granted = q.core.free_granted;
    own_pending = λ j u e live' raised. ⊎_elim
        (λ (w : WasAt views j u). flag_before n words seats views q.core j u w live' raised)
        (λ (t : (j ≡ length views) × (next_split v ≡ u)). absurd (no_true (sym raised ∙ ap is_pending (sym t.1))))
        (after_split views id v at j u e);
  }

  joins : (id : ℕ) (v : View) (other : ℕ) (w : View) → get_elem? views id ≡ some v → v.spent ≡ false → ¬ (other ≡ id)
      → get_elem? (set views id (joined_view v w)) other ≡ some w
      → w.phase ≡ Idle → IsPlain w → HasNodes n words seats (set (set views id (joined_view v w)) other spent_view)
  joins id v other w at live apart at' idle plain = record {
    free = q.core.free;
    once = λ k. ap (λ (x : ℕ). x + cond (q.core.free == k) 1 0) (stands_join by_node node_dealt views id v other w k at at' live plain)
        ∙ q.core.once k;
    leads = leads_stay views (set (set views id (joined_view v w)) other spent_view) seats q.core.free (slice_index words tail)
        (λ i j u e e'. had_node views j u (placed_before_join clh_discipline n tag words seats views q id v other w at at' apart idle i j
        u e e')) q.core.leads;
    free_granted = q.core.free_granted;
    own_pending = λ j u e live' raised. ⊎_elim
        (λ (t : (j ≢ other) × WasAt views j u). flag_before n words seats views q.core j u t.1 live' raised)
        (λ (t : (j ≡ other) × (spent_view ≡ u)). absurd (no_true (ap (λ (x : View). x.spent) t.1 ∙ live')))
        (after_join views id v other w at j u e);
  }

  -- the queue has no node twice
  are_apart : AreApart views
  are_apart j k u w at at' b b' e = dite (ℕ_discrete j k) (λ same. same) (λ ne. absurd
      (nodes_apart n views q.core.free q.core.once k j w u at' at
      (lives clh_discipline n tag words seats views q k w at' b') (lives clh_discipline n tag words seats views q j u at b) ne e))

  queue_is : queue_of words views ≡ map (number_at views) seats
  queue_is =
      let count : sum_by (busy false) views ≡ length seats + 0 = omega (arith, q.busy_are) in
      let p = passes_are views seats q.core.free (slice_index words tail) 0 are_apart q.each_place q.core.leads in
      ap (λ (c : ℕ). passes_to views c (slice_index words tail)) count ∙ p

pub disciplined : IsDisciplined clh_discipline
disciplined = record {
  opens_long = λ n. length-set (replicate (row_of Clh n) granted) tail n ∙ length-replicate (row_of Clh n) granted;
  opens_unannounced = λ n. wrote_else (replicate (row_of Clh n) granted) tail waiting n (λ e. omega (arith, e))
      ∙ zeros (row_of Clh n) waiting;
  opens = λ c n tag some_pass few. opens_nodes c n tag some_pass;
  notes = notes;
  splits = λ n tag words seats views id v q at live more. splits n tag words seats views q id v at live more;
  joins = λ n tag words seats views id v other w q at live apart at' idle plain. joins n tag words seats views q id v other w at live
      apart at' idle plain;
  queue_is = queue_is;
}
