-- What a lock's table knows of waiters, at each kind of event.
use Rattle.std.proofs.Common.{◌≡◌, ◌≢◌, ◌⊎◌, ℕ, ◌+◌, ◌<◌, ◌≤◌, Bool, true, false, cond, List, [], ◌∷◌, ◌++◌, length, set}
use Rattle.std.proofs.Common.{slice_index, refl, ap, sym, ◌∙◌, subst, inl, inr, ⊎_elim, arith}
use Rattle.std.specs.List.{sum_by}
use Rattle.std.proofs.lemmas.List.Sums.{sum_by_push}
use mathlib.Core.Option.{some, some-ne-none}
use lib.ListN.{get_elem?}
use Rattle.atomic_table.proofs.Lists.{at_set}
use Rattle.lock_rules.specs.Rows.{waiting}
use Rattle.lock_rules.specs.Tag.{Tag}
use Rattle.lock_rules.specs.Views.{is_counted, first_view, without_next, next_split, joined_view, spent_view}
use Rattle.lock_rules.specs.declared.step.Answer.TheVariants.{Yes}
use Rattle.lock_rules.specs.declared.view.Algorithm.{Algorithm}
use Rattle.lock_rules.specs.declared.view.View.{View}
use Rattle.lock_rules.specs.declared.view.Waiters.{Waiters}
use Rattle.lock_tables.specs.Numbers.{passes_of}
use Rattle.lock_tables.specs.Rule.{announced, is_holder, is_queued, is_leaving, IsBehind, IsWaitedFor, Tells, AreTold}
use Rattle.lock_rules.proofs.Sums.{sum_set, sum_le}
use Rattle.lock_tables.proofs.Lists.{at_end, no_true, wrote_else}
use Rattle.lock_tables.proofs.Numbers.{passes_unspent}
use Rattle.lock_tables.proofs.Queues.{IsLike}

-- a step on another word leaves `waiting`
pub waiting_same : (words : List ℕ) (word now : ℕ) → word ≢ waiting → slice_index (set words word now) waiting ≡ slice_index words waiting
waiting_same words word now apart = wrote_else words word waiting now (λ e. apart (sym e))

-- who waits, after the word `waiting` stayed or rose and the queue stayed or grew
pub more_behind : (words words' seats seats' : List ℕ) → slice_index words waiting ≤ slice_index words' waiting
    → length seats ≤ length seats' → IsBehind words seats → IsBehind words' seats'
more_behind words words' seats seats' w l b =
    ⊎_elim (λ (x : 1 < length seats). inl (omega arith)) (λ (x : 0 < slice_index words waiting). inr (omega arith)) b

pub more_wait : (words words' seats seats' : List ℕ) → slice_index words waiting ≤ slice_index words' waiting
    → length seats ≤ length seats' → IsWaitedFor words seats → IsWaitedFor words' seats'
more_wait words words' seats seats' w l b =
    ⊎_elim (λ (x : 0 < length seats). inl (omega arith)) (λ (x : 0 < slice_index words waiting). inr (omega arith)) b

-- how a step may change a seat's phase: not at all, or to one in which the pass is neither queued nor announced
abbrev pub IsCalm : View → View → Type 0
IsCalm v w = (w.phase ≡ v.phase) ⊎ ((is_queued w.phase ≡ false) × (w.announced ≡ false))

module _ (lingers : Bool) (c : Waiters) where
  abbrev T : List ℕ → List ℕ → List View → Type 0
  T = AreTold lingers c

  -- the seat's own view, after a step that leaves what it has announced
  pub tells_like : (words words' seats seats' : List ℕ) (v w : View) → IsLike v w → w.announced ≡ v.announced
      → Tells lingers c words seats v
      → (is_queued w.phase ≡ true → w.announced ≡ is_counted w.waiters) → (is_leaving w.phase ≡ true → w.announced ≡ false)
      → (is_holder lingers w.phase ≡ true → w.tested ≡ Yes → (w.announced ≡ false) × IsBehind words' seats')
      → Tells lingers c words' seats' w
  tells_like words words' seats seats' v w l a x queued leaving tested = record {
    chosen = λ e. l.waiters ∙ x.chosen (sym l.spent ∙ e);
    gone = λ e. a ∙ x.gone (sym l.spent ∙ e);
    counted = λ e. ap is_counted l.waiters ∙ x.counted (sym a ∙ e);
    queued = queued;
    leaving = leaving;
    tested = tested;
  }

  -- the same, where the phase changes as little as may be
  pub tells_calm : (words words' seats seats' : List ℕ) (v w : View) → IsLike v w → w.announced ≡ v.announced
      → Tells lingers c words seats v → IsCalm v w
      → (is_holder lingers w.phase ≡ true → w.tested ≡ Yes → (w.announced ≡ false) × IsBehind words' seats')
      → Tells lingers c words' seats' w
  tells_calm words words' seats seats' v w l a x calm tested = tells_like words words' seats seats' v w l a x
      (λ e. ⊎_elim
      (λ (same : w.phase ≡ v.phase). a ∙ x.queued (sym (ap is_queued same) ∙ e) ∙ sym (ap is_counted l.waiters))
      (λ (other : (is_queued w.phase ≡ false) × (w.announced ≡ false)). absurd (no_true (sym e ∙ other.0))) calm)
      (λ e. ⊎_elim
      (λ (same : w.phase ≡ v.phase). a ∙ x.leaving (sym (ap is_leaving same) ∙ e))
      (λ (other : (is_queued w.phase ≡ false) × (w.announced ≡ false)). other.1) calm)
      tested

  -- a step of the seat id, from its view v to w
  pub told_step : (words words' seats seats' : List ℕ) (views : List View) (id : ℕ) (v w : View) → T words seats views
      → get_elem? views id ≡ some v → slice_index words' waiting + announced v ≡ slice_index words waiting + announced w
      → Tells lingers c words' seats' w
      → ((j : ℕ) (u : View) → j ≢ id → get_elem? views j ≡ some u → is_holder lingers u.phase ≡ true → IsBehind words seats
      → IsBehind words' seats')
      → T words' seats' (set views id w)
  told_step words words' seats seats' views id v w r at count mine others = record {
    waiting_is = let t = sum_set announced views id v w at in omega (arith, t, count, r.waiting_is);
    each = λ j u e. ⊎_elim (λ (t : (j ≡ id) × (w ≡ u)). subst (Tells lingers c words' seats') t.1 mine)
        (λ (t : (j ≢ id) × (get_elem? views j ≡ some u)). let x = r.each j u t.1 in record {
          chosen = x.chosen;
          gone = x.gone;
          counted = x.counted;
          queued = x.queued;
          leaving = x.leaving;
          tested = λ h y. let z = x.tested h y in (z.0, others j u t.0 t.1 h z.1);
        }) (at_set views id j w u e);
  }

  -- a step that leaves what the seat has announced
  pub told_same : (words words' seats seats' : List ℕ) (views : List View) (id : ℕ) (v w : View) → T words seats views
      → get_elem? views id ≡ some v → slice_index words' waiting ≡ slice_index words waiting → w.announced ≡ v.announced
      → Tells lingers c words' seats' w
      → ((j : ℕ) (u : View) → j ≢ id → get_elem? views j ≡ some u → is_holder lingers u.phase ≡ true → IsBehind words seats
      → IsBehind words' seats')
      → T words' seats' (set views id w)
  told_same words words' seats seats' views id v w r at same a mine others =
      let e : announced w ≡ announced v = ap (λ (b : Bool). cond b 1 0) a in
      told_step words words' seats seats' views id v w r at (omega (arith, same, e)) mine others

  -- a pass is split off
  pub told_split : (words seats : List ℕ) (views : List View) (id : ℕ) (v : View) → T words seats views → get_elem? views id ≡ some v
      → v.spent ≡ false → T words seats (set views id (without_next v) ++ next_split v ∷ [])
  told_split words seats views id v r at live =
      let w : View = without_next v in
      let new : View = next_split v in
      let x = r.each id v at in
      let t = sum_set announced views id v w at in
      let p = sum_by_push announced (set views id w) new in record {
        waiting_is = omega (arith, t, p, r.waiting_is);
        each = λ j u e. ⊎_elim
            (λ (e' : get_elem? (set views id w) j ≡ some u). ⊎_elim
            (λ (s : (j ≡ id) × (w ≡ u)). subst (Tells lingers c words seats) s.1 (record {
              chosen = x.chosen;
              gone = x.gone;
              counted = x.counted;
              queued = x.queued;
              leaving = x.leaving;
              tested = x.tested;
            }))
            (λ (s : (j ≢ id) × (get_elem? views j ≡ some u)). r.each j u s.1)
            (at_set views id j w u e'))
            (λ (s : (j ≡ length (set views id w)) × (new ≡ u)). subst (Tells lingers c words seats) s.1 (record {
              chosen = λ _. x.chosen live;
              gone = λ _. refl;
              counted = λ e'. absurd (no_true (sym e'));
              queued = λ e'. absurd (no_true (sym e'));
              leaving = λ e'. absurd (no_true (sym e'));
              tested = λ e' _. absurd (no_true (sym e'));
            }))
            (at_end (set views id w) new u j e);
      }

  -- a seat that isn't announced is joined into another
  pub told_join : (words seats : List ℕ) (views : List View) (id : ℕ) (v : View) (other : ℕ) (w : View) → T words seats views
      → get_elem? views id ≡ some v → get_elem? (set views id (joined_view v w)) other ≡ some w → w.announced ≡ false
      → T words seats (set (set views id (joined_view v w)) other spent_view)
  told_join words seats views id v other w r at at' silent =
      let both : View = joined_view v w in
      let mid : List View = set views id both in
      let x = r.each id v at in
      let t = sum_set announced views id v both at in
      let p = sum_set announced mid other w spent_view at' in
      let z : announced w ≡ 0 = ap (λ (b : Bool). cond b 1 0) silent in record {
        waiting_is = omega (arith, t, p, z, r.waiting_is);
        each = λ j u e. ⊎_elim
            (λ (s : (j ≡ other) × (spent_view ≡ u)). subst (Tells lingers c words seats) s.1 (record {
              chosen = λ e'. absurd (no_true e');
              gone = λ _. refl;
              counted = λ e'. absurd (no_true (sym e'));
              queued = λ e'. absurd (no_true (sym e'));
              leaving = λ e'. absurd (no_true (sym e'));
              tested = λ e' _. absurd (no_true (sym e'));
            }))
            (λ (s : (j ≢ other) × (get_elem? mid j ≡ some u)). ⊎_elim
            (λ (y : (j ≡ id) × (both ≡ u)). subst (Tells lingers c words seats) y.1 (record {
              chosen = x.chosen;
              gone = x.gone;
              counted = x.counted;
              queued = x.queued;
              leaving = x.leaving;
              tested = x.tested;
            }))
            (λ (y : (j ≢ id) × (get_elem? views j ≡ some u)). r.each j u y.1)
            (at_set views id j both u s.1))
            (at_set mid other j spent_view u e);
      }

  -- the first seat alone
  pub told_start : (a : Algorithm) (n : ℕ) (tag : Tag) (words : List ℕ) → slice_index words waiting ≡ 0
      → T words [] (first_view a c n tag ∷ [])
  told_start a n tag words none_waits = record {
    waiting_is = none_waits;
    each = λ j u e. ⊎_elim (λ (t : get_elem? [] j ≡ some u). absurd (some-ne-none u (sym t)))
        (λ (t : (j ≡ 0) × (first_view a c n tag ≡ u)). subst (Tells lingers c words []) t.1 (record {
          chosen = λ _. refl;
          gone = λ _. refl;
          counted = λ e'. absurd (no_true (sym e'));
          queued = λ e'. absurd (no_true (sym e'));
          leaving = λ e'. absurd (no_true (sym e'));
          tested = λ e' _. absurd (no_true (sym e'));
        }))
        (at_end [] (first_view a c n tag) u j e);
  }

  -- no more passes are announced than there are
  announced_le : (words seats : List ℕ) (views : List View) → T words seats views → (j : ℕ) (v : View) → get_elem? views j ≡ some v
      → announced v ≤ passes_of v
  announced_le words seats views r j v at = elim (v.announced) as (λ b. v.announced ≡ b → announced v ≤ passes_of v) [
    | false ↦ λ e. let z : announced v ≡ 0 = ap (λ (b : Bool). cond b 1 0) e in omega (arith, z)
    | true ↦ λ e.
        let z : announced v ≡ 1 = ap (λ (b : Bool). cond b 1 0) e in
        let live : v.spent ≡ false = elim (v.spent) as (λ b. v.spent ≡ b → v.spent ≡ false) [
          | false ↦ λ s. s
          | true ↦ λ s. absurd (no_true (sym e ∙ (r.each j v at).gone s))
        ] refl in
        let m = passes_unspent v live in omega (arith, z, m)
  ] refl

  pub few_wait : (words seats : List ℕ) (views : List View) → T words seats views → slice_index words waiting ≤ sum_by passes_of views
  few_wait words seats views r =
      let l = sum_le announced passes_of views (announced_le words seats views r) in omega (arith, l, r.waiting_is)
