-- Which levels are due while they are noted, for those who release a lock level by level.
use Rattle.std.proofs.Common.{◌≡◌, ◌≢◌, ℕ, ◌+◌, ◌<◌, ◌≤◌, Bool, true, false, ◌⊎◌, ⊎_elim, List, refl, ap, sym, ◌∙◌, subst, arith}
use Rattle.std.proofs.Common.{Option, Some, None}
use Rattle.std.specs.Prelude.{slice_index, IfSome, IsSome, is_some, option_map}
use Rattle.std.proofs.lemmas.Nat.Bits.{bit_at-lt}
use mathlib.Core.Logic.{dite}
use native.Mathlib.Decide.{ℕ_discrete}
use Rattle.std.specs.Int.{bit_at}
use Rattle.keep_local.specs.declared.shape.Shape.{Shape}
use Rattle.keep_local.specs.declared.turn.Turn.{Turn}
use Rattle.keep_local.specs.Turns.{run, IsDue}
use Rattle.keep_local.specs.Shapes.{top_of}
use Rattle.keep_local.specs.States.{TrailState, IsTrail, IsNoting, MayLeave, with_test, tested}
use Rattle.keep_local.proofs.Counts.{one_if}
use Rattle.keep_local.proofs.Trails.{with_test_other, with_test_same}

module _ (shape : Shape) (before : List Turn) (tests level : ℕ) (queued : Bool) where
  -- what was noted of other levels stays
  pub not_due_other : (k : ℕ) → k ≢ level → ¬ IsDue shape before tests k → ¬ IsDue shape before (with_test tests level queued) k
  not_due_other k other not_due due =
      not_due (record { queued = sym (with_test_other tests level k queued other) ∙ due.queued; below = due.below })

  -- a level is due where another caller was queued and its run is below its keep
  pub due_here : bit_at tests level ≡ 0 → queued ≡ true → run level before < slice_index shape.keeps level
      → IsDue shape before (with_test tests level queued) level
  due_here fresh yes_queued below = record { queued = with_test_same tests level queued fresh ∙ ap one_if yes_queued; below = below }

  -- and not where nobody was queued, or where its run has come to its keep
  pub not_due_unqueued : bit_at tests level ≡ 0 → queued ≡ false → ¬ IsDue shape before (with_test tests level queued) level
  not_due_unqueued fresh unqueued due = let a = with_test_same tests level queued fresh ∙ ap one_if unqueued in let b = due.queued in
      omega (arith, a, b)

  pub not_due_kept : slice_index shape.keeps level ≤ run level before → ¬ IsDue shape before (with_test tests level queued) level
  not_due_kept reached due = let below = due.below in omega (arith, reached, below)

some_turn : (o : Option Turn) → IsSome o → (t : Turn) × (o ≡ Some t)
some_turn None is = absurd (let x : false ≡ true = is in cc)
some_turn (Some t) is = (t, refl)

-- an open turn whose levels below this one were noted, none of which is due
pub record IsReleasing (s : TrailState) (level : ℕ) : Type 0 where
  pub kept : IsTrail s
  pub noted : s.noted ≡ level
  pub is_open : IsSome s.current
  pub not_due : IfSome s.current (λ t. (k : ℕ) → k < level → ¬ IsDue s.shape s.closed t.tests k)

-- a turn that was just opened
pub releasing_first : (s : TrailState) → IsTrail s → IsSome s.current → s.noted ≡ 0 → IsReleasing s 0
releasing_first s kept is fresh =
    let now = some_turn s.current is in record {
      kept = kept;
      noted = fresh;
      is_open = is;
      not_due = subst (λ (o : Option Turn). IfSome o (λ t. (k : ℕ) → k < 0 → ¬ IsDue s.shape s.closed t.tests k)) (sym now.1)
          (λ k h. absurd (omega arith));
    }

abbrev noted_at : TrailState → ℕ → Bool → TrailState
noted_at s level queued = record s { current = option_map (λ t. tested t level queued) s.current; noted = level + 1 }

-- a level that was not noted has no bit
fresh_bit : (s : TrailState) (t : Turn) (level : ℕ) → IsReleasing s level → s.current ≡ Some t → bit_at t.tests level ≡ 0
fresh_bit s t level is now =
    let noting : IsNoting s.shape s.noted t = subst (λ (o : Option Turn). IfSome o (λ u. IsNoting s.shape s.noted u)) now is.kept.noting in
    let small = bit_at-lt t.tests level in
    let noted = is.noted in
    dite (ℕ_discrete (bit_at t.tests level) 1)
    (λ e. absurd (let below = noting.tests level e in omega (arith, below, noted)))
    (λ ne. omega (arith, small, ne))

-- one more level was noted that is not due
pub releasing_next : (s s' : TrailState) (level : ℕ) (queued : Bool) → IsReleasing s level → s' ≡ noted_at s level queued → IsTrail s'
    → (queued ≡ false) ⊎ (slice_index s.shape.keeps level ≤ run level s.closed) → IsReleasing s' (level + 1)
releasing_next s s' level queued is did kept' why =
    let found = some_turn s.current is.is_open in
    let t : Turn = found.0 in
    let now : s.current ≡ Some t = found.1 in
    let was : (k : ℕ) → k < level
    → ¬ IsDue s.shape s.closed t.tests k =
    subst (λ (o : Option Turn). IfSome o (λ u. (k : ℕ) → k < level → ¬ IsDue s.shape s.closed u.tests k)) now is.not_due in
    let here : ¬ IsDue s.shape s.closed (with_test t.tests level queued) level = ⊎_elim
    (λ (unqueued : queued ≡ false). not_due_unqueued s.shape s.closed t.tests level queued (fresh_bit s t level is now) unqueued)
    (λ (reached : slice_index s.shape.keeps level ≤ run level s.closed). not_due_kept s.shape s.closed t.tests level queued reached) why in
    let after : (k : ℕ) → k < level + 1 → ¬ IsDue s.shape s.closed (with_test t.tests level queued) k = λ k h. dite (ℕ_discrete k level)
    (λ same. subst (λ (j : ℕ). ¬ IsDue s.shape s.closed (with_test t.tests level queued) j) (sym same) here)
    (λ other. not_due_other s.shape s.closed t.tests level queued k other (was k (omega (arith, h, other)))) in
    let current : s'.current ≡ Some (tested t level queued) = ap (λ (z : TrailState). z.current) did
    ∙ ap (λ (o : Option Turn). option_map (λ u. tested u level queued) o) now in
    let not_due : IfSome (Some (tested t level queued)) (λ u. (k : ℕ) → k < level + 1 → ¬ IsDue s.shape s.closed u.tests k) = after in
    record {
      kept = kept';
      noted = ap (λ (z : TrailState). z.noted) did;
      is_open = ap (λ (o : Option Turn). is_some o) current;
      not_due = subst (λ (z : TrailState). IfSome s'.current (λ u. (k : ℕ) → k < level + 1 → ¬ IsDue z.shape z.closed u.tests k)) (sym did)
          (subst (λ (o : Option Turn). IfSome o (λ u. (k : ℕ) → k < level + 1 → ¬ IsDue s.shape s.closed u.tests k)) (sym current) not_due);
    }

-- the level that was just noted is due, and the turn may leave there
pub may_leave_here : (s s' : TrailState) (level : ℕ) (queued : Bool) → IsReleasing s level → level < top_of s.shape
    → s' ≡ noted_at s level queued → queued ≡ true → run level s.closed < slice_index s.shape.keeps level
    → IfSome s'.current (MayLeave s' level)
may_leave_here s s' level queued is below did yes_queued small =
    let found = some_turn s.current is.is_open in
    let t : Turn = found.0 in
    let now : s.current ≡ Some t = found.1 in
    let was : (k : ℕ) → k < level
    → ¬ IsDue s.shape s.closed t.tests k =
    subst (λ (o : Option Turn). IfSome o (λ u. (k : ℕ) → k < level → ¬ IsDue s.shape s.closed u.tests k)) now is.not_due in
    let n : TrailState = noted_at s level queued in
    let may : MayLeave n level (tested t level queued) = record {
      noted = omega (arith, below);
      left = record {
        within = omega (arith, below);
        due = λ _. due_here s.shape s.closed t.tests level queued (fresh_bit s t level is now) yes_queued small;
        least = λ k h. not_due_other s.shape s.closed t.tests level queued k (omega arith) (was k h);
      };
    } in
    let there : IfSome n.current (MayLeave n level) =
    subst (λ (o : Option Turn). IfSome (option_map (λ u. tested u level queued) o) (MayLeave n level)) (sym now) may in
    subst (λ (z : TrailState). IfSome z.current (MayLeave z level)) (sym did) there

-- no level below the top is due, and the turn may leave at the top
pub may_leave_top : (s : TrailState) (top : ℕ) → IsReleasing s top → top ≡ top_of s.shape → IfSome s.current (MayLeave s top)
may_leave_top s top is top_is =
    let found = some_turn s.current is.is_open in
    let t : Turn = found.0 in
    let now : s.current ≡ Some t = found.1 in
    let was : (k : ℕ) → k < top
    → ¬ IsDue s.shape s.closed t.tests k =
    subst (λ (o : Option Turn). IfSome o (λ u. (k : ℕ) → k < top → ¬ IsDue s.shape s.closed u.tests k)) now is.not_due in
    let noted = is.noted in
    let may : MayLeave s top t = record {
      noted = omega (arith, noted, top_is);
      left = record { within = omega (arith, top_is); due = λ h. absurd (omega (arith, h, top_is)); least = was };
    } in
    subst (λ (o : Option Turn). IfSome o (MayLeave s top)) (sym now) may
