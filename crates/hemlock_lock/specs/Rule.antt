-- The words of a Hemlock, its part of the rule, and its queue as a function of words and views.
use Rattle.std.specs.Prelude.{◌≡◌, ◌≢◌, ℕ, zero, suc, ◌+◌, ◌<◌, ◌≤◌, true, false, cond, ◌&&◌, not, ◌==◌}
use Rattle.std.specs.Prelude.{List, [], ◌∷◌, ◌++◌, length, replicate, slice_index}
use mathlib.Core.Option.{some}
use lib.ListN.{get_elem?}
use Rattle.lock_rules.specs.Rows.{line, row_of}
use Rattle.lock_rules.specs.declared.view.Algorithm.TheVariants.{Hemlock}
use Rattle.lock_rules.specs.declared.view.Phase.TheVariants.{Queued, Holding, Leaving}
use Rattle.lock_rules.specs.declared.view.View.{View}
use Rattle.lock_tables.specs.Rule.{Discipline, is_busy}

-- the word that names the last pass of the queue; the name of a pass is its number + 1, and 0 names none
abbrev pub tail : ℕ
tail = line 0

-- the word of the pass with this name
abbrev pub grant : ℕ → ℕ
grant name = line name

-- the name that the view of the pass p has
abbrev pub named_by : List View → ℕ → ℕ
named_by [] p = 0
named_by (v ∷ vs) p = cond (not v.spent && v.number == p) v.predecessor (named_by vs p)

-- a name, where the grant of the pass with this name is 0
abbrev pub ungranted : List ℕ → ℕ → ℕ
ungranted words zero = 0
ungranted words (suc p) = cond (slice_index words (grant (suc p)) == 0) (suc p) 0

-- the passes up to the one with this name, at most `count` of them: before q is p where q's view names p and p's grant is 0
abbrev pub passes_to : List ℕ → List View → ℕ → ℕ → List ℕ
passes_to words views zero name = []
passes_to words views (suc count) zero = []
passes_to words views (suc count) (suc p) = passes_to words views count (ungranted words (named_by views p)) ++ p ∷ []

-- the passes from `tail` on
abbrev pub queue_of : List ℕ → List View → List ℕ
queue_of words views = passes_to words views (length views) (slice_index words tail)

-- the seat of a pass that is leaving, with this name
pub record IsLeaving (views : List View) (name : ℕ) : Type 0 where
  pub seat : ℕ
  pub view : View
  pub at : get_elem? views seat ≡ some view
  pub leaves : view.phase ≡ Leaving
  pub is : view.number + 1 ≡ name

-- Each seat of the queue names the one ahead of it, the head has the name `named`, and `tail` names the last
pub record IsChained (named : ℕ) (words seats : List ℕ) (views : List View) : Type 0 where
  pub none_last : length seats ≡ 0 → slice_index words tail ≡ 0
  pub last : (i j : ℕ) (v : View) → length seats ≡ i + 1 → get_elem? seats i ≡ some j → get_elem? views j ≡ some v
      → slice_index words tail ≡ v.number + 1
  pub none_first : length seats ≡ 0 → named ≡ 0
  pub first : (j : ℕ) (v : View) → get_elem? seats 0 ≡ some j → get_elem? views j ≡ some v → v.predecessor ≡ named
  pub waits : (j : ℕ) (v : View) → get_elem? seats 0 ≡ some j → get_elem? views j ≡ some v → v.phase ≡ Queued → named ≢ 0
  pub behind : (i j k : ℕ) (u v : View) → get_elem? seats i ≡ some j → get_elem? views j ≡ some u → get_elem? seats (i + 1) ≡ some k
      → get_elem? views k ≡ some v
      → v.predecessor ≡ u.number + 1

-- What holds of the words and the views of a lock with n passes. At most one grant is 1: that of the pass that the head names, which is
-- leaving
pub record HasGrants (n : ℕ) (words seats : List ℕ) (views : List View) : Type 0 where
  pub named : ℕ
  pub chained : IsChained named words seats views
  pub given : named ≢ 0 → slice_index words (grant named) ≡ 1
  pub kept : (name : ℕ) → 0 < name → name ≤ n → name ≢ named → slice_index words (grant name) ≡ 0
  pub leaver : named ≢ 0 → IsLeaving views named
  pub nameless : (j : ℕ) (v : View) → get_elem? views j ≡ some v → is_busy false v.phase ≡ false → v.predecessor ≡ 0
  -- a holder that still names the one ahead owes it that its grant is cleared; no token of a holder has such a view
  pub owing : (j : ℕ) (v : View) → get_elem? views j ≡ some v → v.phase ≡ Holding → v.predecessor ≢ 0 → v.owes ≡ true

abbrev pub hemlock_discipline : Discipline
hemlock_discipline = record {
  algorithm = Hemlock;
  lingers = false;
  opens = λ n. replicate (row_of Hemlock n) 0;
  Core = HasGrants;
  queue = queue_of;
}
