-- The words of an MCS lock, its part of the rule, and its queue as a function of words and views.
use Rattle.std.specs.Prelude.{◌≡◌, ◌≢◌, ◌⊎◌, ℕ, zero, suc, ◌+◌, ◌-◌, true, false, cond, ◌&&◌, List, [], ◌∷◌, ◌++◌, length, replicate}
use Rattle.std.specs.Prelude.{slice_index, ◌==◌}
use mathlib.Core.Option.{some}
use lib.ListN.{get_elem?}
use Rattle.lock_rules.specs.Rows.{line, row_of}
use Rattle.lock_rules.specs.declared.view.Algorithm.TheVariants.{Mcs}
use Rattle.lock_rules.specs.declared.view.Phase.TheVariants.{Idle, Queued}
use Rattle.lock_rules.specs.declared.view.View.{View}
use Rattle.lock_tables.specs.Rule.{Discipline, is_busy}

-- the word that names the last pass of the queue
abbrev pub tail : ℕ
tail = line 0

-- the words of the pass p, on a line of its own: the name of the pass behind it, and whether it has to wait
abbrev pub next : ℕ → ℕ
next p = line (p + 1)

abbrev pub locked : ℕ → ℕ
locked p = line (p + 1) + 1

-- words name a pass by its number plus 1, and none by 0
abbrev pub name : ℕ → ℕ
name p = suc p

abbrev pub pass_named : ℕ → ℕ
pass_named x = x - 1

-- the name of the pass that has the pass p before it: the predecessor that its view names, where its `locked` is 1
abbrev pub before : List ℕ → List View → ℕ → ℕ
before words [] p = 0
before words (v ∷ vs) p =
    cond (is_busy true v.phase && v.number == p) (cond (slice_index words (locked p) == 1) v.predecessor 0) (before words vs p)

-- the passes up to the one that is named, at most so many: predecessors are followed until there is none
abbrev pub passes_to : List ℕ → List View → ℕ → ℕ → List ℕ
passes_to words views zero x = []
passes_to words views (suc most) zero = []
passes_to words views (suc most) (suc p) = passes_to words views most (before words views p) ++ p ∷ []

-- the queue, by following predecessors from `tail`
abbrev pub queue_of : List ℕ → List View → List ℕ
queue_of words views = passes_to words views (length words) (slice_index words tail)

-- the seat at the place i of the queue has the view v
pub record IsPlaced (seats : List ℕ) (views : List View) (i : ℕ) (v : View) : Type 0 where
  pub seat : ℕ
  pub place : get_elem? seats i ≡ some seat
  pub at : get_elem? views seat ≡ some v

-- x names the pass at the place behind i, which has stored its link
pub record NamesBehind (seats : List ℕ) (views : List View) (i x : ℕ) : Type 0 where
  pub view : View
  pub placed : IsPlaced seats views (suc i) view
  pub named : x ≡ name view.number
  pub linked : view.linked ≡ true

-- the first pass of the queue names no predecessor or needn't wait, and where it is queued, it has stored its link
pub record IsFirst (words : List ℕ) (v : View) : Type 0 where
  pub free : (v.predecessor ≡ 0) ⊎ (slice_index words (locked v.number) ≡ 0)
  pub linked : v.phase ≡ Queued → v.linked ≡ true

-- a pass that has another before it names that one, and has to wait
pub record IsBehind (words : List ℕ) (u v : View) : Type 0 where
  pub named : v.predecessor ≡ name u.number
  pub waits : slice_index words (locked v.number) ≡ 1

-- a pass that stored its words for the swap to come has not swapped yet, and they are as it stored them
pub record IsPrepared (words : List ℕ) (v : View) : Type 0 where
  pub unlinked : v.unlinked ≡ true → (v.phase ≡ Idle) × (slice_index words (next v.number) ≡ 0)
  pub raised : v.raised ≡ true → (v.phase ≡ Idle) × (slice_index words (locked v.number) ≡ 1)

pub record IsLinked (n : ℕ) (words seats : List ℕ) (views : List View) : Type 0 where
  -- `tail` names the last pass of the queue, and none where the queue is empty
  pub empty : length seats ≡ 0 → slice_index words tail ≡ 0
  pub last : (i : ℕ) (v : View) → IsPlaced seats views i v → length seats ≡ suc i → slice_index words tail ≡ name v.number
  pub first : (v : View) → IsPlaced seats views 0 v → IsFirst words v
  pub behind : (i : ℕ) (u v : View) → IsPlaced seats views i u → IsPlaced seats views (suc i) v → IsBehind words u v
  -- `next` of a pass in the queue, and what it was last seen to be, is 0 or names the pass behind, which has stored its link
  pub links : (i : ℕ) (v : View) → IsPlaced seats views i v → slice_index words (next v.number) ≢ 0
      → NamesBehind seats views i (slice_index words (next v.number))
  pub noted : (i : ℕ) (v : View) → IsPlaced seats views i v → v.successor ≢ 0 → NamesBehind seats views i v.successor
  pub prepared : (j : ℕ) (v : View) → get_elem? views j ≡ some v → v.spent ≡ false → IsPrepared words v

-- a pass that is leaving holds until its step that leaves
abbrev pub mcs_discipline : Discipline
mcs_discipline = record {
  algorithm = Mcs;
  lingers = true;
  opens = λ n. replicate (row_of Mcs n) 0;
  Core = IsLinked;
  queue = queue_of;
}
