-- Turns of one cohort.
use Rattle.std.proofs.Common.{◌≡◌, ℕ, ◌<◌, ◌≤◌, List, [], ◌∷◌, ◌++◌, refl, sym, subst, arith}
use Rattle.std.specs.Prelude.{All}
use Rattle.std.proofs.lemmas.List.{append_assoc}
use Rattle.std.proofs.lemmas.List.Elements.{All-cons, All-head, All-nil, All-tail}
use mathlib.Core.Logic.{dite}
use native.Mathlib.Decide.{ℕ_discrete}
use Rattle.keep_local.specs.declared.shape.Shape.{Shape}
use Rattle.keep_local.specs.declared.turn.Turn.{Turn}
use Rattle.keep_local.specs.Shapes.{IsWellFormed, callers_of, node_of, top_of}
use Rattle.keep_local.specs.Turns.{Begins, FollowEachOther, IsLawful}
use Rattle.keep_local.proofs.Checked.{climb_behind, near_behind}
use Rattle.keep_local.proofs.Logs.{last_push}
use Rattle.level_laws.specs.Cohorts.{AreOfOneCohort, OneCohort}

-- the last of turns that follow each other do so behind the others
follow_back : (shape : Shape) (before xs ys : List Turn) → FollowEachOther shape before (xs ++ ys) → FollowEachOther shape (before ++ xs) ys
follow_back shape before [] ys all = subst (λ (b : List Turn). FollowEachOther shape b ys) (sym (append_nil_is before)) all where
  append_nil_is : (b : List Turn) → b ++ [] ≡ b
  append_nil_is [] = refl
  append_nil_is (t ∷ ts) = λ i. t ∷ append_nil_is ts i
follow_back shape before (t ∷ xs) ys all =
    subst (λ (b : List Turn). FollowEachOther shape b ys) (append_assoc before (t ∷ []) xs)
    (follow_back shape (before ++ t ∷ []) xs ys all.1)

-- what holds of all items holds of the last ones
back_of : {A : Type 0} (Q : A → Type 0) (xs ys : List A) → All Q (xs ++ ys) → All Q ys
back_of Q [] ys all = all
back_of Q (x ∷ xs) ys all = back_of Q xs ys (All-tail Q x (xs ++ ys) all)

module _ (shape : Shape) (formed : IsWellFormed shape) (level : ℕ) (within : level ≤ top_of shape) where
  abbrev known : Turn → Type 0
  known t = t.caller < callers_of shape

  abbrev node : Turn → ℕ
  node t = node_of shape t.caller level

  abbrev no_higher : Turn → Type 0
  no_higher t = t.left ≤ level

  -- the turn behind one that didn't leave higher is under its node
  same_node : (before : List Turn) (t u : Turn) → Begins shape (before ++ t ∷ []) u → no_higher t → known t → known u → node u ≡ node t
  same_node before t u begins low known_t known_u =
      let climb = climb_behind shape (before ++ t ∷ []) u t (last_push before t) begins in
      let near = near_behind shape (before ++ t ∷ []) u t (last_push before t) begins in
      dite (ℕ_discrete u.climb level)
      (λ same. subst (λ (k : ℕ). node_of shape u.caller k ≡ node_of shape t.caller k) same near)
      (λ other. formed.nested u.caller t.caller u.climb level known_u known_t (omega (arith, climb, low, other)) within near)

  -- and so are all of a stretch
  same_nodes : (before : List Turn) (t : Turn) (stretch : List Turn) (next : Turn) (after : List Turn)
      → FollowEachOther shape (before ++ t ∷ []) (stretch ++ next ∷ after) → no_higher t → known t → All no_higher stretch
      → All known (stretch ++ next ∷ after) → All (λ u. node u ≡ node t) (stretch ++ next ∷ [])
  same_nodes before t [] next after follow low known_t lower all_known =
      let here = same_node before t next follow.0.begins low known_t (All-head known next after all_known) in
      All-cons (λ u. node u ≡ node t) next [] here (All-nil (λ u. node u ≡ node t))
  same_nodes before t (u ∷ stretch) next after follow low known_t lower all_known =
      let known_u = All-head known u (stretch ++ next ∷ after) all_known in
      let here = same_node before t u follow.0.begins low known_t known_u in
      let behind = same_nodes (before ++ t ∷ []) u stretch next after follow.1 (All-head no_higher u stretch lower) known_u
      (All-tail no_higher u stretch lower) (All-tail known u (stretch ++ next ∷ after) all_known) in
      All-cons (λ v. node v ≡ node t) u (stretch ++ next ∷ []) here
      (subst (λ (n : ℕ). All (λ v. node v ≡ n) (stretch ++ next ∷ [])) here behind)

  of_one_cohort : (before stretch : List Turn) (next : Turn) (after : List Turn)
      → FollowEachOther shape before (stretch ++ next ∷ after) → All no_higher stretch → All known (stretch ++ next ∷ after)
      → AreOfOneCohort shape level (stretch ++ next ∷ [])
  of_one_cohort before [] next after follow lower all_known = record {
    node = node next;
    each = All-cons (λ u. node u ≡ node next) next [] refl (All-nil (λ u. node u ≡ node next));
  }
  of_one_cohort before (t ∷ stretch) next after follow lower all_known = record {
    node = node t;
    each = All-cons (λ u. node u ≡ node t) t (stretch ++ next ∷ []) refl
        (same_nodes before t stretch next after follow.1 (All-head no_higher t stretch lower)
        (All-head known t (stretch ++ next ∷ after) all_known) (All-tail no_higher t stretch lower)
        (All-tail known t (stretch ++ next ∷ after) all_known));
  }

pub one_cohort_lem : OneCohort
one_cohort_lem shape level turns stretch next formed within all_known lawful is =
    let follow = follow_back shape [] is.before (stretch ++ next ∷ is.after) (subst (IsLawful shape) is.together lawful) in
    of_one_cohort shape formed level within is.before stretch next is.after follow is.no_higher
    (back_of (known shape formed level within) is.before (stretch ++ next ∷ is.after)
    (subst (All (known shape formed level within)) is.together all_known))
