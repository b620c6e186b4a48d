-- The contexts of a level and their parents, found by a walk over the callers.
use Rattle.std.proofs.Common.{◌≡◌, ◌≢◌, ℕ, zero, suc, ◌+◌, ◌<◌, ◌≤◌, ◌⊎◌, ⊎_elim, List, [], ◌∷◌, length, set, refl, ap, sym}
use Rattle.std.proofs.Common.{◌∙◌, Bool, cond, eqb, eq-eqb, subst, arith, Some}
use Rattle.std.proofs.lemmas.Bool.{ne_eqb}
use Rattle.std.specs.Prelude.{slice_get, ◌↔◌}
use mathlib.Core.Logic.{dite}
use native.Mathlib.Decide.{ℕ_discrete}
use Rattle.keep_local.specs.declared.shape.Shape.{Shape}
use Rattle.keep_local.specs.Shapes.{IsWellFormed, top_of, callers_of, node_of, HasNode}
use Rattle.clof_compose.specs.Contexts.{AreContexts, IsContextOf}

-- of the first callers none has a node as great as `count`, and where `count` isn't 0 one of them has the node below it
pub record IsCount (shape : Shape) (k callers count : ℕ) : Type 0 where
  pub below : (v : ℕ) → v < callers → node_of shape v k < count
  pub reached : 0 < count → (v : ℕ) × (v < callers) × (node_of shape v k + 1 ≡ count)

pub no_callers : (shape : Shape) (k : ℕ) → IsCount shape k 0 0
no_callers shape k = record { below = λ v h. absurd (omega (arith, h)); reached = λ h. absurd (omega (arith, h)) }

pub one_caller_more : (shape : Shape) (k callers count count' : ℕ) → IsCount shape k callers count
    → ((count' ≡ count) × (node_of shape callers k < count)) ⊎ ((count' ≡ node_of shape callers k + 1) × (count ≤ count'))
    → IsCount shape k (callers + 1) count'
one_caller_more shape k callers count count' is = ⊎_elim
    (λ (h : (count' ≡ count) × (node_of shape callers k < count)).
    let e = h.0 in let low = h.1 in record {
      below = λ v b. dite (ℕ_discrete v callers)
          (λ same. let s : node_of shape v k ≡ node_of shape callers k = ap (λ (n : ℕ). node_of shape n k) same in omega (arith, e, low, s))
          (λ other. let o = is.below v (omega (arith, b, other)) in omega (arith, o, e));
      reached = λ b. let r = is.reached (omega (arith, b, e)) in let w = r.1 in let n = r.2 in (r.0, omega (arith, w), omega (arith, n, e));
    })
    (λ (h : (count' ≡ node_of shape callers k + 1) × (count ≤ count')).
    let e = h.0 in let more = h.1 in record {
      below = λ v b. dite (ℕ_discrete v callers)
          (λ same. let s : node_of shape v k ≡ node_of shape callers k = ap (λ (n : ℕ). node_of shape n k) same in omega (arith, e, s))
          (λ other. let o = is.below v (omega (arith, b, other)) in omega (arith, o, more));
      reached = λ b. (callers, omega arith, sym e);
    })

-- nodes without gaps are those below the count
pub counted : (shape : Shape) (k count : ℕ) → IsWellFormed shape → k + 1 ≤ top_of shape → IsCount shape k (callers_of shape) count
    → AreContexts shape (k + 1) count
counted shape k count shaped low is = record {
  lowest = λ e. absurd (omega (arith, e));
  higher = λ j e n. let same : k ≡ j = omega (arith, e) in
      subst (λ (i : ℕ). (n < count) ↔ HasNode shape i n) same (
        λ h.
            let r = is.reached (omega (arith, h)) in
            let reached = r.2 in
            dite (ℕ_discrete (node_of shape r.0 k) n)
            (λ here. (r.0, r.1, here))
            (λ other. shaped.no_gaps r.0 r.1 k (omega (arith, low)) n (omega (arith, h, reached, other))),
        λ h. let b = is.below h.0 h.1 in let at = h.2 in omega (arith, b, at),
      );
}

pub callers_counted : (shape : Shape) → AreContexts shape 0 (callers_of shape)
callers_counted shape = record { lowest = λ e. refl; higher = λ k e. absurd (omega (arith, e)) }

-- a caller stands under one context alone
same_context : (shape : Shape) (level w c d : ℕ) → IsContextOf shape level w c → IsContextOf shape level w d → c ≡ d
same_context shape zero w c d at at' = at.lowest refl ∙ sym (at'.lowest refl)
same_context shape (suc j) w c d at at' = at.higher j (omega arith) ∙ sym (at'.higher j (omega arith))

-- two callers under one context of a level have one node there
same_node : (shape : Shape) (level v w c : ℕ) → IsWellFormed shape → level < top_of shape → v < callers_of shape → w < callers_of shape
    → IsContextOf shape level v c → IsContextOf shape level w c → node_of shape v level ≡ node_of shape w level
same_node shape zero v w c shaped low a b at at' = ap (λ (n : ℕ). node_of shape n zero) (sym (at.lowest refl) ∙ at'.lowest refl)
same_node shape (suc j) v w c shaped low a b at at' = shaped.nested v w j (suc j) a b (omega arith) (omega (arith, low)) (sym (at.higher j
    (omega arith)) ∙ at'.higher j (omega arith))

-- the contexts of the first callers have their parents
abbrev pub HaveParents : Shape → ℕ → ℕ → List ℕ → Type 0
HaveParents shape level callers parents = (w c : ℕ) → w < callers → IsContextOf shape level w c → slice_get parents c ≡ Some (node_of shape
    w level)

set_at : (xs : List ℕ) (i y : ℕ) → i < length xs → slice_get (set xs i y) i ≡ Some y
set_at [] i y h = absurd (omega (arith, h))
set_at (x ∷ xs) zero y h = refl
set_at (x ∷ xs) (suc i) y h = set_at xs i y (omega (arith, h))

set_beside : (xs : List ℕ) (i j y : ℕ) → j ≢ i → slice_get (set xs i y) j ≡ slice_get xs j
set_beside [] zero j y other = refl
set_beside [] (suc i) j y other = refl
set_beside (x ∷ xs) zero zero y other = absurd (other refl)
set_beside (x ∷ xs) zero (suc j) y other = refl
set_beside (x ∷ xs) (suc i) zero y other = refl
set_beside (x ∷ xs) (suc i) (suc j) y other = set_beside xs i j y (λ e. other (ap suc e))

pub one_parent_more : (shape : Shape) (level callers context : ℕ) (parents : List ℕ) → IsWellFormed shape → level < top_of shape
    → callers < callers_of shape → IsContextOf shape level callers context → context < length parents
    → HaveParents shape level callers parents → HaveParents shape level (callers + 1) (set parents context (node_of shape callers level))
one_parent_more shape level callers context parents shaped low known at within have w c b at' =
    let w_known : w < callers_of shape = omega (arith, b, known) in
    dite (ℕ_discrete c context)
    (λ e.
    let same : node_of shape callers level ≡ node_of shape w level = same_node shape level callers w context shaped low known w_known at
    (subst (IsContextOf shape level w) e at') in
    ap (slice_get (set parents context (node_of shape callers level))) e ∙ set_at parents context (node_of shape callers level) within
    ∙ ap Some same)
    (λ other.
    let w_before : w < callers = dite (ℕ_discrete w callers) (λ e. absurd (other (same_context shape level callers c context (subst (λ (v :
    ℕ). IsContextOf shape level v c) e at') at))) (λ ne. omega (arith, b, ne)) in
    set_beside parents context c (node_of shape callers level) other ∙ have w c w_before at')

-- a caller's context is one of the level's
pub context_within : (shape : Shape) (level w c count : ℕ) → w < callers_of shape → AreContexts shape level count
    → IsContextOf shape level w c → c < count
context_within shape zero w c count known are at = let all = are.lowest refl in let is = at.lowest refl in omega (arith, known, all, is)
context_within shape (suc j) w c count known are at = (are.higher j (omega arith) c).1 (w, known, sym (at.higher j (omega arith)))

pub context_at_0 : (shape : Shape) (w : ℕ) → IsContextOf shape 0 w w
context_at_0 shape w = record { lowest = λ e. refl; higher = λ k e. absurd (omega (arith, e)) }

pub context_above : (shape : Shape) (w k c : ℕ) → c ≡ node_of shape w k → IsContextOf shape (k + 1) w c
context_above shape w k c is = record {
  lowest = λ e. absurd (omega (arith, e));
  higher = λ j e. let same : k ≡ j = omega (arith, e) in is ∙ ap (node_of shape w) same;
}

-- where each number below n is the value of some argument below m, n is at most m
pigeonhole : (m n : ℕ) (f : ℕ → ℕ) → ((i : ℕ) → i < n → (v : ℕ) × (v < m) × (f v ≡ i)) → n ≤ m
pigeonhole zero zero f h = omega arith
pigeonhole zero (suc n) f h = let p = h 0 (omega arith) in absurd (let b = p.1 in omega (arith, b))
pigeonhole (suc m) zero f h = omega arith
pigeonhole (suc m) (suc n) f h =
    let fewer = pigeonhole m n (λ v. cond (eqb (f v) n) (f m) (f v)) (λ i b. dite (ℕ_discrete (f m) i)
    (λ same.
    let p = h n (omega arith) in
    let here = p.2 in
    let bound = p.1 in
    let beside : p.0 ≢ m = λ e. let g : f p.0 ≡ f m = ap f e in omega (arith, g, same, here, b) in (
      p.0,
      omega (arith, bound, beside),
      ap (λ (t : Bool). cond t (f m) (f p.0)) (eq-eqb (f p.0) n here) ∙ same,
    ))
    (λ other.
    let p = h i (omega (arith, b)) in
    let here = p.2 in
    let bound = p.1 in
    let beside : p.0 ≢ m = λ e. other (ap f (sym e) ∙ here) in (
      p.0,
      omega (arith, bound, beside),
      ap (λ (t : Bool). cond t (f m) (f p.0)) (ne_eqb (f p.0) n (λ e. omega (arith, e, here, b))) ∙ here,
    ))) in
    omega (arith, fewer)

-- a level has no more contexts than callers
pub contexts_few : (shape : Shape) (level count : ℕ) → AreContexts shape level count → count ≤ callers_of shape
contexts_few shape zero count are = let all = are.lowest refl in omega (arith, all)
contexts_few shape (suc j) count are = pigeonhole (callers_of shape) count (λ v. node_of shape v j) (λ i b. (are.higher j (omega arith)
    i).0 b)
