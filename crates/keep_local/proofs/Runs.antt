-- Runs and lawful turns, one turn after another.
use Rattle.std.proofs.Common.{◌≡◌, ◌≢◌, ℕ, ◌+◌, ◌-◌, ◌<◌, ◌≤◌, Bool, true, false, cond, not, List, [], ◌∷◌, ◌++◌, length, drop, ◌==◌}
use Rattle.std.proofs.Common.{nat_lt, eq-eqb, ne_eqb, refl, ap, sym, ◌∙◌, subst, arith, length-append, append_assoc}
use Rattle.std.specs.Prelude.{All}
use Rattle.std.specs.List.{sum_by, count_by, after_last, suffix_len, prefix_len}
use Rattle.std.proofs.lemmas.List.{reverse-append, drop-append-le, append-nil, length-drop}
use Rattle.std.proofs.Math.Seq.{drop-append_seam}
use Rattle.std.proofs.lemmas.List.Sums.{sum_by_push, sum_by-cons, count_by-le-length}
use Rattle.std.proofs.lemmas.Bool.Decides.{nat_tests}
use Rattle.keep_local.specs.declared.shape.Shape.{Shape}
use Rattle.keep_local.specs.declared.turn.Turn.{Turn}
use Rattle.std.proofs.lemmas.List.Elements.{All-nil, All-cons, All-head, All-tail, All-weaker, All-drop}
use Rattle.keep_local.specs.Shapes.{top_of}
use Rattle.keep_local.proofs.Counts.{one_if}
use Rattle.keep_local.specs.Turns.{run, Follows, FollowEachOther, IsLawful}

module _ {A : Type 0} where
  drop_whole : (xs : List A) → drop (length xs - 0) xs ≡ []
  drop_whole xs = let e : length xs - 0 ≡ length xs = omega arith in
      ap (λ (n : ℕ). drop n xs) e ∙ ap (drop (length xs)) (sym (append-nil xs)) ∙ drop-append_seam xs []

  -- what stands behind the last element that passes, with one more element
  pub after_last-push : (p : A → Bool) (xs : List A) (x : A) → after_last p (xs ++ x ∷ []) ≡ cond (p x) [] (after_last p xs ++ x ∷ [])
  after_last-push p xs x =
      let q : A → Bool = λ y. not (p y) in
      let ys : List A = xs ++ x ∷ [] in
      let tail : suffix_len q ys ≡ cond (q x) (1 + suffix_len q xs) 0 = ap (prefix_len q) (reverse-append xs (x ∷ [])) in
      elim (p x) as (λ b. p x ≡ b → after_last p ys ≡ cond b [] (after_last p xs ++ x ∷ [])) [
        | true ↦ λ e.
            let size : suffix_len q ys ≡ 0 = tail ∙ ap (λ (b : Bool). cond (not b) (1 + suffix_len q xs) 0) e in
            ap (λ (n : ℕ). drop (length ys - n) ys) size ∙ drop_whole ys
        | false ↦ λ e.
            let size : suffix_len q ys ≡ 1 + suffix_len q xs = tail ∙ ap (λ (b : Bool). cond (not b) (1 + suffix_len q xs) 0) e in
            let left : length ys - suffix_len q ys ≡ length xs - suffix_len q xs = omega (arith, size, length-append xs (x ∷ [])) in
            let within : length xs - suffix_len q xs ≤ length xs = omega arith in
            ap (λ (n : ℕ). drop n ys) left ∙ drop-append-le (length xs - suffix_len q xs) xs (x ∷ []) within
      ] refl

module _ (level : ℕ) where
  abbrev above : Turn → Bool
  above t = nat_lt level t.left

  abbrev here : Turn → ℕ
  here t = one_if (t.left == level)

  pub run_none : run level [] ≡ 0
  unfolding run
  run_none = refl

  -- one more turn that didn't leave higher
  run_more : (turns : List Turn) (t : Turn) → above t ≡ false → run level (turns ++ t ∷ []) ≡ run level turns + here t
  unfolding run
  run_more turns t e =
      let same : after_last above (turns ++ t ∷ []) ≡ after_last above turns ++ t ∷ [] = after_last-push above turns t
      ∙ ap (λ (b : Bool). cond b [] (after_last above turns ++ t ∷ [])) e in
      ap (sum_by here) same ∙ sum_by_push here (after_last above turns) t

  -- one more turn that left at this level
  pub run_same : (turns : List Turn) (t : Turn) → t.left ≡ level → run level (turns ++ t ∷ []) ≡ run level turns + 1
  run_same turns t e =
      let not_above : above t ≡ false = grind (arith, nat_tests) in
      let yes_here : here t ≡ 1 = ap one_if (eq-eqb t.left level e) in
      omega (arith, run_more turns t not_above, yes_here)

  -- one more turn that left lower
  pub run_lower : (turns : List Turn) (t : Turn) → t.left < level → run level (turns ++ t ∷ []) ≡ run level turns
  run_lower turns t h =
      let not_above : above t ≡ false = grind (arith, nat_tests) in
      let other : t.left ≢ level = omega arith in
      let not_here : here t ≡ 0 = ap one_if (ne_eqb t.left level other) in
      omega (arith, run_more turns t not_above, not_here)

  -- one more turn that left higher
  pub run_higher : (turns : List Turn) (t : Turn) → level < t.left → run level (turns ++ t ∷ []) ≡ 0
  unfolding run
  run_higher turns t h =
      let is_above : above t ≡ true = grind (arith, nat_tests) in
      ap (sum_by here) (after_last-push above turns t ∙ ap (λ (b : Bool). cond b [] (after_last above turns ++ t ∷ [])) is_above)

-- a run has no more turns than there are
pub run-le-length : (level : ℕ) (turns : List Turn) → run level turns ≤ length turns
unfolding run
run-le-length level turns =
    let behind : List Turn = after_last (λ t. nat_lt level t.left) turns in
    let a : count_by (λ t. t.left == level) behind ≤ length behind = count_by-le-length (λ (t : Turn). t.left == level) behind in
    let b = length-drop (length turns - suffix_len (λ t. not (nat_lt level t.left)) turns) turns in
    omega (arith, a, b)

-- a lawful list with one more turn
pub follow_push : (shape : Shape) (before turns : List Turn) (t : Turn) → FollowEachOther shape before turns
    → Follows shape (before ++ turns) t → FollowEachOther shape before (turns ++ t ∷ [])
follow_push shape before [] t all last = (subst (λ (b : List Turn). Follows shape b t) (append-nil before) last, tt)
follow_push shape before (u ∷ us) t all last = (
  all.0,
  follow_push shape (before ++ u ∷ []) us t all.1
      (subst (λ (b : List Turn). Follows shape b t) (sym (append_assoc before (u ∷ []) us)) last),
)

pub lawful_push : (shape : Shape) (turns : List Turn) (t : Turn) → IsLawful shape turns → Follows shape turns t
    → IsLawful shape (turns ++ t ∷ [])
lawful_push shape turns t all last = follow_push shape [] turns t all last

-- no turn of a lawful list left above the top
lefts_within : (shape : Shape) (before turns : List Turn) → FollowEachOther shape before turns → All (λ t. t.left ≤ top_of shape) turns
lefts_within shape before [] all = All-nil (λ (t : Turn). t.left ≤ top_of shape)
lefts_within shape before (t ∷ ts) all =
    All-cons (λ (u : Turn). u.left ≤ top_of shape) t ts all.0.ends.left.within (lefts_within shape (before ++ t ∷ []) ts all.1)

none_left : (level : ℕ) (turns : List Turn) → All (λ t. t.left < level) turns → count_by (λ t. t.left == level) turns ≡ 0
none_left level [] h = refl
none_left level (t ∷ ts) h =
    let lower : t.left < level = All-head (λ (u : Turn). u.left < level) t ts h in
    let other : t.left ≢ level = omega arith in
    let a = sum_by-cons (λ (u : Turn). one_if (u.left == level)) t ts in
    let b : one_if (t.left == level) ≡ 0 = ap one_if (ne_eqb t.left level other) in
    omega (arith, a, b, none_left level ts (All-tail (λ (u : Turn). u.left < level) t ts h))

-- so a level above the top has no run
pub run_above : (shape : Shape) (level : ℕ) (turns : List Turn) → IsLawful shape turns → top_of shape < level → run level turns ≡ 0
unfolding run
run_above shape level turns lawful above =
    let lower : All (λ t. t.left < level) turns =
    All-weaker (λ (t : Turn). t.left ≤ top_of shape) (λ (t : Turn). t.left < level) (λ t h. omega arith) turns
    (lefts_within shape [] turns lawful) in
    none_left level (after_last (λ t. nat_lt level t.left) turns)
    (All-drop (λ (t : Turn). t.left < level) (length turns - suffix_len (λ t. not (nat_lt level t.left)) turns) turns lower)
