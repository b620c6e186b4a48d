-- A level's parents and the shape: each node is above some context, and each context is under a node.
use Rattle.std.proofs.Common.{◌≡◌, ℕ, zero, suc, ◌+◌, ◌<◌, List, length, refl, ap, sym, ◌∙◌, arith, Some}
use Rattle.std.specs.Prelude.{slice_get}
use Rattle.std.proofs.lemmas.Option.{slice_get_within}
use Rattle.keep_local.specs.declared.shape.Shape.{Shape}
use Rattle.keep_local.specs.Shapes.{callers_of, node_of, HasNode}
use Rattle.clof_compose.specs.Contexts.{AreContexts, IsContextOf}
use Rattle.clof_compose.specs.Nodes.{IsInShape}

some_same : (a b : ℕ) → Some a ≡ Some b → a ≡ b
some_same a b e = cc

-- a caller stands under some context
context_of : (shape : Shape) (level w : ℕ) → (c : ℕ) × IsContextOf shape level w c
context_of shape zero w = (w, record { lowest = λ e. refl; higher = λ k e. absurd (omega (arith, e)) })
context_of shape (suc j) w = (
  node_of shape w j,
  record {
    lowest = λ e. absurd (omega (arith, e));
    higher = λ k e. let same : j ≡ k = omega (arith, e) in ap (node_of shape w) same;
  },
)

-- a context has a caller under it
caller_of : (shape : Shape) (level count c : ℕ) → AreContexts shape level count → c < count
    → (w : ℕ) × (w < callers_of shape) × IsContextOf shape level w c
caller_of shape zero count c are within = let all = are.lowest refl in (
  c,
  omega (arith, all, within),
  record { lowest = λ e. refl; higher = λ k e. absurd (omega (arith, e)) },
)
caller_of shape (suc j) count c are within =
    let found : HasNode shape j c = (are.higher j (omega arith) c).0 within in (
      found.0,
      found.1,
      record {
        lowest = λ e. absurd (omega (arith, e));
        higher = λ k e. let same : j ≡ k = omega (arith, e) in sym found.2 ∙ ap (node_of shape found.0) same;
      },
    )

module _ (shape : Shape) (level keep : ℕ) (parents : List ℕ) (is : IsInShape shape level keep parents) (count : ℕ)
    (nodes : AreContexts shape (level + 1) count) where
  pub some_under : (n : ℕ) → n < count → (k : ℕ) × (slice_get parents k ≡ Some n)
  some_under n within =
      let found : HasNode shape level n = (nodes.higher level refl n).0 within in
      let at = context_of shape level found.0 in
      (at.0, is.paths found.0 at.0 found.1 at.1 ∙ ap Some found.2)

  pub parent_within : AreContexts shape level (length parents) → (k n : ℕ) → slice_get parents k ≡ Some n → n < count
  parent_within contexts k n e =
      let caller = caller_of shape level (length parents) k contexts (slice_get_within parents k n e) in
      let node : node_of shape caller.0 level ≡ n = some_same (node_of shape caller.0 level) n (sym (is.paths caller.0 k caller.1 caller.2)
      ∙ e) in
      (nodes.higher level refl n).1 (caller.0, caller.1, node)
