use Rattle.std.proofs.Common.{◌≡◌, ℕ, ◌+◌, ◌*◌, List, [], ◌∷◌, ◌++◌, replicate, arith, ap, ◌∙◌, append_assoc}
use Rattle.std.proofs.lemmas.List.{replicate_more}
use Rattle.topo_tree.proofs.lines.push_indent.Goals as goal

two_more : (out : List ℕ) (depth : ℕ) → ((out ++ replicate (2 * depth) 32) ++ 32 ∷ []) ++ 32 ∷ [] ≡ out ++ replicate (2 * (depth + 1)) 32
two_more out depth =
    ap (λ xs. xs ++ 32 ∷ []) (append_assoc out (replicate (2 * depth) 32) (32 ∷ []) ∙ ap (λ xs. out ++ xs) (replicate_more (2 * depth) 32))
    ∙ append_assoc out (replicate (2 * depth + 1) 32) (32 ∷ [])
    ∙ ap (λ xs. out ++ xs) (replicate_more (2 * depth + 1) 32 ∙ ap (λ n. replicate n 32) (omega arith))

pub loop-preserved : goal.loop-preserved
loop-preserved c =
    c.in_ok-push-2.ensures.items
    ∙ ap (λ xs. xs ++ 32 ∷ []) (c.in_ok-push.ensures.items ∙ ap (λ xs. xs ++ 32 ∷ []) c.loop.invariant)
    ∙ two_more c.args.out.now.items c.loop.counter
