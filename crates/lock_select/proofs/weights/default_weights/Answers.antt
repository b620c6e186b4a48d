use Rattle.std.proofs.Common.{◌<◌, ◌-◌, ◌^◌, ◌∷◌, ◌++◌, [], ℕ, List, sym, ap, ◌∙◌, arith}
use Rattle.std.proofs.lemmas.List.FromFn.{map-range_with_len_more}
use Rattle.std.proofs.lemmas.Nat.{one_shl}
use Rattle.lock_select.proofs.weights.default_weights.Goals as goal

pub loop-depth-preserved : goal.loop-depth-preserved
loop-depth-preserved c =
    let depths = c.args.depths in
    let depth = c.loop-depth.depth in
    let within : depths - 1 - depth < 32 = omega arith in
    c.in_ok-push.ensures.items
    ∙ ap (λ (n : ℕ). c.loop-depth.weights.items ++ n ∷ []) (one_shl (depths - 1 - depth) 64 (omega arith))
    ∙ ap (λ (xs : List ℕ). xs ++ 2 ^ (depths - 1 - depth) ∷ []) c.loop-depth.invariant
    ∙ sym (map-range_with_len_more (λ (d : ℕ). 2 ^ (depths - 1 - d)) 0 depth depth (omega arith))
