use Rattle.std.proofs.Common.{◌≡◌, ℕ, Bool, None, Some, inl, sym, ap, ◌∙◌, length, arith}
use Rattle.std.specs.Prelude.{if◌then◌else◌, vec_len}
use Rattle.run_faults.specs.declared.plan.PlanFault.TheVariants.{Lengths}
use Rattle.lock_plan.proofs.Refusals.{locks_counted, not_counted}
use Rattle.lock_plan.proofs.locks.read_named.Goals as goal

pub returns-else-len-levels-clause-refused : goal.returns-else-len-levels-clause-refused
returns-else-len-levels-clause-refused c =
    let levels = c.args.levels in
    let kinds = c.in-Ok.kinds.items in
    let long : vec_len c.in-Ok.kinds ≡ length kinds = omega arith in
    let other : length kinds ≡ levels → ⊥ = λ is. c.if-len-levels.false (c.len.ensures ∙ long ∙ is) in
    inl (locks_counted levels c.args.text.now kinds c.in-Ok.ensures.entries
    ∙ ap (λ (b : Bool). if b then None else Some (Lengths levels (length kinds))) (not_counted (length kinds) levels other)
    ∙ ap (λ (n : ℕ). Some (Lengths levels n)) (sym (c.len-else-len-levels.ensures ∙ long)))
