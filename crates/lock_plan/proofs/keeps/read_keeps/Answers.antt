use Rattle.std.proofs.Common.{◌≡◌, ◌-◌, ℕ, Bool, None, Some, inl, sym, ap, ◌∙◌, length, arith}
use Rattle.std.specs.Prelude.{if◌then◌else◌, vec_len}
use Rattle.run_faults.specs.declared.plan.PlanFault.TheVariants.{Lengths}
use Rattle.lock_plan.specs.Lists.{comma_list}
use Rattle.lock_plan.proofs.Refusals.{keeps_counted, not_enough}
use Rattle.lock_plan.proofs.keeps.read_keeps.Goals as goal

pub returns-then-len-levels-clause-refused : goal.returns-then-len-levels-clause-refused
returns-then-len-levels-clause-refused c =
    let levels = c.args.levels in
    let given = c.in-Ok.given.items in
    let long : vec_len c.in-Ok.given ≡ length given = omega arith in
    let one : length given ≡ 1 → ⊥ = λ is. c.if-len-ne1.true (c.len.ensures ∙ long ∙ is) in
    let all : length given ≡ levels - 1 → ⊥ = λ is. c.if-len-levels.true (c.len-then-len-ne1.ensures ∙ long ∙ is) in
    inl (keeps_counted levels (comma_list c.args.text.now) given c.in-Ok.ensures.entries
    ∙ ap (λ (b : Bool). if b then None else Some (Lengths levels (length given))) (not_enough levels (length given) one all)
    ∙ ap (λ (n : ℕ). Some (Lengths levels n)) (sym (c.len-then-len-levels.ensures ∙ long)))
