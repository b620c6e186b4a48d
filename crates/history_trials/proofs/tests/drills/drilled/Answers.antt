use Rattle.std.proofs.Common.{◌≡◌, ℕ, ◌<◌, ◌^◌, List, Vec, length, map, sym, ap, ◌∙◌, subst}
use Rattle.std.specs.Borrow.{Bor}
use Rattle.std.specs.declared.alloc.Global.{Global}
use Rattle.std.specs.Prelude.{sum_by}
use Rattle.drill_text.proofs.Numbers.{sum_by-map}
use Rattle.history_trials.proofs.tests.drills.drilled.Goals as goal

same_size : (made : List (Vec ℕ Global)) (lent : List (Bor (List ℕ)))
    → map (λ (one : Bor (List ℕ)). one.now) lent ≡ map (λ (text : Vec ℕ Global). text.items) made
    → sum_by (λ (text : Vec ℕ Global). length text.items) made ≡ sum_by (λ (one : Bor (List ℕ)). length one.now) lent
same_size made lent same =
    sym (sum_by-map (λ (text : Vec ℕ Global). text.items) (λ (text : List ℕ). length text) made)
    ∙ ap (sum_by (λ (text : List ℕ). length text)) (sym same)
    ∙ sum_by-map (λ (one : Bor (List ℕ)). one.now) (λ (text : List ℕ). length text) lent

pub worked_off-requires-clause-small : goal.worked_off-requires-clause-small
worked_off-requires-clause-small c =
    subst (λ (n : ℕ). n < 2 ^ 32)
    (same_size c.in_ok-made.made.items c.deref-2.result.now
    (ap (map (λ (one : Bor (List ℕ)). one.now)) c.deref-2.ensures.value
    ∙ c.in_ok-lent.ensures
    ∙ ap (map (λ (text : Vec ℕ Global). text.items)) c.deref.ensures.value))
    c.in_ok-made.ensures.small
