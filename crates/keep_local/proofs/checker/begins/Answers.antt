use Rattle.std.proofs.Common.{◌≡◌, sym, ◌∙◌, arith, eq-eqb}
use Rattle.std.proofs.lemmas.Bool.Decides.{nat_tests}
use Rattle.keep_local.proofs.Checked.{climb_first, begins_first, climb_behind, near_behind, begins_behind}
use Rattle.keep_local.proofs.checker.begins.Goals as goal

pub returns-in-None : goal.returns-in-None
returns-in-None c =
    let none = sym c.in-None.ensures.value in (
      (λ e. let climb : c.args.turn.climb ≡ c.top.result = grind (arith, nat_tests) in begins_first _ _ _ none (climb ∙ c.top.ensures)),
      (λ is. eq-eqb _ _ (climb_first _ _ _ none is ∙ sym c.top.ensures)),
    )

pub returns-then-turn-last : goal.returns-then-turn-last
returns-then-turn-last c =
    let last = sym c.in-Some.ensures.value in (
      (λ e. let node : c.node.result ≡ c.node-then-turn-last.result = grind (arith, nat_tests) in
          begins_behind _ _ _ _ last c.if-turn-last.true (sym c.node.ensures ∙ node ∙ c.node-then-turn-last.ensures)),
      (λ is. eq-eqb _ _ (c.node.ensures ∙ near_behind _ _ _ _ last is ∙ sym c.node-then-turn-last.ensures)),
    )

pub returns-else-turn-last : goal.returns-else-turn-last
returns-else-turn-last c =
    let last = sym c.in-Some.ensures.value in (
      (λ e. absurd (let climb : c.args.turn.climb ≡ c.in-Some.last.now.left = grind (arith, nat_tests) in c.if-turn-last.false climb)),
      (λ is. eq-eqb _ _ (climb_behind _ _ _ _ last is)),
    )
