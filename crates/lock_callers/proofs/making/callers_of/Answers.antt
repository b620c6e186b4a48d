use Rattle.std.proofs.Common.{◌≡◌, [], ◌∷◌, ◌++◌, ap, arith}
use Rattle.std.proofs.lemmas.Grind.{common_steps}
use Rattle.std.proofs.lemmas.List.Elements.{All-pop, All-push}
use Rattle.std.specs.Arc.{arc_value}
use Rattle.lock_rules.specs.Passes.{IsOf}
use Rattle.lock_callers.specs.Seen.{Seen, idle_of}
use Rattle.lock_callers.proofs.making.callers_of.Goals as goal

pub loop-pass-preserved : goal.loop-pass-preserved
loop-pass-preserved g c =
    let lock = g.B.Basic.name (arc_value c.args.lock) in
    let popped = All-pop (λ p. IsOf lock (g.B.Basic.tag (arc_value c.args.lock)) (g.B.Pass.Placed.place p)) _ _ _ c.pop.ensures.items
    c.loop-pass.invariant.own in
    let same : arc_value c.in_ok-lock.lock ≡ arc_value c.args.lock = grind (arith, common_steps) in
    let pushed : c.push.new.self.items
    ≡ c.loop-pass.callers.items ++ idle_of (g.B.Basic.name (arc_value c.in_ok-lock.lock)) ∷ [] =
    grind (arith, common_steps) in record {
      own = popped.0;
      made = rw pushed (All-push (λ (s : Seen). s ≡ idle_of lock) _ _ c.loop-pass.invariant.made
          (ap (λ l. idle_of (g.B.Basic.name l)) same));
      count = grind (arith, common_steps);
    }
