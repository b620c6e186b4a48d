use Rattle.std.proofs.Common.{◌∷◌, ◌++◌, [], ap, ◌∙◌, append_assoc, subst}
use Rattle.std.proofs.lemmas.List.Elements.{All-cons}
use Rattle.keep_local.specs.States.{IsShareOf}
use Rattle.own_payload.proofs.runs.agree.Goals as goal

pub loop-share-preserved : goal.loop-share-preserved
loop-share-preserved c =
    let left = c.loop-share.invariant.left in
    let same = c.loop-share.invariant.trail in
    record {
      trail = c.agree.ensures.trail ∙ same;
      left = (
        c.in-Some.share ∷ left.0,
        left.1 ∙ ap (λ l. l ++ left.0) c.in-Some.ensures.items ∙ append_assoc c.pop.new.self.items (c.in-Some.share ∷ []) left.0,
        All-cons (IsShareOf c.args.trail.now) c.in-Some.share left.0
            (subst (λ s. IsShareOf s c.in-Some.share) same c.agree.ensures.counted) left.2,
      );
    }
