use Rattle.std.proofs.Common.{List, length, ap, refl, sym, ◌∙◌, subst, arith}
use Rattle.std.proofs.lemmas.List.{length-map}
use Rattle.std.proofs.lemmas.Grind.{common_steps}
use Rattle.keep_local.specs.Shapes.{top_of}
use Rattle.clof_compose.specs.Tops.{AreFresh}
use Rattle.clof_compose.specs.declared.top_tokens.TopPass.{TopPass}
use Rattle.clof_compose.proofs.Tops.{course_is, fresh_passes, all_fresh}
use Rattle.clof_compose.proofs.making.make_top.Goals as goal

pub returns-clause-sound : goal.returns-clause-sound
returns-clause-sound g c =
    let count = c.in_ok-low.ensures.count in record {
      level_is = c.requires.level ∙ sym (ap (λ k. top_of k.shape) (course_is g.P.Payload.calls g.P.Payload.tag _ c.args.root (sym
          c.in_ok-low.ensures.tag)));
      empty = grind (arith, common_steps);
      room = grind (arith, common_steps);
    }

pub returns-clause-passes : goal.returns-clause-passes
returns-clause-passes g c =
    fresh_passes g.B.Pass.Placed.place _ _ _ _ _ _ _ refl c.in_ok-low.ensures.passes c.top_passes-passes.ensures (ap
    length c.top_passes-passes.ensures ∙ length-map _ _)

pub returns-clause-fresh : goal.returns-clause-fresh
returns-clause-fresh g c = subst (λ (l : List (TopPass g.row.B-Pass.Denot)). AreFresh l) (sym c.top_passes-passes.ensures) (all_fresh _ _)
