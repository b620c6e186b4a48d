use Rattle.std.proofs.Common.{length, ap, ◌∙◌}
use Rattle.std.proofs.lemmas.List.{length-map}
use Rattle.clof_compose.proofs.Tops.{top_passes}
use Rattle.clof_compose.proofs.top.TopPassComposed.close.Goals as goal

pub close-requires : goal.close-requires
close-requires g c = record {
  all = top_passes (λ p. p.low) g.B.Pass.Placed.place (λ p. p.level) _ _ _ _ _ _ c.requires.all c.basic_passes.ensures (ap length
      c.basic_passes.ensures ∙ length-map _ _);
}
