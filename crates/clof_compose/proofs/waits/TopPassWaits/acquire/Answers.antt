use Rattle.std.proofs.Common.{ap, ◌∙◌}
use Rattle.clof_compose.proofs.Tops.{course_is, top_begins}
use Rattle.clof_compose.proofs.waits.TopPassWaits.acquire.Goals as goal

pub open_turn-requires-clause-own : goal.open_turn-requires-clause-own
open_turn-requires-clause-own g c = c.requires.share.own ∙ ap (λ k. k.name) (course_is g.P.Payload.calls g.P.Payload.tag _
    c.acquire-low.result.value c.acquire-low.ensures.tagged)

pub open_turn-requires-clause-begins : goal.open_turn-requires-clause-begins
open_turn-requires-clause-begins g c =
    top_begins g.P.Payload.calls g.P.Payload.tag _ _ _ _ c.acquire-low.ensures.fit c.acquire-low.ensures.tagged
    c.requires.sound.level_is c.requires.share.known
