use Rattle.std.proofs.Common.{ap, ◌∙◌}
use Rattle.clof_compose.proofs.Tops.{course_is, top_begins}
use Rattle.clof_compose.proofs.top.TopPassComposed.poll.Goals as goal

pub open_turn-requires-clause-own : goal.open_turn-requires-clause-own
open_turn-requires-clause-own g c = c.requires.share.own ∙ ap (λ k. k.name) (course_is g.P.Payload.calls g.P.Payload.tag _
    c.in-Got.low.value c.in-Got.ensures.tagged)

pub open_turn-requires-clause-begins : goal.open_turn-requires-clause-begins
open_turn-requires-clause-begins g c =
    top_begins g.P.Payload.calls g.P.Payload.tag _ _ _ _ c.in-Got.ensures.fit c.in-Got.ensures.tagged c.requires.sound.level_is
    c.requires.share.known
