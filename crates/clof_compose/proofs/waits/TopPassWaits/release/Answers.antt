use Rattle.clof_compose.proofs.Closes.{top_closes}
use Rattle.clof_compose.proofs.Tops.{top_may_leave, top_fits}
use Rattle.clof_compose.proofs.waits.TopPassWaits.release.Goals as goal

pub close_turn-report-requires-clause-may : goal.close_turn-report-requires-clause-may
close_turn-report-requires-clause-may g c =
    top_may_leave g.P.Payload.calls g.P.Payload.tag _ _ _ _ c.requires.root c.requires.sound.level_is

pub release-low-requires-clause-fit : goal.release-low-requires-clause-fit
release-low-requires-clause-fit g c =
    top_fits g.P.Payload.calls g.P.Payload.tag _ _ _ _ c.requires.root c.requires.sound.level_is _ c.close_turn-report.ensures.payload
    c.close_turn-report.ensures.closed c.close_turn-report.ensures.lawful

pub returns-clause-tests : goal.returns-clause-tests
returns-clause-tests g c =
    top_closes g.P.Payload.calls g.P.Payload.tag _ _ _ _ c.requires.root c.requires.sound.level_is c.requires.stands.0.trail _
    c.close_turn-report.ensures.tests c.close_turn-report.ensures.own c.close_turn-report.ensures.told
