use denote.Exit.{no}
use denote.Param.Send.{arg_sync, param_sync}
use Rattle.own_runner.proofs.Shared.{noted_shared}
use Rattle.own_runner.proofs.rising.run_deep.Goals as goal

pub rise-requires-clause-may : goal.rise-requires-clause-may
rise-requires-clause-may g c κs within =
    let may = c.requires.may in
    record {
      formed = may.formed;
      few = may.few;
      shape_is = may.shape_is;
      kinds_each = may.kinds_each;
      dealt_is = (may.dealt_is, c.requires.asked);
    }

pub rise-requires-sync-P : goal.rise-requires-sync-P
rise-requires-sync-P g c κs within = param_sync _ _ (arg_sync _ no _ (noted_shared _ c.type_bounds.sync-T))
