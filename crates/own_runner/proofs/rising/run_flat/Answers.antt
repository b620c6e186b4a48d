use denote.Exit.{no}
use denote.Param.Send.{arg_sync, param_sync}
use Rattle.own_runner.proofs.Shared.{noted_shared}
use Rattle.own_runner.proofs.rising.run_flat.Goals as goal

pub rise_flat-requires-clause-may : goal.rise_flat-requires-clause-may
rise_flat-requires-clause-may g c κs within =
    let may = c.requires.may in
    record {
      formed = may.formed;
      few = may.few;
      shape_is = may.shape_is;
      kinds_each = may.kinds_each;
      dealt_is = (may.dealt_is, c.requires.asked);
    }

pub rise_flat-requires-sync-P : goal.rise_flat-requires-sync-P
rise_flat-requires-sync-P g c κs within = param_sync _ _ (arg_sync _ no _ (noted_shared _ c.type_bounds.sync-T))
