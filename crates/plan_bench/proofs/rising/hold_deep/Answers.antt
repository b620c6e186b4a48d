use denote.Exit.{no}
use denote.Param.Send.{arg_sync, param_sync}
use Rattle.plan_bench.proofs.Shared.{count_shared}
use Rattle.plan_bench.proofs.rising.hold_deep.Goals as goal

pub rise-requires-sync-P : goal.rise-requires-sync-P
rise-requires-sync-P g c κs within = param_sync _ _ (arg_sync _ no _ count_shared)
