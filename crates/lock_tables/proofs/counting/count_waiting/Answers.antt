use Rattle.lock_tables.proofs.Waiting.{counts}
use Rattle.lock_tables.proofs.counting.count_waiting.Goals as goal

pub load-requires : goal.load-requires
load-requires g c = (
  c.requires.table,
  c.requires.lined,
  counts g.V.Cargo.fit g.V.Cargo.tag g.V.Cargo.parked _ c.is_disciplined.ensures _ _ _ _ _ _ c.requires.holds c.requires.unspent
      c.requires.silent,
)
