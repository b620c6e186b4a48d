use Rattle.lock_tables.proofs.Waiting.{withdraws}
use Rattle.lock_tables.proofs.counting.subtract_waiting.Goals as goal

pub fetch_sub-requires : goal.fetch_sub-requires
fetch_sub-requires g c = (
  c.requires.table,
  c.requires.lined,
  withdraws g.V.Cargo.fit g.V.Cargo.tag g.V.Cargo.parked _ c.is_disciplined.ensures _ _ _ _ _ _ c.requires.holds c.requires.unspent
      c.requires.told,
)
