use Rattle.lock_tables.proofs.Waiting.{announces}
use Rattle.lock_tables.proofs.counting.add_waiting.Goals as goal

pub fetch_add-requires : goal.fetch_add-requires
fetch_add-requires g c = (
  c.requires.table,
  c.requires.lined,
  announces g.V.Cargo.fit g.V.Cargo.tag g.V.Cargo.parked _ c.is_disciplined.ensures _ _ _ _ _ _ c.requires.idle c.requires.unspent
      c.requires.silent c.requires.chosen,
)
