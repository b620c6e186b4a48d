use Rattle.std.proofs.Common.{replicate}
use Rattle.keep_local.proofs.receipts.Receipts.record.Given as goal

-- so many turns like the one that the caller passes
abbrev pub ghosts-record_as : goal.ghosts-record_as
ghosts-record_as a = record { turns = replicate a._times a._turn }
