use Rattle.std.proofs.Common.{◌≡◌, drop}
use Rattle.synth_text.specs.Tables.{entry_of, rows}
use Rattle.synth_text.proofs.table.entry_named.Given as goal

abbrev pub invariant-loop-name : goal.invariant-loop-name
invariant-loop-name g l = entry_of (rows (drop l.name-index l.table)) l.word ≡ entry_of (rows l.table) l.word
