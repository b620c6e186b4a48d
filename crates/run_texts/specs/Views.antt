-- What the crate's own types say, without where it lies in memory.
use Rattle.run_texts.specs.declared.section.Section.{Section}
use Rattle.run_texts.specs.declared.lines.Line.{Line}
use Rattle.run_texts.specs.Callers.{Placed}
use Rattle.run_texts.specs.Text.{Told}

abbrev pub section_view : Section → Placed
section_view section = record { pu = section.pu; bytes = section.bytes.now }

-- a turn with its command and its reply
abbrev pub line_view : Line → Told
line_view line = record { turn = line.turn; command = line.command.now; reply = line.reply.now }
