-- What the crate's own types say, without where it lies in memory.
use Rattle.std.specs.Prelude.{◌≡◌, ℕ, List, Result, Ok, Err}
use Rattle.mc_text.specs.declared.command.LineFault.{LineFault}
use Rattle.mc_text.specs.declared.line.Header.{Header}
use Rattle.mc_text.specs.declared.line.Fields.{Fields}
use Rattle.mc_text.specs.declared.line.Line.{Line}
use Rattle.mc_text.specs.declared.line.Line.TheVariants as lines
use Rattle.mc_text.specs.Request.{request_of, spelling_of}
use Rattle.mc_text.specs.Field.{Said}
use Rattle.mc_text.specs.Line as plain

-- a reader answers what is said: its value, seen so, or the fault
abbrev pub Answers : {A B : Type 0} → (A → B) → Said B → Result A LineFault → Type 0
Answers view said (Ok value) = said ≡ Ok (view value)
Answers view said (Err fault) = said ≡ Err fault

abbrev pub fields_view : Fields → plain.Fields
fields_view fields =
    record { key = fields.key.now; flags = fields.flags.now; exptime = fields.exptime.now; bytes = fields.bytes.now }

abbrev pub header_view : Header → plain.Header
header_view header =
    record {
      how = header.how;
      key = header.key.now;
      flags = header.flags;
      exptime = header.exptime;
      bytes = header.bytes;
      unique = header.unique;
      quiet = header.quiet;
    }

abbrev pub line_view : Line → plain.Line
line_view (lines.Storage header) = plain.Storage (header_view header)
line_view (lines.Whole command) = plain.Whole (request_of command)

-- a line that is a command by itself has this spelling
abbrev pub IsSpelled : List ℕ → Line → Type 0
IsSpelled spelling (lines.Storage header) = Unit {0}
IsSpelled spelling (lines.Whole command) = spelling_of command ≡ spelling
