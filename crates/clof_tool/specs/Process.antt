-- The process that the program runs in.
use Rattle.std.specs.Prelude.{◌≡◌, Result}
use Rattle.std.specs.declared.vec.Vec.{Vec}
use Rattle.std.specs.declared.string.String.{String}
use Rattle.std.specs.declared.alloc.Global.{Global}
use Rattle.std.specs.declared.io.Error.{Error}
use Rattle.clof_tool.specs.declared.process.Process.{Process}
use Rattle.clof_tool.specs.Ended.{SourceState, SinkState}

-- the words behind the program's name, or why they can't be had
abbrev pub words_of_process : {S K E : Type 0} → Process S K E → Result (Vec (String Global) Global) Error
words_of_process process = process.words

-- where its input comes from, and where its output and its errors go
abbrev pub input_of : {S K E : Type 0} → Process S K E → S
input_of process = process.input

abbrev pub output_of : {S K E : Type 0} → Process S K E → K
output_of process = process.output

abbrev pub errors_of : {S K E : Type 0} → Process S K E → E
errors_of process = process.errors

-- a source has given nothing and no read of it has failed
pub record IsUnread (source : SourceState) : Type 0 where
  pub given : source.given ≡ 0
  pub faults : source.faults ≡ 0

-- no write to a sink has failed or taken nothing
pub record IsUnwritten (sink : SinkState) : Type 0 where
  pub faults : sink.faults ≡ 0
  pub stalls : sink.stalls ≡ 0
