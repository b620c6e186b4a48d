-- The exit status of the process.
use Rattle.std.specs.Prelude.{ℕ}
use Rattle.command_texts.specs.declared.status.Status.{Status}
use Rattle.command_texts.specs.declared.status.Status.TheVariants.{Ok, Usage, Malformed, Limit, ReadFault, WriteFault, OutOfMemory}

abbrev pub code_of : Status → ℕ
code_of Ok = 0
code_of Usage = 2
code_of (Malformed fault) = 3
code_of (Limit fault) = 4
code_of ReadFault = 5
code_of (WriteFault written) = 6
code_of OutOfMemory = 7
