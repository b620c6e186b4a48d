-- How calls end: with a refusal, early, or with something written.
use Rattle.command_texts.specs.declared.status.Status.{Status}
use Rattle.command_texts.specs.declared.status.Status.TheVariants as statuses

-- the status is a refusal: something is malformed or over its limit
abbrev pub IsRefusal : Status → Type 0
IsRefusal statuses.Ok = ⊥
IsRefusal statuses.Usage = ⊥
IsRefusal (statuses.Malformed fault) = Unit {0}
IsRefusal (statuses.Limit fault) = Unit {0}
IsRefusal statuses.ReadFault = ⊥
IsRefusal (statuses.WriteFault written) = ⊥
IsRefusal statuses.OutOfMemory = ⊥

-- the statuses with which a command ends before it reads or writes: something is refused, or memory ran out
abbrev pub EndsEarly : Status → Type 0
EndsEarly statuses.Ok = ⊥
EndsEarly statuses.Usage = ⊥
EndsEarly (statuses.Malformed fault) = Unit {0}
EndsEarly (statuses.Limit fault) = Unit {0}
EndsEarly statuses.ReadFault = ⊥
EndsEarly (statuses.WriteFault written) = ⊥
EndsEarly statuses.OutOfMemory = Unit {0}

-- the statuses after which something may have been written
abbrev pub HasWritten : Status → Type 0
HasWritten statuses.Ok = Unit {0}
HasWritten statuses.Usage = ⊥
HasWritten (statuses.Malformed fault) = ⊥
HasWritten (statuses.Limit fault) = ⊥
HasWritten statuses.ReadFault = ⊥
HasWritten (statuses.WriteFault written) = Unit {0}
HasWritten statuses.OutOfMemory = ⊥
