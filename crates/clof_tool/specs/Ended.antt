-- How a call of the program ends, as its words, its streams and its status tell.
use Rattle.std.specs.Prelude.{◌≡◌, ◌≢◌, ◌<◌, ◌⊎◌, ℕ, List, Some, length, take, IfSome}
use Rattle.std.specs.declared.option.Option.{Option}
use Rattle.std.specs.declared.string.String.{String}
use Rattle.std.specs.declared.alloc.Global.{Global}
use Rattle.out_of_memory.specs.Memory.{UnlessMemory}
use Rattle.edge_io.specs.Counts.{Rose}
use Rattle.edge_io.specs.Contents.{Gains, IsDrained}
use Rattle.edge_io.specs.Reading.{HasGiven}
use Rattle.command_texts.specs.declared.status.Status.{Status}
use Rattle.command_texts.specs.declared.status.Status.TheVariants as statuses
use Rattle.command_texts.specs.Ends.{IsRefusal, HasWritten}
use Rattle.command_texts.specs.Line.{line_of}
use Rattle.command_words.specs.Asked.{Asked}
use Rattle.command_words.specs.Words.{Says, NamesCommand, IsUsage}
use Rattle.clof_answers.specs.Outcome.{limit_of, ReadsInput, HasRead, IsAccepted, IsAnswer, WordsRefused, InputRefused, HasCause}

-- what a source tells of itself: the bytes that it has left, how many it has given, how many reads have failed
pub record SourceState : Type 0 where
  pub left : Option (List ℕ)
  pub given : ℕ
  pub faults : ℕ

-- what a sink tells of itself: the bytes that it holds, how many it can still take, how many writes have failed or taken none
pub record SinkState : Type 0 where
  pub held : Option (List ℕ)
  pub room : Option ℕ
  pub faults : ℕ
  pub stalls : ℕ

-- what a source tells of itself, by what its kind of source tells
abbrev pub source_state : {S : Type 0} → (S → Option (List ℕ)) → (S → ℕ) → (S → ℕ) → S → SourceState
source_state left given faults source = record { left = left source; given = given source; faults = faults source }

-- what a sink tells of itself, by what its kind of sink tells
abbrev pub sink_state : {K : Type 0} → (K → Option (List ℕ)) → (K → Option ℕ) → (K → ℕ) → (K → ℕ) → K → SinkState
sink_state held room faults stalls sink = record { held = held sink; room = room sink; faults = faults sink; stalls = stalls sink }

-- the words are read first; nothing else is where they ask for nothing, and no source where what they ask for reads none
pub record ByWords (words : List (String Global)) (source source_now : SourceState) (status : Status) : Type 0 where
  pub usage : status ≡ statuses.Usage → IsUsage words
  pub usage_else : IsUsage words → (status ≡ statuses.Usage) ⊎ ((status ≡ statuses.OutOfMemory) × NamesCommand words)
  pub unread : IsUsage words → source_now ≡ source
  pub unread_else : (asked : Asked) → Says words asked → (ReadsInput asked → ⊥) → source_now ≡ source
  pub refused : (asked : Asked) (wanted : Status) → Says words asked → WordsRefused asked wanted
      → UnlessMemory statuses.OutOfMemory status (status ≡ wanted)
  pub unread_refused : (asked : Asked) (wanted : Status) → Says words asked → WordsRefused asked wanted → source_now ≡ source

-- what was read decides, and each refusal has its cause
pub record ByInput (words : List (String Global)) (source source_now : SourceState) (status : Status) : Type 0 where
  pub refused : (asked : Asked) (input : List ℕ) (wanted : Status) → Says words asked → source.left ≡ Some input
      → InputRefused asked input wanted → (Rose source.faults source_now.faults → ⊥)
      → UnlessMemory statuses.OutOfMemory status (status ≡ wanted)
  pub cause : (asked : Asked) → Says words asked → IsRefusal status → HasCause asked source.left source.given source_now.given status
  pub at_end : (asked : Asked) → Says words asked → ReadsInput asked → status ≡ statuses.Ok → IsDrained source.left source_now.left
  pub read_fault : status ≡ statuses.ReadFault → Rose source.faults source_now.faults
  pub read_fault_input : (asked : Asked) → Says words asked → status ≡ statuses.ReadFault → ReadsInput asked
  pub read_in_part : (asked : Asked) → Says words asked → status ≡ statuses.ReadFault
      → HasGiven (limit_of asked) source.left source_now.left source.given source_now.given
  pub read_calm : status ≢ statuses.ReadFault → source_now.faults ≡ source.faults

-- the whole answer is written, or a part of it where the output fails or is full, or nothing
pub record ByOutput (words : List (String Global)) (source source_now : SourceState) (out out_now : SinkState) (status : Status)
    : Type 0 where
  pub printed : (asked : Asked) → Says words asked → status ≡ statuses.Ok
      → (input : List ℕ) × (text : List ℕ) × HasRead asked source.left source.given source_now.given input
      × IsAnswer asked input text × Gains out.held out_now.held text
  pub write_fault : (written : ℕ) → status ≡ statuses.WriteFault written
      → Rose out.faults out_now.faults ⊎ Rose out.stalls out_now.stalls
  pub write_full : (written : ℕ) → status ≡ statuses.WriteFault written
      → Rose out.faults out_now.faults ⊎ IfSome out.room (λ room. room ≡ written)
  pub cut_short : (asked : Asked) (written : ℕ) → Says words asked → status ≡ statuses.WriteFault written
      → (input : List ℕ) × (text : List ℕ) × HasRead asked source.left source.given source_now.given input
      × IsAnswer asked input text × (written < length text) × Gains out.held out_now.held (take written text)
  pub unwritten : (HasWritten status → ⊥) → out_now ≡ out
  pub no_write_fault : status ≡ statuses.Ok → out_now.faults ≡ out.faults
  pub no_stall : status ≡ statuses.Ok → out_now.stalls ≡ out.stalls

-- standard error is told nothing on Ok, else the line, or a part of it where it could not all be written
pub record ByLine (err err_now : SinkState) (status : Status) : Type 0 where
  pub silent : status ≡ statuses.Ok → err_now ≡ err
  pub told : status ≢ statuses.Ok → (Rose err.faults err_now.faults → ⊥) → (Rose err.stalls err_now.stalls → ⊥)
      → Gains err.held err_now.held (line_of status)
  pub told_in_part : status ≢ statuses.Ok → (written : ℕ) × Gains err.held err_now.held (take written (line_of status))

-- where nothing refuses what is asked for, and no stream fails, the call goes well, or memory is wanting
abbrev pub IsComplete : List (String Global) → SourceState → SourceState → SinkState → SinkState → Status → Type 0
IsComplete words source source_now out out_now status =
    (asked : Asked) → Says words asked → ((wanted : Status) → WordsRefused asked wanted → ⊥)
    → (ReadsInput asked → IsAccepted asked source.left) → (ReadsInput asked → Rose source.faults source_now.faults → ⊥)
    → (Rose out.faults out_now.faults → ⊥) → (Rose out.stalls out_now.stalls → ⊥)
    → UnlessMemory statuses.OutOfMemory status (status ≡ statuses.Ok)

-- how a call on words ends
pub record Ended (words : List (String Global)) (source source_now : SourceState) (out out_now err err_now : SinkState) (status : Status)
    : Type 0 where
  pub by_words : ByWords words source source_now status
  pub by_input : ByInput words source source_now status
  pub by_output : ByOutput words source source_now out out_now status
  pub by_line : ByLine err err_now status
  pub complete : IsComplete words source source_now out out_now status

-- how a call ends where its words can't be had: nothing is read or printed, and standard error is told why
pub record EndedWordless (source source_now : SourceState) (out out_now err err_now : SinkState) (status : Status) : Type 0 where
  pub unread : source_now ≡ source
  pub unwritten : out_now ≡ out
  pub by_line : ByLine err err_now status
