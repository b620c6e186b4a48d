-- How what is asked for is answered: by a text, or by a status where there is none. `left`, `given` and `faults` are what the source tells
-- before, and `left_now`, `given_now` and `faults_now` what it tells after.
use Rattle.std.specs.Prelude.{◌≡◌, ◌≢◌, ℕ, List, Option, Some, Result, Err, IfOk, IfErr, OnOk, IsOk}
use Rattle.std.specs.declared.vec.Vec.{Vec}
use Rattle.std.specs.declared.alloc.Global.{Global}
use Rattle.out_of_memory.specs.Memory.{UnlessMemory}
use Rattle.edge_io.specs.Counts.{Rose}
use Rattle.edge_io.specs.Contents.{IsDrained}
use Rattle.edge_io.specs.Reading.{HasGiven}
use Rattle.command_texts.specs.declared.status.Status.{Status}
use Rattle.command_texts.specs.declared.status.Status.TheVariants as statuses
use Rattle.command_texts.specs.Ends.{IsRefusal, HasWritten}
use Rattle.command_words.specs.Asked.{Asked}
use Rattle.clof_answers.specs.Outcome.{ReadsInput, limit_of, HasRead, IsAccepted, IsAnswer, WordsRefused, InputRefused, HasCause}

pub record Answered (asked : Asked) (left left_now : Option (List ℕ)) (given given_now faults faults_now : ℕ)
    (result : Result (Vec ℕ Global) Status)
    : Type 0 where
  pub answer : IfOk result (λ text. (input : List ℕ) × HasRead asked left given given_now input × IsAnswer asked input text.items)
  pub at_end : OnOk result (ReadsInput asked → IsDrained left left_now)
  pub cause : IfErr result (λ status. IsRefusal status → HasCause asked left given given_now status)
  pub silent : IfErr result (λ status. HasWritten status → ⊥)
  pub not_usage : result ≢ Err statuses.Usage
  pub read_fault : result ≡ Err statuses.ReadFault → ReadsInput asked × Rose faults faults_now
  pub read_in_part : result ≡ Err statuses.ReadFault → HasGiven (limit_of asked) left left_now given given_now
  pub read_calm : result ≢ Err statuses.ReadFault → faults_now ≡ faults
  pub words_refused : (status : Status) → WordsRefused asked status → UnlessMemory (Err statuses.OutOfMemory) result (result ≡ Err status)
  pub input_refused : (input : List ℕ) (status : Status) → left ≡ Some input → InputRefused asked input status
      → (Rose faults faults_now → ⊥) → UnlessMemory (Err statuses.OutOfMemory) result (result ≡ Err status)

-- where no status refuses what is asked for, and no read failed, there is a text, or memory is wanting
abbrev pub AnswersUnrefused : Asked → Option (List ℕ) → ℕ → ℕ → Result (Vec ℕ Global) Status → Type 0
AnswersUnrefused asked left faults faults_now result =
    ((status : Status) → WordsRefused asked status → ⊥) → (ReadsInput asked → IsAccepted asked left)
    → (ReadsInput asked → Rose faults faults_now → ⊥) → UnlessMemory (Err statuses.OutOfMemory) result (IsOk result)
