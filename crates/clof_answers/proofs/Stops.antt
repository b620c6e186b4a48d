-- What was made before the first write.
use Rattle.std.proofs.Common.{◌≡◌, ◌⊎◌, ℕ, Ok, Err, refl, sym, ap, subst, inl, inr}
use Rattle.std.specs.Prelude.{IsOk, IfOk, IfErr, Result}
use Rattle.out_of_memory.specs.Memory.{UnlessMemory}
use Rattle.command_texts.specs.declared.status.Status.{Status}
use Rattle.command_texts.specs.declared.status.Status.TheVariants as statuses
use Rattle.command_texts.specs.Ends.{HasWritten}

-- where a write stopped, there was a text
pub stopped_text : {T : Type 0} (made : Result T Status) (result : Status) (written : ℕ) (P Q : T → Type 0)
    → result ≡ statuses.WriteFault written
    → IfErr made (λ status. result ≡ status) → IfErr made (λ status. HasWritten status → ⊥) → IfOk made P → IfOk made Q
    → (text : T) × (P text × Q text)
stopped_text (Ok text) result written P Q is handed silent first second = (text, (first, second))
stopped_text (Err status) result written P Q is handed silent first second =
    absurd (silent (subst HasWritten handed (subst HasWritten (sym is) tt)))

-- what holds where there was a text, if there was one
pub from_text : {T : Type 0} (made : Result T Status) (P : Type 0) → IsOk made → IfOk made (λ _. P) → P
from_text (Ok text) P is holds = holds
from_text (Err status) P is holds = cc

-- where no status refuses, there is a text, or memory is wanting
pub complete_of : {T : Type 0} (made : Result T Status) (Refuses : Status → Type 0)
    → IfErr made (λ status. UnlessMemory statuses.OutOfMemory status (Refuses status)) → ((status : Status) → Refuses status → ⊥)
    → UnlessMemory (Err statuses.OutOfMemory) made (IsOk made)
complete_of (Ok text) Refuses cause none = inl refl
complete_of (Err status) Refuses (inl refuses) none = absurd (none status refuses)
complete_of (Err status) Refuses (inr memory) none = inr (ap Err memory)

module _ {T U : Type 0} where
  -- where nothing is built though something could be, memory is wanting
  pub memory_again : (status : Status)
      → IsOk {T = T} {E = Status} (Err status) ⊎ (◌≡◌ {A = Result T Status} (Err status) (Err statuses.OutOfMemory))
      → ◌≡◌ {A = Result U Status} (Err status) (Err statuses.OutOfMemory)
  memory_again status (inl built) = cc
  memory_again status (inr memory) = let same : status ≡ statuses.OutOfMemory = cc in ap Err same
