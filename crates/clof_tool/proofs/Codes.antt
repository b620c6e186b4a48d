-- The codes of statuses.
use Rattle.std.proofs.Common.{◌≡◌, ◌⊎◌, ℕ, refl, sym, ap, ◌∙◌, inl, inr}
use Rattle.command_texts.specs.Status.{code_of}
use Rattle.command_texts.specs.declared.status.Status.{Status}
use Rattle.command_texts.specs.declared.status.Status.TheVariants.{Ok, Usage, Malformed, Limit, ReadFault, WriteFault, OutOfMemory}

-- only Usage has its code
pub usage_alone : (status : Status) → code_of status ≡ 2 → status ≡ Usage
usage_alone Ok is = cc
usage_alone Usage is = refl
usage_alone (Malformed fault) is = cc
usage_alone (Limit fault) is = cc
usage_alone ReadFault is = cc
usage_alone (WriteFault written) is = cc
usage_alone OutOfMemory is = cc

-- what holds at Usage holds where the process ends with its code
pub usage_ends : (status : Status) (code ended : ℕ) (P : Type 0) → code ≡ code_of status → ended ≡ code
    → (status ≡ Usage → P) → ended ≡ 2 → P
usage_ends status code ended P code_is ended_is holds two = holds (usage_alone status (sym code_is ∙ sym ended_is ∙ two))

-- the process ends with the code of Usage, or of wanted memory
pub usage_else_ends : (status : Status) (code ended : ℕ) (P Q : Type 0) → code ≡ code_of status → ended ≡ code
    → (P → (status ≡ Usage) ⊎ ((status ≡ OutOfMemory) × Q)) → P → (ended ≡ 2) ⊎ ((ended ≡ 7) × Q)
usage_else_ends status code ended P Q code_is ended_is ends p =
    elim (ends p) [
      | inl usage ↦ inl (ended_is ∙ code_is ∙ ap code_of usage)
      | inr memory ↦ inr (ended_is ∙ code_is ∙ ap code_of memory.0, memory.1)
    ]
