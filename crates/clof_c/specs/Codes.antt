-- The codes.
use Rattle.std.specs.Prelude.{◌≡◌, ℕ, Bool, true, false, List}
use Rattle.std.specs.declared.option.Option.{Option}
use Rattle.std.specs.declared.option.Option.TheVariants.{None, Some}
use Rattle.lock_callers.specs.Seen.{Seen}
use Rattle.lock_callers.specs.declared.standing.Reply.{Reply}
use Rattle.lock_callers.specs.declared.standing.Reply.TheVariants.{NotYet, Done as Did, Elsewhere}
use Rattle.lock_handles.specs.Calls.{HandleDoes, HandleFrees, Waits}
use Rattle.lock_handles.specs.Making.{Makes}
use Rattle.lock_handles.specs.declared.any.AnyCaller.{AnyCaller}
use Rattle.lock_handles.specs.declared.making.Made.{Made}
use Rattle.lock_handles.specs.declared.making.Made.TheVariants.{Done, NoMemory, InUse, Refused}

-- what a call answered; no answer is that of an empty handle
abbrev pub code_of : Option Reply → ℕ
code_of (Some Did) = 0
code_of (Some NotYet) = 1
code_of (Some Elsewhere) = 2
code_of None = 3

-- nobody waits, somebody waits, the caller does not hold, and the handle is empty
abbrev pub waiters_code : Option (Option Bool) → ℕ
waiters_code (Some (Some false)) = 0
waiters_code (Some (Some true)) = 1
waiters_code (Some None) = 2
waiters_code None = 3

-- what making answered
abbrev pub made_code : Made → ℕ
made_code Done = 0
made_code NoMemory = 4
made_code InUse = 5
made_code Refused = 6

-- the handle goes as the call does, and the code is that of its answer
abbrev pub Answers : (Seen → Seen → Reply → Type 0) → Option AnyCaller → Option AnyCaller → ℕ → Type 0
Answers does old new code = (answer : Option Reply) × HandleDoes does old new answer × (code ≡ code_of answer)

abbrev pub AnswersWaiters : Option AnyCaller → Option AnyCaller → ℕ → Type 0
AnswersWaiters old new code = (answer : Option (Option Bool)) × HandleDoes Waits old new answer × (code ≡ waiters_code answer)

abbrev pub AnswersFree : Option AnyCaller → Option AnyCaller → ℕ → Type 0
AnswersFree old new code = (answer : Option Reply) × HandleFrees old new answer × (code ≡ code_of answer)

abbrev pub AnswersMaking : (Seen → AnyCaller) → List (Option AnyCaller) → List (Option AnyCaller) → ℕ → Type 0
AnswersMaking kind old new code = (made : Made) × Makes kind old new made × (code ≡ made_code made)
