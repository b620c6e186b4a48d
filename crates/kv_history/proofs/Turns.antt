-- The entries that the callers' turns make, a turn more.
use Rattle.std.proofs.Common.{◌≡◌, ℕ, true, false, List, [], ◌∷◌, ◌++◌, length, refl, ◌∙◌, ap}
use Rattle.std.proofs.Math.Seq.{get_or-append_seam}
use Rattle.std.proofs.lemmas.Option.{get_or_from_slice_get}
use Rattle.std.specs.Prelude.{slice_index_or}
use Rattle.mc_text.specs.Request.{WholeCommand, Quit}
use Rattle.mc_text.specs.Reading.{commands_of}
use Rattle.kv_history.specs.Log.{
  Logged,
  Log,
  Turn,
  applied_entry,
  void_entry,
  own,
  next_command,
  next_entry,
  entries_from,
}
use Rattle.kv_history.proofs.Next.{IsBehindOwn}

pub entries_from-push : (sections : List (List ℕ)) (entries : List Logged) (turns : List Turn) (turn : Turn)
    → entries_from sections entries (turns ++ turn ∷ [])
    ≡ entries_from sections entries turns ++ next_entry sections (entries_from sections entries turns) turn ∷ []
entries_from-push sections entries [] turn = refl
entries_from-push sections entries (first ∷ turns) turn =
    entries_from-push sections (entries ++ next_entry sections entries first ∷ []) turns turn

-- the command that a caller's turn is for
pub next_command-is : (log : Log) (caller : ℕ) (command : WholeCommand) → IsBehindOwn log caller command
    → next_command log.sections log.entries caller ≡ command
next_command-is log caller command next =
    let none : WholeCommand = record { request = Quit; spelling = [] } in
    let before = own log.entries caller in
    ap (λ section. slice_index_or (commands_of section) (length before) none)
    (get_or_from_slice_get log.sections caller next.section [] next.place)
    ∙ ap (λ all. slice_index_or all (length before) none) next.next
    ∙ get_or-append_seam before command next.rest none

-- the entries after one turn more
pub entries-applied : (log : Log) (turns : List Turn) (caller : ℕ) (command : WholeCommand) → IsBehindOwn log caller command
    → entries_from log.sections [] turns ≡ log.entries
    → entries_from log.sections [] (turns ++ record { caller = caller; void = false } ∷ [])
    ≡ log.entries ++ applied_entry log.entries caller command ∷ []
entries-applied log turns caller command next are =
    entries_from-push log.sections [] turns (record { caller = caller; void = false })
    ∙ ap (λ entries. entries ++ next_entry log.sections entries (record { caller = caller; void = false }) ∷ []) are
    ∙ ap (λ command. log.entries ++ applied_entry log.entries caller command ∷ []) (next_command-is log caller command next)

pub entries-void : (log : Log) (turns : List Turn) (caller : ℕ) (command : WholeCommand) → IsBehindOwn log caller command
    → entries_from log.sections [] turns ≡ log.entries
    → entries_from log.sections [] (turns ++ record { caller = caller; void = true } ∷ [])
    ≡ log.entries ++ void_entry caller command ∷ []
entries-void log turns caller command next are =
    entries_from-push log.sections [] turns (record { caller = caller; void = true })
    ∙ ap (λ entries. entries ++ next_entry log.sections entries (record { caller = caller; void = true }) ∷ []) are
    ∙ ap (λ command. log.entries ++ void_entry caller command ∷ []) (next_command-is log caller command next)
