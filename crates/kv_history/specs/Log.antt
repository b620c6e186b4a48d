-- What a journal says: the commands that were applied, by whom, with their replies.
use Rattle.std.specs.Prelude.{
  ◌≡◌,
  ℕ,
  ◌<◌,
  Bool,
  true,
  false,
  not,
  ◌==◌,
  List,
  [],
  ◌∷◌,
  ◌++◌,
  length,
  map,
  filter,
  sum_by,
  Some,
  slice_get,
  slice_index_or,
  if◌then◌else◌,
}
use Rattle.std.specs.List.{All, count_by, flat_map}
use Rattle.mc_text.specs.Request.{WholeCommand, Quit}
use Rattle.mc_text.specs.Reading.{commands_of}
use Rattle.kv_history.specs.Contents.{Contents}
use Rattle.kv_history.specs.Answer.{reply_of, replies_of, store_of}

-- an entry: the caller, its command and the reply; a void entry stands for a command that was not applied for want of memory
pub record Logged : Type 0 where
  pub caller : ℕ
  pub command : WholeCommand
  pub reply : List ℕ
  pub void : Bool

-- the sections of the callers, by the callers' numbers, and the entries, in the order in which they were made
pub record Log : Type 0 where
  pub sections : List (List ℕ)
  pub entries : List Logged

-- the commands and the replies of entries
abbrev pub commands : List Logged → List WholeCommand
commands entries = map (λ entry. entry.command) entries

abbrev pub replies : List Logged → List (List ℕ)
replies entries = map (λ entry. entry.reply) entries

-- the replies, one behind the other
abbrev pub all_replies : List Logged → List ℕ
all_replies entries = flat_map (λ entry. entry.reply) entries

-- the callers of all entries, void ones included
abbrev pub calls : Log → List ℕ
calls log = map (λ entry. entry.caller) log.entries

-- the entries whose commands were applied
abbrev pub applied : List Logged → List Logged
applied entries = filter (λ entry. not entry.void) entries

-- the commands of a caller, those of void entries included
abbrev pub own : List Logged → ℕ → List WholeCommand
own entries caller = commands (filter (λ entry. entry.caller == caller) entries)

-- what the store holds: what the applied commands leave, in their order, on the empty store
abbrev pub store_now : List Logged → Contents
store_now entries = store_of (commands (applied entries))

-- what a holder knows of a caller's next command, by the sections and the calls made so far: the caller has a section, and the command
-- stands in it at the place that the number of the caller's calls tells
pub record IsNext (sections : List (List ℕ)) (calls : List ℕ) (caller : ℕ) (command : WholeCommand) : Type 0 where
  pub section : List ℕ
  pub place : slice_get sections caller ≡ Some section
  pub next : slice_get (commands_of section) (count_by (λ other. other == caller) calls) ≡ Some command

-- the entry of a command that is applied, and that of one that isn't
abbrev pub applied_entry : List Logged → ℕ → WholeCommand → Logged
applied_entry entries caller command =
    record { caller = caller; command = command; reply = reply_of (store_now entries) command.request; void = false }

abbrev pub void_entry : ℕ → WholeCommand → Logged
void_entry caller command = record { caller = caller; command = command; reply = []; void = true }

-- ---- the entries that the callers' turns make

-- a turn of a caller, whose next command is applied, or is not for want of memory
pub record Turn : Type 0 where
  pub caller : ℕ
  pub void : Bool

-- the command of a caller that stands behind those of its entries
abbrev pub next_command : List (List ℕ) → List Logged → ℕ → WholeCommand
next_command sections entries caller = let section = slice_index_or sections caller [] in
    slice_index_or (commands_of section) (length (own entries caller)) (record { request = Quit; spelling = [] })

abbrev pub next_entry : List (List ℕ) → List Logged → Turn → Logged
next_entry sections entries turn = let command = next_command sections entries turn.caller in
    if turn.void then void_entry turn.caller command else applied_entry entries turn.caller command

-- the entries, and those of more turns
abbrev pub entries_from : List (List ℕ) → List Logged → List Turn → List Logged
entries_from sections entries [] = entries
entries_from sections entries (turn ∷ turns) = entries_from sections (entries ++ next_entry sections entries turn ∷ []) turns

-- the history of callers that have turns in this order, each with the next command of its section: one store replies to all
abbrev pub history : List (List ℕ) → List ℕ → List Logged
history sections callers = entries_from sections [] (map (λ caller. record { caller = caller; void = false }) callers)

-- ---- what is said of entries

-- the replies are those of one thread that applies the commands in this order on the empty store
abbrev pub IsOneThread : List Logged → Type 0
IsOneThread entries = replies entries ≡ replies_of (commands entries)

-- a void entry has no reply
abbrev pub VoidIsSilent : List Logged → Type 0
VoidIsSilent entries = All (λ entry. entry.void ≡ true → entry.reply ≡ []) entries

-- no entry is void
abbrev pub NoneVoid : List Logged → Type 0
NoneVoid entries = All (λ entry. entry.void ≡ false) entries

-- the caller of each entry has a section
abbrev pub EachHasSection : Log → Type 0
EachHasSection log = All (λ entry. entry.caller < length log.sections) log.entries

-- the commands of each caller's entries are the first ones of its section, in its order
abbrev pub EachOwnFirst : Log → Type 0
EachOwnFirst log =
    (caller : ℕ) (section : List ℕ) → slice_get log.sections caller ≡ Some section
    → (rest : List WholeCommand) × (commands_of section ≡ own log.entries caller ++ rest)

-- the entries are those of their callers' turns, none of them void
abbrev pub IsHistory : Log → Type 0
IsHistory log = log.entries ≡ history log.sections (calls log)

-- what holds of every journal
pub record IsSound (log : Log) : Type 0 where
  pub one_thread : IsOneThread (applied log.entries)
  pub silent : VoidIsSilent log.entries
  pub callers : EachHasSection log
  pub own_first : EachOwnFirst log

-- the number of the commands of all sections
abbrev pub command_count : List (List ℕ) → ℕ
command_count sections = sum_by (λ section. length (commands_of section)) sections
