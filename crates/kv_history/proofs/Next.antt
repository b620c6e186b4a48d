-- The next command of a caller, in terms of the entries.
use Rattle.std.proofs.Common.{◌≡◌, ℕ, ◌+◌, Bool, true, false, cond, List, [], ◌∷◌, ◌++◌, length, refl, sym, ◌∙◌, ap, arith}
use Rattle.std.proofs.lemmas.List.Sums.{sum_by-cons}
use Rattle.std.specs.Prelude.{filter, map, Some, slice_get, ◌==◌}
use Rattle.std.specs.List.{count_by}
use Rattle.mc_text.specs.Request.{WholeCommand}
use Rattle.mc_text.specs.Reading.{commands_of}
use Rattle.kv_history.specs.Log.{Logged, Log, EachOwnFirst, IsNext, calls, commands, own}

-- the caller has a section, and the command stands in it directly behind the caller's own
pub record IsBehindOwn (log : Log) (caller : ℕ) (command : WholeCommand) : Type 0 where
  pub section : List ℕ
  pub rest : List WholeCommand
  pub place : slice_get log.sections caller ≡ Some section
  pub next : commands_of section ≡ own log.entries caller ++ command ∷ rest

pub length-own-cons : (entry : Logged) (entries : List Logged) (caller : ℕ)
    → length (own (entry ∷ entries) caller) ≡ cond (entry.caller == caller) 1 0 + length (own entries caller)
length-own-cons entry entries caller = chosen (entry.caller == caller)
  where
    chosen : (b : Bool) → length
        (commands (cond b (entry ∷ filter (λ entry. entry.caller == caller) entries) (filter (λ entry. entry.caller == caller) entries)))
        ≡ cond b 1 0 + length (own entries caller)
    chosen true = omega arith
    chosen false = omega arith

-- a caller has as many commands of its own as calls
pub count-own : (entries : List Logged) (caller : ℕ)
    → count_by (λ other. other == caller) (map (λ entry. entry.caller) entries) ≡ length (own entries caller)
count-own [] caller = refl
count-own (entry ∷ entries) caller =
    sum_by-cons (λ (other : ℕ). cond (other == caller) 1 0) entry.caller (map (λ entry. entry.caller) entries)
    ∙ ap (λ n. cond (entry.caller == caller) 1 0 + n) (count-own entries caller)
    ∙ sym (length-own-cons entry entries caller)

slice_get-behind : (before behind : List WholeCommand) → slice_get (before ++ behind) (length before) ≡ slice_get behind 0
slice_get-behind [] behind = refl
slice_get-behind (first ∷ before) behind = slice_get-behind before behind

begins_with : (all : List WholeCommand) (command : WholeCommand) → slice_get all 0 ≡ Some command
    → (rest : List WholeCommand) × (all ≡ command ∷ rest)
begins_with [] command is = cc
begins_with (first ∷ rest) command is = let same : first ≡ command = cc in (rest, ap (λ one. one ∷ rest) same)

-- what the calls tell is what the entries tell
pub is_behind_own : (log : Log) (caller : ℕ) (command : WholeCommand) → EachOwnFirst log
    → IsNext log.sections (calls log) caller command → IsBehindOwn log caller command
is_behind_own log caller command own_first next =
    let first = own_first caller next.section next.place in
    let there : slice_get first.0 0 ≡ Some command =
    sym (slice_get-behind (own log.entries caller) first.0)
    ∙ (λ i. slice_get (sym first.1 i) (sym (count-own log.entries caller) i))
    ∙ next.next in
    let found = begins_with first.0 command there in
    record {
      section = next.section;
      rest = found.0;
      place = next.place;
      next = first.1 ∙ ap (λ rest. own log.entries caller ++ rest) found.1;
    }

-- and the other way round
pub is_next : (log : Log) (caller : ℕ) (command : WholeCommand) → IsBehindOwn log caller command
    → IsNext log.sections (calls log) caller command
is_next log caller command behind = record {
  section = behind.section;
  place = behind.place;
  next = (λ i. slice_get (behind.next i) (count-own log.entries caller i))
      ∙ slice_get-behind (own log.entries caller) (command ∷ behind.rest);
}
