-- What a journal keeps behind its pointer.
use Rattle.std.specs.Prelude.{◌≡◌, ◌<◌, ◌≤◌, ◌^◌, ℕ, List, [], map, vec_capacity}
use Rattle.std.specs.List.{All}
use Rattle.kv_history.specs.declared.kept.Kept.{Kept}
use Rattle.kv_history.specs.Callers.{section_of, IsTallied}
use Rattle.kv_history.specs.Log.{Log, Turn, IsSound, all_replies, command_count, entries_from, store_now}
use Rattle.kv_history.specs.Records.{ArePlaced, turn_of}

abbrev pub sections_of : Kept → List (List ℕ)
sections_of kept = map section_of kept.callers.items

abbrev pub turns_of : Kept → List Turn
turns_of kept = map turn_of kept.records.items

-- the sections, and the entries of the turns
abbrev pub log_of : Kept → Log
log_of kept = record { sections = sections_of kept; entries = entries_from (sections_of kept) [] (turns_of kept) }

-- the callers' sections are tallied, the records and the buffer are those of the entries, the store is theirs, and there is room for an
-- entry for each command
pub record IsKept (kept : Kept) : Type 0 where
  pub tallied : All IsTallied kept.callers.items
  pub sound : IsSound (log_of kept)
  pub placed : ArePlaced 0 kept.records.items (log_of kept).entries
  pub replies : kept.replies.items ≡ all_replies (log_of kept).entries
  pub store : kept.store ≡ store_now (log_of kept).entries
  pub small : command_count (sections_of kept) < 2 ^ 32
  pub room : command_count (sections_of kept) ≤ vec_capacity kept.records
