-- What a journal keeps, with its log, and what a command more makes of them.
use Rattle.std.proofs.Common.{◌≡◌, ℕ, ◌+◌, ◌<◌, ◌≤◌, ◌^◌, false, true, List, [], ◌∷◌, ◌++◌, length, refl, sym, ◌∙◌, ap, subst, arith}
use Rattle.std.proofs.Common.{append-nil, length-append}
use Rattle.std.proofs.lemmas.Grind.{flat_map-append}
use Rattle.std.proofs.lemmas.List.{map-append}
use Rattle.std.specs.Prelude.{map, slice_index_or, sum_by, Vec, vec_capacity, vec_len}
use Rattle.std.specs.List.{All}
use Rattle.std.specs.declared.alloc.Global.{Global}
use Rattle.mc_text.specs.Request.{WholeCommand}
use Rattle.kv_history.specs.declared.caller.Caller.{Caller}
use Rattle.kv_history.specs.declared.record.Record.{Record}
use Rattle.kv_history.specs.declared.kept.Kept.{Kept}
use Rattle.kv_history.specs.Contents.{empty_store}
use Rattle.kv_history.specs.Answer.{reply_of, store_after}
use Rattle.kv_history.specs.Callers.{section_of, IsTallied}
use Rattle.kv_history.specs.Log.{Logged, Log, IsNext, IsSound, all_replies, applied_entry, calls, command_count, entries_from}
use Rattle.kv_history.specs.Log.{store_now, void_entry}
use Rattle.kv_history.specs.Records.{ArePlaced, IsNoted, turn_of}
use Rattle.kv_history.specs.Journal.{IsKept, log_of, sections_of, turns_of}
use Rattle.kv_history.proofs.Logs.{entries-below, sound-applied, sound-empty, sound-void, store_now-applied, store_now-void}
use Rattle.kv_history.proofs.Next.{is_behind_own}
use Rattle.kv_history.proofs.Places.{PlacedAt, length-kept, placed-push, record_at}
use Rattle.kv_history.proofs.Tallies.{sum-tallied}
use Rattle.kv_history.proofs.Turns.{entries-applied, entries-void}

-- what is kept, with this log
pub record HasLog (kept : Kept) (log : Log) : Type 0 where
  pub is_kept : IsKept kept
  pub log_is : log_of kept ≡ log

-- what a pointer leads to
pub has_log : (v kept : Kept) (log : Log) → kept ≡ v → IsKept v → log_of v ≡ log → HasLog kept log
has_log v kept log e is_kept log_is = record { is_kept = subst IsKept (sym e) is_kept; log_is = ap log_of e ∙ log_is }

-- there are as many records as entries
pub length-has : (kept : Kept) (log : Log) → HasLog kept log → vec_len kept.records ≡ length log.entries
length-has kept log has = length-kept kept has.is_kept ∙ ap (λ (z : Log). length z.entries) has.log_is

next_of : (kept : Kept) (log : Log) (caller : ℕ) (command : WholeCommand) → HasLog kept log
    → IsNext log.sections (calls log) caller command → IsNext (sections_of kept) (calls (log_of kept)) caller command
next_of kept log caller command has next =
    subst (λ (z : Log). IsNext z.sections (calls z) caller command) (sym has.log_is) next

-- there is room for the record of a command that is still to come
pub record HasRoom (kept : Kept) : Type 0 where
  pub room : vec_len kept.records < vec_capacity kept.records
  pub small : vec_len kept.records < 2 ^ 32

pub has_room : (kept : Kept) (log : Log) (caller : ℕ) (command : WholeCommand) → HasLog kept log
    → IsNext log.sections (calls log) caller command → HasRoom kept
has_room kept log caller command has next =
    let behind = is_behind_own (log_of kept) caller command has.is_kept.sound.own_first (next_of kept log caller command has next) in
    let below = entries-below (log_of kept) caller command behind has.is_kept.sound in
    let size = length-kept kept has.is_kept in
    let room = has.is_kept.room in
    let small = has.is_kept.small in
    record { room = omega arith; small = omega arith }

-- an entry was noted
noted : (before after : Kept) (entry : Logged) → IsKept before → after.callers ≡ before.callers
    → IsNoted before.records.items after.records.items entry.caller entry.command entry.void (length after.replies.items)
    → vec_capacity before.records ≤ vec_capacity after.records
    → after.replies.items ≡ all_replies (log_of before).entries ++ entry.reply
    → after.store ≡ store_now ((log_of before).entries ++ entry ∷ [])
    → entries_from (sections_of before) [] (turns_of before ++ record { caller = entry.caller; void = entry.void } ∷ [])
    ≡ (log_of before).entries ++ entry ∷ []
    → IsSound (record { sections = sections_of before; entries = (log_of before).entries ++ entry ∷ [] })
    → HasLog after (record { sections = sections_of before; entries = (log_of before).entries ++ entry ∷ [] })
noted before after entry is_kept callers one capacity replies store entries_are sound =
    let entries = (log_of before).entries in
    let now : Log = record { sections = sections_of before; entries = entries ++ entry ∷ [] } in
    let sections : sections_of after ≡ sections_of before = ap (λ (v : Vec Caller Global). map section_of v.items) callers in
    let turns : turns_of after ≡ turns_of before ++ record { caller = entry.caller; void = entry.void } ∷ [] =
    ap (map turn_of) one.after_is ∙ map-append turn_of before.records.items (one.one ∷ [])
    ∙ (λ i. turns_of before ++ record { caller = one.caller_is i; void = one.void_is i } ∷ []) in
    let more : (log_of after).entries ≡ entries ++ entry ∷ [] =
    (λ i. entries_from (sections i) [] (turns i)) ∙ entries_are in
    let now_is : log_of after ≡ now = λ i. record { sections = sections i; entries = more i } in
    let end : one.one.end ≡ 0 + length (all_replies entries) + length entry.reply =
    omega (arith, one.end_is, ap length replies, length-append (all_replies entries) entry.reply) in
    let placed = placed-push 0 before.records.items entries one.one entry is_kept.placed
    (record { caller = one.caller_is; void = one.void_is; spelling = one.spelling; end = end }) in
    record {
      is_kept = record {
        tallied = subst (λ (v : Vec Caller Global). All IsTallied v.items) (sym callers) is_kept.tallied;
        sound = subst IsSound (sym now_is) sound;
        placed = subst (λ (at : List Record × List Logged). ArePlaced 0 at.0 at.1) (λ i. (sym one.after_is i, sym more i)) placed;
        replies = replies
            ∙ ap (λ text. all_replies entries ++ text) (sym (append-nil entry.reply))
            ∙ sym (flat_map-append (λ entry. entry.reply) entries (entry ∷ []))
            ∙ ap all_replies (sym more);
        store = store ∙ ap store_now (sym more);
        small = subst (λ sections. command_count sections < 2 ^ 32) (sym sections) is_kept.small;
        room = subst (λ sections. command_count sections ≤ vec_capacity after.records) (sym sections)
            (omega (arith, is_kept.room, capacity));
      };
      log_is = now_is;
    }

-- a command was applied
pub has_applied : (before after : Kept) (log : Log) (caller : ℕ) (command : WholeCommand) → HasLog before log
    → IsNext log.sections (calls log) caller command → after.callers ≡ before.callers
    → IsNoted before.records.items after.records.items caller command false (length after.replies.items)
    → vec_capacity before.records ≤ vec_capacity after.records
    → after.replies.items ≡ before.replies.items ++ reply_of before.store command.request
    → after.store ≡ store_after before.store command.request
    → HasLog after (record { sections = log.sections; entries = log.entries ++ applied_entry log.entries caller command ∷ [] })
has_applied before after log caller command has next callers one capacity replies store =
    let is_kept = has.is_kept in
    let old : Log = log_of before in
    let behind = is_behind_own old caller command is_kept.sound.own_first (next_of before log caller command has next) in
    let done = noted before after (applied_entry old.entries caller command) is_kept callers one capacity
    (replies ∙ (λ i. is_kept.replies i ++ reply_of (is_kept.store i) command.request))
    (store ∙ ap (λ store. store_after store command.request) is_kept.store ∙ sym (store_now-applied old.entries caller command))
    (entries-applied old (turns_of before) caller command behind refl)
    (sound-applied old caller command behind is_kept.sound) in
    record {
      is_kept = done.is_kept;
      log_is = done.log_is ∙ ap
          (λ (z : Log). record { sections = z.sections; entries = z.entries ++ applied_entry z.entries caller command ∷ [] })
          has.log_is;
    }

-- a command was refused
pub has_void : (before after : Kept) (log : Log) (caller : ℕ) (command : WholeCommand) → HasLog before log
    → IsNext log.sections (calls log) caller command → after.callers ≡ before.callers
    → IsNoted before.records.items after.records.items caller command true (length after.replies.items)
    → vec_capacity before.records ≤ vec_capacity after.records → after.replies.items ≡ before.replies.items
    → after.store ≡ before.store
    → HasLog after (record { sections = log.sections; entries = log.entries ++ void_entry caller command ∷ [] })
has_void before after log caller command has next callers one capacity replies store =
    let is_kept = has.is_kept in
    let old : Log = log_of before in
    let behind = is_behind_own old caller command is_kept.sound.own_first (next_of before log caller command has next) in
    let done = noted before after (void_entry caller command) is_kept callers one capacity
    (replies ∙ is_kept.replies ∙ sym (append-nil (all_replies old.entries)))
    (store ∙ is_kept.store ∙ sym (store_now-void old.entries caller command))
    (entries-void old (turns_of before) caller command behind refl)
    (sound-void old caller command behind is_kept.sound) in
    record {
      is_kept = done.is_kept;
      log_is = done.log_is ∙ ap
          (λ (z : Log). record { sections = z.sections; entries = z.entries ++ void_entry caller command ∷ [] })
          has.log_is;
    }

-- nothing was noted yet
pub kept_new : (kept : Kept) → All IsTallied kept.callers.items → kept.records.items ≡ [] → kept.replies.items ≡ []
    → kept.store ≡ empty_store → sum_by (λ caller. caller.tally.commands) kept.callers.items < 2 ^ 32
    → sum_by (λ caller. caller.tally.commands) kept.callers.items ≤ vec_capacity kept.records → IsKept kept
kept_new kept tallied records replies store small room =
    let sections : List (List ℕ) = sections_of kept in
    let none : entries_from sections [] (turns_of kept) ≡ [] =
    ap (λ (records : List Record). entries_from sections [] (map turn_of records)) records in
    let count = sum-tallied kept.callers.items tallied in
    record {
      tallied = tallied;
      sound = subst (λ (entries : List Logged). IsSound (record { sections = sections; entries = entries })) (sym none)
          (sound-empty sections);
      placed = subst (λ (at : List Record × List Logged). ArePlaced 0 at.0 at.1) (λ i. (sym records i, sym none i)) tt;
      replies = replies ∙ ap all_replies (sym none);
      store = store ∙ ap store_now (sym none);
      small = omega (arith, count, small);
      room = omega (arith, count, room);
    }

-- the record at a place is that of the entry there
pub record_of : (kept : Kept) (log : Log) (place : ℕ) (one : Record) → HasLog kept log → place < length log.entries
    → one ≡ slice_index_or kept.records.items place one → PlacedAt 0 place one log.entries
record_of kept log place one has within is =
    let inside : place < length (log_of kept).entries =
    subst (λ (z : Log). place < length z.entries) (sym has.log_is) within in
    subst (λ (z : Log). PlacedAt 0 place one z.entries) has.log_is (record_at kept place one has.is_kept inside is)

-- the buffer has the replies of the entries
pub replies-has : (kept : Kept) (log : Log) → HasLog kept log → kept.replies.items ≡ all_replies log.entries
replies-has kept log has = has.is_kept.replies ∙ ap (λ (z : Log). all_replies z.entries) has.log_is
