-- What holds of every journal stays so with each entry.
use Rattle.std.proofs.Common.{
  ◌≡◌,
  ℕ,
  suc,
  ◌+◌,
  ◌<◌,
  ◌≤◌,
  Bool,
  true,
  false,
  cond,
  List,
  [],
  ◌∷◌,
  ◌++◌,
  length,
  refl,
  sym,
  ◌∙◌,
  ap,
  subst,
  arith,
  add-zero,
  zero-add,
  length-append,
  append_assoc,
  append-nil,
}
use Rattle.std.proofs.lemmas.Grind.{common_steps}
use Rattle.std.proofs.lemmas.List.{map-append}
use Rattle.std.proofs.lemmas.List.Sums.{sum_by-cons}
use Rattle.std.proofs.lemmas.List.Elements.{filter-append, All-nil, All-push, recursion_from_All}
use Rattle.std.proofs.lemmas.Option.{slice_get_within}
use Rattle.std.proofs.lemmas.Bool.Decides.{Decides-eqb}
use Rattle.std.specs.Prelude.{filter, not, Some, slice_get, ◌==◌}
use Rattle.std.specs.List.{AllByRecursion}
use Rattle.mc_text.specs.Request.{WholeCommand}
use Rattle.mc_text.specs.Reading.{commands_of}
use Rattle.kv_history.specs.Contents.{Contents, empty_store}
use Rattle.kv_history.proofs.Next.{IsBehindOwn, length-own-cons}
use Rattle.kv_history.specs.Answer.{reply_of, store_after, replies_from, replies_of, store_from, store_of}
use Rattle.kv_history.specs.Log.{
  Logged,
  Log,
  commands,
  replies,
  applied,
  own,
  store_now,
  applied_entry,
  void_entry,
  IsOneThread,
  EachHasSection,
  EachOwnFirst,
  IsSound,
  command_count,
}

-- the replay of one command more
replies_from-push : (store : Contents) (before : List WholeCommand) (command : WholeCommand)
    → replies_from store (before ++ command ∷ []) ≡ replies_from store before ++ reply_of (store_from store before) command.request ∷ []
replies_from-push store [] command = refl
replies_from-push store (first ∷ before) command =
    ap (λ more. reply_of store first.request ∷ more) (replies_from-push (store_after store first.request) before command)

store_from-push : (store : Contents) (before : List WholeCommand) (command : WholeCommand)
    → store_from store (before ++ command ∷ []) ≡ store_after (store_from store before) command.request
store_from-push store [] command = refl
store_from-push store (first ∷ before) command = store_from-push (store_after store first.request) before command

-- what the store holds after an entry more
pub store_now-applied : (entries : List Logged) (caller : ℕ) (command : WholeCommand)
    → store_now (entries ++ applied_entry entries caller command ∷ []) ≡ store_after (store_now entries) command.request
store_now-applied entries caller command =
    ap store_of (ap commands (filter-append (λ entry. not entry.void) entries _) ∙ map-append (λ entry. entry.command) (applied entries) _)
    ∙ store_from-push empty_store (commands (applied entries)) command

pub store_now-void : (entries : List Logged) (caller : ℕ) (command : WholeCommand)
    → store_now (entries ++ void_entry caller command ∷ []) ≡ store_now entries
store_now-void entries caller command =
    ap (λ kept. store_of (commands kept)) (filter-append (λ entry. not entry.void) entries _ ∙ append-nil (applied entries))

-- the replies after an entry more
one_thread-applied : (entries : List Logged) (caller : ℕ) (command : WholeCommand) → IsOneThread (applied entries)
    → IsOneThread (applied (entries ++ applied_entry entries caller command ∷ []))
one_thread-applied entries caller command before =
    ap replies (filter-append (λ entry. not entry.void) entries _)
    ∙ map-append (λ entry. entry.reply) (applied entries) _
    ∙ ap (λ known. known ++ reply_of (store_now entries) command.request ∷ []) before
    ∙ sym (replies_from-push empty_store (commands (applied entries)) command)
    ∙ ap replies_of (sym (ap commands (filter-append (λ entry. not entry.void) entries _)
    ∙ map-append (λ entry. entry.command) (applied entries) _))

one_thread-void : (entries : List Logged) (caller : ℕ) (command : WholeCommand) → IsOneThread (applied entries)
    → IsOneThread (applied (entries ++ void_entry caller command ∷ []))
one_thread-void entries caller command before =
    subst IsOneThread (sym (filter-append (λ entry. not entry.void) entries _ ∙ append-nil (applied entries))) before

-- a caller's own commands after an entry more
pub own-push : (entries : List Logged) (entry : Logged) (caller : ℕ)
    → own (entries ++ entry ∷ []) caller ≡ own entries caller ++ cond (entry.caller == caller) (entry.command ∷ []) []
own-push entries entry caller =
    ap commands (filter-append (λ entry. entry.caller == caller) entries (entry ∷ []))
    ∙ map-append (λ entry. entry.command) (filter (λ entry. entry.caller == caller) entries) _
    ∙ ap (λ more. own entries caller ++ more) (one_command (entry.caller == caller) entry)
  where
    one_command : (b : Bool) (entry : Logged) → commands (cond b (entry ∷ []) []) ≡ cond b (entry.command ∷ []) []
    one_command true entry = refl
    one_command false entry = refl

own_first-push : (log : Log) (entry : Logged) → IsBehindOwn log entry.caller entry.command → EachOwnFirst log
    → EachOwnFirst (record { sections = log.sections; entries = log.entries ++ entry ∷ [] })
own_first-push log entry next before caller section place = chosen (entry.caller == caller) refl
  where
    same_section : (a b : List ℕ) → Some a ≡ Some b → a ≡ b
    same_section a b e = cc

    chosen : (b : Bool) → (entry.caller == caller) ≡ b
        → (rest : List WholeCommand) × (commands_of section ≡ own (log.entries ++ entry ∷ []) caller ++ rest)
    chosen true is =
        let caller_is : entry.caller ≡ caller = (Decides-eqb entry.caller caller).0 is in
        let section_is : next.section ≡ section = same_section _ _ (sym next.place ∙ ap (slice_get log.sections) caller_is ∙ place) in
        let more : own (log.entries ++ entry ∷ []) caller ≡ own log.entries caller ++ entry.command ∷ [] =
        own-push log.entries entry caller ∙ ap (λ b. own log.entries caller ++ cond b (entry.command ∷ []) []) is in (
          next.rest,
          ap commands_of (sym section_is)
              ∙ next.next
              ∙ ap (λ caller. own log.entries caller ++ entry.command ∷ next.rest) caller_is
              ∙ sym (append_assoc (own log.entries caller) (entry.command ∷ []) next.rest)
              ∙ ap (λ known. known ++ next.rest) (sym more),
        )
    chosen false is =
        let found = before caller section place in
        let same : own (log.entries ++ entry ∷ []) caller ≡ own log.entries caller =
        own-push log.entries entry caller ∙ ap (λ b. own log.entries caller ++ cond b (entry.command ∷ []) []) is
        ∙ append-nil (own log.entries caller) in
        (found.0, found.1 ∙ ap (λ known. known ++ found.0) (sym same))

callers-push : (log : Log) (entry : Logged) → IsBehindOwn log entry.caller entry.command → EachHasSection log
    → EachHasSection (record { sections = log.sections; entries = log.entries ++ entry ∷ [] })
callers-push log entry next before =
    All-push (λ entry. entry.caller < length log.sections) log.entries entry before
    (slice_get_within log.sections entry.caller next.section next.place)

pub sound-applied : (log : Log) (caller : ℕ) (command : WholeCommand) → IsBehindOwn log caller command → IsSound log
    → IsSound (record { sections = log.sections; entries = log.entries ++ applied_entry log.entries caller command ∷ [] })
sound-applied log caller command next before = record {
  one_thread = one_thread-applied log.entries caller command before.one_thread;
  silent = All-push (λ entry. entry.void ≡ true → entry.reply ≡ []) log.entries _ before.silent (λ is. absurd (false_true is));
  callers = callers-push log (applied_entry log.entries caller command) next before.callers;
  own_first = own_first-push log (applied_entry log.entries caller command) next before.own_first;
}
  where
    false_true : false ≡ true → ⊥
    false_true e = cc

pub sound-void : (log : Log) (caller : ℕ) (command : WholeCommand) → IsBehindOwn log caller command → IsSound log
    → IsSound (record { sections = log.sections; entries = log.entries ++ void_entry caller command ∷ [] })
sound-void log caller command next before = record {
  one_thread = one_thread-void log.entries caller command before.one_thread;
  silent = All-push (λ entry. entry.void ≡ true → entry.reply ≡ []) log.entries _ before.silent (λ is. refl);
  callers = callers-push log (void_entry caller command) next before.callers;
  own_first = own_first-push log (void_entry caller command) next before.own_first;
}

-- how many entries the callers of some sections have, the first of which is the section of caller `from`
own_count : ℕ → List (List ℕ) → List Logged → ℕ
own_count from [] entries = 0
own_count from (section ∷ sections) entries = length (own entries from) + own_count (suc from) sections entries

own_count-nil : (from : ℕ) (sections : List (List ℕ)) → own_count from sections [] ≡ 0
unfolding own_count
own_count-nil from [] = refl
own_count-nil from (section ∷ sections) = omega (arith, own_count-nil (suc from) sections)

own_count-before : (from : ℕ) (sections : List (List ℕ)) (entry : Logged) (entries : List Logged) → entry.caller < from
    → own_count from sections (entry ∷ entries) ≡ own_count from sections entries
unfolding own_count
own_count-before from [] entry entries before = refl
own_count-before from (section ∷ sections) entry entries before =
    let other : (entry.caller == from) ≡ false = grind (arith, common_steps) in
    let one = length-own-cons entry entries from in
    let one_is : length (own (entry ∷ entries) from) ≡ length (own entries from) =
    one ∙ ap (λ b. cond b 1 0 + length (own entries from)) other ∙ omega arith in
    omega (arith, one_is, own_count-before (suc from) sections entry entries (omega arith))

own_count-within : (from : ℕ) (sections : List (List ℕ)) (entry : Logged) (entries : List Logged) → from ≤ entry.caller
    → entry.caller < from + length sections → own_count from sections (entry ∷ entries) ≡ own_count from sections entries + 1
unfolding own_count
own_count-within from [] entry entries low high = absurd (omega arith)
own_count-within from (section ∷ sections) entry entries low high =
    chosen (entry.caller == from) refl (λ low high. own_count-within (suc from) sections entry entries low high)
  where
    one : length (own (entry ∷ entries) from) ≡ cond (entry.caller == from) 1 0 + length (own entries from)
    one = length-own-cons entry entries from

    chosen : (b : Bool) → (entry.caller == from) ≡ b
        → (suc from ≤ entry.caller → entry.caller < suc from + length sections
        → own_count (suc from) sections (entry ∷ entries) ≡ own_count (suc from) sections entries + 1)
        → length (own (entry ∷ entries) from) + own_count (suc from) sections (entry ∷ entries)
        ≡ length (own entries from) + own_count (suc from) sections entries + 1
    chosen true is behind =
        let same : entry.caller ≡ from = (Decides-eqb entry.caller from).0 is in
        let more : length (own (entry ∷ entries) from) ≡ length (own entries from) + 1 =
        one ∙ ap (λ b. cond b 1 0 + length (own entries from)) is ∙ omega arith in
        omega (arith, more, own_count-before (suc from) sections entry entries (omega arith))
    chosen false is behind =
        let other : from < entry.caller = grind (arith, common_steps) in
        let same : length (own (entry ∷ entries) from) ≡ length (own entries from) =
        one ∙ ap (λ b. cond b 1 0 + length (own entries from)) is ∙ omega arith in
        omega (arith, same, behind (omega arith) (omega arith))

own_count-all : (sections : List (List ℕ)) (entries : List Logged) → AllByRecursion (λ entry. entry.caller < length sections) entries
    → own_count 0 sections entries ≡ length entries
own_count-all sections [] callers = own_count-nil 0 sections
own_count-all sections (entry ∷ entries) callers =
    omega (
      arith,
      own_count-within 0 sections entry entries (omega arith) (omega (arith, callers.0)),
      own_count-all sections entries callers.1,
    )

own_count-le : (from : ℕ) (sections : List (List ℕ)) (entries : List Logged)
    → ((place : ℕ) (section : List ℕ) → slice_get sections place ≡ Some section
    → length (own entries (from + place)) ≤ length (commands_of section)) → own_count from sections entries ≤ command_count sections
unfolding own_count
own_count-le from [] entries each = omega arith
own_count-le from (section ∷ sections) entries each =
    let first : length (own entries from) ≤ length (commands_of section) =
    subst (λ caller. length (own entries caller) ≤ length (commands_of section)) (add-zero from) (each 0 section refl) in
    let rest = own_count-le (suc from) sections entries
    (λ place other is. subst (λ caller. length (own entries caller) ≤ length (commands_of other)) (sym (shifted from place))
    (each (suc place) other is)) in
    let total : command_count (section ∷ sections) ≡ length (commands_of section) + command_count sections =
    sum_by-cons (λ section. length (commands_of section)) section sections in
    omega (arith, first, rest, total)
  where
    shifted : (from place : ℕ) → suc from + place ≡ from + suc place
    shifted from place = omega arith

-- a journal has no more entries than its sections have commands
pub entries-within : (log : Log) → IsSound log → length log.entries ≤ command_count log.sections
entries-within log sound =
    let callers = recursion_from_All (λ (entry : Logged). entry.caller < length log.sections) log.entries sound.callers in
    omega (
      arith,
      own_count-all log.sections log.entries callers,
      own_count-le 0 log.sections log.entries (λ place section is. own_within place section is),
    )
  where
    own_within : (place : ℕ) (section : List ℕ) → slice_get log.sections place ≡ Some section
        → length (own log.entries (0 + place)) ≤ length (commands_of section)
    own_within place section is =
        let first = sound.own_first place section is in
        rw (zero-add place) (rw first.1 (omega (arith, length-append (own log.entries place) first.0)))

-- where a caller has a command left, there are fewer entries than commands
pub entries-below : (log : Log) (caller : ℕ) (command : WholeCommand) → IsBehindOwn log caller command → IsSound log
    → length log.entries < command_count log.sections
entries-below log caller command next sound =
    let within = entries-within (record { sections = log.sections; entries = log.entries ++ void_entry caller command ∷ [] })
    (sound-void log caller command next sound) in
    omega (arith, within, length-append log.entries (void_entry caller command ∷ []))

-- a journal without entries
pub sound-empty : (sections : List (List ℕ)) → IsSound (record { sections = sections; entries = [] })
sound-empty sections = record {
  one_thread = refl;
  silent = All-nil (λ (entry : Logged). entry.void ≡ true → entry.reply ≡ []);
  callers = All-nil (λ (entry : Logged). entry.caller < length sections);
  own_first = λ caller section place. (commands_of section, refl);
}
