-- Entries of which none is void.
use Rattle.std.proofs.Common.{◌≡◌, Bool, true, false, cond, List, [], ◌∷◌, refl, sym, ◌∙◌, ap, subst}
use Rattle.std.proofs.lemmas.List.Elements.{All-weaker}
use Rattle.std.proofs.lemmas.List.Sums.{AllPass-from_list_all, list_all-from_AllPass}
use Rattle.std.specs.Prelude.{filter, not, ◌&&◌, ◌↔◌, IsTrue}
use Rattle.std.specs.List.{list_all}
use Rattle.kv_history.specs.declared.kept.Kept.{Kept}
use Rattle.kv_history.specs.Journal.{IsKept, log_of, sections_of}
use Rattle.kv_history.specs.Log.{Logged, IsHistory, IsOneThread, NoneVoid, applied, entries_from}
use Rattle.kv_history.proofs.Places.{none_void-placed, turns-placed}

not_void : (b : Bool) → not b ≡ true → b ≡ false
not_void true e = cc
not_void false e = refl

is_kept_entry : (b : Bool) → b ≡ false → not b ≡ true
is_kept_entry true e = cc
is_kept_entry false e = refl

none_void : (entries : List Logged) (answer : Bool) → answer ≡ list_all (λ entry. not entry.void) entries
    → IsTrue answer ↔ NoneVoid entries
none_void entries answer tested = (
  λ yes. All-weaker (λ (entry : Logged). not entry.void ≡ true) (λ (entry : Logged). entry.void ≡ false)
      (λ entry. not_void entry.void) entries (AllPass-from_list_all (λ (entry : Logged). not entry.void) entries (sym tested ∙ yes)),
  λ none. tested ∙ list_all-from_AllPass (λ (entry : Logged). not entry.void) entries
      (All-weaker (λ (entry : Logged). entry.void ≡ false) (λ (entry : Logged). not entry.void ≡ true)
      (λ entry. is_kept_entry entry.void) entries none),
)

kept_all : (b rest : Bool) (entry : Logged) (kept entries : List Logged) → (b && rest) ≡ true → (rest ≡ true → kept ≡ entries)
    → cond b (entry ∷ kept) kept ≡ entry ∷ entries
kept_all true rest entry kept entries all same = ap (λ more. entry ∷ more) (same all)
kept_all false rest entry kept entries all same = cc

filter-all : (p : Logged → Bool) (entries : List Logged) → list_all p entries ≡ true → filter p entries ≡ entries
filter-all p [] all = refl
filter-all p (entry ∷ entries) all = kept_all (p entry) (list_all p entries) entry (filter p entries) entries all (filter-all p entries)

-- where no entry is void, the replies are those of one thread
pub whole_one_thread : (entries : List Logged) → IsOneThread (applied entries) → NoneVoid entries → IsOneThread entries
whole_one_thread entries before none =
    subst IsOneThread (filter-all (λ entry. not entry.void) entries
    (list_all-from_AllPass (λ (entry : Logged). not entry.void) entries
    (All-weaker (λ (entry : Logged). entry.void ≡ false) (λ (entry : Logged). not entry.void ≡ true)
    (λ entry. is_kept_entry entry.void) entries none))) before

-- whether no record is void is whether no entry is
pub none_void_kept : (kept : Kept) (answer : Bool) → IsKept kept → answer ≡ list_all (λ one. not one.void) kept.records.items
    → IsTrue answer ↔ NoneVoid (log_of kept).entries
none_void_kept kept answer is_kept is =
    none_void (log_of kept).entries answer (is ∙ sym (none_void-placed 0 kept.records.items (log_of kept).entries is_kept.placed))

-- where none is, the entries are the history of their callers
pub whole_history : (kept : Kept) → IsKept kept → NoneVoid (log_of kept).entries → IsHistory (log_of kept)
whole_history kept is_kept none =
    let entries = (log_of kept).entries in
    let tested : list_all (λ one. not one.void) kept.records.items ≡ true =
    sym (none_void-placed 0 kept.records.items entries is_kept.placed)
    ∙ list_all-from_AllPass (λ (entry : Logged). not entry.void) entries
    (All-weaker (λ (entry : Logged). entry.void ≡ false) (λ (entry : Logged). not entry.void ≡ true)
    (λ entry. is_kept_entry entry.void) entries none) in
    ap (entries_from (sections_of kept) []) (turns-placed 0 kept.records.items entries is_kept.placed tested)
