-- Records of the journal, and the entries that they are of.
use Rattle.std.proofs.Common.{◌≡◌, ℕ, zero, suc, ◌+◌, ◌-◌, ◌<◌, ◌≤◌, Bool, true, false, List, [], ◌∷◌, ◌++◌, length, take, drop}
use Rattle.std.proofs.Common.{refl, sym, ◌∙◌, ap, subst, arith, add-zero, length-append, append-nil}
use Rattle.std.proofs.lemmas.Option.{slice_get-get_or}
use Rattle.std.proofs.Math.Seq.{take-append_seam, drop-append-add}
use Rattle.std.specs.Prelude.{Some, slice_get, slice_index_or, option_map, map, not, ◌&&◌, vec_len}
use Rattle.std.specs.List.{list_all}
use Rattle.kv_history.specs.declared.record.Record.{Record}
use Rattle.kv_history.specs.Log.{Logged, all_replies}
use Rattle.kv_history.specs.declared.kept.Kept.{Kept}
use Rattle.kv_history.specs.Journal.{IsKept, log_of}
use Rattle.kv_history.specs.Records.{IsPlaced, ArePlaced, turn_of}

-- one more
pub placed-push : (start : ℕ) (records : List Record) (entries : List Logged) (one : Record) (entry : Logged)
    → ArePlaced start records entries → IsPlaced (start + length (all_replies entries)) one entry
    → ArePlaced start (records ++ one ∷ []) (entries ++ entry ∷ [])
placed-push start [] [] one entry placed here = (subst (λ n. IsPlaced n one entry) (add-zero start) here, tt)
placed-push start [] (other ∷ entries) one entry placed here = absurd placed
placed-push start (other ∷ records) [] one entry placed here = absurd placed
placed-push start (first ∷ records) (other ∷ entries) one entry placed here =
    let size = length-append other.reply (all_replies entries) in
    let start_is : start + length (other.reply ++ all_replies entries) ≡ first.end + length (all_replies entries) =
    omega (arith, size, placed.0.end) in
    (placed.0, placed-push first.end records entries one entry placed.1 (subst (λ n. IsPlaced n one entry) start_is here))

-- as many records as entries
pub length-placed : (start : ℕ) (records : List Record) (entries : List Logged) → ArePlaced start records entries
    → length records ≡ length entries
length-placed start [] [] placed = refl
length-placed start [] (entry ∷ entries) placed = absurd placed
length-placed start (one ∷ records) [] placed = absurd placed
length-placed start (one ∷ records) (entry ∷ entries) placed = ap suc (length-placed one.end records entries placed.1)

-- the entry of a record
pub record PlacedAt (start place : ℕ) (one : Record) (entries : List Logged) : Type 0 where
  pub entry : Logged
  pub found : slice_get entries place ≡ Some entry
  pub caller : one.caller ≡ entry.caller
  pub void : one.void ≡ entry.void
  pub spelling : one.spelling.now ≡ entry.command.spelling
  pub end : one.end ≡ start + length (all_replies (take (suc place) entries))

pub placed_at : (start : ℕ) (records : List Record) (entries : List Logged) → ArePlaced start records entries
    → (place : ℕ) (one : Record) → slice_get records place ≡ Some one → PlacedAt start place one entries
placed_at start [] entries placed place one is = cc
placed_at start (first ∷ records) [] placed place one is = absurd placed
placed_at start (first ∷ records) (entry ∷ entries) placed zero one is =
    let same : first ≡ one = cc in
    record {
      entry = entry;
      found = refl;
      caller = sym (ap (λ one. one.caller) same) ∙ placed.0.caller;
      void = sym (ap (λ one. one.void) same) ∙ placed.0.void;
      spelling = sym (ap (λ one. one.spelling.now) same) ∙ placed.0.spelling;
      end = sym (ap (λ one. one.end) same) ∙ placed.0.end ∙ ap (λ text. start + length text) (sym (append-nil entry.reply));
    }
placed_at start (first ∷ records) (entry ∷ entries) placed (suc place) one is =
    let later = placed_at first.end records entries placed.1 place one is in
    let size = length-append entry.reply (all_replies (take (suc place) entries)) in
    record {
      entry = later.entry;
      found = later.found;
      caller = later.caller;
      void = later.void;
      spelling = later.spelling;
      end = omega (arith, later.end, placed.0.end, size);
    }

-- where the replies of the first entries end
pub ends_within : (count : ℕ) (entries : List Logged) → length (all_replies (take count entries)) ≤ length (all_replies entries)
ends_within zero entries = omega arith
ends_within (suc count) [] = omega arith
ends_within (suc count) (entry ∷ entries) =
    omega (
      arith,
      length-append entry.reply (all_replies (take count entries)),
      length-append entry.reply (all_replies entries),
      ends_within count entries,
    )

pub ends_in_order : (place : ℕ) (entries : List Logged)
    → length (all_replies (take place entries)) ≤ length (all_replies (take (suc place) entries))
ends_in_order zero entries = omega arith
ends_in_order (suc place) [] = omega arith
ends_in_order (suc place) (entry ∷ entries) =
    omega (
      arith,
      length-append entry.reply (all_replies (take place entries)),
      length-append entry.reply (all_replies (take (suc place) entries)),
      ends_in_order place entries,
    )

-- where the reply of an entry stands among all replies
pub reply_between : (place : ℕ) (entries : List Logged) (entry : Logged) → slice_get entries place ≡ Some entry
    → take (length (all_replies (take (suc place) entries)) - length (all_replies (take place entries)))
    (drop (length (all_replies (take place entries))) (all_replies entries))
    ≡ entry.reply
reply_between place [] entry is = cc
reply_between zero (first ∷ entries) entry is =
    let same : first ≡ entry = cc in
    let size : length (first.reply ++ []) - 0 ≡ length first.reply = omega (arith, length-append first.reply []) in
    ap (λ n. take n (first.reply ++ all_replies entries)) size
    ∙ take-append_seam first.reply (all_replies entries)
    ∙ ap (λ entry. entry.reply) same
reply_between (suc place) (first ∷ entries) entry is =
    let before = all_replies (take place entries) in
    let through = all_replies (take (suc place) entries) in
    let start = length-append first.reply before in
    let size : length (first.reply ++ through) - length (first.reply ++ before) ≡ length through - length before =
    omega (arith, start, length-append first.reply through) in
    ap (λ n. take n (drop (length (first.reply ++ before)) (first.reply ++ all_replies entries))) size
    ∙ ap (take (length through - length before))
    (ap (λ n. drop n (first.reply ++ all_replies entries)) start ∙ drop-append-add first.reply (all_replies entries) (length before))
    ∙ reply_between place entries entry is

pub reply_at : (entries : List Logged) (place : ℕ) (text : List ℕ) → place < length entries
    → text ≡ take (length (all_replies (take (suc place) entries)) - length (all_replies (take place entries)))
    (drop (length (all_replies (take place entries))) (all_replies entries))
    → option_map (λ (entry : Logged). entry.reply) (slice_get entries place) ≡ Some text
reply_at [] place text within is = absurd (omega (arith, within))
reply_at (first ∷ entries) place text within is =
    let found = slice_get-get_or (first ∷ entries) place first within in
    ap (option_map (λ (entry : Logged). entry.reply)) found ∙ ap Some (sym (is ∙ reply_between place (first ∷ entries) _ found))

-- as many records as entries
pub length-kept : (kept : Kept) → IsKept kept → vec_len kept.records ≡ length (log_of kept).entries
length-kept kept is = omega (arith, kept.records.ok.0, length-placed 0 kept.records.items (log_of kept).entries is.placed)

-- the record at a place is that of the entry there
pub record_at : (kept : Kept) (place : ℕ) (one : Record) → IsKept kept → place < length (log_of kept).entries
    → one ≡ slice_index_or kept.records.items place one → PlacedAt 0 place one (log_of kept).entries
record_at kept place one is_kept within is =
    let inside : place < length kept.records.items =
    omega (arith, within, length-placed 0 kept.records.items (log_of kept).entries is_kept.placed) in
    placed_at 0 kept.records.items (log_of kept).entries is_kept.placed place one
    (slice_get-get_or kept.records.items place one inside ∙ ap Some (sym is))

-- whether no record is void
pub none_void-placed : (start : ℕ) (records : List Record) (entries : List Logged) → ArePlaced start records entries
    → list_all (λ entry. not entry.void) entries ≡ list_all (λ one. not one.void) records
none_void-placed start [] [] placed = refl
none_void-placed start [] (entry ∷ entries) placed = absurd placed
none_void-placed start (one ∷ records) [] placed = absurd placed
none_void-placed start (one ∷ records) (entry ∷ entries) placed =
    λ i. not (sym placed.0.void i) && none_void-placed one.end records entries placed.1 i

-- where no record is void, the turns are those of the entries' callers
pub turns-placed : (start : ℕ) (records : List Record) (entries : List Logged) → ArePlaced start records entries
    → list_all (λ one. not one.void) records ≡ true
    → map turn_of records ≡ map (λ caller. record { caller = caller; void = false }) (map (λ entry. entry.caller) entries)
turns-placed start [] [] placed none = refl
turns-placed start [] (entry ∷ entries) placed none = absurd placed
turns-placed start (one ∷ records) [] placed none = absurd placed
turns-placed start (one ∷ records) (entry ∷ entries) placed none =
    let here : one.void ≡ false = not_true one.void (and_left (not one.void) (list_all (λ one. not one.void) records) none) in
    let later = turns-placed one.end records entries placed.1
    (and_right_true (not one.void) (list_all (λ one. not one.void) records) none) in
    λ i. record { caller = placed.0.caller i; void = here i } ∷ later i
  where
    not_true : (b : Bool) → not b ≡ true → b ≡ false
    not_true true is = cc
    not_true false is = refl

    and_left : (a b : Bool) → (a && b) ≡ true → a ≡ true
    and_left true b is = refl
    and_left false b is = cc

    and_right_true : (a b : Bool) → (a && b) ≡ true → b ≡ true
    and_right_true true b is = is
    and_right_true false b is = cc
