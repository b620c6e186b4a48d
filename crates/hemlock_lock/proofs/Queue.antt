-- The queue that is computed from words and views is that of the rule.
use Rattle.std.proofs.Common.{◌≡◌, ◌≢◌, ℕ, zero, suc, ◌+◌, ◌<◌, ◌≤◌, Bool, true, false, not, cond, ◌&&◌, ◌==◌, eq-eqb, refl, ap, sym}
use Rattle.std.proofs.Common.{◌∙◌, ⊎_elim, arith}
use Rattle.std.proofs.Common.{List, [], ◌∷◌, ◌++◌, length, map, set, slice_index, replicate}
use Rattle.std.proofs.lemmas.List.{get_or-replicate, length-replicate}
use Rattle.std.specs.List.{sum_by}
use Rattle.std.proofs.lemmas.List.Sums.{sum_by-cons}
use mathlib.Core.Option.{some, some-injective, some-ne-none}
use mathlib.Core.Logic.{dite}
use native.Mathlib.Decide.{ℕ_discrete}
use lib.ListN.{get_elem?}
use borrow.Author.Tests.{eqb-true}
use Rattle.atomic_table.proofs.Lists.{set_else, at_longer}
use Rattle.lock_rules.specs.Rows.{line, row_of, waiting}
use Rattle.lock_rules.specs.Tag.{Tag}
use Rattle.lock_rules.specs.Views.{first_view, without_next, next_split, joined_view, spent_view}
use Rattle.lock_rules.specs.declared.view.Algorithm.TheVariants.{Hemlock}
use Rattle.lock_rules.specs.declared.view.Phase.TheVariants.{Idle, Holding, Leaving}
use Rattle.lock_rules.specs.declared.view.View.{View}
use Rattle.lock_tables.specs.Laws.{IsDisciplined, number_at}
use Rattle.lock_tables.specs.Rule.{is_busy, busy, IsQueued}
use Rattle.lock_tables.proofs.Lists.{number_is, at_below, at_end, there, wrote_else}
use Rattle.lock_tables.proofs.Queues.{WasAt, lives, one_seat_of, after_split, after_join, placed_before_split, placed_before_join}
use Rattle.hemlock_lock.specs.Kinds.{own_name}
use Rattle.hemlock_lock.specs.Rule.{tail, grant, named_by, ungranted, passes_to, queue_of, IsLeaving, hemlock_discipline}
use Rattle.hemlock_lock.proofs.Chains.{WasNamed, no_seats, chained_stays, leaver_stays, calm_grants, busy_ungranted, last_seat}

-- the name that the view of an unspent seat has, where its pass has one seat
named_by_is : (views : List View) (j : ℕ) (v : View) → get_elem? views j ≡ some v → v.spent ≡ false
    → ((k : ℕ) (u : View) → get_elem? views k ≡ some u → u.spent ≡ false → u.number ≡ v.number → k ≡ j)
    → named_by views v.number ≡ v.predecessor
named_by_is [] j v at live only = absurd (some-ne-none v (sym at))
named_by_is (u ∷ us) zero v at live only =
    let s : u ≡ v = some-injective u v at in
    let p : u.spent ≡ false = ap (λ (x : View). x.spent) s ∙ live in
    let e : (u.number == v.number) ≡ true = eq-eqb u.number v.number (ap (λ (x : View). x.number) s) in
    rw (p, e) (ap (λ (x : View). x.predecessor) s)
named_by_is (u ∷ us) (suc j) v at live only =
    let rest : named_by us v.number ≡ v.predecessor =
    named_by_is us j v at live (λ k w at' live' e. let z : suc k ≡ suc j = only (suc k) w at' live' e in omega arith) in
    elim (u.spent) as (λ x. u.spent ≡ x
    → cond (not u.spent && (u.number == v.number)) u.predecessor (named_by us v.number) ≡ v.predecessor) [
      | true ↦ λ h. rw h rest
      | false ↦ λ h. elim (u.number == v.number) as (λ x. (u.number == v.number) ≡ x
          → cond (not u.spent && (u.number == v.number)) u.predecessor (named_by us v.number) ≡ v.predecessor) [
            | true ↦ λ e. let z : zero ≡ suc j = only zero u refl h (eqb-true u.number v.number e) in absurd (omega arith)
            | false ↦ λ e. rw (h, e) rest
          ] refl
    ] refl

-- the seats before the place i
abbrev before : List ℕ → ℕ → List ℕ
before seats zero = []
before [] (suc i) = []
before (j ∷ js) (suc i) = j ∷ before js i

before_all : (seats : List ℕ) → before seats (length seats) ≡ seats
before_all [] = refl
before_all (j ∷ js) = λ k. j ∷ before_all js k

before_next : (f : ℕ → ℕ) (seats : List ℕ) (i j : ℕ) → get_elem? seats i ≡ some j
    → map f (before seats (suc i)) ≡ map f (before seats i) ++ f j ∷ []
before_next f [] i j e = absurd (some-ne-none j (sym e))
before_next f (x ∷ xs) zero j e = λ k. f (some-injective x j e k) ∷ []
before_next f (x ∷ xs) (suc i) j e = λ k. f x ∷ before_next f xs i j e k

granted_none : (words : List ℕ) (name : ℕ) → (name ≢ 0 → slice_index words (grant name) ≡ 1) → ungranted words name ≡ 0
granted_none words zero h = refl
granted_none words (suc p) h =
    let one : slice_index words (grant (suc p)) ≡ 1 = h (λ e. omega arith) in
    elim (slice_index words (grant (suc p)) == 0) as (λ x. (slice_index words (grant (suc p)) == 0) ≡ x
    → cond (slice_index words (grant (suc p)) == 0) (suc p) 0 ≡ 0) [
      | true ↦ λ e. let z = eqb-true (slice_index words (grant (suc p))) 0 e in absurd (omega arith)
      | false ↦ λ e. rw e refl
    ] refl

ungranted_some : (words : List ℕ) (p : ℕ) → slice_index words (grant (suc p)) ≡ 0 → ungranted words (suc p) ≡ suc p
ungranted_some words p e = let t : (slice_index words (grant (suc p)) == 0) ≡ true = eq-eqb (slice_index words (grant (suc p))) 0 e in
    rw t refl

no_passes : (words : List ℕ) (views : List View) (count : ℕ) → passes_to words views count 0 ≡ []
no_passes words views zero = refl
no_passes words views (suc count) = refl

-- there are no more busy seats than seats
busy_few : (views : List View) → sum_by (busy false) views ≤ length views
busy_few [] = omega arith
busy_few (v ∷ vs) = elim (is_busy false v.phase) as (λ x. is_busy false v.phase ≡ x → sum_by (busy false) (v ∷ vs) ≤ length (v ∷ vs)) [
  | true ↦ λ e. let one : busy false v ≡ 1 = ap (λ (x : Bool). cond x 1 0) e in let r = busy_few vs in
      omega (arith, sum_by-cons (busy false) v vs, r)
  | false ↦ λ e. let none : busy false v ≡ 0 = ap (λ (x : Bool). cond x 1 0) e in let r = busy_few vs in
      omega (arith, sum_by-cons (busy false) v vs, r)
] refl

module _ (n : ℕ) (tag : Tag) (words seats : List ℕ) (views : List View) (q : IsQueued hemlock_discipline n tag words seats views) where
  live : (i j : ℕ) (v : View) → get_elem? seats i ≡ some j → get_elem? views j ≡ some v → (v.spent ≡ false) × (is_busy false v.phase ≡ true)
  live i j v e at =
      let p = q.each_place i j e in
      let s : p.view ≡ v = some-injective p.view v (sym p.at ∙ at) in
      let b : is_busy false v.phase ≡ true = ap (λ (x : View). is_busy false x.phase) (sym s) ∙ p.is in
      (lives hemlock_discipline n tag words seats views q j v at b, b)

  -- what the pass at the place i names, where that one's grant is 0
  ahead : (i j : ℕ) (v : View) → get_elem? seats i ≡ some j → get_elem? views j ≡ some v → named_by views v.number ≡ v.predecessor
  ahead i j v e at = let l = live i j v e at in named_by_is views j v at l.0
      (λ k u at' live' same. one_seat_of hemlock_discipline n tag words seats views q j k v u at at' l.0 live' same)

  -- the passes up to the place i
  passes_are : (i j : ℕ) (v : View) (count name : ℕ) → get_elem? seats i ≡ some j → get_elem? views j ≡ some v → i < count
      → name ≡ own_name v
      → passes_to words views count name ≡ map (number_at views) (before seats (suc i))
  passes_are i j v zero name e at h is = absurd (omega arith)
  passes_are i j v (suc count) zero e at h is = absurd (omega arith)
  passes_are zero j v (suc count) (suc p) e at h is =
      let same : p ≡ v.number = omega arith in
      let stop : ungranted words (named_by views p) ≡ 0 = ap (λ (x : ℕ). ungranted words (named_by views x)) same
      ∙ ap (ungranted words) (ahead zero j v e at ∙ q.core.chained.first j v e at) ∙ granted_none words q.core.named q.core.given in
      let none = no_passes words views count in
      (λ k. passes_to words views count (stop k) ++ same k ∷ []) ∙ (λ k. none k ++ v.number ∷ [])
      ∙ (λ k. sym (number_is views j v at) k ∷ [])
      ∙ sym (before_next (number_at views) seats zero j e)
  passes_are (suc i) j v (suc count) (suc p) e at h is =
      let b = at_below seats (suc i) j e in
      let t = there seats i (omega arith) in
      let x = q.each_place i t.0 t.1 in
      let s : suc i ≡ i + 1 = omega arith in
      let same : p ≡ v.number = omega arith in
      let behind : v.predecessor ≡ own_name x.view = q.core.chained.behind i t.0 j x.view v t.1 x.at (ap (get_elem? seats) (sym s)
      ∙ e) at in
      let next : own_name x.view ≡ suc x.view.number = omega arith in
      let free : slice_index words (grant (suc x.view.number)) ≡ 0 = ap (λ (y : ℕ). slice_index words (grant y)) (sym next)
      ∙ busy_ungranted n tag words seats views q t.0 x.view x.at x.is in
      let goes : ungranted words (named_by views p) ≡ own_name x.view = ap (λ (y : ℕ). ungranted words (named_by views y)) same
      ∙ ap (ungranted words) (ahead (suc i) j v e at ∙ behind ∙ next) ∙ ungranted_some words x.view.number free ∙ sym next in
      let rest = passes_are i t.0 x.view count (ungranted words (named_by views p)) t.1 x.at (omega arith) goes in
      (λ k. rest k ++ same k ∷ []) ∙ (λ k. map (number_at views) (before seats (suc i)) ++ sym (number_is views j v at) k ∷ [])
      ∙ sym (before_next (number_at views) seats (suc i) j e)

  pub queue_is : queue_of words views ≡ map (number_at views) seats
  queue_is = dite (ℕ_discrete (length seats) 0)
      (λ none.
      let empty : seats ≡ [] = no_seats seats none in
      let end = no_passes words views (length views) in
      ap (passes_to words views (length views)) (q.core.chained.none_last none) ∙ end ∙ sym (ap (map (number_at views)) empty))
      (λ some_seat.
      let l = last_seat n tag words seats views q (omega arith) in
      let few = busy_few views in
      let long = q.busy_are in
      let count : l.0 < length views = (let a = l.3 in omega (arith, few, long, a)) in
      let all : before seats (suc l.0) ≡ seats = (let s : suc l.0 ≡ length seats = (let a = l.3 in omega arith) in ap (before seats) s
      ∙ before_all seats) in
      passes_are l.0 l.1 l.2 (length views) (slice_index words tail) l.4 l.5 count (q.core.chained.last l.0 l.1 l.2 l.3 l.4 l.5)
      ∙ ap (map (number_at views)) all)

  -- a pass that is leaving is so behind a split
  split_leaver : (id : ℕ) (v : View) (name : ℕ) → get_elem? views id ≡ some v → IsLeaving views name
      → IsLeaving (set views id (without_next v) ++ next_split v ∷ []) name
  split_leaver id v name at l =
      let m = leaver_stays views id v (without_next v) name at refl (λ e _. e) l in
      let there_still = at_longer (set views id (without_next v)) (next_split v ∷ []) m.seat m.view m.at in
      record { seat = m.seat; view = m.view; at = there_still; leaves = m.leaves; is = m.is }

  -- and behind a join
  join_leaver : (id : ℕ) (v : View) (other : ℕ) (w : View) (name : ℕ) → get_elem? views id ≡ some v
      → get_elem? (set views id (joined_view v w)) other ≡ some w → w.phase ≡ Idle → IsLeaving views name
      → IsLeaving (set (set views id (joined_view v w)) other spent_view) name
  join_leaver id v other w name at at' idle l =
      let m = leaver_stays views id v (joined_view v w) name at refl (λ e _. e) l in
      let not_other : m.seat ≢ other = λ e. (
      let same : m.view ≡ w = some-injective m.view w (sym m.at ∙ ap (get_elem? (set views id (joined_view v w))) e ∙ at') in
      let no : Leaving ≡ Idle = sym m.leaves ∙ ap (λ (x : View). x.phase) same ∙ idle in absurd cc) in
      let there_still = set_else (set views id (joined_view v w)) other m.seat spent_view not_other ∙ m.at in
      record { seat = m.seat; view = m.view; at = there_still; leaves = m.leaves; is = m.is }

was_named : (views : List View) (j : ℕ) (u : View) → WasAt views j u → WasNamed views j u
was_named views j u w = record {
  view = w.view;
  at = w.at;
  number = w.same.number;
  predecessor = w.same.predecessor;
  queued = λ e. sym w.same.phase ∙ e;
}

-- a seat that has its names and its phase from before, and isn't in the queue, names none
still_nameless : (views : List View) (j : ℕ) (u : View) → ((k : ℕ) (v : View) → get_elem? views k ≡ some v → is_busy false v.phase ≡ false
    → v.predecessor ≡ 0) → WasAt views j u
    → is_busy false u.phase ≡ false → u.predecessor ≡ 0
still_nameless views j u none w free = w.same.predecessor ∙ none j w.view w.at (ap (is_busy false) (sym w.same.phase) ∙ free)

still_owing : (views : List View) (j : ℕ) (u : View)
    → ((k : ℕ) (v : View) → get_elem? views k ≡ some v → v.phase ≡ Holding → v.predecessor ≢ 0 → v.owes ≡ true) → WasAt views j u
    → u.phase ≡ Holding → u.predecessor ≢ 0 → u.owes ≡ true
still_owing views j u owing w held some_name =
    w.same.owes ∙ owing j w.view w.at (sym w.same.phase ∙ held) (λ z. some_name (w.same.predecessor ∙ z))

words_are_0 : (m i : ℕ) → i < m → slice_index (replicate m 0) i ≡ 0
words_are_0 m i h = get_or-replicate m i 0 0 h

pub disciplined : IsDisciplined hemlock_discipline
disciplined = record {
  opens_long = λ n. length-replicate (row_of Hemlock n) 0;
  opens_unannounced = λ n. words_are_0 (row_of Hemlock n) waiting (omega arith);
  opens = λ ch n tag some_pass few. record {
    named = 0;
    chained = record {
      none_last = λ _. words_are_0 (row_of Hemlock n) tail (omega arith);
      last = λ i j v e at _. absurd (some-ne-none j (sym at));
      none_first = λ _. refl;
      first = λ j v e _. absurd (some-ne-none j (sym e));
      waits = λ j v e _ _. absurd (some-ne-none j (sym e));
      behind = λ i j k u v e _ _ _. absurd (some-ne-none j (sym e));
    };
    given = λ ne. absurd (ne refl);
    kept = λ name _ within _. words_are_0 (row_of Hemlock n) (grant name) (omega arith);
    leaver = λ ne. absurd (ne refl);
    nameless = λ j v at _. ⊎_elim (λ (t : get_elem? [] j ≡ some v). absurd (some-ne-none v (sym t)))
        (λ (t : (j ≡ 0) × (first_view Hemlock ch n tag ≡ v)). ap (λ (x : View). x.predecessor) (sym t.1))
        (at_end [] (first_view Hemlock ch n tag) v j at);
    owing = λ j v at _ some_name. ⊎_elim (λ (t : get_elem? [] j ≡ some v). absurd (some-ne-none v (sym t)))
        (λ (t : (j ≡ 0) × (first_view Hemlock ch n tag ≡ v)). absurd (some_name (ap (λ (x : View). x.predecessor) (sym t.1))))
        (at_end [] (first_view Hemlock ch n tag) v j at);
  };
  notes = λ n words seats views x id v w at noted core. calm_grants n words seats views id w core (set words waiting x) v at
      (λ k. wrote_else words waiting (line k) x (λ e. omega arith)) (ap (λ (u : View). u.number) noted)
      (ap (λ (u : View). u.predecessor) noted) (ap (λ (u : View). u.phase) noted) (ap (λ (u : View). u.owes) noted);
  splits = λ n tag words seats views id v q at live more. record {
    named = q.core.named;
    chained = chained_stays q.core.named words words seats views (set views id (without_next v) ++ next_split v ∷ []) q.core.chained refl
        (λ i j u e e'. was_named views j u (placed_before_split hemlock_discipline n tag words seats views q id v at i j u e e'));
    given = q.core.given;
    kept = q.core.kept;
    leaver = λ ne. split_leaver n tag words seats views q id v q.core.named at (q.core.leaver ne);
    nameless = λ j u e free. ⊎_elim (λ (w : WasAt views j u). still_nameless views j u q.core.nameless w free)
        (λ (t : (j ≡ length views) × (next_split v ≡ u)). ap (λ (x : View). x.predecessor) (sym t.1)) (after_split views id v at j u e);
    owing = λ j u e held some_name. ⊎_elim (λ (w : WasAt views j u). still_owing views j u q.core.owing w held some_name)
        (λ (t : (j ≡ length views) × (next_split v ≡ u)). absurd (some_name (ap (λ (x : View). x.predecessor) (sym t.1))))
        (after_split views id v at j u e);
  };
  joins = λ n tag words seats views id v other w q at live apart at' idle plain. record {
    named = q.core.named;
    chained = chained_stays q.core.named words words seats views (set (set views id (joined_view v w)) other spent_view) q.core.chained refl
        (λ i j u e e'. was_named views j u
        (placed_before_join hemlock_discipline n tag words seats views q id v other w at at' apart idle i j u e e'));
    given = q.core.given;
    kept = q.core.kept;
    leaver = λ ne. join_leaver n tag words seats views q id v other w q.core.named at at' idle (q.core.leaver ne);
    nameless = λ j u e free. ⊎_elim (λ (t : (j ≢ other) × WasAt views j u). still_nameless views j u q.core.nameless t.1 free)
        (λ (t : (j ≡ other) × (spent_view ≡ u)). ap (λ (x : View). x.predecessor) (sym t.1)) (after_join views id v other w at j u e);
    owing = λ j u e held some_name. ⊎_elim (λ (t : (j ≢ other) × WasAt views j u). still_owing views j u q.core.owing t.1 held some_name)
        (λ (t : (j ≡ other) × (spent_view ≡ u)). absurd (some_name (ap (λ (x : View). x.predecessor) (sym t.1))))
        (after_join views id v other w at j u e);
  };
  queue_is = queue_is;
}
