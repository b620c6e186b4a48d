-- Which keys are listed at which times once one of them is listed or struck off.
use Rattle.std.proofs.Common.{◌≡◌, ℕ, ◌<◌, ◌≤◌, Bool, true, false, cond, List, [], ◌∷◌, refl, sym, ◌∙◌, ap, arith}
use Rattle.std.specs.Cmp.{unsigned_tied, Equal-is}
use Rattle.std.specs.Cmp.Lexicographic.{slice_cmp}
use Rattle.std.specs.FinMap.{nat_cmp-IsAntisymmetric, slice_cmp-IsAntisymmetric}
use Rattle.std.proofs.lemmas.List.Elements.{All-head, All-tail}
use Rattle.std.specs.BTreeSet.{BTreeSet, UpdatesBy}
use Rattle.std.specs.Cmp.{ranked}
use Rattle.std.specs.List.{All, list_any}
use Rattle.std.specs.Ordering.{nat_cmp, ordering_then, is_eq, is_gt, eq_by_cmp}
use Rattle.std.specs.Prelude.{◌&&◌, ◌==◌, Option, None, Some, IfSome}
use Rattle.std.specs.Set.{KeepsOthers}
use Rattle.std.specs.declared.cmp.Ordering.{Ordering}
use Rattle.std.specs.declared.cmp.Ordering.TheVariants.{Less, Equal, Greater}
use Rattle.kv_history.specs.declared.dues.Due.{Due}
use Rattle.kv_history.specs.declared.dues.Dues.{Dues}
use Rattle.kv_history.specs.declared.expiry.Expiry.{Expiry}
use Rattle.kv_history.specs.declared.expiry.Expiry.TheVariants.{Never, At}
use Rattle.kv_history.specs.Expiry.{is_time, same_expiry}
use Rattle.kv_history.specs.Dues.{AreAlike, beside_due, is_same_key, is_listed, Lists, ListsAt, ListsToo, Relists}

-- the order of what is listed
abbrev pub by_due : Due → Due → Ordering
by_due due other = beside_due due.time due.key.items other

is_eq-then : (o p : Ordering) → is_eq (ordering_then o p) ≡ (is_eq o && is_eq p)
is_eq-then Less p = refl
is_eq-then Equal p = refl
is_eq-then Greater p = refl

and_left : (a b : Bool) → (a && b) ≡ true → a ≡ true
and_left true b is = refl
and_left false b is = cc

and_right : (a b : Bool) → (a && b) ≡ true → b ≡ true
and_right true b is = is
and_right false b is = cc

-- what is listed stands beside this time and key if these are its own
tested_is : (time : ℕ) (key : List ℕ) (due : Due)
    → is_eq (beside_due time key due) ≡ ((time == due.time) && is_same_key key due.key.items)
tested_is time key due =
    is_eq-then (nat_cmp time due.time) (slice_cmp nat_cmp key due.key.items)
    ∙ ap (λ b. b && is_same_key key due.key.items) (unsigned_tied time due.time)

pub same_key : (key other : List ℕ) → is_same_key key other ≡ true → key ≡ other
same_key key other same = slice_cmp-IsAntisymmetric nat_cmp-IsAntisymmetric key other ((Equal-is (slice_cmp nat_cmp key other)).0 same)

pub record IsTied (time : ℕ) (key : List ℕ) (due : Due) : Type 0 where
  pub time_is : time ≡ due.time
  pub key_is : key ≡ due.key.items

pub tied : (time : ℕ) (key : List ℕ) (due : Due) → is_eq (beside_due time key due) ≡ true → IsTied time key due
tied time key due same =
    let both = sym (is_eq-then (nat_cmp time due.time) (slice_cmp nat_cmp key due.key.items)) ∙ same in
    record {
      time_is = nat_cmp-IsAntisymmetric time due.time ((Equal-is (nat_cmp time due.time)).0 (and_left _ _ both));
      key_is = same_key key due.key.items (and_right _ _ both);
    }

pub listed_after : (due : Due) (listed : Bool) (old new : List Due)
    → KeepsOthers (eq_by_cmp by_due) (λ k. is_eq (by_due due k)) old new → list_any (λ k. is_eq (by_due due k)) new ≡ listed
    → (time : ℕ) (key : List ℕ)
    → list_any (λ k. is_eq (beside_due time key k)) new
    ≡ cond ((time == due.time) && is_same_key key due.key.items) listed (list_any (λ k. is_eq (beside_due time key k)) old)
unfolding KeepsOthers
listed_after due listed old new keeps here time key =
    chosen (is_eq (beside_due time key due)) refl
    ∙ ap (λ b. cond b listed (list_any (λ k. is_eq (beside_due time key k)) old)) (tested_is time key due)
  where
    chosen : (b : Bool) → is_eq (beside_due time key due) ≡ b
        → list_any (λ k. is_eq (beside_due time key k)) new ≡ cond b listed (list_any (λ k. is_eq (beside_due time key k)) old)
    chosen true same =
        let tie = tied time key due same in
        (λ i. list_any (λ k. is_eq (beside_due (tie.time_is i) (tie.key_is i) k)) new) ∙ here
    chosen false differs =
        keeps (λ k. is_eq (beside_due time key k))
        (λ x y same. let tie = tied time key x same in λ i. is_eq (beside_due (tie.time_is i) (tie.key_is i) y))
        (λ k same. let tie = tied due.time due.key.items k same in
        (λ i. is_eq (ordering_then (nat_cmp time (sym tie.time_is i)) (slice_cmp nat_cmp key (sym tie.key_is i)))) ∙ differs)

-- a key that was listed nowhere, and is now listed at an expiry
pub relists-more : (key : List ℕ) (expiry : Expiry) (old new : Dues) → ListsAt old key Never → ListsToo key expiry old new
    → Relists key expiry old new
relists-more key expiry old new nowhere more = λ time other. more time other ∙ chosen time other (is_same_key other key) refl
  where
    chosen : (time : ℕ) (other : List ℕ) (b : Bool) → is_same_key other key ≡ b
        → cond (is_time time expiry && b) true (is_listed old time other) ≡ cond b (is_time time expiry) (is_listed old time other)
    chosen time other true same =
        rw (same_key other key same) (rw (nowhere time) (alone (is_time time expiry)))
      where
        alone : (b : Bool) → cond (b && true) true false ≡ b
        alone true = refl
        alone false = refl
    chosen time other false differs = unlike (is_time time expiry)
      where
        unlike : (b : Bool) → cond (b && false) true (is_listed old time other) ≡ is_listed old time other
        unlike true = refl
        unlike false = refl

-- a key that was listed at one time alone, and is struck off there
pub relists-struck : (key : List ℕ) (time : ℕ) (old new : Dues) → ListsAt old key (At time) → Lists key time false old new
    → Relists key Never old new
relists-struck key time old new alone struck = λ at other. struck at other ∙ chosen at other (is_same_key other key) refl
  where
    chosen : (at : ℕ) (other : List ℕ) (b : Bool) → is_same_key other key ≡ b
        → cond ((at == time) && b) false (is_listed old at other) ≡ cond b false (is_listed old at other)
    chosen at other true same =
        rw (same_key other key same) (rw (alone at) (gone (at == time)))
      where
        gone : (b : Bool) → cond (b && true) false b ≡ false
        gone true = refl
        gone false = refl
    chosen at other false differs = unlike (at == time)
      where
        unlike : (b : Bool) → cond (b && false) false (is_listed old at other) ≡ is_listed old at other
        unlike true = refl
        unlike false = refl

eqb_is : (a b : ℕ) → (a == b) ≡ true → a ≡ b
eqb_is a b e = grind arith

-- a number that is one expiry isn't another
pub other_time : (at time : ℕ) (expiry : Expiry) → (at == time) ≡ true → same_expiry (At time) expiry ≡ false → is_time at expiry ≡ false
other_time at time Never same differs = refl
other_time at time (At other) same differs = rw (eqb_is at time same) differs

-- a key that was listed at one time alone, and is now listed at another expiry and struck off at that time
pub relists-moved : (key : List ℕ) (time : ℕ) (expiry : Expiry) (old mid new : Dues) → ListsAt old key (At time)
    → same_expiry (At time) expiry ≡ false → ListsToo key expiry old mid → Lists key time false mid new → Relists key expiry old new
relists-moved key time expiry old mid new alone differs more struck =
    λ at other. struck at other
    ∙ ap (cond ((at == time) && is_same_key other key) false) (more at other)
    ∙ chosen at other (is_same_key other key) refl
  where
    chosen : (at : ℕ) (other : List ℕ) (b : Bool) → is_same_key other key ≡ b
        → cond ((at == time) && b) false (cond (is_time at expiry && b) true (is_listed old at other))
        ≡ cond b (is_time at expiry) (is_listed old at other)
    chosen at other true same =
        rw (same_key other key same) (rw (alone at) (moved (at == time) refl))
      where
        moved : (b : Bool) → (at == time) ≡ b → cond (b && true) false (cond (is_time at expiry && true) true b) ≡ is_time at expiry
        moved true here = sym (other_time at time expiry here differs)
        moved false here = kept (is_time at expiry)
          where
            kept : (b : Bool) → cond (b && true) true false ≡ b
            kept true = refl
            kept false = refl
    chosen at other false unlike = left (at == time) (is_time at expiry)
      where
        left : (a b : Bool) → cond (a && false) false (cond (b && false) true (is_listed old at other)) ≡ is_listed old at other
        left true true = refl
        left true false = refl
        left false true = refl
        left false false = refl

-- a key whose expiry stays
pub relists-alike : (key : List ℕ) (old new : Expiry) (before after : Dues) → ListsAt before key old → same_expiry old new ≡ true
    → AreAlike before after → Relists key new before after
relists-alike key old new before after at same alike = λ time other. alike time other ∙ chosen time other (is_same_key other key) refl
  where
    equal : (a b : Expiry) (time : ℕ) → same_expiry a b ≡ true → is_time time a ≡ is_time time b
    equal Never Never time is = refl
    equal Never (At b) time is = cc
    equal (At a) Never time is = cc
    equal (At a) (At b) time is = ap (λ n. time == n) (eqb_is a b is)

    chosen : (time : ℕ) (other : List ℕ) (b : Bool) → is_same_key other key ≡ b
        → is_listed before time other ≡ cond b (is_time time new) (is_listed before time other)
    chosen time other true alike = ap (is_listed before time) (same_key other key alike) ∙ at time ∙ equal old new time same
    chosen time other false differs = refl

-- a key that was listed nowhere, and still isn't
pub relists-none : (key : List ℕ) (dues : Dues) → ListsAt dues key Never → Relists key Never dues dues
relists-none key dues nowhere = relists-alike key Never Never dues dues nowhere refl (λ time other. refl)

-- the first that is listed is taken off
pub struck_off : (old new : BTreeSet Due) (result : Option Due) → IfSome result (λ due. UpdatesBy by_due (by_due due) old new false)
    → IfSome result (λ due. (time : ℕ) (key : List ℕ)
    → list_any (λ k. is_eq (beside_due time key k)) new.keys
    ≡ cond ((time == due.time) && is_same_key key due.key.items) false (list_any (λ k. is_eq (beside_due time key k)) old.keys))
struck_off old new None updates = tt
struck_off old new (Some due) updates = listed_after due false old.keys new.keys updates.3 updates.1

-- where the first that is listed is later than a time, no key is listed at it
later : (first due : Due) (time : ℕ) → is_gt (by_due first due) ≡ false → time < first.time → (key : List ℕ)
    → is_eq (beside_due time key due) ≡ false
later first due time le before key = chosen (is_eq (beside_due time key due)) refl
  where
    order : (o : Ordering) (p : Ordering) → o ≡ nat_cmp first.time due.time → is_gt (ordering_then o p) ≡ false → first.time ≤ due.time
    order Less p is le = let lt = ranked first.time due.time Less is in omega arith
    order Equal p is le = let eq = ranked first.time due.time Equal is in omega arith
    order Greater p is le = cc

    chosen : (b : Bool) → is_eq (beside_due time key due) ≡ b → b ≡ false
    chosen true same =
        let tie = tied time key due same in
        let reached = order (nat_cmp first.time due.time) (slice_cmp nat_cmp first.key.items due.key.items) refl le in
        absurd (omega (arith, tie.time_is, reached, before))
    chosen false differs = refl

pub none_listed : (first : Due) (time : ℕ) (key : List ℕ) (keys : List Due) → All (λ due. is_gt (by_due first due) ≡ false) keys
    → time < first.time → list_any (λ k. is_eq (beside_due time key k)) keys ≡ false
none_listed first time key [] all before = refl
none_listed first time key (due ∷ keys) all before =
    let here = later first due time (All-head (λ due. is_gt (by_due first due) ≡ false) due keys all) before key in
    let there = none_listed first time key keys (All-tail (λ due. is_gt (by_due first due) ≡ false) due keys all) before in
    rw here there
