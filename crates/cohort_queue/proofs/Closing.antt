-- The seats of a Cohort are taken back into its first one.
use Rattle.std.proofs.Common.{◌≡◌, ℕ, ◌+◌, ◌<◌, ◌≤◌, List, [], ◌∷◌, ◌++◌, length, refl}
use Rattle.std.proofs.Common.{ap, sym, ◌∙◌, subst}
use Rattle.std.proofs.Common.{arith, Option, Some, slice_get, slice_index, append_assoc}
use Rattle.std.proofs.lemmas.List.{length-append, append-nil}
use Rattle.std.proofs.lemmas.Grind.{flat_map-append}
use Rattle.std.proofs.lemmas.Option.{slice_get_within}
use mathlib.Core.Logic.{dite}
use native.Mathlib.Decide.{ℕ_discrete}
use Rattle.crossbeam_queue.specs.Passes.{Pass, view, IsSamePass, IsPassOf}
use Rattle.crossbeam_queue.specs.declared.array_queue.Doing.{Doing}
use Rattle.crossbeam_queue.specs.declared.array_queue.Slotted.{Slotted}
use Rattle.cohort_queue.proofs.Counted.{hits_self, times_cons}
use Rattle.cohort_queue.specs.Numbers.{times, IsIn}
use Rattle.cohort_queue.specs.Seats.{seat_at, HasTag, IsClosed, IsSeat}
use Rattle.cohort_queue.specs.States.{CohortState, SeatState, IsSeatOf, AreAll, outs_of}
use Rattle.cohort_queue.specs.Steps.{with_other}
use Rattle.cohort_queue.specs.Views.{tagged_by, IsSpent, HasAll}
use Rattle.cohort_queue.specs.declared.view.View.{View}
use Rattle.cohort_queue.proofs.Giving.{has_tag}
use Rattle.cohort_queue.proofs.Splitting.{get_last, get_front, number_last, number_before}

-- these seats are left to take back into the one that is now the first
pub record Closing {J : Type 0} (c : CohortState) (first now : Pass J View) (all left : List SeatState) : Type 0 where
  pub pass : IsSamePass first now
  pub numbers : (view now).given ≡ c.numbers
  pub tag : (view now).tag ≡ tagged_by c.tag
  pub split : (view now).split ≡ c.seats
  pub outs : outs_of all ≡ outs_of left ++ (view now).outs
  pub some_left : length left < c.seats
  pub each : (k : ℕ) (s : SeatState) → slice_get left k ≡ Some s → IsSeatOf c s × (s.seat ≡ k + 1)
  pub own : IsIn 0 (view now).numbers
  pub taken : (k : ℕ) → length left < k → k < (view now).split → IsIn k (view now).numbers

outs_end : (left : List SeatState) (seat : SeatState) → outs_of (left ++ seat ∷ []) ≡ outs_of left ++ seat.outs
outs_end left seat = flat_map-append (λ (s : SeatState). s.outs) left (seat ∷ [])
    ∙ ap (λ (l : List ℕ). outs_of left ++ l) (append-nil seat.outs)

-- a list with one element
one_is : (l : List ℕ) → length l ≡ 1 → l ≡ slice_index l 0 ∷ []
one_is [] e = absurd (omega (arith, e))
one_is (x ∷ []) e = refl
one_is (x ∷ y ∷ ys) e = absurd (omega (arith, e))

-- the last seat, by which the jobs were given
pub last_seat : (c : CohortState) (all left : List SeatState) (f : SeatState) → AreAll c all → all ≡ left ++ f ∷ []
    → IsSeatOf c f × (f.seat ≡ 0) × (length left + 1 ≡ c.seats)
last_seat c all left f seats e =
    let long : length left + 1 ≡ c.seats =
    let a : length all ≡ length (left ++ f ∷ []) = ap length e in omega (arith, a, length-append left (f ∷ []), seats.all) in
    let there : slice_get all (length left) ≡ Some f = ap (λ (l : List SeatState). slice_get l (length left)) e ∙ get_last left f in
    let is = seats.each (length left) f there in
    (is.0, is.1 ∙ number_last c.seats (length left) (sym long), long)

module _ {J : Type 0} where
  pub none_taken : (c : CohortState) (all left : List SeatState) (f : SeatState) (first : Pass J View) → AreAll c all → all ≡ left ++ f ∷ []
      → seat_at first ≡ f → IsSeat first → Closing c first first all left
  none_taken c all left f first seats e is seated =
      let last = last_seat c all left f seats e in
      let of = last.0 in
      let zero_is : slice_index (view first).numbers 0 ≡ 0 = ap (λ (s : SeatState). s.seat) is ∙ last.1 in
      let numbers : (view first).numbers ≡ 0 ∷ [] = one_is (view first).numbers seated.one ∙ ap (λ n. n ∷ []) zero_is in
      let split : (view first).split ≡ c.seats = ap (λ (s : SeatState). s.counted) is ∙ of.counted_is last.1 in record {
        pass = (refl, refl, refl);
        numbers = ap (λ (s : SeatState). s.numbers) is ∙ of.numbers_are;
        tag = seated.tagged ∙ ap tagged_by (ap (λ (s : SeatState). s.tag) is ∙ of.tag_is);
        split = split;
        outs = ap outs_of e ∙ outs_end left f ∙ ap (λ (s : SeatState). outs_of left ++ s.outs) (sym is);
        some_left = omega (arith, last.2);
        each = λ k s at.
            let below = slice_get_within left k s at in
            let there = seats.each k s (ap (λ (l : List SeatState). slice_get l k) e ∙ get_front left f s k at) in
            (there.0, there.1 ∙ number_before c.seats k (omega (arith, below, last.2)));
        own = subst (λ (l : List ℕ). 1 ≤ times 0 l) (sym numbers) (omega (arith, times_cons 0 0 [], hits_self 0));
        taken = λ k past below. absurd (omega (arith, past, below, split, last.2));
      }

module _ {J Q A : Type 0} where
  pub closed : (queue : Slotted (Option J) (Doing J View) Q A) (first now : Pass J View) (c : CohortState) (all left : List SeatState)
      → IsPassOf queue first → first.id ≡ 0 → Closing c first now all left → 1 ≤ c.seats → left ≡ [] → IsClosed queue now
  closed queue first now c all left own is had some none =
      let empty : length left ≡ 0 = ap length none in record {
        own = (had.pass.0 ∙ own.0, had.pass.2 ∙ own.1);
        is_first = had.pass.1 ∙ is;
        tagged = has_tag (view now) c.tag had.tag;
        counts = omega (arith, had.split, some);
        all = λ k below. dite (ℕ_discrete k 0)
            (λ zero_is. subst (λ n. IsIn n (view now).numbers) (sym zero_is) had.own)
            (λ more. had.taken k (omega (arith, empty, more)) below);
      }

  pub still_closed : (queue : Slotted (Option J) (Doing J View) Q A) (old new : Pass J View) → IsClosed queue old → IsSamePass old new
      → ((outs : List ℕ) × (view new ≡ record (view old) { outs = outs })) → IsClosed queue new
  still_closed queue old new had same to = record {
    own = (same.0 ∙ had.own.0, same.2 ∙ had.own.1);
    is_first = same.1 ∙ had.is_first;
    tagged = subst HasTag (sym to.1) had.tagged;
    counts = subst (λ (v : View). 1 ≤ v.split) (sym to.1) had.counts;
    all = subst HasAll (sym to.1) had.all;
  }

module _ {J : Type 0} where
  pub one_taken : (c : CohortState) (first now next place : Pass J View) (all left : List SeatState) (seat : SeatState)
      (before : List SeatState)
      → Closing c first now all before → before ≡ left ++ seat ∷ [] → seat_at place ≡ seat → IsSeat place → IsSamePass now next
      → view next ≡ with_other (view now) (view place) → Closing c first next all left
  one_taken c first now next place all left seat before had e is seated same to =
      let long : length before ≡ length left + 1 = ap length e ∙ length-append left (seat ∷ []) in
      let there : slice_get before (length left) ≡ Some seat =
      ap (λ (l : List SeatState). slice_get l (length left)) e ∙ get_last left seat in
      let number : slice_index (view place).numbers 0 ≡ length left + 1 =
      ap (λ (s : SeatState). s.seat) is ∙ (had.each (length left) seat there).1 in
      let numbers : (view next).numbers ≡ (length left + 1) ∷ (view now).numbers =
      ap (λ (v : View). v.numbers) to ∙ ap (λ (l : List ℕ). l ++ (view now).numbers) (one_is (view place).numbers seated.one)
      ∙ ap (λ n. n ∷ (view now).numbers) number in
      let stays : (k : ℕ) → times k (view now).numbers ≤ times k (view next).numbers = λ k.
      let a : times k (view next).numbers ≡ times k ((length left + 1) ∷ (view now).numbers) = ap (λ (l : List ℕ). times k l) numbers in
      omega (arith, a, times_cons k (length left + 1) (view now).numbers) in
      let outs : (view next).outs ≡ seat.outs ++ (view now).outs =
      ap (λ (v : View). v.outs) to ∙ ap (λ (s : SeatState). s.outs ++ (view now).outs) is in record {
        pass = (same.0 ∙ had.pass.0, same.1 ∙ had.pass.1, same.2 ∙ had.pass.2);
        numbers = ap (λ (v : View). v.given) to ∙ had.numbers;
        tag = ap (λ (v : View). v.tag) to ∙ had.tag;
        split = ap (λ (v : View). v.split) to ∙ had.split;
        outs = had.outs ∙ ap (λ (l : List SeatState). outs_of l ++ (view now).outs) e
            ∙ ap (λ (l : List ℕ). l ++ (view now).outs) (outs_end left seat)
            ∙ append_assoc (outs_of left) seat.outs (view now).outs ∙ ap (λ (l : List ℕ). outs_of left ++ l) (sym outs);
        some_left = omega (arith, long, had.some_left);
        each = λ k s at. had.each k s (ap (λ (l : List SeatState). slice_get l k) e ∙ get_front left seat s k at);
        own = omega (arith, had.own, stays 0);
        taken = λ k past below. dite (ℕ_discrete k (length left + 1))
            (λ here. subst (λ n. IsIn n (view next).numbers) (sym here)
            (let a : times (length left + 1) (view next).numbers ≡ times (length left + 1) ((length left + 1) ∷ (view now).numbers) =
            ap (λ (l : List ℕ). times (length left + 1) l) numbers in
            omega (arith, a, times_cons (length left + 1) (length left + 1) (view now).numbers, hits_self (length left + 1))))
            (λ else.
            let was : IsIn k (view now).numbers = had.taken k (omega (arith, long, past, else))
            (subst (λ n. k < n) (ap (λ (v : View). v.split) to) below) in
            omega (arith, was, stays k));
      }

  pub live_closing : (c : CohortState) (first now : Pass J View) (all left : List SeatState) → Closing c first now all left
      → ¬ IsSpent (view now)
  live_closing c first now all left had e =
      let none : times 0 (view now).numbers ≡ 0 = ap (λ (l : List ℕ). times 0 l) e in absurd (omega (arith, none, had.own))

  pub last_is_of : (c : CohortState) (first now : Pass J View) (all left before : List SeatState) (seat : SeatState)
      → Closing c first now all before
      → before ≡ left ++ seat ∷ [] → IsSeatOf c seat
  last_is_of c first now all left before seat had e =
      (had.each (length left) seat (ap (λ (l : List SeatState). slice_get l (length left)) e ∙ get_last left seat)).0
