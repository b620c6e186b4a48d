-- The seats of a new Cohort are split off its first one.
use Rattle.std.proofs.Common.{◌≡◌, ◌⊎◌, ℕ, zero, suc, ◌+◌, ◌<◌, ◌≤◌, List, [], ◌∷◌, ◌++◌, length, map, refl}
use Rattle.std.proofs.Common.{ap, sym, ◌∙◌, subst, ⊎_elim}
use Rattle.std.proofs.Common.{arith, inl, inr, All, Option, Some, slice_get, slice_index, get_or}
use Rattle.std.proofs.lemmas.List.{length-append, length-map}
use Rattle.std.proofs.lemmas.List.Elements.{All-push}
use Rattle.std.proofs.lemmas.Option.{slice_get_within, slice_get-get_or}
use Rattle.std.proofs.lemmas.Bool.Decides.{nat_tests}
use Rattle.crossbeam_queue.specs.Passes.{Pass, view, IsSamePass, IsPassOf, ruled_capacity}
use Rattle.crossbeam_queue.specs.declared.array_queue.Doing.{Doing}
use Rattle.crossbeam_queue.specs.declared.array_queue.Slotted.{Slotted}
use Rattle.lock_rules.specs.Tag.{Tag}
use Rattle.cohort_queue.proofs.Kept.{no_first}
use Rattle.cohort_queue.specs.Jobs.{IsGiven, IsUnsplit}
use Rattle.cohort_queue.specs.Seats.{cohort_at, seat_at, seat_state, HasTag, IsOpen, IsSeat}
use Rattle.cohort_queue.specs.States.{CohortState, SeatState, IsSeatOf, AreAll, new_seat, number_at}
use Rattle.cohort_queue.specs.Steps.{counting_one_more, split_off}
use Rattle.cohort_queue.specs.Views.{tag_in, IsSpent}
use Rattle.cohort_queue.specs.declared.view.View.{View}
use Rattle.cohort_queue.proofs.Giving.{given_tag}

module _ {X : Type 0} where
  pub get_end : (xs : List X) (x y : X) (k : ℕ) → slice_get (xs ++ x ∷ []) k ≡ Some y
      → (slice_get xs k ≡ Some y) ⊎ ((k ≡ length xs) × (x ≡ y))
  get_end [] x y zero e = inr (refl, cc)
  get_end [] x y (suc k) e = absurd (cc)
  get_end (z ∷ zs) x y zero e = inl e
  get_end (z ∷ zs) x y (suc k) e = ⊎_elim (λ t. inl t) (λ (t : (k ≡ length zs) × (x ≡ y)). inr (ap suc t.0, t.1)) (get_end zs x y k e)

  pub get_last : (xs : List X) (x : X) → slice_get (xs ++ x ∷ []) (length xs) ≡ Some x
  get_last [] x = refl
  get_last (z ∷ zs) x = get_last zs x

  pub get_front : (xs : List X) (x y : X) (k : ℕ) → slice_get xs k ≡ Some y → slice_get (xs ++ x ∷ []) k ≡ Some y
  get_front [] x y k e = absurd (cc)
  get_front (z ∷ zs) x y zero e = e
  get_front (z ∷ zs) x y (suc k) e = get_front zs x y k e

module _ {J : Type 0} where
  -- so many seats were split off
  pub record Splitting (first now : Pass J View) (count : ℕ) (seats : List SeatState) : Type 0 where
    pub pass : IsSamePass first now
    pub view_is : view now ≡ record (view first) { split = count + 1 }
    pub many : length seats ≡ count
    pub each : (k : ℕ) (s : SeatState) → slice_get seats k ≡ Some s → s ≡ new_seat (cohort_at first) k

  pub split_seat : (place : Pass J View) (v : View) → view place ≡ split_off v → place.me.1 ≡ [] → HasTag v → 1 ≤ v.split
      → IsSeat place
  split_seat place v e empty tagged some = record {
    empty = empty;
    one = ap (λ (u : View). length u.numbers) e;
    tagged = subst HasTag (sym e) tagged;
    first = λ z. absurd (let n : slice_index (view place).numbers 0 ≡ v.split = ap (λ (u : View). slice_index u.numbers 0) e in
        omega (arith, z, n, some));
  }

  pub one_more_seat : (first now next place : Pass J View) (count : ℕ) (seats : List SeatState) → Splitting first now count seats
      → IsSamePass now next → view next ≡ counting_one_more (view now) → place.table_id ≡ now.table_id → view place ≡ split_off (view now)
      → Splitting first next (count + 1) (seats ++ seat_at place ∷ [])
  one_more_seat first now next place count seats had same next_is table place_is = record {
    pass = (same.0 ∙ had.pass.0, same.1 ∙ had.pass.1, same.2 ∙ had.pass.2);
    view_is = next_is ∙ ap counting_one_more had.view_is;
    many = let a = length-append seats (seat_at place ∷ []) in omega (arith, a, had.many);
    each = λ k s e. ⊎_elim (λ t. had.each k s t)
        (λ (t : (k ≡ length seats) × (seat_at place ≡ s)).
        let v : view place ≡ split_off (record (view first) { split = count + 1 }) = place_is ∙ ap split_off had.view_is in
        let z = table ∙ had.pass.0 in
        let n : count ≡ k = sym (t.0 ∙ had.many) in
        sym t.1 ∙ (λ i. seat_state (z i) (v i))
        ∙ ap (new_seat (cohort_at first)) n)
        (get_end seats (seat_at place) s k e);
  }

  pub none_split : (first : Pass J View) (seats : List SeatState) → IsUnsplit (view first) → seats ≡ [] → Splitting first first 0 seats
  none_split first seats unsplit none = record {
    pass = (refl, refl, refl);
    view_is = λ i. record (view first) { split = unsplit.first i };
    many = ap length none;
    each = λ k s e. absurd (let x : slice_get [] k ≡ Some s = ap (λ (l : List SeatState). slice_get l k) (sym none) ∙ e in cc);
  }

  pub live_split : (first now : Pass J View) (count : ℕ) (seats : List SeatState) → Splitting first now count seats → IsUnsplit (view first)
      → ¬ IsSpent (view now)
  live_split first now count seats had unsplit e = no_first (sym unsplit.alone ∙ sym (ap (λ (v : View). v.numbers) had.view_is) ∙ e)

  pub split_count : (first now : Pass J View) (count : ℕ) (seats : List SeatState) → Splitting first now count seats → 1 ≤ (view now).split
  split_count first now count seats had = subst (λ (v : View). 1 ≤ v.split) (sym had.view_is) (omega arith)

  pub split_tag : (first now : Pass J View) (count : ℕ) (seats : List SeatState) → Splitting first now count seats → HasTag (view first)
      → HasTag (view now)
  split_tag first now count seats had tagged = subst HasTag (sym had.view_is) tagged

pub none_out : (c : CohortState) (seats : List SeatState) → ((k : ℕ) (s : SeatState) → slice_get seats k ≡ Some s → s ≡ new_seat c k)
    → All (λ s. s.outs ≡ []) seats
none_out c seats each k d below = ap (λ (s : SeatState). s.outs) (each k (get_or seats k d) (slice_get-get_or seats k d below))

-- the number of the last seat, and of those before it
pub number_last : (n k : ℕ) → n ≡ k + 1 → number_at n k ≡ 0
number_last n k e = grind (arith, nat_tests)

pub number_before : (n k : ℕ) → k + 1 < n → number_at n k ≡ k + 1
number_before n k h = grind (arith, nat_tests)

-- what the first seat knows once all others were split off
pub record AllSplit {J : Type 0} (given split : Pass J View) (count : ℕ) (seats : List SeatState) : Type 0 where
  pub pass : IsSamePass given split
  pub view_is : view split ≡ record (view given) { split = count + 1 }
  pub many : length seats ≡ count
  pub each : (k : ℕ) (s : SeatState) → slice_get seats k ≡ Some s → s ≡ new_seat (cohort_at given) k

module _ {J : Type 0} where
  pub first_seat : (given split : Pass J View) (count : ℕ) (seats : List SeatState) → AllSplit given split count seats
      → IsUnsplit (view given) → HasTag (view given) → given.id ≡ 0 → given.me.1 ≡ [] → IsSeat split
  first_seat given split count seats all unsplit tagged is empty =
      let numbers : (view split).numbers ≡ 0 ∷ [] = ap (λ (v : View). v.numbers) all.view_is ∙ unsplit.alone in record {
        empty = all.pass.2 ∙ empty;
        one = ap length numbers;
        tagged = subst HasTag (sym all.view_is) tagged;
        first = λ e. all.pass.1 ∙ is;
      }

  pub all_seats : (given split : Pass J View) (count : ℕ) (seats : List SeatState) → AllSplit given split count seats
      → IsUnsplit (view given) → AreAll (cohort_at split) (seats ++ seat_at split ∷ [])
  all_seats given split count seats all unsplit =
      let c = cohort_at split in
      let n : c.seats ≡ count + 1 = ap (λ (v : View). v.split) all.view_is in
      let zero_is : slice_index (view split).numbers 0 ≡ 0 =
      ap (λ (v : View). slice_index v.numbers 0) all.view_is ∙ ap (λ (l : List ℕ). slice_index l 0) unsplit.alone in
      let same : (k : ℕ) → new_seat (cohort_at given) k ≡ new_seat c k = λ k i. record {
        name = sym all.pass.0 i;
        numbers = (sym all.view_is i).given;
        tag = tag_in (sym all.view_is i).tag;
        seat = k + 1;
        counted = 0;
        outs = [];
      } in record {
        all = let a = length-append seats (seat_at split ∷ []) in omega (arith, a, all.many, n);
        each = λ k s e. ⊎_elim
            (λ t.
            let is : s ≡ new_seat c k = all.each k s t ∙ same k in
            let below = slice_get_within seats k s t in
            let before = number_before c.seats k (omega (arith, below, all.many, n)) in
            subst (λ (s : SeatState). IsSeatOf c s × (s.seat ≡ number_at c.seats k)) (sym is)
            (record { name_is = refl; numbers_are = refl; tag_is = refl; counted_is = λ z. absurd (omega (arith, z)) }, sym before))
            (λ (t : (k ≡ length seats) × (seat_at split ≡ s)).
            let last = number_last c.seats k (omega (arith, t.0, all.many, n)) in
            subst (λ (s : SeatState). IsSeatOf c s × (s.seat ≡ number_at c.seats k)) t.1
            (record { name_is = refl; numbers_are = refl; tag_is = refl; counted_is = λ z. refl }, zero_is ∙ sym last))
            (get_end seats (seat_at split) s k e);
      }

  pub all_empty : (given split : Pass J View) (count : ℕ) (seats : List SeatState) → AllSplit given split count seats
      → IsUnsplit (view given) → All (λ s. s.outs ≡ []) (seats ++ seat_at split ∷ [])
  all_empty given split count seats all unsplit = All-push (λ (s : SeatState). s.outs ≡ []) seats (seat_at split)
      (none_out (cohort_at given) seats all.each) (ap (λ (v : View). v.outs) all.view_is ∙ unsplit.none_out)

module _ {J Q A : Type 0} where
  pub opened : (queue : Slotted (Option J) (Doing J View) Q A) (given split : Pass J View) (number : J → ℕ) (tag_of : J → Tag)
      (jobs : List J) (count : ℕ) (seats : List SeatState) → IsPassOf queue given → length jobs ≡ ruled_capacity queue → 0 < length jobs
      → IsGiven tag_of number jobs (view given) → AllSplit given split count seats → IsOpen queue split
  opened queue given split number tag_of jobs count seats own long some is all = record {
    own = (all.pass.0 ∙ own.0, all.pass.2 ∙ own.1);
    room = subst (λ (v : View). length v.given ≤ ruled_capacity queue) (sym all.view_is)
        (let a : length (view given).given ≡ length (map number jobs) = ap length is.given in
        omega (arith, a, length-map jobs number, long));
    tagged = subst HasTag (sym all.view_is) (given_tag number tag_of jobs (view given) some is);
    counts = subst (λ (v : View). 1 ≤ v.split) (sym all.view_is) (omega arith);
  }
