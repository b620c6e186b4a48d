-- A place at a Cohort as its thread takes jobs, puts them back and keeps them.
use Rattle.std.proofs.Common.{◌≡◌, ◌≤◌, ℕ, List, [], ◌∷◌, ◌++◌, length, map, ap, sym, ◌∙◌, subst, Option, Some, slice_set}
use Rattle.std.proofs.lemmas.List.{map-append}
use Rattle.std.proofs.lemmas.List.{length-set}
use Rattle.std.specs.Prelude.{slice_get, vec_capacity}
use Rattle.std.specs.Vec.{with_item}
use mathlib.Core.Logic.{dite}
use native.Mathlib.Decide.{ℕ_discrete}
use Rattle.lock_rules.specs.Tag.{Tag}
use Rattle.cohort_queue.specs.Numbers.{IsIn, without}
use Rattle.cohort_queue.specs.States.{CohortState, IsSeatOf, SeatState}
use Rattle.cohort_desks.specs.declared.desk.Place.{Place}
use Rattle.cohort_desks.specs.declared.desk.Desk.{Desk}
use Rattle.cohort_desks.specs.Desks.{AreJobsOf, HasTaken, HasTakenAt, IsDesk, IsPlace, IsSeatAt}
use Rattle.cohort_desks.proofs.Items.{get_set_other, one_more_item, set_is}
use Rattle.cohort_desks.proofs.Numbers.{without_last}

-- a seat is of its Cohort whatever it has out
pub still_seat : (c : CohortState) (s t : SeatState) (outs : List ℕ) → IsSeatOf c s → t ≡ record s { outs = outs } → IsSeatOf c t
still_seat c s t outs is same = subst (IsSeatOf c) (sym same) (record {
  name_is = is.name_is;
  numbers_are = is.numbers_are;
  tag_is = is.tag_is;
  counted_is = is.counted_is;
})

module _ {J : Type 0} (number : J → ℕ) (tag_of : J → Tag) where
  -- the job went back
  pub put_back : (c : CohortState) (p q : Place J) (x : ℕ) (tag : Tag) → HasTaken number tag_of c p x tag
      → q.seat ≡ record p.seat { outs = without x p.seat.outs } → q.kept ≡ p.kept → IsPlace number tag_of c q
  put_back c p q x tag had seat kept = record {
    seat_is = still_seat c p.seat q.seat (without x p.seat.outs) had.seat_is seat;
    outs = ap (λ (s : SeatState). s.outs) seat ∙ ap (without x) had.outs ∙ without_last x (map number p.kept.items) had.new
        ∙ ap (λ (v : _). map number v.items) (sym kept);
    kept_are = subst (λ (v : _). AreJobsOf number tag_of c v.items) (sym kept) had.kept_are;
    room = subst (λ (v : _). length c.numbers ≤ vec_capacity v) (sym kept) had.room_for_all;
  }

  -- the job was kept
  pub keep : (c : CohortState) (p q : Place J) (job : J) → HasTaken number tag_of c p (number job) (tag_of job) → q.seat ≡ p.seat
      → q.kept.items ≡ p.kept.items ++ job ∷ [] → vec_capacity q.kept ≡ vec_capacity p.kept → IsPlace number tag_of c q
  keep c p q job had seat items room = record {
    seat_is = subst (IsSeatOf c) (sym seat) had.seat_is;
    outs = ap (λ (s : SeatState). s.outs) seat ∙ had.outs ∙ sym (map-append number p.kept.items (job ∷ [])) ∙ ap (map number) (sym items);
    kept_are = one_more_item (λ (i : ℕ) (j : J). IsIn (number j) c.numbers × (tag_of j ≡ c.tag)) p.kept.items q.kept.items job items
        had.kept_are
        (had.known, had.tag_is);
    room = subst (λ (n : ℕ). length c.numbers ≤ n) (sym room) had.room_for_all;
  }

  module _ (cohorts : List CohortState) (d : Desk J) (at : ℕ) (c : CohortState) (p q : Place J)
      (cohort_at : slice_get cohorts at ≡ Some c) (place_at : slice_get d.places.items at ≡ Some p) (same_seat : q.seat.seat ≡
      p.seat.seat) where
    after : Desk J
    after = record { number = d.number; places = with_item d.places at q }

    -- what is known of the place that was written holds of the one there
    here_is : (Q : CohortState → Place J → Type 0) → Q c q → (c' : CohortState) (p' : Place J) → slice_get cohorts at ≡ Some c'
        → slice_get (slice_set d.places.items at q) at ≡ Some p' → Q c' p'
    here_is Q is c' p' e f =
        let both : ◌≡◌ {A = Option CohortState} (Some c) (Some c') = sym cohort_at ∙ e in
        let same : c ≡ c' = cc in
        subst (λ (k : CohortState). Q k p') same (subst (Q c) (set_is d.places.items at q p' f) is)

    pub taken_there : (x : ℕ) (tag : Tag) → IsDesk number tag_of cohorts d → HasTaken number tag_of c q x tag
        → HasTakenAt number tag_of cohorts (record { number = d.number; places = with_item d.places at q }) at x tag
    taken_there x tag is taken = record {
      many = length-set d.places.items at q ∙ is.many;
      here = here_is (λ k r. HasTaken number tag_of k r x tag × IsSeatAt number tag_of d.number k r)
          (taken, same_seat ∙ (is.each at c p cohort_at place_at).1);
      others = λ i c' p' other e f. is.each i c' p' e (sym (get_set_other d.places.items at i q other) ∙ f);
    }

    pub none_there : IsDesk number tag_of cohorts d → IsPlace number tag_of c q
        → IsDesk number tag_of cohorts (record { number = d.number; places = with_item d.places at q })
    none_there is place = record {
      many = length-set d.places.items at q ∙ is.many;
      each = λ i c' p' e f. dite (ℕ_discrete i at)
          (λ same. here_is (λ k r. IsPlace number tag_of k r × IsSeatAt number tag_of d.number k r)
          (place, same_seat ∙ (is.each at c p cohort_at place_at).1) c' p' (ap (slice_get cohorts) (sym same) ∙ e)
          (ap (slice_get (slice_set d.places.items at q)) (sym same) ∙ f))
          (λ other. is.each i c' p' e (sym (get_set_other d.places.items at i q other) ∙ f));
    }

    pub settled_there : (x : ℕ) (tag : Tag) → HasTakenAt number tag_of cohorts d at x tag → IsPlace number tag_of c q
        → IsDesk number tag_of cohorts (record { number = d.number; places = with_item d.places at q })
    settled_there x tag is place = record {
      many = length-set d.places.items at q ∙ is.many;
      each = λ i c' p' e f. dite (ℕ_discrete i at)
          (λ same. here_is (λ k r. IsPlace number tag_of k r × IsSeatAt number tag_of d.number k r)
          (place, same_seat ∙ (is.here c p cohort_at place_at).1) c' p' (ap (slice_get cohorts) (sym same) ∙ e)
          (ap (slice_get (slice_set d.places.items at q)) (sym same) ∙ f))
          (λ other. is.others i c' p' other e (sym (get_set_other d.places.items at i q other) ∙ f));
    }
