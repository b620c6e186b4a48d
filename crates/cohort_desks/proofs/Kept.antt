-- A hall as Cohorts are made and taken apart.
use Rattle.std.proofs.Common.{
  ◌≡◌,
  ◌<◌,
  ◌≤◌,
  ◌⊎◌,
  ℕ,
  ◌+◌,
  List,
  [],
  ◌∷◌,
  ◌++◌,
  length,
  map,
  get_or,
  refl,
  ap,
  sym,
  ◌∙◌,
  arith,
  inl,
  inr,
  subst,
  Option,
  Some,
}
use Rattle.std.proofs.lemmas.Option.{slice_get-get_or}
use Rattle.std.specs.Prelude.{All, slice_get, vec_capacity}
use Rattle.std.specs.declared.vec.Vec.{Vec}
use Rattle.std.specs.declared.alloc.Global.{Global}
use Rattle.std.proofs.Common.{suc}
use Rattle.std.proofs.lemmas.Bool.Decides.{nat_tests}
use mathlib.Core.Logic.{dite}
use native.Mathlib.Decide.{ℕ_discrete}
use Rattle.lock_rules.specs.Tag.{Tag}
use Rattle.cohort_queue.specs.Jobs.{HaveOneTag}
use Rattle.cohort_queue.specs.Numbers.{IsIn}
use Rattle.cohort_queue.specs.States.{CohortState, SeatState}
use Rattle.cohort_queue.proofs.Counted.{hits, times_cons}
use Rattle.cohort_desks.specs.declared.desk.Desk.{Desk}
use Rattle.cohort_desks.specs.declared.hall.Hall.{Hall}
use Rattle.cohort_desks.specs.Desks.{AreDesks}
use Rattle.cohort_desks.specs.Halls.{HasRoomFor, IsCohortOf, IsGiven, IsHall}
use Rattle.cohort_desks.specs.Slots.{AreFit, AreOwn, HasGathered, IsFull}
use Rattle.cohort_desks.proofs.Items.{get_end, get_last, get_longer, in_front, at_end, length_more, one_more_item}

-- a number of one of the Cohorts is one of the last Cohort's or of one before it
given_case : (cohorts : List CohortState) (c k : CohortState) (i x : ℕ) → IsIn x k.numbers
    → (slice_get cohorts i ≡ Some k) ⊎ ((i ≡ length cohorts) × (c ≡ k)) → IsGiven cohorts x ⊎ IsIn x c.numbers
given_case cohorts c k i x is (inl at) = inl (record { place = i; cohort = k; at = at; given = is })
given_case cohorts c k i x is (inr end) = inr (subst (λ (m : CohortState). IsIn x m.numbers) (sym end.1) is)

pub given_less : (all front : List CohortState) (c : CohortState) (x : ℕ) → all ≡ front ++ c ∷ [] → IsGiven all x
    → IsGiven front x ⊎ IsIn x c.numbers
given_less all front c x cut is =
    given_case front c is.cohort is.place x is.given
    (get_end front c is.place is.cohort (ap (λ (l : List CohortState). slice_get l is.place) (sym cut) ∙ is.at))

pub given_longer : (front all : List CohortState) (c : CohortState) (x : ℕ) → all ≡ front ++ c ∷ [] → IsGiven front x → IsGiven all x
given_longer front all c x cut is = record {
  place = is.place;
  cohort = is.cohort;
  at = ap (λ (l : List CohortState). slice_get l is.place) cut ∙ get_longer front (c ∷ []) is.place is.cohort is.at;
  given = is.given;
}

pub given_last : (front all : List CohortState) (c : CohortState) (x : ℕ) → all ≡ front ++ c ∷ [] → IsIn x c.numbers → IsGiven all x
given_last front all c x cut is = record {
  place = length front;
  cohort = c;
  at = ap (λ (l : List CohortState). slice_get l (length front)) cut ∙ get_last front c;
  given = is;
}

same_cohort : (tag : Tag) (limit limit' threads threads' : ℕ) (c : CohortState) → limit' ≡ limit → threads' ≡ threads
    → IsCohortOf tag limit threads c → IsCohortOf tag limit' threads' c
same_cohort tag limit limit' threads threads' c same as_many is = record {
  tag_is = is.tag_is;
  seats_are = is.seats_are ∙ sym as_many;
  within = λ x given. subst (λ (n : ℕ). x < n) (sym same) (is.within x given);
}

pub room_less : {J : Type 0} (m n : ℕ) (hall : Hall J) → m ≤ n → HasRoomFor n hall → HasRoomFor m hall
room_less {J} m n hall less room = record {
  for_cohorts = let r = room.for_cohorts in omega (arith, less, r);
  for_lists = let r = room.for_lists in omega (arith, less, r);
  at_desks = λ k d e. let r = room.at_desks k d e in omega (arith, less, r);
}

module _ {J : Type 0} (number : J → ℕ) (tag_of : J → Tag) (tag : Tag) where
  -- jobs with slots have numbers below the number of slots
  pub in_map : (jobs : List J) (limit x : ℕ) → AreFit number tag_of tag limit jobs → IsIn x (map number jobs) → x < limit
  in_map [] limit x fit is = absurd (omega (arith, is))
  in_map (job ∷ jobs) limit x fit is = dite (ℕ_discrete x (number job))
      (λ same. subst (λ (n : ℕ). n < limit) (sym same) (fit 0 job refl).0)
      (λ other. in_map jobs limit x (λ i one e. fit (suc i) one e)
      (let a = times_cons x (number job) (map number jobs) in
      let none : hits (number job) x ≡ 0 = grind (arith, nat_tests) in omega (arith, a, none, is)))

  -- they have one tag
  pub have_one_tag : (jobs : List J) (limit : ℕ) → AreFit number tag_of tag limit jobs → HaveOneTag tag_of jobs
  have_one_tag jobs limit fit = record { tag = tag; each = λ i d within. (fit i (get_or jobs i d) (slice_get-get_or jobs i d within)).1 }

  -- a Cohort that was made of some of them has that tag
  pub tag_told : (jobs : List J) (limit : ℕ) (c : CohortState) → AreFit number tag_of tag limit jobs → 0 < length jobs
      → All (λ j. tag_of j ≡ c.tag) jobs → c.tag ≡ tag
  tag_told [] limit c fit some told = absurd (omega (arith, some))
  tag_told (job ∷ jobs) limit c fit some told = sym (told 0 job some) ∙ (fit 0 job refl).1

  -- other jobs are in their slots
  pub other_slots : (missing missing' : List ℕ) (hall : Hall J) (slots : Vec (Option J) Global) → IsHall number tag_of tag missing hall
      → length slots.items ≡ length hall.slots.items
      → AreOwn number tag_of tag slots.items
      → ((x : ℕ) → IsFull number tag_of tag hall.slots.items x ⊎ IsIn x missing → IsFull number tag_of tag slots.items x ⊎ IsIn x missing')
      → IsHall number tag_of tag missing' (record { cohorts = hall.cohorts; desks = hall.desks; emptied = hall.emptied; slots = slots })
  other_slots missing missing' hall slots is many own there = record {
    own = own;
    cohorts_are = λ i c e. same_cohort tag (length hall.slots.items) (length slots.items) (length hall.desks.items) (length
        hall.desks.items) c
        many refl (is.cohorts_are i c e);
    known = λ x within. on x (is.known x (subst (λ (n : ℕ). x < n) many within));
    desks_are = is.desks_are;
    lists_many = is.lists_many;
    lists_empty = is.lists_empty;
  }
    where
      turn : (x : ℕ) → IsFull number tag_of tag slots.items x ⊎ IsIn x missing'
          → IsFull number tag_of tag slots.items x ⊎ (IsGiven hall.cohorts.items x ⊎ IsIn x missing')
      turn x (inl full) = inl full
      turn x (inr out) = inr (inr out)

      on : (x : ℕ) → IsFull number tag_of tag hall.slots.items x ⊎ (IsGiven hall.cohorts.items x ⊎ IsIn x missing)
          → IsFull number tag_of tag slots.items x ⊎ (IsGiven hall.cohorts.items x ⊎ IsIn x missing')
      on x (inl full) = turn x (there x (inl full))
      on x (inr (inl given)) = inr (inl given)
      on x (inr (inr out)) = turn x (there x (inr out))

  -- the jobs that were missing were given to a new Cohort
  pub one_cohort_more : (hall : Hall J) (c : CohortState) (cohorts : Vec CohortState Global) (desks : Vec (Desk J) Global)
      (emptied : Vec (Vec SeatState Global) Global) (list : Vec SeatState Global) → IsHall number tag_of tag c.numbers hall
      → IsCohortOf tag (length hall.slots.items) (length hall.desks.items) c → cohorts.items ≡ hall.cohorts.items ++ c ∷ []
      → AreDesks number tag_of (hall.cohorts.items ++ c ∷ []) c.seats desks.items → emptied.items ≡ hall.emptied.items ++ list ∷ []
      → list.items ≡ [] → c.seats ≤ vec_capacity list
      → IsHall number tag_of tag [] (record { cohorts = cohorts; desks = desks; emptied = emptied; slots = hall.slots })
  one_cohort_more hall c cohorts desks emptied list is of more are lists empty room = record {
    own = is.own;
    cohorts_are = λ i k e. same_cohort tag (length hall.slots.items) (length hall.slots.items) (length hall.desks.items) (length
        desks.items) k
        refl threads
        (one_more_item (λ (i : ℕ) (k : CohortState). IsCohortOf tag (length hall.slots.items) (length hall.desks.items) k)
        hall.cohorts.items
        cohorts.items c more is.cohorts_are of i k e);
    known = λ x within. on x (is.known x within);
    desks_are = subst (λ (l : List CohortState). AreDesks number tag_of l (length desks.items) desks.items) (sym more)
        (subst (λ (n : ℕ). AreDesks number tag_of (hall.cohorts.items ++ c ∷ []) n desks.items) (sym are.all) are);
    lists_many = length_more hall.emptied.items emptied.items list lists ∙ ap (λ (n : ℕ). n + 1) is.lists_many
        ∙ sym (length_more hall.cohorts.items cohorts.items c more);
    lists_empty = one_more_item (λ (i : ℕ) (v : Vec SeatState Global). (v.items ≡ []) × (length desks.items ≤ vec_capacity v))
        hall.emptied.items
        emptied.items list lists
        (λ i v e. ((is.lists_empty i v e).0, subst (λ (n : ℕ). n ≤ vec_capacity v) (sym threads) (is.lists_empty i v e).1))
        (empty, subst (λ (n : ℕ). n ≤ vec_capacity list) (sym are.all) room);
  }
    where
      threads : length desks.items ≡ length hall.desks.items
      threads = are.all ∙ of.seats_are

      on : (x : ℕ) → IsFull number tag_of tag hall.slots.items x ⊎ (IsGiven hall.cohorts.items x ⊎ IsIn x c.numbers)
          → IsFull number tag_of tag hall.slots.items x ⊎ (IsGiven cohorts.items x ⊎ IsIn x [])
      on x (inl full) = inl full
      on x (inr (inl given)) = inr (inl (given_longer hall.cohorts.items cohorts.items c x more given))
      on x (inr (inr here)) = inr (inl (given_last hall.cohorts.items cohorts.items c x more here))

  -- the last Cohort was taken apart
  pub one_cohort_less : (hall : Hall J) (c : CohortState) (cohorts : Vec CohortState Global) (desks : Vec (Desk J) Global)
      (emptied : Vec (Vec SeatState Global) Global) (list : Vec SeatState Global) (slots : Vec (Option J) Global)
      → IsHall number tag_of tag [] hall → hall.cohorts.items ≡ cohorts.items ++ c ∷ [] → hall.emptied.items ≡ emptied.items ++ list ∷ []
      → AreDesks number tag_of cohorts.items (length hall.desks.items) desks.items → length slots.items ≡ length hall.slots.items
      → AreOwn number tag_of tag slots.items
      → ((x : ℕ) → IsFull number tag_of tag hall.slots.items x ⊎ IsIn x c.numbers → IsFull number tag_of tag slots.items x)
      → IsHall number tag_of tag [] (record { cohorts = cohorts; desks = desks; emptied = emptied; slots = slots })
  one_cohort_less hall c cohorts desks emptied list slots is cut lists are many own there = record {
    own = own;
    cohorts_are = λ i k e. same_cohort tag (length hall.slots.items) (length slots.items) (length hall.desks.items) (length desks.items) k
        many are.all
        (in_front (λ (i : ℕ) (k : CohortState). IsCohortOf tag (length hall.slots.items) (length hall.desks.items) k) hall.cohorts.items
        cohorts.items c cut is.cohorts_are i k e);
    known = λ x within. on x (is.known x (subst (λ (n : ℕ). x < n) many within));
    desks_are = subst (λ (n : ℕ). AreDesks number tag_of cohorts.items n desks.items) (sym are.all) are;
    lists_many =
        let a = length_more cohorts.items hall.cohorts.items c cut in
        let b = length_more emptied.items hall.emptied.items list lists in
        let e = is.lists_many in omega (arith, a, b, e);
    lists_empty = λ i v e. let was = in_front (λ (i : ℕ) (v : Vec SeatState Global). (v.items ≡ []) × (length hall.desks.items ≤
        vec_capacity v))
        hall.emptied.items emptied.items list lists is.lists_empty i v e in
        (was.0, subst (λ (n : ℕ). n ≤ vec_capacity v) (sym are.all) was.1);
  }
    where
      given : (x : ℕ) → IsGiven cohorts.items x ⊎ IsIn x c.numbers
          → IsFull number tag_of tag slots.items x ⊎ (IsGiven cohorts.items x ⊎ IsIn x [])
      given x (inl before) = inr (inl before)
      given x (inr here) = inl (there x (inr here))

      on : (x : ℕ) → IsFull number tag_of tag hall.slots.items x ⊎ (IsGiven hall.cohorts.items x ⊎ IsIn x [])
          → IsFull number tag_of tag slots.items x ⊎ (IsGiven cohorts.items x ⊎ IsIn x [])
      on x (inl full) = inl (there x (inl full))
      on x (inr (inl one)) = given x (given_less hall.cohorts.items cohorts.items c x cut one)
      on x (inr (inr none_in)) = inr (inr none_in)

  -- once no Cohort is left
  pub all_full : (hall : Hall J) → IsHall number tag_of tag [] hall → hall.cohorts.items ≡ [] → (x : ℕ) → x < length hall.slots.items
      → IsFull number tag_of tag hall.slots.items x
  all_full hall is none x within = on (is.known x within)
    where
      on : IsFull number tag_of tag hall.slots.items x ⊎ (IsGiven hall.cohorts.items x ⊎ IsIn x []) → IsFull number tag_of tag
          hall.slots.items x
      on (inl full) = full
      on (inr (inl given)) = absurd (let no : slice_get [] given.place ≡ Some given.cohort =
          ap (λ (l : List CohortState). slice_get l given.place) (sym none) ∙ given.at in cc)
      on (inr (inr none_in)) = absurd (omega (arith, none_in))

  -- before any Cohort is made
  pub seated : (hall : Hall J) (slots : Vec (Option J) Global) → hall.cohorts.items ≡ [] → hall.emptied.items ≡ []
      → AreDesks number tag_of [] (length hall.desks.items) hall.desks.items → AreOwn number tag_of tag slots.items
      → ((x : ℕ) → x < length slots.items → IsFull number tag_of tag slots.items x)
      → IsHall number tag_of tag [] (record { cohorts = hall.cohorts; desks = hall.desks; emptied = hall.emptied; slots = slots })
  seated hall slots none no_list are own full = record {
    own = own;
    cohorts_are = λ i c e. absurd (let no : slice_get [] i ≡ Some c = ap (λ (l : List CohortState). slice_get l i) (sym none) ∙ e in cc);
    known = λ x within. inl (full x within);
    desks_are = subst (λ (l : List CohortState). AreDesks number tag_of l (length hall.desks.items) hall.desks.items) (sym none) are;
    lists_many = ap length no_list ∙ sym (ap length none);
    lists_empty = λ i v e. absurd (let no : slice_get [] i ≡ Some v = ap (λ (l : List (Vec SeatState Global)). slice_get l i) (sym
        no_list) ∙ e in cc);
  }

  -- the jobs of a home are missing
  pub gone_home : (old new : List (Option J)) (jobs : List J) → HasGathered number tag_of tag old new jobs → (x : ℕ)
      → IsFull number tag_of tag old x ⊎ IsIn x [] → IsFull number tag_of tag new x ⊎ IsIn x (map number jobs)
  gone_home old new jobs gathered x (inl full) = gathered.there x full
  gone_home old new jobs gathered x (inr none_in) = absurd (omega (arith, none_in))

  -- the last Cohort is one of these jobs'
  pub last_cohort : (hall : Hall J) (front : List CohortState) (c : CohortState) → IsHall number tag_of tag [] hall
      → hall.cohorts.items ≡ front ++ c ∷ [] → IsCohortOf tag (length hall.slots.items) (length hall.desks.items) c
  last_cohort hall front c is cut = at_end (λ (i : ℕ) (k : CohortState). IsCohortOf tag (length hall.slots.items) (length
      hall.desks.items) k)
      hall.cohorts.items front c cut is.cohorts_are
