-- Desks that leave a Cohort, whose jobs go into their slots.
use Rattle.std.proofs.Common.{
  ◌≡◌,
  ◌<◌,
  ◌≤◌,
  ◌⊎◌,
  ℕ,
  ◌+◌,
  List,
  [],
  ◌∷◌,
  ◌++◌,
  length,
  map,
  refl,
  ap,
  sym,
  ◌∙◌,
  arith,
  inl,
  inr,
  subst,
  append_assoc,
  Option,
  Some,
  slice_set,
}
use Rattle.std.proofs.lemmas.List.{append-nil, length-append, length-set}
use Rattle.std.proofs.lemmas.Option.{slice_get_within}
use Rattle.std.specs.Prelude.{slice_get}
use mathlib.Core.Logic.{dite}
use native.Mathlib.Decide.{ℕ_discrete}
use Rattle.lock_rules.specs.Tag.{Tag}
use Rattle.cohort_queue.specs.Numbers.{AreSame, IsIn, times}
use Rattle.cohort_queue.specs.States.{AreAll, CohortState, IsSeatOf, RestState, SeatState, number_at, outs_of}
use Rattle.cohort_queue.proofs.Counted.{times_append}
use Rattle.cohort_desks.specs.declared.desk.Place.{Place}
use Rattle.cohort_desks.specs.declared.desk.Desk.{Desk}
use Rattle.cohort_desks.specs.Changes.{HasChanged, HasPlaceLess}
use Rattle.cohort_desks.specs.Desks.{AreDesks, IsDesk, IsPlace, IsSeatAt}
use Rattle.cohort_desks.specs.Halls.{IsCohortOf}
use Rattle.cohort_desks.specs.Slots.{AreFit, AreOwn, IsFull, IsThere}
use Rattle.cohort_desks.proofs.Filled.{full_here, full_put, own_put}
use Rattle.cohort_desks.proofs.Items.{item_at, length_more, one_more_item}
use Rattle.cohort_desks.proofs.Numbers.{in_longer}
use Rattle.cohort_desks.proofs.Rows.{desk_shorter}

pub outs_push : (seats : List SeatState) (s : SeatState) → outs_of (seats ++ s ∷ []) ≡ outs_of seats ++ s.outs
outs_push [] s = append-nil s.outs
outs_push (t ∷ seats) s = ap (λ (l : List ℕ). t.outs ++ l) (outs_push seats s) ∙ sym (append_assoc t.outs (outs_of seats) s.outs)

pub in_either : (x : ℕ) (xs ys : List ℕ) → IsIn x (xs ++ ys) → IsIn x xs ⊎ IsIn x ys
in_either x xs ys is = dite (ℕ_discrete (times x xs) 0)
    (λ none. inr (let a = times_append x xs ys in omega (arith, a, none, is)))
    (λ some. inl (omega (arith, some)))

module _ {J : Type 0} (number : J → ℕ) (tag_of : J → Tag) where
  -- what is there though no job is left to be put
  pub full_then : (tag : Tag) (slots : List (Option J)) (x : ℕ) → IsThere number tag_of tag slots [] x → IsFull number tag_of tag slots x
  full_then tag slots x (inl full) = full
  full_then tag slots x (inr none_in) = absurd (omega (arith, none_in))

  -- desks of which those below a place have left a Cohort
  pub record Leaving (cohorts : List CohortState) (c : CohortState) (slots0 : List (Option J)) (desks : List (Desk J)) (seats : List
      SeatState)
      (slots : List (Option J)) (n : ℕ) : Type 0 where
    pub many : length desks ≡ c.seats
    pub below : (k : ℕ) (d : Desk J) → k < n → slice_get desks k ≡ Some d → (d.number ≡ k) × IsDesk number tag_of cohorts d
    pub ahead : (k : ℕ) (d : Desk J) → n ≤ k → slice_get desks k ≡ Some d → (d.number ≡ k) × IsDesk number tag_of (cohorts ++ c ∷ []) d
    pub seats_many : length seats ≡ n
    pub seats_are : (k : ℕ) (s : SeatState) → slice_get seats k ≡ Some s → IsSeatOf c s × (s.seat ≡ number_at c.seats k)
    pub slots_many : length slots ≡ length slots0
    pub own : AreOwn number tag_of c.tag slots
    pub there : (x : ℕ) → IsFull number tag_of c.tag slots0 x ⊎ IsIn x (outs_of seats) → IsFull number tag_of c.tag slots x

  pub none_left : (cohorts : List CohortState) (c : CohortState) (slots : List (Option J)) (desks : List (Desk J)) (seats : List SeatState)
      → AreDesks number tag_of (cohorts ++ c ∷ []) (length desks) desks → length desks ≡ c.seats → seats ≡ []
      → AreOwn number tag_of c.tag slots → Leaving cohorts c slots desks seats slots 0
  none_left cohorts c slots desks seats are many empty own = record {
    many = many;
    below = λ k d within e. absurd (omega (arith, within));
    ahead = λ k d past e. are.each k d e;
    seats_many = ap length empty;
    seats_are = λ k s e. absurd (let no : slice_get [] k ≡ Some s = ap (λ (l : List SeatState). slice_get l k) (sym empty) ∙ e in cc);
    slots_many = refl;
    own = own;
    there = λ x is. none x is;
  }
    where
      none : (x : ℕ) → IsFull number tag_of c.tag slots x ⊎ IsIn x (outs_of seats) → IsFull number tag_of c.tag slots x
      none x (inl full) = full
      none x (inr is) = absurd (let no : times x (outs_of seats) ≡ 0 = ap (λ (l : List SeatState). times x (outs_of l)) empty in omega
          (arith, is, no))

  -- the desk at a place, which has one place at that Cohort to leave
  pub has_place : (cohorts : List CohortState) (c : CohortState) (slots0 slots : List (Option J)) (desks : List (Desk J)) (seats : List
      SeatState)
      (n : ℕ) → Leaving cohorts c slots0 desks seats slots n → (d : Desk J) → slice_get desks n ≡ Some d → 0 < length d.places.items
  has_place cohorts c slots0 slots desks seats n had d e =
      let is = (had.ahead n d (omega arith) e).1 in
      let many = is.many in
      let long = length-append cohorts (c ∷ []) in omega (arith, many, long)

  -- the place that it left is one at that Cohort
  module _ (cohorts : List CohortState) (c : CohortState) (slots0 slots : List (Option J)) (desks desks' : List (Desk J)) (seats : List
      SeatState)
      (n : ℕ) (p : Place J) (had : Leaving cohorts c slots0 desks seats slots n) (inside : n < length desks)
      (change : HasChanged (HasPlaceLess p) desks desks' n) where
    pub left_place : (d d' : Desk J) → slice_get desks n ≡ Some d → slice_get desks' n ≡ Some d'
        → ((d'.number ≡ n) × IsDesk number tag_of cohorts d') × (IsPlace number tag_of c p × IsSeatAt number tag_of n c p)
    left_place d d' e e' =
        let was = had.ahead n d (omega arith) e in
        let less = change.here d d' e e' in
        let is = desk_shorter number tag_of cohorts c d d' p was.1 less in
        ((less.0 ∙ was.0, is.0), (is.1.0, is.1.1 ∙ ap (number_at c.seats) was.0))

    old : (d : Desk J) × (slice_get desks n ≡ Some d)
    old = item_at desks n inside

    new : (d : Desk J) × (slice_get desks' n ≡ Some d)
    new = item_at desks' n (let m = change.many in omega (arith, inside, m))

    pub place_is : IsPlace number tag_of c p × IsSeatAt number tag_of n c p
    place_is = (left_place old.0 new.0 old.1 new.1).1

    -- its jobs have slots
    pub kept_fit : IsCohortOf c.tag (length slots0) (length desks) c → AreFit number tag_of c.tag (length slots) p.kept.items
    kept_fit of i job e =
        let is = place_is.0.kept_are i job e in
        (subst (λ (m : ℕ). number job < m) (sym had.slots_many) (of.within (number job) is.0), is.1)

    pub one_left : IsCohortOf c.tag (length slots0) (length desks) c → (slots' : List (Option J)) (seats' : List SeatState)
        → length slots' ≡ length slots
        → AreOwn number tag_of c.tag slots'
        → ((x : ℕ) → IsThere number tag_of c.tag slots p.kept.items x → IsThere number tag_of c.tag slots' [] x)
        → seats' ≡ seats ++ p.seat ∷ [] → Leaving cohorts c slots0 desks' seats' slots' (n + 1)
    one_left of slots' seats' many own there pushed = record {
      many = change.many ∙ had.many;
      below = λ k e within at. dite (ℕ_discrete k n)
          (λ same.
          let got = subst (λ (m : ℕ). slice_get desks' m ≡ Some e) same at in
          let is = (left_place old.0 e old.1 got).0 in (is.0 ∙ sym same, is.1))
          (λ other. had.below k e (omega (arith, within, other)) (sym (change.others k other) ∙ at));
      ahead = λ k e past at. had.ahead k e (omega (arith, past)) (sym (change.others k (λ same. omega (arith, past, same))) ∙ at);
      seats_many = length_more seats seats' p.seat pushed ∙ ap (λ (m : ℕ). m + 1) had.seats_many;
      seats_are = one_more_item (λ (k : ℕ) (s : SeatState). IsSeatOf c s × (s.seat ≡ number_at c.seats k)) seats seats' p.seat pushed
          had.seats_are
          (place_is.0.seat_is, place_is.1 ∙ ap (number_at c.seats) (sym had.seats_many));
      slots_many = many ∙ had.slots_many;
      own = own;
      there = λ x is. back x is;
    }
      where
        outs : outs_of seats' ≡ outs_of seats ++ map number p.kept.items
        outs = ap outs_of pushed ∙ outs_push seats p.seat ∙ ap (λ (l : List ℕ). outs_of seats ++ l) place_is.0.outs

        out : (x : ℕ) → IsIn x (outs_of seats) ⊎ IsIn x (map number p.kept.items) → IsFull number tag_of c.tag slots' x
        out x (inl before) = full_then c.tag slots' x (there x (inl (had.there x (inr before))))
        out x (inr kept) = full_then c.tag slots' x (there x (inr kept))

        back : (x : ℕ) → IsFull number tag_of c.tag slots0 x ⊎ IsIn x (outs_of seats') → IsFull number tag_of c.tag slots' x
        back x (inl full) = full_then c.tag slots' x (there x (inl (had.there x (inl full))))
        back x (inr is) = out x (in_either x (outs_of seats) (map number p.kept.items) (subst (IsIn x) outs is))

  pub all_left : (cohorts : List CohortState) (c : CohortState) (slots0 slots : List (Option J)) (desks : List (Desk J)) (seats : List
      SeatState)
      (n limit : ℕ) → Leaving cohorts c slots0 desks seats slots n → n ≡ length desks → limit ≡ c.seats
      → AreDesks number tag_of cohorts limit desks × AreAll c seats
  all_left cohorts c slots0 slots desks seats n limit had all many = (
    record {
      all = had.many ∙ sym many;
      each = λ k d e. had.below k d (let w = slice_get_within desks k d e in omega (arith, w, all)) e;
    },
    record {
      all = had.seats_many ∙ all ∙ had.many;
      each = had.seats_are;
    },
  )

  -- what is left in the queue goes into the slots
  pub record Draining (numbers : List ℕ) (tag : Tag) (slots0 slots : List (Option J)) (rest : RestState) : Type 0 where
    pub numbers_are : rest.numbers ≡ numbers
    pub tag_is : rest.tag ≡ tag
    pub many : length slots ≡ length slots0
    pub own : AreOwn number tag_of tag slots
    pub kept : (x : ℕ) → IsFull number tag_of tag slots0 x → IsFull number tag_of tag slots x
    pub outs : (x : ℕ) → IsIn x rest.outs → IsFull number tag_of tag slots x

  pub none_drained : (slots : List (Option J)) (rest : RestState) → AreOwn number tag_of rest.tag slots
      → ((x : ℕ) → IsIn x rest.outs → IsFull number tag_of rest.tag slots x) → Draining rest.numbers rest.tag slots slots rest
  none_drained slots rest own outs = record {
    numbers_are = refl;
    tag_is = refl;
    many = refl;
    own = own;
    kept = λ x full. full;
    outs = outs;
  }

  pub one_drained : (numbers : List ℕ) (tag : Tag) (slots0 slots slots' : List (Option J)) (rest rest' : RestState) (job : J)
      → Draining numbers tag slots0 slots rest → ((x : ℕ) → IsIn x numbers → x < length slots0) → rest'.numbers ≡ rest.numbers
      → rest'.tag ≡ rest.tag → tag_of job ≡ rest.tag → IsIn (number job) rest.numbers → rest'.outs ≡ rest.outs ++ number job ∷ []
      → slots' ≡ slice_set slots (number job) (Some job) → Draining numbers tag slots0 slots' rest'
  one_drained numbers tag slots0 slots slots' rest rest' job had within same_numbers same_tag tagged given out put =
      subst (λ (s : List (Option J)). Draining numbers tag slots0 s rest') (sym put) (record {
        numbers_are = same_numbers ∙ had.numbers_are;
        tag_is = same_tag ∙ had.tag_is;
        many = length-set slots (number job) (Some job) ∙ had.many;
        own = own_put number tag_of tag slots job is_tagged had.own;
        kept = λ x full. full_put number tag_of tag slots job x inside is_tagged (had.kept x full);
        outs = λ x is. by_case x (in_longer x (number job) rest.outs (subst (IsIn x) out is));
      })
    where
      is_tagged : tag_of job ≡ tag
      is_tagged = tagged ∙ had.tag_is

      inside : number job < length slots
      inside = subst (λ (m : ℕ). number job < m) (sym had.many) (within (number job) (subst (IsIn (number job)) had.numbers_are given))

      by_case : (x : ℕ) → IsIn x rest.outs ⊎ (x ≡ number job) → IsFull number tag_of tag (slice_set slots (number job) (Some job)) x
      by_case x (inl before) = full_put number tag_of tag slots job x inside is_tagged (had.outs x before)
      by_case x (inr same) = subst (IsFull number tag_of tag (slice_set slots (number job) (Some job))) (sym same)
          (full_here number tag_of tag slots job inside is_tagged)

  pub all_drained : (numbers : List ℕ) (tag : Tag) (slots0 slots : List (Option J)) (rest : RestState)
      → Draining numbers tag slots0 slots rest → AreSame rest.outs rest.numbers → (x : ℕ) → IsIn x numbers → IsFull number tag_of tag
      slots x
  all_drained numbers tag slots0 slots rest had same x is =
      had.outs x (let a = same x in let b = subst (IsIn x) (sym had.numbers_are) is in omega (arith, a, b))

  -- what was there, and all that the Cohort was made with
  pub both_there : (tag : Tag) (slots risen drained : List (Option J)) (outs numbers : List ℕ)
      → ((x : ℕ) → IsFull number tag_of tag slots x ⊎ IsIn x outs → IsFull number tag_of tag risen x)
      → ((x : ℕ) → IsFull number tag_of tag risen x → IsFull number tag_of tag drained x)
      → ((x : ℕ) → IsIn x numbers → IsFull number tag_of tag drained x) → (x : ℕ)
      → IsFull number tag_of tag slots x ⊎ IsIn x numbers → IsFull number tag_of tag drained x
  both_there tag slots risen drained outs numbers rise kept all x (inl full) = kept x (rise x (inl full))
  both_there tag slots risen drained outs numbers rise kept all x (inr is) = all x is
