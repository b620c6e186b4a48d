-- Desks that get a place or leave one.
use Rattle.std.proofs.Common.{
  ◌≡◌,
  ◌<◌,
  ◌≤◌,
  ◌⊎◌,
  ℕ,
  ◌+◌,
  List,
  [],
  ◌∷◌,
  ◌++◌,
  length,
  map,
  refl,
  ap,
  sym,
  ◌∙◌,
  arith,
  inl,
  inr,
  subst,
  Option,
  Some,
  slice_set,
}
use Rattle.std.proofs.lemmas.List.{length-append, length-set}
use Rattle.std.proofs.lemmas.Option.{get_or_from_slice_get, slice_get-get_or, slice_get_read, slice_get_within}
use Rattle.std.specs.Prelude.{All, slice_get, slice_index_or, vec_capacity}
use Rattle.std.proofs.Common.{get_or}
use Rattle.std.specs.declared.vec.Vec.{Vec}
use Rattle.std.specs.declared.alloc.Global.{Global}
use mathlib.Core.Logic.{dite}
use native.Mathlib.Decide.{ℕ_discrete}
use Rattle.lock_rules.specs.Tag.{Tag}
use Rattle.cohort_queue.specs.States.{AreAll, CohortState, IsSeatOf, SeatState, number_at}
use Rattle.cohort_desks.specs.declared.desk.Place.{Place}
use Rattle.cohort_desks.specs.declared.desk.Desk.{Desk}
use Rattle.cohort_desks.specs.Changes.{HasChanged, HasPlaceLess, HasPlaceMore}
use Rattle.cohort_desks.specs.Makings.{IsNewDesk}
use Rattle.cohort_desks.specs.Desks.{AreDesks, HaveRoom, IsDesk, IsPlace, IsSeatAt}
use Rattle.cohort_desks.proofs.Items.{get_end, get_last, get_longer, get_set_other, in_front, at_end, length_more, one_more_item, set_is}

-- a desk that was written to
pub changed : {J : Type 0} (R : Desk J → Desk J → Type 0) (desks : List (Desk J)) (at : ℕ) (d d' : Desk J) → at < length desks
    → d ≡ slice_index_or desks at d → R d d' → HasChanged R desks (slice_set desks at d') at
changed {J} R desks at d d' within is step = record {
  many = length-set desks at d';
  others = λ k other. get_set_other desks at k d' other;
  here = λ e e' got got'.
      let both : ◌≡◌ {A = Option (Desk J)} (Some d) (Some e) = sym (slice_get_read desks (length desks) at d refl within is) ∙ got in
      let same : d ≡ e = cc in subst (λ (x : Desk J). R x e') same (subst (R d) (set_is desks at d' e' got') step);
}

module _ {J : Type 0} (number : J → ℕ) (tag_of : J → Tag) (cohorts : List CohortState) (c : CohortState) where
  -- a new seat, and an empty list with room for all jobs of the Cohort
  pub new_place : (s : SeatState) (kept : Vec J Global) → IsSeatOf c s → s.outs ≡ [] → kept.items ≡ [] → length c.numbers ≤ vec_capacity
      kept
      → IsPlace number tag_of c (record { seat = s; kept = kept })
  new_place s kept is out empty room = record {
    seat_is = is;
    outs = out ∙ ap (map number) (sym empty);
    kept_are = λ i job e. absurd (let no : slice_get [] i ≡ Some job = ap (λ (l : List J). slice_get l i) (sym empty) ∙ e in cc);
    room = room;
  }

  -- the places at these Cohorts, and one more at another
  more_places : (d : Desk J) (p : Place J) (thread : ℕ) → length d.places.items ≡ length cohorts
      → ((i : ℕ) (k : CohortState) (q : Place J) → slice_get cohorts i ≡ Some k → slice_get d.places.items i ≡ Some q
      → IsPlace number tag_of k q × IsSeatAt number tag_of thread k q)
      → IsPlace number tag_of c p × IsSeatAt number tag_of thread c p → (i : ℕ) (k : CohortState) (q : Place J)
      → (slice_get cohorts i ≡ Some k) ⊎ ((i ≡ length cohorts) × (c ≡ k))
      → (slice_get d.places.items i ≡ Some q) ⊎ ((i ≡ length d.places.items) × (p ≡ q))
      → IsPlace number tag_of k q × IsSeatAt number tag_of thread k q
  more_places d p thread many each last i k q (inl at) (inl there) = each i k q at there
  more_places d p thread many each last i k q (inl at) (inr end) =
      let within = slice_get_within cohorts i k at in let e = end.0 in absurd (omega (arith, within, e, many))
  more_places d p thread many each last i k q (inr at) (inl there) =
      let within = slice_get_within d.places.items i q there in let e = at.0 in absurd (omega (arith, within, e, many))
  more_places d p thread many each last i k q (inr at) (inr end) =
      subst (λ (x : CohortState). IsPlace number tag_of x q × IsSeatAt number tag_of thread x q) at.1
      (subst (λ (x : Place J). IsPlace number tag_of c x × IsSeatAt number tag_of thread c x) end.1 last)

  pub desk_longer : (d d' : Desk J) (p : Place J) → IsDesk number tag_of cohorts d → HasPlaceMore p d d'
      → IsPlace number tag_of c p × IsSeatAt number tag_of d.number c p → IsDesk number tag_of (cohorts ++ c ∷ []) d'
  desk_longer d d' p is more last = record {
    many = length_more d.places.items d'.places.items p more.1 ∙ ap (λ (n : ℕ). n + 1) is.many ∙ sym (length-append cohorts (c ∷ []));
    each = λ i k q at there. subst (λ (n : ℕ). IsPlace number tag_of k q × IsSeatAt number tag_of n k q) (sym more.0)
        (more_places d p d.number is.many is.each last i k q (get_end cohorts c i k at)
        (get_end d.places.items p i q (ap (λ (l : List (Place J)). slice_get l i) (sym more.1) ∙ there)));
  }

  pub desk_shorter : (d d' : Desk J) (p : Place J) → IsDesk number tag_of (cohorts ++ c ∷ []) d → HasPlaceLess p d d'
      → IsDesk number tag_of cohorts d' × (IsPlace number tag_of c p × IsSeatAt number tag_of d.number c p)
  desk_shorter d d' p is less = (
    record {
      many = many;
      each = λ i k q at there. subst (λ (n : ℕ). IsPlace number tag_of k q × IsSeatAt number tag_of n k q) (sym less.0)
          (is.each i k q (get_longer cohorts (c ∷ []) i k at)
          (ap (λ (l : List (Place J)). slice_get l i) less.1 ∙ get_longer d'.places.items (p ∷ []) i q there));
    },
    is.each (length cohorts) c p (get_last cohorts c)
        (subst (λ (n : ℕ). slice_get d.places.items n ≡ Some p) many
        (ap (λ (l : List (Place J)). slice_get l (length d'.places.items)) less.1 ∙ get_last d'.places.items p)),
  )
    where
      many : length d'.places.items ≡ length cohorts
      many = let a = length_more d'.places.items d.places.items p less.1 in
          let b = is.many in let e = length-append cohorts (c ∷ []) in omega (arith, a, b, e)

-- desks of which those from a place on have got a place at a new Cohort
pub record Sitting {J : Type 0} (number : J → ℕ) (tag_of : J → Tag) (cohorts : List CohortState) (c : CohortState) (desks0 desks : List
    (Desk J))
    (seats : List SeatState) (lists : List (Vec J Global)) : Type 0 where
  pub seats_are : (k : ℕ) (s : SeatState) → slice_get seats k ≡ Some s → (IsSeatOf c s × (s.seat ≡ number_at c.seats k)) × (s.outs ≡ [])
  pub lists_many : length lists ≡ length seats
  pub lists_are : (i : ℕ) (v : Vec J Global) → slice_get lists i ≡ Some v → (v.items ≡ []) × (length c.numbers ≤ vec_capacity v)
  pub few : length seats ≤ c.seats
  pub many : length desks ≡ c.seats
  pub below : (k : ℕ) (d : Desk J) → k < length seats → slice_get desks k ≡ Some d → (d.number ≡ k) × IsDesk number tag_of cohorts d
  pub behind : (k : ℕ) (d : Desk J) → length seats ≤ k → slice_get desks k ≡ Some d
      → (d.number ≡ k) × IsDesk number tag_of (cohorts ++ c ∷ []) d
  pub room : (k : ℕ) (d : Desk J) → k < length seats → slice_get desks k ≡ Some d → length cohorts + 1 ≤ vec_capacity d.places
  pub rooms : (n : ℕ) → HaveRoom n desks0 → HaveRoom n desks

module _ {J : Type 0} (number : J → ℕ) (tag_of : J → Tag) (cohorts : List CohortState) (c : CohortState) where
  pub none_sits : (desks : List (Desk J)) (seats : List SeatState) (lists : List (Vec J Global)) → AreDesks number tag_of cohorts c.seats
      desks
      → HaveRoom (length cohorts + 1) desks → AreAll c seats → All (λ s. s.outs ≡ []) seats → length lists ≡ c.seats
      → ((i : ℕ) (v : Vec J Global) → slice_get lists i ≡ Some v → (v.items ≡ []) × (length c.numbers ≤ vec_capacity v))
      → Sitting number tag_of cohorts c desks desks seats lists
  none_sits desks seats lists are room all none many empty = record {
    seats_are = λ k s e. (
      all.each k s e,
      subst (λ (t : SeatState). t.outs ≡ []) (get_or_from_slice_get seats k s s e)
          (none k s (slice_get_within seats k s e)),
    );
    lists_many = many ∙ sym all.all;
    lists_are = empty;
    few = let e = all.all in omega (arith, e);
    many = are.all;
    below = λ k d within e. are.each k d e;
    behind = λ k d past e.
        let within = slice_get_within desks k d e in
        let a = all.all in
        let b = are.all in absurd (omega (arith, within, past, a, b));
    room = λ k d within e. room k d e;
    rooms = λ n have. have;
  }

  pub one_sits : (desks0 desks desks' : List (Desk J)) (seats front : List SeatState) (lists rest : List (Vec J Global)) (s : SeatState)
      (v : Vec J Global) (at : ℕ) → Sitting number tag_of cohorts c desks0 desks seats lists → seats ≡ front ++ s ∷ [] → lists ≡ rest ++
      v ∷ []
      → at ≡ length front → HasChanged (HasPlaceMore (record { seat = s; kept = v })) desks desks' at
      → Sitting number tag_of cohorts c desks0 desks' front rest
  one_sits desks0 desks desks' seats front lists rest s v at had cut cut_lists here change = record {
    seats_are = in_front (λ (k : ℕ) (t : SeatState). (IsSeatOf c t × (t.seat ≡ number_at c.seats k)) × (t.outs ≡ [])) seats front s cut
        had.seats_are;
    lists_many = as_many;
    lists_are = in_front (λ (k : ℕ) (w : Vec J Global). (w.items ≡ []) × (length c.numbers ≤ vec_capacity w)) lists rest v cut_lists
        had.lists_are;
    few = let f = had.few in omega (arith, one, f);
    many = change.many ∙ had.many;
    below = λ k d within e. had.below k d (omega (arith, within, one)) (sym (change.others k (λ same. omega (arith, same, within, here)))
        ∙ e);
    behind = λ k d past e. dite (ℕ_discrete k at)
        (λ same. grown k d same e)
        (λ other. had.behind k d (omega (arith, past, one, other, here)) (sym (change.others k other) ∙ e));
    room = λ k d within e. had.room k d (omega (arith, within, one)) (sym (change.others k (λ same. omega (arith, same, within, here))) ∙
        e);
    rooms = λ n have k d e. dite (ℕ_discrete k at)
        (λ same.
        let old = get_or desks k d in
        let there = slice_get-get_or desks k d (inside k d e) in
        let more = change.here old d (subst (λ (m : ℕ). slice_get desks m ≡ Some old) same there) (subst (λ (m : ℕ). slice_get desks' m ≡
        Some d) same e) in
        subst (λ (m : ℕ). n ≤ m) (sym more.2) (had.rooms n have k old there))
        (λ other. had.rooms n have k d (sym (change.others k other) ∙ e));
  }
    where
      one : length seats ≡ length front + 1
      one = length_more front seats s cut

      as_many : length rest ≡ length front
      as_many = let a = length_more rest lists v cut_lists in let b = had.lists_many in omega (arith, a, b, one)

      inside : (k : ℕ) (d : Desk J) → slice_get desks' k ≡ Some d → k < length desks
      inside k d e = let w = slice_get_within desks' k d e in let m = change.many in omega (arith, w, m)

      seat_is : (IsSeatOf c s × (s.seat ≡ number_at c.seats (length front))) × (s.outs ≡ [])
      seat_is = at_end (λ (k : ℕ) (t : SeatState). (IsSeatOf c t × (t.seat ≡ number_at c.seats k)) × (t.outs ≡ [])) seats front s cut
          had.seats_are

      list_is : (v.items ≡ []) × (length c.numbers ≤ vec_capacity v)
      list_is = at_end (λ (k : ℕ) (w : Vec J Global). (w.items ≡ []) × (length c.numbers ≤ vec_capacity w)) lists rest v cut_lists
          had.lists_are

      grown : (k : ℕ) (d : Desk J) → k ≡ at → slice_get desks' k ≡ Some d → (d.number ≡ k) × IsDesk number tag_of (cohorts ++ c ∷ []) d
      grown k d same e =
          let old = get_or desks k d in
          let there = slice_get-get_or desks k d (inside k d e) in
          let was = had.below k old (omega (arith, same, here, one)) there in
          let more = change.here old d (subst (λ (m : ℕ). slice_get desks m ≡ Some old) same there)
          (subst (λ (m : ℕ). slice_get desks' m ≡ Some d) same e) in (
            more.0 ∙ was.0,
            desk_longer number tag_of cohorts c old d (record { seat = s; kept = v }) was.1 more (
              new_place number tag_of cohorts c s v seat_is.0.0 seat_is.1 list_is.0 list_is.1,
              seat_is.0.1 ∙ ap (number_at c.seats) (sym here ∙ sym same ∙ sym was.0),
            ),
          )

  pub all_sit : (desks0 desks : List (Desk J)) (seats : List SeatState) (lists : List (Vec J Global))
      → Sitting number tag_of cohorts c desks0 desks seats lists → seats ≡ [] → AreDesks number tag_of (cohorts ++ c ∷ []) c.seats desks
  all_sit desks0 desks seats lists had none = record {
    all = had.many;
    each = λ k d e. had.behind k d (let n = ap length none in omega (arith, n)) e;
  }

-- one desk more, without a place
pub desk_added : {J : Type 0} (number : J → ℕ) (tag_of : J → Tag) (desks longer : List (Desk J)) (d : Desk J) (n room : ℕ)
    → AreDesks number tag_of [] n desks → longer ≡ desks ++ d ∷ [] → IsNewDesk n room d → AreDesks number tag_of [] (n + 1) longer
desk_added {J} number tag_of desks longer d n room are more is = record {
  all = length_more desks longer d more ∙ ap (λ (m : ℕ). m + 1) are.all;
  each = one_more_item (λ (k : ℕ) (e : Desk J). (e.number ≡ k) × IsDesk number tag_of [] e) desks longer d more are.each
      (is.number_is ∙ sym are.all, record { many = ap length is.no_place; each = λ i c p e f. absurd (cc) });
}

pub room_added : {J : Type 0} (room n : ℕ) (desks longer : List (Desk J)) (d : Desk J) → HaveRoom room desks → longer ≡ desks ++ d ∷ []
    → IsNewDesk n room d → HaveRoom room longer
room_added {J} room n desks longer d have more is =
    one_more_item (λ (k : ℕ) (e : Desk J). room ≤ vec_capacity e.places) desks longer d more have is.room_is
