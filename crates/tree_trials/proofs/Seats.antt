-- The two seats of a cohort.
use Rattle.std.proofs.Common.{◌≡◌, ℕ, ◌+◌, ◌<◌, List, [], ◌∷◌, ◌++◌, length, Some, slice_get, get_or, ap, ◌∙◌, arith}
use Rattle.std.proofs.lemmas.Option.{slice_get_within, slice_get-get_or}
use Rattle.std.proofs.lemmas.List.{length-append}
use Rattle.cohort_queue.proofs.Closing.{last_seat}
use Rattle.cohort_queue.proofs.Splitting.{get_front, get_last, number_before}
use Rattle.cohort_queue.specs.States.{CohortState, SeatState, IsSeatOf, AreAll}

-- the seat in front of the last one
pub first_of_two : (c : CohortState) (all front rest : List SeatState) (f s : SeatState) → AreAll c all → c.seats ≡ 2
    → all ≡ front ++ s ∷ [] → front ≡ rest ++ f ∷ [] → IsSeatOf c f × (f.seat ≡ 1)
first_of_two c all front rest f s seats two ends begins =
    let long : length front + 1 ≡ c.seats = (last_seat c all front s seats ends).2 in
    let more : length front ≡ length rest + 1 = ap length begins ∙ length-append rest (f ∷ []) in
    let none : length rest ≡ 0 = omega (arith, two, long, more) in
    let there : slice_get all (length rest) ≡ Some f = ap (λ (l : List SeatState). slice_get l (length rest)) ends
    ∙ get_front front s f (length rest) (ap (λ (l : List SeatState). slice_get l (length rest)) begins ∙ get_last rest f) in
    let is = seats.each (length rest) f there in
    (is.0, is.1 ∙ number_before c.seats (length rest) (omega (arith, two, none)) ∙ ap (λ (n : ℕ). n + 1) none)

-- the seats are all there again behind the threads
pub all_back : (c : CohortState) (seats back : List SeatState) → AreAll c seats → length back ≡ length seats
    → ((k : ℕ) (s t : SeatState) → slice_get seats k ≡ Some s → slice_get back k ≡ Some t → IsSeatOf c t × (t.seat ≡ s.seat))
    → AreAll c back
all_back c seats back all many each = record {
  all = many ∙ all.all;
  each = λ k t got.
      let within : k < length seats = omega (arith, many, slice_get_within back k t got) in
      let s = get_or seats k t in
      let at : slice_get seats k ≡ Some s = slice_get-get_or seats k t within in
      let is = each k s t at got in (is.0, is.1 ∙ (all.each k s at).1);
}
