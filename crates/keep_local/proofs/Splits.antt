-- How the shares of a trail are given out, one after another.
use Rattle.std.proofs.Common.{◌≡◌, ℕ, suc, ◌+◌, ◌<◌, ◌≤◌, List, [], ◌∷◌, ◌++◌, map, length, take, drop, slice_index, refl, ap, sym, ◌∙◌}
use Rattle.std.proofs.Common.{arith, add-one, drop-cons}
use Rattle.std.specs.List.{enumerate_from}
use Rattle.std.proofs.lemmas.List.{map-append, take_more, length-take-le}
use Rattle.std.specs.Prelude.{All}
use Rattle.std.proofs.lemmas.List.Elements.{All-map}
use Rattle.atomic_table.specs.Seated.{TableId}
use Rattle.keep_local.specs.declared.view.Tally.{Tally}
use Rattle.keep_local.specs.Views.{home_view, new_tally, behind_first, without_first}
use Rattle.keep_local.specs.Steps.{Seated}
use Rattle.keep_local.specs.States.{ShareState, new_share, new_shares}

-- the tallies of the callers from this one on
abbrev pub tallies_from : ℕ → List ℕ → List Tally
tallies_from i quotas = map new_tally (enumerate_from i (drop i quotas))

-- the first of them is this caller's
tallies_first : (i : ℕ) (quotas : List ℕ) → i < length quotas
    → tallies_from i quotas ≡ new_tally (i, slice_index quotas i) ∷ tallies_from (i + 1) quotas
tallies_first i quotas h = ap (λ (qs : List ℕ). map new_tally (enumerate_from i qs)) (drop-cons quotas i 0 h)
    ∙ ap (λ (n : ℕ). new_tally (i, slice_index quotas i) ∷ map new_tally (enumerate_from (i + 1) (drop n quotas))) (sym (add-one i))

-- the home seat after its first tally was split off, and the seat of that tally
pub home_split : (before after : Seated) (i : ℕ) (quotas : List ℕ) → i < length quotas
    → before ≡ (home_view quotas [] (tallies_from i quotas), []) → after ≡ (without_first before.0, before.1)
    → after ≡ (home_view quotas [] (tallies_from (i + 1) quotas), [])
home_split before after i quotas h b a = a ∙ ap (λ (m : Seated). (without_first m.0, m.1)) b
    ∙ ap (λ (ts : List Tally). (home_view quotas [] (behind_first ts), [])) (tallies_first i quotas h)

enumerate_push : (n : ℕ) (xs : List ℕ) (x : ℕ) → enumerate_from n (xs ++ x ∷ []) ≡ enumerate_from n xs ++ (n + length xs, x) ∷ []
enumerate_push n [] x = let e : n ≡ n + 0 = omega arith in ap (λ (k : ℕ). (k, x) ∷ []) e
enumerate_push n (y ∷ ys) x = let e : n + 1 + length ys ≡ n + suc (length ys) = omega arith in
    ap (λ (l : List (ℕ × ℕ)). (n, y) ∷ l) (enumerate_push (n + 1) ys x ∙ ap (λ (k : ℕ). enumerate_from (n + 1) ys ++ (k, x) ∷ []) e)

shares_push : (z : TableId) (xs : List ℕ) (x : ℕ) → new_shares z (xs ++ x ∷ []) ≡ new_shares z xs ++ new_share z (0 + length xs, x) ∷ []
shares_push z xs x = ap (map (new_share z)) (enumerate_push 0 xs x)
    ∙ map-append (new_share z) (enumerate_from 0 xs) ((0 + length xs, x) ∷ [])

-- one more share was given out
pub shares_split : (z : TableId) (i : ℕ) (quotas : List ℕ) → i < length quotas
    → new_shares z (take (i + 1) quotas) ≡ new_shares z (take i quotas) ++ new_share z (i, slice_index quotas i) ∷ []
shares_split z i quotas h =
    let more = take_more quotas i 0 h in
    let long : 0 + length (take i quotas) ≡ i = let within : i ≤ length quotas = omega arith in
    omega (arith, length-take-le i quotas within) in
    ap (new_shares z) more ∙ shares_push z (take i quotas) (slice_index quotas i)
    ∙ ap (λ (k : ℕ). new_shares z (take i quotas) ++ new_share z (k, slice_index quotas i) ∷ []) long

-- every share has the trail's name
pub shares_named : (z : TableId) (quotas : List ℕ) → All (λ share. share.name ≡ z) (new_shares z quotas)
shares_named z quotas = All-map (λ (share : ShareState). share.name ≡ z) (new_share z) (enumerate_from 0 quotas) (λ k d h. refl)
