-- What several reads take together.
use Rattle.std.proofs.Common.{
  ◌≡◌,
  ℕ,
  ◌+◌,
  ◌-◌,
  ◌≤◌,
  ◌<◌,
  List,
  [],
  ◌++◌,
  length,
  Some,
  None,
  refl,
  sym,
  ◌∙◌,
  ap,
  append_assoc,
  append-nil,
  arith,
  length-append,
  take,
  drop,
}
use Rattle.std.proofs.lemmas.List.{take-append-drop, drop-drop}
use Rattle.std.proofs.Math.Seq.{take-append_seam}
use Rattle.std.specs.Prelude.{IfSome}
use Rattle.std.specs.declared.option.Option.{Option}
use Rattle.edge_io.specs.Counts.{RisesBy}
use Rattle.edge_io.specs.Contents.{Loses, IsAtEnd, Gains, FallsBy}
use Rattle.edge_io.specs.Reading.{HasGiven}

-- no byte is lost where nothing is read
pub loses_nothing : (left : Option (List ℕ)) → Loses left left []
loses_nothing None = refl
loses_nothing (Some bytes) = (bytes, refl, refl)

-- what two reads take
pub loses_both : (left mid now : Option (List ℕ)) (xs ys : List ℕ) → Loses left mid xs → Loses mid now ys → Loses left now (xs ++ ys)
loses_both None mid now xs ys first second = let same : mid ≡ None = first in rw same at second
loses_both (Some bytes) mid now xs ys first second =
    let later : Loses (Some first.0) now ys = rw first.1 at second in
    (later.0, later.1, first.2 ∙ ap (λ (rest : List ℕ). xs ++ rest) later.2 ∙ sym (append_assoc xs ys later.0))

-- the count of two reads
pub rises_both : (before mid now m n : ℕ) → RisesBy m before mid → RisesBy n mid now → RisesBy (m + n) before now
rises_both before mid now m n first second = record { enough = omega arith; no_more = omega arith }

-- where nothing is left, what was taken is all
pub took_all : (left now : Option (List ℕ)) (xs : List ℕ) → Loses left now xs → IsAtEnd now → IfSome left (λ all. xs ≡ all)
took_all None now xs lost end = tt
took_all (Some bytes) now xs lost end =
    let rest : lost.0 ≡ [] = rw lost.1 at end in
    sym (lost.2 ∙ rw rest (simp append-nil))

-- what was taken is no longer than what was left
pub took_within : (left now : Option (List ℕ)) (xs : List ℕ) (limit : ℕ) → Loses left now xs → limit < length xs
    → IfSome left (λ all. limit < length all)
took_within None now xs limit lost longer = tt
took_within (Some bytes) now xs limit lost longer = rw lost.2 (simp length-append (omega arith))

-- what was given before, and then some bytes more
pub given_more : (left mid now : Option (List ℕ)) (given given_mid given_now limit size : ℕ) (xs : List ℕ) → size ≡ length xs
    → Loses left mid xs → RisesBy size given given_mid → size ≤ limit
    → HasGiven (limit - size) mid now given_mid given_now → HasGiven limit left now given given_now
given_more left mid now given given_mid given_now limit size xs sized lost rises within more = record {
  bytes = xs ++ more.bytes;
  within = simp length-append (omega (arith, more.within));
  lost = loses_both left mid now xs more.bytes lost more.lost;
  rises = rw (length-append, ← sized) (rises_both given given_mid given_now size (length more.bytes) rises more.rises);
}

-- what is held after two writes
pub gains_both : (before mid now : Option (List ℕ)) (xs ys : List ℕ) → Gains before mid xs → Gains mid now ys → Gains before now (xs ++ ys)
gains_both None mid now xs ys first second = let same : mid ≡ None = first in rw same at second
gains_both (Some held) mid now xs ys first second =
    let later : now ≡ Some ((held ++ xs) ++ ys) = rw first at second in
    later ∙ ap (λ (all : List ℕ). Some all) (append_assoc held xs ys)

-- the room after two writes
pub falls_both : (before mid now : Option ℕ) (m n : ℕ) → FallsBy m before mid → FallsBy n mid now → FallsBy (m + n) before now
falls_both None mid now m n first second = let same : mid ≡ None = first in rw same at second
falls_both (Some room) mid now m n first second =
    let later : FallsBy n (Some first.0) now = rw first.1 at second in
    (later.0, later.1, omega (arith, first.2, later.2))

-- a text from a place on: what was copied from there to the front of a buffer, and what stands behind it
pub front_copied : (bytes front tail : List ℕ) (at count : ℕ) → length front ≡ count → front ≡ take count (drop at bytes)
    → drop at bytes ≡ take count (front ++ tail) ++ drop (at + count) bytes
front_copied bytes front tail at count size copied =
    let seam : take count (front ++ tail) ≡ front = rw (← size) (take-append_seam front tail) in
    let parts : take count (drop at bytes) ++ drop count (drop at bytes) ≡ drop at bytes = take-append-drop count (drop at bytes) in
    let behind : drop count (drop at bytes) ≡ drop (at + count) bytes = drop-drop count at bytes in
    cc
