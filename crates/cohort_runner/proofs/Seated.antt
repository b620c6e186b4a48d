-- Slots that are filled and emptied in order.
use Rattle.std.proofs.Common.{◌≡◌, ◌<◌, ℕ, List, [], ◌∷◌, ◌++◌, length, refl, ap, sym, ◌∙◌, arith, Option, Some, length-append}
use Rattle.std.specs.Prelude.{slice_get}
use Rattle.lock_rules.specs.Tag.{Tag}
use Rattle.cohort_desks.specs.Slots.{AreOwn, IsFull}
use Rattle.cohort_desks.proofs.Items.{item_at}
use Rattle.cohort_runner.specs.Callers.{CallerState}
use Rattle.cohort_runner.specs.Runs.{number_of, tag_of}

-- the slot has the caller with this number and this tag
pub record IsSeated (tag : Tag) (k : ℕ) (slot : Option CallerState) : Type 0 where
  pub caller : CallerState
  pub is : slot ≡ Some caller
  pub number_is : caller.number ≡ k
  pub tag_is : caller.tag ≡ tag

module _ (tag : Tag) (slots : List (Option CallerState)) (all : (k : ℕ) (s : Option CallerState) → slice_get slots k ≡ Some s → IsSeated tag
    k s) where
  pub own_slots : AreOwn number_of tag_of tag slots
  own_slots k c e =
      let is = all k (Some c) e in
      let as_slot : ◌≡◌ {A = Option CallerState} (Some c) (Some is.caller) = is.is in
      let same : c ≡ is.caller = cc in
      (ap number_of same ∙ is.number_is, ap tag_of same ∙ is.tag_is)

  pub full_slots : (x : ℕ) → x < length slots → IsFull number_of tag_of tag slots x
  full_slots x within =
      let there = item_at slots x within in
      let is = all x there.0 there.1 in
      record { job = is.caller; at = there.1 ∙ ap Some is.is; number_is = is.number_is; tag_is = is.tag_is }

-- the first slot that wasn't emptied yet
pub next_slot : (slots yielded more : List (Option CallerState)) (slot : Option CallerState) → slots ≡ yielded ++ slot ∷ more
    → slice_get slots (length yielded) ≡ Some slot
next_slot slots yielded more slot e = ap (λ (l : List (Option CallerState)). slice_get l (length yielded)) e ∙ here yielded
  where
    here : (before : List (Option CallerState)) → slice_get (before ++ slot ∷ more) (length before) ≡ Some slot
    here [] = refl
    here (x ∷ xs) = here xs

-- it has the caller of its number
pub next_caller : (tag : Tag) (slots yielded left more : List (Option CallerState)) (slot : Option CallerState)
    → slots ≡ yielded ++ left → left ≡ slot ∷ more → ((x : ℕ) → x < length slots → IsFull number_of tag_of tag slots x)
    → IsSeated tag (length yielded) slot
next_caller tag slots yielded left more slot all first full =
    let e : slots ≡ yielded ++ slot ∷ more = all ∙ ap (λ (l : List (Option CallerState)). yielded ++ l) first in
    let is = full (length yielded) (longer yielded e) in
    let at : ◌≡◌ {A = Option (Option CallerState)} (Some slot) (Some (Some is.job)) = sym (next_slot slots yielded more slot e) ∙ is.at in
    let same : slot ≡ Some is.job = cc in
    record { caller = is.job; is = same; number_is = is.number_is; tag_is = is.tag_is }
  where
    longer : (before : List (Option CallerState)) → slots ≡ before ++ slot ∷ more → length before < length slots
    longer before e =
        let many = ap (λ (l : List (Option CallerState)). length l) e in
        let sum = length-append before (slot ∷ more) in omega (arith, many, sum)
