-- Where a pass stands that leaves, and what it has in hand.
use Rattle.std.proofs.Common.{◌≡◌, ℕ, Bool, true, false, List, [], ◌∷◌, Option, refl, ap, sym, ◌∙◌, subst}
use Rattle.std.specs.Prelude.{MatchBool}
use Rattle.atomic_table.specs.declared.shared.Seat.{Seat}
use Rattle.lock_rules.specs.Hands.{HasKept, MayStay, is_full, phase_left}
use Rattle.lock_rules.specs.Tag.{Tag}
use Rattle.lock_rules.specs.Views.{IsTold, announces}
use Rattle.lock_rules.specs.declared.view.Algorithm.{Algorithm}
use Rattle.lock_rules.specs.declared.view.Algorithm.TheVariants.{Ticket, Mcs, Clh, Hemlock}
use Rattle.lock_rules.specs.declared.view.Phase.{Phase}
use Rattle.lock_rules.specs.declared.view.View.{View}
use Rattle.lock_tables.proofs.Lists.{no_true}

-- it isn't announced, whatever its lock
left_told : (a : Algorithm) (v : View) → v.phase ≡ phase_left a → v.announced ≡ false → IsTold v
left_told Ticket v stands silent = silent ∙ sym (ap (λ (p : Phase). announces p v.waiters) stands)
left_told Mcs v stands silent = silent ∙ sym (ap (λ (p : Phase). announces p v.waiters) stands)
left_told Clh v stands silent = silent ∙ sym (ap (λ (p : Phase). announces p v.waiters) stands)
left_told Hemlock v stands silent = silent ∙ sym (ap (λ (p : Phase). announces p v.waiters) stands)

pub seat_told : {S : Type 0} (a : Algorithm) (s t : Seat S View) → s ≡ t → t.me.0.phase ≡ phase_left a → t.me.0.announced ≡ false
    → IsTold s.me.0
seat_told {S} a s t same stands silent =
    subst (λ (x : Seat S View). IsTold x.me.0) (sym same) (left_told a t.me.0 stands silent)

module _ {V : Type 0} (fit : V → Type 0) (tag_of : V → Tag) (parked : V → Bool) where
  -- with what a token is made
  kept_stays : (b : Bool) (v : View) (hand : List (ℕ × Option V)) → HasKept fit tag_of parked b v hand
      → MayStay fit tag_of parked v hand
  kept_stays false v hand kept = subst (λ (h : List (ℕ × Option V)). MayStay fit tag_of parked v h) (sym kept) tt
  kept_stays true v hand kept =
      subst (λ (h : List (ℕ × Option V)). MayStay fit tag_of parked v h) (sym kept.1) (kept.0, refl, kept.2)

  pub kept_full : (b : Bool) (v : View) (hand : List (ℕ × Option V)) → HasKept fit tag_of parked b v hand → b ≡ is_full hand
  kept_full false v hand kept = sym (ap is_full kept)
  kept_full true v hand kept = sym (ap is_full kept.1)

  pub seat_stays : (b : Bool) (s t : Seat (Option V) View) → s ≡ t → HasKept fit tag_of parked b t.me.0 t.me.1
      → MayStay fit tag_of parked s.me.0 s.me.1
  seat_stays b s t same kept =
      subst (λ (x : Seat (Option V) View). MayStay fit tag_of parked x.me.0 x.me.1) (sym same) (kept_stays b t.me.0 t.me.1 kept)

  -- and what a token tells
  kept_is : (b : Bool) (v : View) (hand : List (ℕ × Option V)) → b ≡ is_full hand
      → MatchBool b (MayStay fit tag_of parked v hand) (Unit {0}) → HasKept fit tag_of parked b v hand
  kept_is false v [] full rests = refl
  kept_is false v (slot ∷ slots) full rests = absurd (no_true (sym full))
  kept_is true v [] full rests = absurd (no_true full)
  kept_is true v (slot ∷ slots) full rests = rests

  pub seat_kept : (b : Bool) (s t : Seat (Option V) View) → s ≡ t → b ≡ is_full t.me.1
      → MatchBool b (MayStay fit tag_of parked t.me.0 t.me.1) (Unit {0}) → HasKept fit tag_of parked b s.me.0 s.me.1
  seat_kept b s t same full rests =
      subst (λ (x : Seat (Option V) View). HasKept fit tag_of parked b x.me.0 x.me.1) (sym same)
      (kept_is b t.me.0 t.me.1 full rests)
