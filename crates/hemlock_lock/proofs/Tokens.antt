-- How the holder of a Hemlock left.
use Rattle.std.proofs.Common.{◌≡◌, ◌≢◌, ℕ, Bool, [], ◌∷◌, Some, refl, ap, sym, ◌∙◌, subst}
use Rattle.atomic_table.specs.Table.{rest}
use Rattle.lock_rules.specs.Holders.{held_view}
use Rattle.lock_rules.specs.Tag.{Tag}
use Rattle.lock_rules.specs.Views.{IsPlain}
use Rattle.lock_rules.specs.declared.held.Held.{Held}
use Rattle.lock_rules.specs.declared.view.Phase.TheVariants.{Leaving}
use Rattle.lock_rules.specs.declared.view.View.{View}
use Rattle.lock_tables.specs.Happened.{Seated, missed_view}
use Rattle.lock_tables.proofs.Seats.{alike, alike_plain}
use Rattle.hemlock_lock.specs.Calls.{HasMade, HasGranted, HasWaited, granted}
use Rattle.hemlock_lock.specs.Kinds.{own_name, followed_view, left_view, exchange_tail, store_grant, load_grant}

module _ {V : Type 0} (fit : V → Type 0) (tag_of : V → Tag) (parked : V → Bool) where
  -- behind the exchange that found another, and the store of the grant
  pub granted_is : (held : Held V) (found own was : ℕ) (me me' me'' : Seated V) → me ≡ (held_view held, (0, Some held.value) ∷ [])
      → own ≡ own_name (held_view held) → found ≢ own
      → HasMade fit tag_of parked exchange_tail me found me' → HasMade fit tag_of parked store_grant me' was me''
      → HasGranted fit tag_of parked held × (me'' ≡ granted held)
  granted_is held found own was me me' me'' before name other step store =
      let ne : found ≢ own_name me.0 = λ e. other (e ∙ ap (λ (m : Seated V). own_name m.0) before ∙ sym name) in
      let after : me' ≡ (followed_view (held_view held), (0, Some held.value) ∷ []) = (step.1 ne).0
      ∙ ap (λ (m : Seated V). (followed_view m.0, m.1)) before in
      let last : me'' ≡ granted held =
      store.0 ∙ ap (λ (m : Seated V). (left_view Leaving m.0, rest m.1)) after in (
        record {
          found = found;
          other = λ e. other (e ∙ sym name);
          exchange = subst (λ (x : Seated V × Seated V). HasMade fit tag_of parked exchange_tail x.0 found x.1)
              (λ i. (before i, after i)) step;
          was = was;
          store = subst (λ (x : Seated V × Seated V). HasMade fit tag_of parked store_grant x.0 was x.1) (λ i. (after i, last i)) store;
        },
        last,
      )

  -- behind the load of the own grant
  pub waited_is : (before now : Seated V) (found : ℕ) (me me' : Seated V) → me ≡ before → found ≢ 0
      → HasMade fit tag_of parked load_grant me found me' → now ≡ me' → HasWaited fit tag_of parked before now
  waited_is before now found me me' is uncleared step same =
      let made = subst (λ (x : Seated V × Seated V). HasMade fit tag_of parked load_grant x.0 found x.1) (λ i. (is i, sym same i)) step in
      (found, uncleared, made)

pub waited_plain : (v : View) → IsPlain v → IsPlain (missed_view (left_view Leaving (followed_view v)))
waited_plain v p = alike_plain v _ (alike _ _ refl refl refl refl refl refl refl refl refl refl refl p.predecessor_within) p
