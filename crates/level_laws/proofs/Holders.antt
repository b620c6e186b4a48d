-- Who holds, and who is queued.
use Rattle.std.proofs.Common.{◌≡◌, ◌⊎◌, ℕ, Bool, true, List, ap, sym, ◌∙◌, inl, inr, ⊎_elim, Option, Some}
use Rattle.atomic_table.specs.Table.{State}
use Rattle.lock_rules.specs.Tag.{Tag}
use Rattle.lock_rules.specs.Views.{is_counted}
use Rattle.lock_rules.specs.declared.view.Phase.{Phase}
use Rattle.lock_rules.specs.declared.view.View.{View}
use Rattle.lock_rules.specs.declared.view.Waiters.{Waiters}
use Rattle.lock_tables.specs.Points.{IsAnnounced, IsBasic, IsHomeValue, IsPassIn}
use Rattle.lock_tables.specs.Queue.{IsHead}
use Rattle.level_laws.specs.Laws.{AtMostOneHolds, ContextsAreApart}
use Rattle.clof_compose.specs.Contexts.{Context}
use Rattle.clof_compose.specs.Meanings.{Rest, Stand}
use Rattle.clof_compose.specs.Nodes.{IsLockOf}
use Rattle.clof_compose.specs.Owns.{context_in}
use Rattle.clof_compose.specs.declared.root.Root.{Root}
use Rattle.clof_compose.proofs.Contexts.{own_tag-tells}

-- a list has one head
pub one_head : (queue : List ℕ) (p q : ℕ) → IsHead p queue → IsHead q queue → p ≡ q
one_head queue p q a b = let e : Some p ≡ Some q = sym a ∙ b in cc

module _ {V : Type 0} (fit : V → Type 0) (tag_of : V → Tag) (parked : V → Bool) (holds : Phase → Bool) where
  pub one_holds : AtMostOneHolds fit tag_of parked holds
  one_holds c n tag queue s p q rule first second = one_head queue p q (rule.holder_first p first) (rule.holder_first q second)

  -- a parked value at home has nobody who holds, and somebody who is queued or announced
  pub parked_is_waited_for : (c : Waiters) (n : ℕ) (tag : Tag) (queue : List ℕ) (s : State (Option V) View) (x : V)
      → IsBasic fit tag_of parked holds c n tag queue s → IsHomeValue s.homes x → parked x ≡ true
      → ((p : ℕ) → ¬ IsPassIn holds s.views p)
      × (((p : ℕ) × IsHead p queue) ⊎ ((is_counted c ≡ true) × ((p : ℕ) × IsAnnounced s.views p)))
  parked_is_waited_for c n tag queue s x rule home is = (
    rule.alone x home,
    ⊎_elim (λ (queued : (p : ℕ) × IsHead p queue). inl queued)
        (λ (told : (p : ℕ) × IsAnnounced s.views p). inr (rule.uncounted told.1.seat told.1.view told.1.at told.1.announced, told))
        (rule.relied_on x home is),
  )

module _ {P Pass Held B : Type 0} (rest : Pass → Rest) (stand : Held → Stand (Root P)) (tag : B → Tag) (has : Context → Type 0)
    (high_level : ℕ) (t : Tag) where
  pub apart : ContextsAreApart rest stand tag has high_level t
  apart locks n m a b x y are at_n at_m x_is y_is same =
      let first : IsLockOf tag has high_level t n a = are n a at_n in
      let second : IsLockOf tag has high_level t m b = are m b at_m in
      let x_told = own_tag-tells x.node n (context_in rest stand x.high) first.context (x_is ∙ first.tag_is) in
      let y_told = own_tag-tells y.node m (context_in rest stand y.high) second.context (y_is ∙ second.tag_is) in
      sym first.is.number_is ∙ ap (λ (c : Context). c.number) (sym x_told.1 ∙ same ∙ y_told.1) ∙ second.is.number_is
