-- The root is reached from one context at most.
use Rattle.std.proofs.Common.{◌≡◌, ℕ, zero, suc, Bool, cond, ◌==◌, eq-eqb, List, [], ◌∷◌, take, refl, ap, sym, ◌∙◌}
use Rattle.std.proofs.Common.{arith, Some}
use Rattle.std.specs.Prelude.{slice_get}
use Rattle.std.proofs.lemmas.List.Sums.{sum_by-cons}
use Rattle.lock_rules.specs.Tag.{Tag}
use Rattle.lock_rules.specs.Meanings.{Place}
use Rattle.lock_rules.specs.declared.view.Phase.{Phase}
use Rattle.clof_compose.specs.Contexts.{Context}
use Rattle.clof_compose.specs.Levels.{level_context}
use Rattle.clof_compose.specs.Meanings.{Rest, Stand}
use Rattle.clof_compose.specs.Nodes.{under}
use Rattle.clof_compose.specs.Tops.{top_context}
use Rattle.clof_compose.specs.declared.root.Root.{Root}
use Rattle.level_laws.specs.Reach.{OneReaches, OneReachesTop, keeps_of}
use Rattle.level_laws.proofs.Holders.{one_head}
use Rattle.level_laws.proofs.Users.{Names, keeper_names, one_has, some_is}

abbrev one_if : Bool → ℕ
one_if b = cond b 1 0

-- of the contexts under one node, no two have as many before them
under_one : (parents : List ℕ) (node k j : ℕ) → slice_get parents k ≡ Some node → slice_get parents j ≡ Some node
    → under parents node k ≡ under parents node j → k ≡ j
under_one [] node k j at_k at_j same = absurd (cc)
under_one (p ∷ ps) node zero zero at_k at_j same = refl
under_one (p ∷ ps) node zero (suc j) at_k at_j same =
    let here : one_if (p == node) ≡ 1 = ap one_if (eq-eqb p node (some_is p node at_k)) in
    let more = sum_by-cons (λ (q : ℕ). one_if (q == node)) p (take j ps) in
    absurd (omega (arith, here, more, same))
under_one (p ∷ ps) node (suc k) zero at_k at_j same =
    let here : one_if (p == node) ≡ 1 = ap one_if (eq-eqb p node (some_is p node at_j)) in
    let more = sum_by-cons (λ (q : ℕ). one_if (q == node)) p (take k ps) in
    absurd (omega (arith, here, more, same))
under_one (p ∷ ps) node (suc k) (suc j) at_k at_j same =
    let first = sum_by-cons (λ (q : ℕ). one_if (q == node)) p (take k ps) in
    let second = sum_by-cons (λ (q : ℕ). one_if (q == node)) p (take j ps) in
    ap suc (under_one ps node k j at_k at_j (omega (arith, first, second, same)))

module _ {V : Type 0} (fit : V → Type 0) (tag_of : V → Tag) (parked : V → Bool) (holds : Phase → Bool) where
  pub one_reaches_top : OneReachesTop fit tag_of parked holds
  one_reaches_top level ch n name tag queue s c d rule x y =
      let number = one_head queue c.pass.number d.pass.number (rule.holder_first c.pass.number x.holds_it)
      (rule.holder_first d.pass.number y.holds_it) in
      let lock = x.own.pass_is.lock_is ∙ sym y.own.pass_is.lock_is in
      let tags = x.own.pass_is.tag_is ∙ sym y.own.pass_is.tag_is in
      let pass : c.pass ≡ d.pass = λ i. record { lock = lock i; tag = tags i; number = number i } in
      x.own.context_is ∙ ap (top_context level) pass ∙ sym y.own.context_is

module _ {P Pass Held B : Type 0} (calls : P → List ℕ) (root_tag : P → Tag) (rest : Pass → Rest) (stand : Held → Stand (Root P))
    (stands : Held → Type 0) (name tag : B → Tag) (count : B → ℕ) (has : Context → Type 0) (high_level : ℕ) (root_tag_is : Tag) (level : ℕ)
    (holds : Phase → Bool) where
  abbrev keeps : Place → Context → Type 0
  keeps = keeps_of P Pass stand stands name tag level holds

  told : (place : Place) (c : Context) → keeps place c → Names place.tag c
  told place c k = keeper_names P Pass stand stands level place c k

  pub one_reaches : OneReaches calls root_tag rest stand stands name tag count has high_level root_tag_is level holds
  one_reaches parents locks choices queues states c d high nodes x y =
      let same = one_has calls root_tag rest stand stands name tag count has high_level root_tag_is holds keeps told locks choices queues
      states nodes c.node d.node c.pass d.pass high x.user y.user in
      let at_d : slice_get parents d.number ≡ Some c.node = y.own.node_is ∙ ap Some (sym same.0) in
      let numbers : under parents c.node c.number ≡ under parents c.node d.number = sym x.own.number_is
      ∙ ap (λ (p : Place). p.number) same.1 ∙ y.own.number_is ∙ ap (λ (n : ℕ). under parents n d.number) (sym same.0) in
      let number = under_one parents c.node c.number d.number x.own.node_is at_d numbers in
      x.own.context_is ∙ (λ i. level_context level (same.0 i) (number i) (same.1 i)) ∙ sym y.own.context_is
