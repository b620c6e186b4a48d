-- Who has which context of the high lock in hand.
use Rattle.std.proofs.Common.{◌≡◌, inl, inr, refl, ⊎_elim, ℕ, Bool, List, ap, sym, ◌∙◌, subst, Option, Some}
use Rattle.std.specs.Prelude.{slice_get}
use Rattle.atomic_table.specs.Table.{State}
use Rattle.lock_rules.specs.Tag.{Tag}
use Rattle.lock_rules.specs.Meanings.{Place}
use Rattle.lock_rules.specs.declared.view.Phase.{Phase}
use Rattle.lock_rules.specs.declared.view.View.{View}
use Rattle.lock_rules.specs.declared.view.Waiters.{Waiters}
use Rattle.lock_tables.specs.Points.{IsHomeValue, IsPassIn}
use Rattle.clof_compose.specs.Contexts.{Context, own_tag}
use Rattle.clof_compose.specs.Levels.{IsStanding, kept_stand}
use Rattle.clof_compose.specs.Meanings.{Rest, Climb, Stand, Descent}
use Rattle.clof_compose.specs.Nodes.{AreLocks, IsLockOf}
use Rattle.clof_compose.specs.Owns.{context_in}
use Rattle.clof_compose.specs.declared.own.High.{High}
use Rattle.clof_compose.specs.declared.own.High.TheVariants.{Idle, Kept, Away}
use Rattle.clof_compose.specs.declared.own.Own.{Own}
use Rattle.clof_compose.specs.declared.root.Root.{Root}
use Rattle.clof_compose.proofs.Contexts.{own_tag-tells}
use Rattle.level_laws.specs.Uses.{AreNodes, Keeps, HasInHand, HoldersHave, IsUser, NoUserOfHome, OneUser}
use Rattle.level_laws.proofs.Holders.{one_head}

pub some_is : {A : Type 0} (a b : A) → Some a ≡ Some b → a ≡ b
some_is a b e = cc

-- a node, the tag of whose basic lock names this context
pub record Names (t : Tag) (c : Context) : Type 0 where
  pub node : ℕ
  pub named : own_tag node c ≡ t

module _ {B : Type 0} (tag : B → Tag) (has : Context → Type 0) (high_level : ℕ) (root_tag_is : Tag) (locks : List B)
    (are : AreLocks tag has high_level root_tag_is locks) where
  -- two nodes whose locks' tags name one context are one
  pub one_node : (n m : ℕ) (a b : B) (c : Context) → slice_get locks n ≡ Some a → slice_get locks m ≡ Some b → Names (tag a) c
      → Names (tag b) c → n ≡ m
  one_node n m a b c at_n at_m x y =
      let first : IsLockOf tag has high_level root_tag_is n a = are n a at_n in
      let second : IsLockOf tag has high_level root_tag_is m b = are m b at_m in
      let x_told = own_tag-tells x.node n c first.context (x.named ∙ first.tag_is) in
      let y_told = own_tag-tells y.node m c second.context (y.named ∙ second.tag_is) in
      sym first.is.number_is ∙ ap (λ (k : Context). k.number) (sym x_told.1 ∙ y_told.1) ∙ second.is.number_is

-- Tables of nodes, where whoever has a context in hand is at a place whose tag names it
module _ {P Pass Held B : Type 0} (calls : P → List ℕ) (root_tag : P → Tag) (rest : Pass → Rest) (stand : Held → Stand (Root P))
    (stands : Held → Type 0) (name tag : B → Tag) (count : B → ℕ) (has : Context → Type 0) (high_level : ℕ) (root_tag_is : Tag)
    (holds : Phase → Bool) (uses : Place → Context → Type 0) (names : (place : Place) (c : Context) → uses place c → Names place.tag c)
    (locks : List B) (choices : ℕ → Waiters) (queues : ℕ → List ℕ) (states : ℕ → State (Option (Own P Pass Held)) View)
    (nodes : AreNodes calls root_tag rest stand stands tag count has high_level root_tag_is holds locks choices queues states) where
  user_names : (n : ℕ) (p : Place) (c : Context) (u : IsUser name tag holds uses locks states n p c) → Names (tag u.lock) c
  user_names n p c u = subst (λ (t : Tag). Names t c) u.own.tag_is (names p c u.in_hand)

  pub one_has : (n m : ℕ) (p q : Place) (c : Context) → IsUser name tag holds uses locks states n p c
      → IsUser name tag holds uses locks states m q c → (n ≡ m) × (p ≡ q)
  one_has n m p q c u w =
      let same = one_node tag has high_level root_tag_is locks nodes.locks_are n m u.lock w.lock c u.at w.at
      (user_names n p c u) (user_names m q c w) in
      let one : u.lock ≡ w.lock = some_is u.lock w.lock (sym u.at ∙ ap (slice_get locks) same ∙ w.at) in
      let first = (nodes.rules n u.lock u.at).holder_first p.number u.holds_it in
      let second = (nodes.rules n u.lock u.at).holder_first q.number
      (subst (λ (k : ℕ). IsPassIn holds (states k).views q.number) (sym same) w.holds_it) in
      let number = one_head (queues n) p.number q.number first second in
      let lock = u.own.lock_is ∙ ap name one ∙ sym w.own.lock_is in
      let tags = u.own.tag_is ∙ ap tag one ∙ sym w.own.tag_is in (
        same,
        λ i. record { lock = lock i; tag = tags i; number = number i },
      )

  pub none_has : (n m : ℕ) (p : Place) (b : B) (x : Own P Pass Held) → slice_get locks m ≡ Some b → IsHomeValue (states m).homes x
      → ¬ IsUser name tag holds uses locks states n p (context_in rest stand x.high)
  none_has n m p b x at home u =
      let c = context_in rest stand x.high in
      let rule = nodes.rules m b at in
      let same = one_node tag has high_level root_tag_is locks nodes.locks_are n m u.lock b c u.at at (user_names n p c u)
      (record { node = x.node; named = rule.value_tag x home }) in
      rule.alone x home p.number (subst (λ (k : ℕ). IsPassIn holds (states k).views p.number) same u.holds_it)

-- whoever keeps the high lock is at such a place
pub keeper_names : (P Pass : Type 0) {Held : Type 0} (stand : Held → Stand (Root P)) (stands : Held → Type 0) (level : ℕ) (place : Place)
    (c : Context) → Keeps P Pass Held level place c stand stands → Names place.tag c
keeper_names P Pass stand stands level place c k = record {
  node = k.low.value.node;
  named = ap (own_tag k.low.value.node) (sym k.own) ∙ k.holding.tag_same;
}

module _ (P Pass Held : Type 0) {Queue Leave : Type 0} (rest : Pass → Rest) (stand : Held → Stand (Root P)) (stands : Held → Type 0)
    (climb : Queue → Climb) (climbs : Queue → Type 0) (descent : Leave → Descent) (descends : Leave → Type 0) (level : ℕ) where
  -- whichever way the context is in hand, the tag of the place names it
  names : (place : Place) (c : Context)
      → HasInHand P Pass Held rest stand stands climb climbs descent descends level place c → Names place.tag c
  names place c u =
      ⊎_elim (λ k. record { node = k.low.value.node; named = ap (own_tag k.low.value.node) (sym k.own) ∙ k.tag_same })
      (⊎_elim (λ k. keeper_names P Pass stand stands level place c k)
      (⊎_elim (λ k. record { node = k.low.value.node; named = ap (own_tag k.low.value.node) (sym k.own) ∙ k.climbing.tag_same })
      (λ k. record { node = k.low.value.node; named = ap (own_tag k.low.value.node) (sym k.own) ∙ k.descending.tag_same }))) u

module _ {P Pass Held Queue Leave B : Type 0} (calls : P → List ℕ) (root_tag : P → Tag) (rest : Pass → Rest) (stand : Held → Stand (Root P))
    (stands : Held → Type 0) (climb : Queue → Climb) (climbs : Queue → Type 0) (descent : Leave → Descent) (descends : Leave → Type 0)
    (name tag : B → Tag) (count : B → ℕ) (has : Context → Type 0) (high_level : ℕ) (root_tag_is : Tag) (level : ℕ) (holds : Phase → Bool)
  where
    abbrev uses : Place → Context → Type 0
    uses place c = HasInHand P Pass Held rest stand stands climb climbs descent descends level place c

    told : (place : Place) (c : Context) → uses place c → Names place.tag c
    told place c u = names P Pass Held rest stand stands climb climbs descent descends level place c u

    pub one_user : OneUser calls root_tag rest stand stands climb climbs descent descends name tag count has high_level root_tag_is level
        holds
    one_user locks choices queues states n m p q c nodes u w =
        one_has calls root_tag rest stand stands name tag count has high_level root_tag_is holds uses told locks choices queues states nodes
        n m p q c u w

    pub no_user_of_home : NoUserOfHome calls root_tag rest stand stands climb climbs descent descends name tag count has high_level
        root_tag_is level holds
    no_user_of_home locks choices queues states n m p b x nodes at home u =
        none_has calls root_tag rest stand stands name tag count has high_level root_tag_is holds uses told locks choices queues states
        nodes n m p b x at home u

module _ {P Pass Held Queue Leave : Type 0} (LowQueue LowLeave : Type 0) (rest : Pass → Rest) (stand : Held → Stand (Root P))
    (stands : Held → Type 0) (climb : Queue → Climb) (climbs : Queue → Type 0) (descent : Leave → Descent) (descends : Leave → Type 0) where
  -- the context of a kept high lock is that of its holder
  kept_context : (high : High Pass Held) → IsStanding stands high → (kept_stand stand high).context ≡ context_in rest stand high
  kept_context (Idle p) h = absurd h
  kept_context (Kept t) h = refl
  kept_context Away h = absurd h

  pub holders_have : HoldersHave LowQueue LowLeave rest stand stands climb climbs descent descends
  holders_have = record {
    rests = λ level low pass is tagged.
        let same : context_in rest stand low.value.high ≡ (rest pass).context = ap (context_in rest stand) is in
        inl (record {
          low = low;
          pass = pass;
          at = refl;
          high_is = is;
          tag_same = ap (own_tag low.value.node) (sym same) ∙ tagged;
          own = sym same;
        });
    keeps = λ h holding. inr (inl (record {
      low = h.low;
      at = refl;
      holding = holding;
      own = kept_context h.low.value.high holding.stands_is;
    }));
    takes = λ level low queue is. inr (inr (inl (record { low = low; queue = queue; at = refl; climbing = is.0; own = refl })));
    releases = λ level low leave is. inr (inr (inr (record { low = low; leave = leave; at = refl; descending = is.0; own = refl })));
  }
