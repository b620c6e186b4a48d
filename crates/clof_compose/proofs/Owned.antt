-- What a node's value is known to hold.
use Rattle.std.proofs.Common.{◌≡◌, ℕ, ◌+◌, ◌<◌, ◌≤◌, Bool, true, List, refl, ap, sym, ◌∙◌, subst, arith, Option, Some, None}
use Rattle.std.specs.Prelude.{IfSome, IsSomeAnd}
use Rattle.lock_rules.specs.Tag.{Tag}
use Rattle.std.proofs.lemmas.List.Elements.{All-weaker}
use Rattle.keep_local.specs.declared.turn.Turn.{Turn}
use Rattle.keep_local.specs.Turns.{run}
use Rattle.keep_local.specs.States.{ShareState}
use Rattle.clof_compose.specs.Calls.{HasOpened}
use Rattle.clof_compose.specs.Contexts.{Context, own_tag}
use Rattle.clof_compose.specs.Levels.{IsHolding, IsStanding, kept_stand}
use Rattle.clof_compose.specs.Meanings.{Rest, Stand}
use Rattle.clof_compose.specs.Roots.{IsKept}
use Rattle.clof_compose.specs.Owns.{IsHandedOver, IsKeptFor, IsOwnFit, context_in, is_kept, own_tag_of}
use Rattle.clof_compose.specs.declared.own.High.{High}
use Rattle.clof_compose.specs.declared.own.High.TheVariants.{Idle, Kept, Away}
use Rattle.clof_compose.specs.declared.root.Root.{Root}
use Rattle.clof_compose.proofs.Climbs.{run_is_none, run_kept}

module _ {P Pass Held : Type 0} (rest : Pass → Rest) (stand : Held → Stand (Root P)) (stands : Held → Type 0) (calls : P
    → List ℕ) (tag : P → Tag) where
  kept_fit : (node kept : ℕ) (said : Bool) (high : High Pass Held) → is_kept rest stand high ≡ true
      → IsOwnFit rest stand calls tag stands node kept said high
      → IsKeptFor calls tag node kept said (IsStanding stands high) (kept_stand stand high)
  kept_fit node kept said (Idle p) e fit = absurd (cc)
  kept_fit node kept said (Kept h) e fit = fit
  kept_fit node kept said Away e fit = absurd (cc)

  pub kept_context : (high : High Pass Held) → is_kept rest stand high ≡ true → context_in rest stand high ≡ (kept_stand stand high).context
  kept_context (Idle p) e = absurd (cc)
  kept_context (Kept h) e = refl
  kept_context Away e = absurd (cc)

  -- the root of a kept high lock
  pub handed_over : (t : Tag) (level node kept : ℕ) (said : Bool) (high : High Pass Held) (r : Root P) → is_kept rest stand high ≡ true
      → IsOwnFit rest stand calls tag stands node kept said high → (context_in rest stand high).level ≡ level + 1
      → (context_in rest stand high).tag ≡ t → (kept_stand stand high).root ≡ Some r
      → IsHandedOver calls tag t level node kept r
  handed_over t level node kept said high r e fit at_level at_tag root =
      let k = kept_fit node kept said high e fit in
      let c = kept_context high e in
      let u : Tag = (kept_stand stand high).context.tag in
      let over : IsHandedOver calls tag u k.level node kept r = subst (λ (o : Option (Root P)). IsSomeAnd o (IsHandedOver calls tag u
      k.level node kept)) root k.root_is in
      let above = k.above in
      let same_level = ap (λ (x : Context). x.level) c in
      let level_is : k.level ≡ level = omega (arith, above, at_level, same_level) in
      let tag_is : u ≡ t = sym (ap (λ (x : Context). x.tag) c) ∙ at_tag in
      subst (λ (x : Tag). IsHandedOver calls tag x level node kept r) tag_is (subst (λ (n : ℕ). IsHandedOver calls tag u n node kept r)
      level_is over)

  -- and its context
  pub kept_above : (level : ℕ) (high : High Pass Held) → is_kept rest stand high ≡ true → (context_in rest stand high).level ≡ level + 1
      → (kept_stand stand high).context.level ≡ level + 1
  kept_above level high e at = sym (ap (λ (x : Context). x.level) (kept_context high e)) ∙ at

  pub kept_tagged : (node : ℕ) (tag_is : Tag) (high : High Pass Held) → is_kept rest stand high ≡ true
      → own_tag_of rest stand node high ≡ tag_is → own_tag node (kept_stand stand high).context ≡ tag_is
  kept_tagged node tag_is high e tagged = ap (own_tag node) (sym (kept_context high e)) ∙ tagged

module _ {P : Type 0} where
  -- a holder whose root was changed
  pub holding_with : (level node kept : ℕ) (tag_is : Tag) (stands : Type 0) (s s' : Stand (Root P)) (r : Root P)
      → s' ≡ record s { root = Some r } → s.context.level ≡ level + 1 → own_tag node s.context ≡ tag_is
      → stands → kept ≡ run level r.trail.closed → IsHolding level node kept tag_is stands s'
  holding_with level node kept tag_is stands s s' r e above tagged st kept_is = record {
    stands_is = st;
    above = ap (λ (x : Stand (Root P)). x.context.level) e ∙ above;
    tag_same = ap (λ (x : Stand (Root P)). own_tag node x.context) e ∙ tagged;
    kept_is = subst (λ (o : Option (Root P)). IfSome o (λ q. kept ≡ run level q.trail.closed)) (sym (ap (λ (x : Stand (Root P)). x.root)
        e)) kept_is;
  }

  pub some_with : (Q : Root P → Type 0) (s s' : Stand (Root P)) (r : Root P) → s' ≡ record s { root = Some r } → Q r → IsSomeAnd s'.root Q
  some_with Q s s' r e q = subst (λ (o : Option (Root P)). IsSomeAnd o Q) (sym (ap (λ (x : Stand (Root P)). x.root) e)) q

  no_run : (calls : P → List ℕ) (tag : P → Tag) (t : Tag) (level above : ℕ) (share : ShareState) (o : Option (Root P))
      → above ≡ level + 1 → IsSomeAnd o (HasOpened calls tag t above share)
      → IfSome o (λ r. 0 ≡ run level r.trail.closed)
  no_run calls tag t level above share None up has = tt
  no_run calls tag t level above share (Some r) up has = run_is_none calls tag t level above share r up has

  -- a holder that has taken the high lock anew
  pub holding_anew : (calls : P → List ℕ) (tag : P → Tag) (t : Tag) (level above node : ℕ) (tag_is : Tag) (share : ShareState) (stands :
      Type 0) (s : Stand (Root P)) (c : Context)
      → above ≡ level + 1 → s.context ≡ c → c.level ≡ level + 1 → own_tag node c ≡ tag_is → stands
      → IsSomeAnd s.root (HasOpened calls tag t above share) → IsHolding level node 0 tag_is stands s
  holding_anew calls tag t level above node tag_is share stands s c up same at tagged st has = record {
    stands_is = st;
    above = ap (λ (x : Context). x.level) same ∙ at;
    tag_same = ap (own_tag node) same ∙ tagged;
    kept_is = no_run calls tag t level above share s.root up has;
  }

  pub at_root : (Q : Root P → Type 0) (o : Option (Root P)) (r : Root P) → o ≡ Some r → IsSomeAnd o Q → Q r
  at_root Q o r e q = subst (λ (x : Option (Root P)). IsSomeAnd x Q) e q

  pub if_root : (Q : Root P → Type 0) (o : Option (Root P)) (r : Root P) → o ≡ Some r → IfSome o Q → Q r
  if_root Q o r e q = subst (λ (x : Option (Root P)). IfSome x Q) e q

-- what may be made of a root at a level may be made of it at any higher one
pub kept_higher : {P : Type 0} (calls : P → List ℕ) (level above : ℕ) (old new : Root P) → level ≤ above → IsKept calls level old new
    → IsKept calls above old new
kept_higher calls level above old new h k = record {
  name = k.name;
  receipts = k.receipts;
  recorded = k.recorded;
  shape = k.shape;
  quotas = k.quotas;
  more = k.more;
  closed = k.closed;
  lower = All-weaker (λ (t : Turn). t.left < level) (λ (t : Turn). t.left < above) (λ t l. omega (arith, l, h)) k.more k.lower;
  in_hand = k.in_hand;
}

-- a holder of a level still stands where nothing was closed that left at the level or above
pub holding_stays : {P : Type 0} (calls : P → List ℕ) (level node kept : ℕ) (tag_is : Tag) (stands stands' : Type 0) (s s' : Stand (Root
    P)) (now r : Root P) → IsHolding level node kept tag_is stands s
    → s.root ≡ Some now → s' ≡ record s { root = Some r } → IsKept calls level now r → (IsKept calls s.context.level now r → stands')
    → IsHolding level node kept tag_is stands' s'
holding_stays {P} calls level node kept tag_is stands stands' s s' now r holding root same k st =
    let above = holding.above in
    holding_with level node kept tag_is stands' s s' r same above holding.tag_same (st (kept_higher calls level s.context.level now r
    (omega (arith, above)) k))
    (if_root (λ (q : Root P). kept ≡ run level q.trail.closed) s.root now root holding.kept_is ∙ sym (ap (run level) k.closed
    ∙ run_kept level now.trail.closed k.more k.lower))

module _ {P Pass Held : Type 0} (rest : Pass → Rest) (stand : Held → Stand (Root P)) (stands : Held → Type 0) (calls : P
    → List ℕ) (tag : P → Tag) where
  -- the value of a node that keeps the high lock for the next one
  pub kept_fits : (high : High Pass Held) (level node kept : ℕ) (said : Bool) → IsStanding stands high
      → (kept_stand stand high).context.level ≡ level + 1 → (kept_stand stand high).context.number ≡ node
      → said ≡ true → IsSomeAnd (kept_stand stand high).root (IsHandedOver calls tag (kept_stand stand high).context.tag level node kept)
      → IsOwnFit rest stand calls tag stands node kept said high
  kept_fits (Idle p) level node kept said st above number is over = absurd st
  kept_fits (Kept h) level node kept said st above number is over = record {
    level = level;
    above = above;
    number_is = number;
    said_is =
        is;
    stands_is = st;
    root_is = over;
  }
  kept_fits Away level node kept said st above number is over = absurd st
