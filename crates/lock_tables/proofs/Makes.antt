-- A step of a kind that is kept may be made, and is recorded.
use Rattle.std.proofs.Common.{◌≡◌, ◌≢◌, ℕ, ◌+◌, ◌%◌, ◌^◌, Bool, true, false, ◌||◌, List, set, slice_index, ap, sym, ◌∙◌, subst, Option}
use Rattle.std.proofs.Common.{refl, ◌==◌, eq-eqb}
use borrow.Author.Tests.{eqb-true}
use mathlib.Core.Logic.{dite}
use prog.Atomic.{either}
use native.Mathlib.Decide.{ℕ_discrete}
use lib.ListN.{get_elem?}
use lib.Seq.{set-get_or}
use mathlib.Core.Option.{some}
use Rattle.atomic_table.specs.Table.{State, Me, Act, keeps, gives, stepped, Valid, carried_after, Allows}
use Rattle.lock_rules.specs.Rows.{waiting}
use Rattle.lock_rules.specs.Tag.{Tag}
use Rattle.lock_rules.specs.declared.step.Answer.TheVariants.{Open, Yes}
use Rattle.lock_rules.specs.declared.view.View.{View}
use Rattle.lock_rules.specs.declared.view.Waiters.{Waiters}
use Rattle.lock_tables.specs.Kinds.{Form, Event, no_event, enter, take, enter_and_take, leave, Outcome, always, showing, StepKind}
use Rattle.lock_tables.specs.Kinds.{load, store, swap, add, exchange, written, written_else, gives_by, may_give, Expects}
use Rattle.lock_tables.specs.Kinds.{Carries, Did, Moved, Made}
use Rattle.lock_tables.specs.KeptKinds.{Moment, IsSame, MakesEvent, IsNotedBy, IsKeptBy, IsKept}
use Rattle.lock_tables.specs.Laws.{IsDisciplined}
use Rattle.lock_tables.specs.Rule.{Discipline, IsLock}
use Rattle.lock_tables.proofs.Queues.{IsLike}
use Rattle.lock_tables.proofs.Steps.{stays, enters, takes_head, enters_and_takes, leaves}

pub same_like : (v w : View) → IsSame v w → IsLike v w
same_like v w e = record {
  number = ap (λ (x : View). x.number) e;
  from = ap (λ (x : View). x.from) e;
  to = ap (λ (x : View). x.to) e;
  joined = ap (λ (x : View). x.joined) e;
  spent = ap (λ (x : View). x.spent) e;
  tag = ap (λ (x : View). x.tag.tag) e;
  count = ap (λ (x : View). x.count) e;
  waiters = ap (λ (x : View). x.waiters) e;
}

open_is_not_yes : ¬ (Open ≡ Yes)
open_is_not_yes e = absurd (cc)

-- `now` is what a step of this form writes
abbrev pub IsWritten : Form → ℕ → Outcome → View → ℕ → ℕ → Type 0
IsWritten f operand (always m) v found now = now ≡ written f operand found
IsWritten f operand (showing this m other) v found now = (found ≡ this v → now ≡ written f operand found)
    × (found ≢ this v → now ≡ written_else f operand found)

pub by_load : (operand : ℕ) (o : Outcome) (v : View) (x : ℕ) → IsWritten load operand o v x x
by_load operand (always m) v x = refl
by_load operand (showing this m other) v x = (λ _. refl, λ _. refl)

pub by_store : (operand new : ℕ) (o : Outcome) (v : View) (x : ℕ) → new ≡ operand → IsWritten store operand o v x new
by_store operand new (always m) v x e = e
by_store operand new (showing this m other) v x e = (λ _. e, λ _. e)

pub by_swap : (operand new : ℕ) (o : Outcome) (v : View) (x : ℕ) → new ≡ operand → IsWritten swap operand o v x new
by_swap operand new (always m) v x e = e
by_swap operand new (showing this m other) v x e = (λ _. e, λ _. e)

pub by_add : (operand more : ℕ) (o : Outcome) (v : View) (x : ℕ) → more ≡ operand → IsWritten add operand o v x ((x + more) % 2 ^ 64)
by_add operand more (always m) v x e = ap (λ (y : ℕ). (x + y) % 2 ^ 64) e
by_add operand more (showing this m other) v x e = (λ _. ap (λ (y : ℕ). (x + y) % 2 ^ 64) e, λ _. ap (λ (y : ℕ). (x + y) % 2 ^ 64) e)

-- a load leaves the words
pub loaded_core : (Core : List ℕ → Type 0) (words : List ℕ) (word : ℕ) → Core words → Core (set words word (slice_index words word))
loaded_core Core words word c = subst Core (sym (set-get_or words word 0)) c

other_test : (a b : ℕ) → a ≢ b → (a == b) ≡ false
other_test a b ne = elim (a == b) as (λ x. (a == b) ≡ x → x ≡ false) [
  | true ↦ λ e. absurd (ne (eqb-true a b e))
  | false ↦ λ e. refl
] refl

pub by_exchange : (operand new expected : ℕ) (o : Outcome) (v : View) (x : ℕ) → new ≡ operand → Expects o v expected
    → IsWritten exchange operand o v x (either (x == expected) new x)
by_exchange operand new expected (always m) v x e is = absurd is
by_exchange operand new expected (showing this m other) v x e is = (
  λ same. ap (λ (b : Bool). either b new x) (eq-eqb x expected (same ∙ sym is)) ∙ e,
  λ ne. ap (λ (b : Bool). either b new x) (other_test x expected (λ y. ne (y ∙ is))),
)

module _ {V : Type 0} (fit : V → Type 0) (tag_of : V → Tag) (parked : V → Bool) (d : Discipline) where
  abbrev M : Type 0
  M = Me (Option V) View

  -- the view that a step of the kind gives its seat
  seen : (e : Event) (word found now : ℕ) (me : M) (w : View) (me' : M) → Did d fit tag_of parked e word found now me w me' → me'.0 ≡ w
  seen no_event word found now me w me' k = ap (λ (m : M). m.0) k.0
  seen enter word found now me w me' k = ap (λ (m : M). m.0) k.0
  seen take word found now me w me' k = ap (λ (m : M). m.0) k.3.0
  seen enter_and_take word found now me w me' k = ap (λ (m : M). m.0) k.3.0
  seen leave word found now me w me' k = ap (λ (m : M). m.0) k.0

  same_after : (f : Form) (operand : ℕ) (o : Outcome) (word found : ℕ) (me me' : M) → IsNotedBy f o me.0 found
      → Moved d fit tag_of parked f operand o word found me me' → IsSame me.0 me'.0
  same_after f operand (always m) word found me me' y k =
      subst (IsSame me.0) (sym (seen m.event word found (written f operand found) me (m.after me.0 found) me' k)) y.same
  same_after f operand (showing this m other) word found me me' y k =
      dite (ℕ_discrete found (this me.0))
      (λ is. subst (IsSame me.0) (sym (seen m.event word found (written f operand found) me (m.after me.0 found) me' (k.0 is))) y.0.same)
      (λ ne. subst (IsSame me.0)
      (sym (seen other.event word found (written_else f operand found) me (other.after me.0 found) me' (k.1 ne))) y.1.same)

  pub made_same : (k : StepKind) (kept : IsKept d k) (me : M) (found : ℕ) (me' : M) → Made d fit tag_of parked k me found me'
      → IsSame me.0 me'.0
  made_same k kept me found me' m =
      same_after k.form (k.operand me.0) k.outcome (k.word me.0) found me me' (kept.noted me.0 found) m

module _ {V : Type 0} (fit : V → Type 0) (tag_of : V → Tag) (parked : V → Bool) (d : Discipline) (laws : IsDisciplined d) (ch : Waiters)
    (n : ℕ) (tag : Tag) where
  abbrev S : Type 0
  S = State (Option V) View

  abbrev N : Type 0
  N = Me (Option V) View

  abbrev L : S → Type 0
  L = IsLock d fit tag_of parked ch n tag

  abbrev moment : (s : S) (r : L s) (id : ℕ) (v : View) → get_elem? s.views id ≡ some v → v.spent ≡ false → Moment d
  moment s r id v at live = record {
    choice = ch;
    passes = n;
    tag = tag;
    words = s.words;
    seats = r.seats;
    views = s.views;
    queued = r.queued;
    told = r.told;
    seat = id;
    view = v;
    at = at;
    live = live;
  }

  -- what a step gives: an act that may be done, the rule behind it, and its record
  abbrev Gives : S → ℕ → N → ℕ → ℕ → View → (N → Type 0) → Type 0
  Gives s id me word now w told = (a : Act (Option V)) × Valid s.homes me.1 a × L (stepped s word now id me.1 w a)
      × told (w, carried_after me.1 a)

  did : (e : Event) (word now id : ℕ) (me : N) (w : View) (s : S) (r : L s) → word ≢ waiting
      → (at : get_elem? s.views id ≡ some me.0) → (live : me.0.spent ≡ false)
      → Carries fit tag_of parked (gives_by e) me → IsSame me.0 w → MakesEvent d (moment s r id me.0 at live) word now w e
      → Gives s id me word now w (Did d fit tag_of parked e word (slice_index s.words word) now me w)
  did no_event word now id me w s r apart at live c same x =
      let y = stays fit tag_of parked d laws ch n tag word now id me w s r apart at live (same_like me.0 w same)
      (ap (λ (v : View). v.announced) same) x.calm x.busy x.holds x.tested x.followed x.core in
      (keeps, y.0, y.1, y.2)
  did enter word now id me w s r apart at live c same x =
      let y = enters fit tag_of parked d laws ch n tag word now id me w s r apart at live (same_like me.0 w same)
      (ap (λ (v : View). v.announced) same) x.announced x.idle x.queued x.core in
      (keeps, y.0, y.1, y.2)
  did take word now id me w s r apart at live c same x =
      let core : d.Core n s.words r.seats (set s.views id w) = subst (λ (ws : List ℕ). d.Core n ws r.seats (set s.views id w))
      (ap (set s.words word) x.loaded ∙ set-get_or s.words word 0) x.core in
      subst (λ (m : ℕ). Gives s id me word m w (Did d fit tag_of parked take word (slice_index s.words word) m me w)) (sym x.loaded)
      (takes_head fit tag_of parked d laws ch n tag word id me w s r apart at live (same_like me.0 w same)
      (ap (λ (v : View). v.announced) same) x.queued x.first x.held (λ e. open_is_not_yes (sym x.untested ∙ e)) x.alone core)
  did enter_and_take word now id me w s r apart at live c same x =
      enters_and_takes fit tag_of parked d laws ch n tag word now id me w s r apart at live (same_like me.0 w same)
      (ap (λ (v : View). v.announced) same) x.idle x.empty x.held (λ e. open_is_not_yes (sym x.untested ∙ e)) x.alone x.core
  did leave word now id me w s r apart at live c same x =
      let y = leaves fit tag_of parked d laws ch n tag word now id me.0 w c.0 me.1 x.tail s r apart at live (same_like me.0 w same)
      (ap (λ (v : View). v.announced) same) x.silent x.held x.cut x.free x.unheld c.1 c.2 x.core in
      (gives, y.0, y.1, y.2)

  first_carries : (a b : Bool) (me : N) → Carries fit tag_of parked (a || b) me → Carries fit tag_of parked a me
  first_carries true b me c = c
  first_carries false b me c = tt

  other_carries : (a b : Bool) (me : N) → Carries fit tag_of parked (a || b) me → Carries fit tag_of parked b me
  other_carries true true me c = c
  other_carries true false me c = tt
  other_carries false b me c = c

  moved : (f : Form) (operand : ℕ) (o : Outcome) (word now id : ℕ) (me : N) (s : S) (r : L s) → word ≢ waiting
      → (at : get_elem? s.views id ≡ some me.0) → (live : me.0.spent ≡ false) → Carries fit tag_of parked (may_give o) me
      → IsWritten f operand o me.0 (slice_index s.words word) now
      → IsNotedBy f o me.0 (slice_index s.words word)
      → IsKeptBy d (moment s r id me.0 at live) word (slice_index s.words word) f operand o
      → (w : View) × Gives s id me word now w (Moved d fit tag_of parked f operand o word (slice_index s.words word) me)
  moved f operand (always m) word now id me s r apart at live c e y k =
      let found : ℕ = slice_index s.words word in
      let w : View = m.after me.0 found in
      let z = did m.event word (written f operand found) id me w s r apart at live c y.same k in
      (w, subst (λ (x : ℕ). Gives s id me word x w (Did d fit tag_of parked m.event word found (written f operand found) me w)) (sym e) z)
  moved f operand (showing this m other) word now id me s r apart at live c e y k =
      let found : ℕ = slice_index s.words word in
      dite (ℕ_discrete found (this me.0))
      (λ is.
      let w : View = m.after me.0 found in
      let z = did m.event word (written f operand found) id me w s r apart at live
      (first_carries (gives_by m.event) (gives_by other.event) me c) y.0.same (k.0 is) in
      let g = subst (λ (x : ℕ). Gives s id me word x w (Did d fit tag_of parked m.event word found (written f operand found) me w))
      (sym (e.0 is)) z in
      (w, (g.0, g.1, g.2, (λ _. g.3, λ ne. absurd (ne is)))))
      (λ ne.
      let w : View = other.after me.0 found in
      let z = did other.event word (written_else f operand found) id me w s r apart at live
      (other_carries (gives_by m.event) (gives_by other.event) me c) y.1.same (k.1 ne) in
      let g = subst (λ (x : ℕ). Gives s id me word x w (Did d fit tag_of parked other.event word found (written_else f operand found) me w))
      (sym (e.1 ne)) z in
      (w, (g.0, g.1, g.2, (λ is. absurd (ne is), λ _. g.3))))

  -- what a step of the kind tells
  abbrev pub Tells : StepKind → N → ℕ → N → Type 0
  Tells k me found me' = k.tells me.0 found × Made d fit tag_of parked k me found me'

  pub allows : (k : StepKind) (kept : IsKept d k) (f : Form) (word : ℕ) (g : ℕ → ℕ) (slots id : ℕ) (me : N) → k.form ≡ f
      → word ≡ k.word me.0 → ((x : ℕ) → IsWritten f (k.operand me.0) k.outcome me.0 x (g x)) → k.asks me.0 → me.0.spent ≡ false
      → Carries fit tag_of parked (may_give k.outcome) me
      → Allows L slots id me word g (Tells k me)
  allows k kept f word g slots id me form at_word written asks live carries =
      subst (λ (i : ℕ). Allows L slots id me i g (Tells k me)) (sym at_word) (λ s r count at low.
      let found : ℕ = slice_index s.words (k.word me.0) in
      let x = kept.keeps (moment s r id me.0 at live) asks low in
      let y = moved k.form (k.operand me.0) k.outcome (k.word me.0) (g found) id me s r x.apart at live carries
      (subst (λ (h : Form). IsWritten h (k.operand me.0) k.outcome me.0 found (g found)) (sym form) (written found))
      (kept.noted me.0 found) x.kept in
      (y.0, y.1.0, y.1.1, y.1.2, (x.told, y.1.3)))

  pub allows_load : (k : StepKind) (kept : IsKept d k) (word slots id : ℕ) (me : N) → k.form ≡ load → word ≡ k.word me.0
      → k.asks me.0 → me.0.spent ≡ false → Carries fit tag_of parked (may_give k.outcome) me
      → Allows L slots id me word (λ x. x) (Tells k me)
  allows_load k kept word slots id me form at_word asks live carries =
      allows k kept load word (λ x. x) slots id me form at_word (λ x. by_load (k.operand me.0) k.outcome me.0 x) asks live carries

  pub allows_swap : (k : StepKind) (kept : IsKept d k) (word new slots id : ℕ) (me : N) → k.form ≡ swap
      → word ≡ k.word me.0 → new ≡ k.operand me.0 → k.asks me.0 → me.0.spent ≡ false
      → Carries fit tag_of parked (may_give k.outcome) me
      → Allows L slots id me word (λ _. new) (Tells k me)
  allows_swap k kept word new slots id me form at_word operand asks live carries =
      allows k kept swap word (λ _. new) slots id me form at_word (λ x. by_swap (k.operand me.0) new k.outcome me.0 x operand)
      asks live carries

  pub allows_add : (k : StepKind) (kept : IsKept d k) (word more slots id : ℕ) (me : N) → k.form ≡ add
      → word ≡ k.word me.0 → more ≡ k.operand me.0 → k.asks me.0 → me.0.spent ≡ false
      → Carries fit tag_of parked (may_give k.outcome) me
      → Allows L slots id me word (λ x. (x + more) % 2 ^ 64) (Tells k me)
  allows_add k kept word more slots id me form at_word operand asks live carries =
      allows k kept add word (λ x. (x + more) % 2 ^ 64) slots id me form at_word
      (λ x. by_add (k.operand me.0) more k.outcome me.0 x operand) asks live carries

  pub allows_exchange : (k : StepKind) (kept : IsKept d k) (word expected new slots id : ℕ) (me : N) → k.form ≡ exchange
      → word ≡ k.word me.0 → new ≡ k.operand me.0 → Expects k.outcome me.0 expected → k.asks me.0 → me.0.spent ≡ false
      → Carries fit tag_of parked (may_give k.outcome) me
      → Allows L slots id me word (λ x. either (x == expected) new x) (Tells k me)
  allows_exchange k kept word expected new slots id me form at_word operand expects asks live carries =
      allows k kept exchange word (λ x. either (x == expected) new x) slots id me form at_word
      (λ x. by_exchange (k.operand me.0) new expected k.outcome me.0 x operand expects) asks live carries

  -- a store doesn't tell what it found
  pub allows_store : (k : StepKind) (kept : IsKept d k) (word new slots id : ℕ) (me : N) → k.form ≡ store
      → word ≡ k.word me.0 → new ≡ k.operand me.0 → k.asks me.0 → me.0.spent ≡ false
      → Carries fit tag_of parked (may_give k.outcome) me
      → Allows L slots id me word (λ _. new) (λ _ me'. (found : ℕ) × k.tells me.0 found × Made d fit tag_of parked k me found me')
  allows_store k kept word new slots id me form at_word operand asks live carries s r count at low =
      let y = allows k kept store word (λ _. new) slots id me form at_word
      (λ x. by_store (k.operand me.0) new k.outcome me.0 x operand) asks live carries s r count at low in
      (y.0, y.1, y.2, y.3, (slice_index s.words word, y.4.0, y.4.1))
