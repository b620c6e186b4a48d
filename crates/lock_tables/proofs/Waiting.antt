-- The steps on the word `waiting` keep the rule of a lock's table.
use Rattle.std.proofs.Common.{◌≡◌, ℕ, ◌+◌, ◌-◌, ◌*◌, ◌%◌, ◌^◌, ◌<◌, ◌≤◌, Bool, true, false, not, cond, ◌==◌, eq-eqb, List, length}
use Rattle.std.proofs.Common.{set, slice_index, refl, ap, sym, ◌∙◌, inr, arith, Option}
use Rattle.std.proofs.Math.Nat.{mod-eq_of_lt}
use Rattle.std.proofs.lemmas.Nat.{mod-mul-add}
use mathlib.Core.Option.{some-injective}
use mathlib.Core.Logic.{dite}
use native.Mathlib.Decide.{ℕ_discrete}
use lib.Seq.{set-get_or}
use Rattle.atomic_table.specs.Table.{State, Me, keeps, Allows}
use Rattle.lock_rules.specs.Rows.{waiting}
use Rattle.lock_rules.specs.Tag.{Tag}
use Rattle.lock_rules.specs.Views.{is_counted, answer_of}
use Rattle.lock_rules.specs.declared.step.Answer.TheVariants.{No, Yes}
use Rattle.lock_rules.specs.declared.view.Phase.{Phase}
use Rattle.lock_rules.specs.declared.view.Phase.TheVariants.{Idle, Holding}
use Rattle.lock_rules.specs.declared.view.View.{View}
use Rattle.lock_rules.specs.declared.view.Waiters.{Waiters}
use Rattle.lock_tables.specs.Counting.{is_announced, Announced, Withdrawn, Counted}
use Rattle.lock_tables.specs.Happened.{announced_view, withdrawn_view, tested_view}
use Rattle.lock_tables.specs.Laws.{IsDisciplined}
use Rattle.lock_tables.specs.Rule.{Discipline, is_holder, is_queued, is_leaving, announced, IsLock}
use Rattle.lock_tables.specs.Rule.{holding as held_as}
use Rattle.lock_rules.proofs.Sums.{part_le}
use Rattle.lock_tables.proofs.Lists.{no_true, wrote_here}
use Rattle.lock_tables.proofs.Queues.{IsLike, wrong_phase}
use Rattle.lock_tables.proofs.Steps.{stays_by}
use Rattle.lock_tables.proofs.Told.{more_behind, more_wait, told_step, told_same, few_wait}

-- a view that differs in what it knows of steps and waiters has the same passes
noted_like : (v : View) (s : ℕ) (b : Bool) → IsLike v record v { steps = s; announced = b }
noted_like v s b = record {
  number = refl;
  from = refl;
  to = refl;
  joined = refl;
  spent = refl;
  tag = refl;
  count = refl;
  waiters = refl;
}

module _ {V : Type 0} (fit : V → Type 0) (tag_of : V → Tag) (parked : V → Bool) (d : Discipline) (laws : IsDisciplined d) (ch : Waiters)
    (n : ℕ) (tag : Tag) where
  abbrev Rule : State (Option V) View → Type 0
  Rule = IsLock d fit tag_of parked ch n tag

  abbrev holds : Phase → Bool
  holds = is_holder d.lingers

  -- the word `waiting` is there, and far from its end
  waits_there : (s : State (Option V) View) (r : Rule s) → waiting < length s.words
  waits_there s r = let l = r.queued.long in omega (arith, l)

  waits_few : (s : State (Option V) View) (r : Rule s) → slice_index s.words waiting < 2 ^ 32
  waits_few s r =
      let f = few_wait d.lingers ch s.words r.seats s.views r.told in
      let a = r.queued.numbers.in_all in let b = r.queued.few in omega (arith, f, a, b)

  pub announces : (slots id : ℕ) (me : Me (Option V) View) → me.0.phase ≡ Idle → me.0.spent ≡ false → me.0.announced ≡ false
      → is_counted me.0.waiters ≡ true
      → Allows Rule slots id me waiting (λ x. (x + 1) % 2 ^ 64) (Announced d fit tag_of parked me)
  announces slots id me idle live silent counted s r count at low =
      let v : View = me.0 in
      let w : View = announced_view v in
      let found : ℕ = slice_index s.words waiting in
      let few = waits_few s r in
      let now : (found + 1) % 2 ^ 64 ≡ found + 1 = mod-eq_of_lt (omega (arith, few)) in
      let words : List ℕ = set s.words waiting ((found + 1) % 2 ^ 64) in
      let here : slice_index words waiting ≡ found + 1 = wrote_here s.words waiting ((found + 1) % 2 ^ 64) (waits_there s r) ∙ now in
      let x = r.told.each id v at in
      let a : announced v ≡ 0 = ap (λ (b : Bool). cond b 1 0) silent in
      let b : announced w ≡ 1 = ap (λ (y : Bool). cond y 1 0) counted in
      let told = told_step d.lingers ch s.words words r.seats r.seats s.views id v w r.told at (omega (arith, here, a, b))
      (record {
        chosen = x.chosen;
        gone = λ e. absurd (no_true (sym e ∙ live));
        counted = λ _. counted;
        queued = λ e. absurd (wrong_phase is_queued w Idle idle refl e);
        leaving = λ e. absurd (wrong_phase is_leaving w Idle idle refl e);
        tested = λ e _. absurd (wrong_phase holds w Idle idle refl e);
      })
      (λ j u ne e h. more_behind s.words words r.seats r.seats (omega (arith, here)) (omega arith)) in
      let k = stays_by fit tag_of parked d laws ch n tag waiting ((found + 1) % 2 ^ 64) id me w s r at live
      (noted_like v w.steps w.announced) refl refl (λ e y. absurd (wrong_phase holds w Idle idle refl e)) told
      (λ _. more_wait s.words words r.seats r.seats (omega (arith, here)) (omega arith))
      (laws.notes n s.words r.seats s.views ((found + 1) % 2 ^ 64) id v w at refl r.queued.core) in
      (w, keeps, k.0, k.1, k.2)

  pub withdraws : (slots id : ℕ) (me : Me (Option V) View) → me.0.phase ≡ Holding → me.0.spent ≡ false → me.0.announced ≡ true
      → Allows Rule slots id me waiting (λ x. (x + (2 ^ 64 - 1)) % 2 ^ 64) (Withdrawn d fit tag_of parked me)
  withdraws slots id me held live told_of s r count at low =
      let v : View = me.0 in
      let w : View = withdrawn_view v in
      let found : ℕ = slice_index s.words waiting in
      let few = waits_few s r in
      let a : announced v ≡ 1 = ap (λ (b : Bool). cond b 1 0) told_of in
      let some_wait : 1 ≤ found = let p = part_le announced s.views id v at in omega (arith, p, a, r.told.waiting_is) in
      let now : (found + (2 ^ 64 - 1)) % 2 ^ 64 ≡ found - 1 =
      ap (λ (y : ℕ). y % 2 ^ 64) (let e : found + (2 ^ 64 - 1) ≡ 1 * 2 ^ 64 + (found - 1) = omega (arith, some_wait) in e)
      ∙ mod-mul-add 1 (2 ^ 64) (found - 1) (omega (arith, few)) in
      let next : ℕ = (found + (2 ^ 64 - 1)) % 2 ^ 64 in
      let words : List ℕ = set s.words waiting next in
      let here : slice_index words waiting ≡ found - 1 = wrote_here s.words waiting next (waits_there s r) ∙ now in
      let x = r.told.each id v at in
      let holding : holds v.phase ≡ true = ap holds held in
      let first = (r.queued.each_seat id v at).first holding in
      let told = told_step d.lingers ch s.words words r.seats r.seats s.views id v w r.told at (omega (arith, here, a, some_wait))
      (record {
        chosen = x.chosen;
        gone = λ _. refl;
        counted = λ e. absurd (no_true (sym e));
        queued = λ e. absurd (wrong_phase is_queued w Holding held refl e);
        leaving = λ _. refl;
        tested = λ _ y. absurd (no_true (sym told_of ∙ (x.tested holding y).0));
      })
      (λ j u ne e h. absurd (ne (some-injective j id (sym ((r.queued.each_seat j u e).first h) ∙ first)))) in
      let k = stays_by fit tag_of parked d laws ch n tag waiting next id me w s r at live (noted_like v w.steps w.announced) refl refl
      (r.queued.each_seat id v at).followed told
      (λ home. absurd (let p = part_le (held_as d.lingers) s.views id v at in
      let one : held_as d.lingers v ≡ 1 = ap (λ (b : Bool). cond b 1 0) holding in let f = home.free in omega (arith, p, one, f)))
      (laws.notes n s.words r.seats s.views next id v w at refl r.queued.core) in
      (w, keeps, k.0, k.1, k.2)

  -- where the word isn't 0, somebody is announced
  some_announced : (found : ℕ) → answer_of (is_announced found) ≡ Yes → 0 < found
  some_announced found noted = dite (ℕ_discrete found 0)
      (λ e. let same : (found == 0) ≡ true = eq-eqb found 0 e in
      let no : No ≡ Yes = sym (ap (λ (b : Bool). answer_of (not b)) same) ∙ noted in absurd cc)
      (λ ne. omega arith)

  pub counts : (slots id : ℕ) (me : Me (Option V) View) → me.0.phase ≡ Holding → me.0.spent ≡ false → me.0.announced ≡ false
      → Allows Rule slots id me waiting (λ x. x) (Counted d fit tag_of parked me)
  counts slots id me held live silent s r count at low =
      let v : View = me.0 in
      let found : ℕ = slice_index s.words waiting in
      let w : View = tested_view v (is_announced found) in
      let words : List ℕ = set s.words waiting found in
      let same : words ≡ s.words = set-get_or s.words waiting 0 in
      let here : slice_index words waiting ≡ found = ap (λ (ws : List ℕ). slice_index ws waiting) same in
      let x = r.told.each id v at in
      let like : IsLike v w = record {
        number = refl;
        from = refl;
        to = refl;
        joined = refl;
        spent = refl;
        tag = refl;
        count = refl;
        waiters = refl;
      } in
      let told = told_same d.lingers ch s.words words r.seats r.seats s.views id v w r.told at here refl
      (record {
        chosen = x.chosen;
        gone = x.gone;
        counted = x.counted;
        queued = x.queued;
        leaving = x.leaving;
        tested = λ _ y. (silent, inr (let m = some_announced found y in omega (arith, m, here)));
      })
      (λ j u ne e h. more_behind s.words words r.seats r.seats (omega (arith, here)) (omega arith)) in
      let k = stays_by fit tag_of parked d laws ch n tag waiting found id me w s r at live like refl refl
      (r.queued.each_seat id v at).followed told
      (λ _. more_wait s.words words r.seats r.seats (omega (arith, here)) (omega arith))
      (laws.notes n s.words r.seats s.views found id v w at refl r.queued.core) in
      (w, keeps, k.0, k.1, k.2)
