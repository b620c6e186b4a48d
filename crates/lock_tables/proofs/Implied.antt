-- The rule of a lock's table implies the rule of a basic lock.
use Rattle.std.proofs.Common.{◌≡◌, ℕ, ◌<◌, Bool, true, false, cond, ◌||◌, List, length, map, slice_get, slice_index, refl, ap, sym, ◌∙◌}
use Rattle.std.proofs.Common.{subst, inl, inr, ⊎_elim, arith}
use Rattle.std.proofs.Common.{Option, Some}
use mathlib.Core.Option.{some, none, some-injective, some-ne-none}
use lib.ListN.{get_elem?}
use Rattle.atomic_table.specs.Table.{State}
use Rattle.lock_rules.specs.Rows.{waiting}
use Rattle.lock_rules.specs.Tag.{Tag}
use Rattle.lock_rules.specs.Views.{is_counted}
use Rattle.lock_rules.specs.declared.view.Phase.{Phase}
use Rattle.lock_rules.specs.declared.view.Phase.TheVariants.{Idle, Queued, Holding, Leaving}
use Rattle.lock_rules.specs.declared.view.View.{View}
use Rattle.lock_rules.specs.declared.view.Waiters.{Waiters}
use Rattle.lock_tables.specs.Laws.{IsDisciplined, number_at}
use Rattle.lock_tables.specs.Points.{IsAt, IsPassIn, IsAnnounced, IsHomeValue, IsBasic}
use Rattle.lock_tables.specs.Queue.{IsIn, IsHead}
use Rattle.lock_tables.specs.Rule.{Discipline, is_holder, is_busy, is_queued, announced, holding, IsHome, IsAway, IsLock}
use Rattle.lock_rules.proofs.Sums.{part_le, some_part}
use Rattle.lock_tables.proofs.Lists.{no_true, number_is, mapped, mapped_at, there}
use Rattle.lock_tables.proofs.Points.{one_seat, no_other}
use Rattle.lock_tables.proofs.Queues as queues
use Rattle.lock_tables.proofs.Steps.{holder_of, is_one}

-- busy is queued or holding
busy_either : (lingers : Bool) (p : Phase) → (is_queued p || is_holder lingers p) ≡ is_busy lingers p
busy_either lingers Idle = refl
busy_either lingers Queued = refl
busy_either lingers Holding = refl
busy_either lingers Leaving = refl

module _ {V : Type 0} (fit : V → Type 0) (tag_of : V → Tag) (parked : V → Bool) (d : Discipline) (laws : IsDisciplined d) (ch : Waiters)
    (n : ℕ) (tag : Tag) (s : State (Option V) View) (r : IsLock d fit tag_of parked ch n tag s) where
  abbrev queue : List ℕ
  queue = d.queue s.words s.views

  abbrev holds : Phase → Bool
  holds = is_holder d.lingers

  queue_is : queue ≡ map (number_at s.views) r.seats
  queue_is = laws.queue_is n tag s.words r.seats s.views r.queued

  -- the seat of each place, and the place of each seat
  seat_in : (p i : ℕ) → slice_get queue i ≡ Some p → (j : ℕ) × (get_elem? r.seats i ≡ some j) × (number_at s.views j ≡ p)
  seat_in p i e = mapped (number_at s.views) r.seats i p (ap (λ (q : List ℕ). slice_get q i) (sym queue_is) ∙ e)

  in_seat : (i j : ℕ) (v : View) → get_elem? r.seats i ≡ some j → get_elem? s.views j ≡ some v → slice_get queue i ≡ Some v.number
  in_seat i j v e at = ap (λ (q : List ℕ). slice_get q i) queue_is ∙ mapped_at (number_at s.views) r.seats i j e
      ∙ ap Some (number_is s.views j v at)

  no_repeats : (i j p : ℕ) → slice_get queue i ≡ Some p → slice_get queue j ≡ Some p → i ≡ j
  no_repeats i j p e e' =
      let a = seat_in p i e in
      let b = seat_in p j e' in
      let u = r.queued.each_place i a.0 a.1 in
      let w = r.queued.each_place j b.0 b.1 in
      let live = queues.lives d n tag s.words r.seats s.views r.queued a.0 u.view u.at u.is in
      let live' = queues.lives d n tag s.words r.seats s.views r.queued b.0 w.view w.at w.is in
      let num : w.view.number ≡ u.view.number = sym (number_is s.views b.0 w.view w.at) ∙ b.2 ∙ sym a.2
      ∙ number_is s.views a.0 u.view u.at in
      let same : b.0 ≡ a.0 = queues.one_seat_of d n tag s.words r.seats s.views r.queued a.0 b.0 u.view w.view u.at w.at live live' num in
      r.queued.once i j a.0 a.1 (b.1 ∙ ap some same)

  members : (p : ℕ) → IsIn p queue → IsPassIn (λ x. is_queued x || holds x) s.views p
  members p (i, e) =
      let a = seat_in p i e in
      let x = r.queued.each_place i a.0 a.1 in record {
        seat = a.0;
        view = x.view;
        at = record { at = x.at; unspent = queues.lives d n tag s.words r.seats s.views r.queued a.0 x.view x.at x.is };
        pass = sym (number_is s.views a.0 x.view x.at) ∙ a.2;
        phase = busy_either d.lingers x.view.phase ∙ x.is;
      }

  all_members : (p : ℕ) → IsPassIn (λ x. is_queued x || holds x) s.views p → IsIn p queue
  all_members p x =
      let b = (r.queued.each_seat x.seat x.view x.at.at).placed (sym (busy_either d.lingers x.view.phase) ∙ x.phase) in
      (b.0, in_seat b.0 x.seat x.view b.1 x.at.at ∙ ap Some x.pass)

  heads : (p : ℕ) → IsPassIn holds s.views p → IsHead p queue
  heads p x = in_seat 0 x.seat x.view ((r.queued.each_seat x.seat x.view x.at.at).first x.phase) x.at.at ∙ ap Some x.pass

  holds_in : IsAway d s.views s.homes → (p : ℕ) × IsPassIn holds s.views p
  holds_in away =
      let h = holder_of fit tag_of parked d laws ch n tag s r away in
      let live = queues.lives d n tag s.words r.seats s.views r.queued h.0 h.1 h.2 (queues.held_busy d.lingers h.1.phase h.3) in
      (h.1.number, record { seat = h.0; view = h.1; at = record { at = h.2; unspent = live }; pass = refl; phase = h.3 })

  at_home : (x : V) → IsHomeValue s.homes x → (home : IsHome d fit tag_of parked tag s.words r.seats s.views s.homes) × (home.value ≡ x)
  at_home x e = ⊎_elim
      (λ (home : IsHome d fit tag_of parked tag s.words r.seats s.views s.homes). let same = some-injective (some (Some home.value))
      (some (Some x)) (sym (ap (λ hs. get_elem? hs 0) home.slot) ∙ e) in (home, cc))
      (λ (away : IsAway d s.views s.homes). let no = some-injective none (some (Some x)) (sym (ap (λ hs. get_elem? hs 0) away.slot)
      ∙ e) in absurd (some-ne-none (Some x) (sym no)))
      r.slot

  -- a seat at a place has a pass in the queue
  pass_at : (i : ℕ) → i < length r.seats → (p : ℕ) × (slice_get queue i ≡ Some p)
  pass_at i h = let t = there r.seats i h in let x = r.queued.each_place i t.0 t.1 in (x.view.number, in_seat i t.0 x.view t.1 x.at)

  -- where the word `waiting` isn't 0, a pass is announced
  announced_at : 0 < slice_index s.words waiting → (p : ℕ) × IsAnnounced s.views p
  announced_at m =
      let p = some_part announced s.views (omega (arith, m, r.told.waiting_is)) in
      let is = is_one p.1.announced p.3 in
      let live : p.1.spent ≡ false = elim (p.1.spent) as (λ b. p.1.spent ≡ b → p.1.spent ≡ false) [
        | false ↦ λ e. e
        | true ↦ λ e. absurd (no_true (sym is ∙ (r.told.each p.0 p.1 p.2).gone e))
      ] refl in
      (p.1.number, record { seat = p.0; view = p.1; at = record { at = p.2; unspent = live }; pass = refl; announced = is })

  -- with a value at home nobody holds
  nobody : (x : V) → IsHomeValue s.homes x → (p : ℕ) → ¬ IsPassIn holds s.views p
  nobody x e p h =
      let home = at_home x e in
      let q = part_le (holding d.lingers) s.views h.seat h.view h.at.at in
      let one : holding d.lingers h.view ≡ 1 = ap (λ (b : Bool). cond b 1 0) h.phase in
      let f = home.0.free in omega (arith, q, one, f)

  choice : (j : ℕ) (v : View) → IsAt s.views j v → v.waiters ≡ ch
  choice j v at = (r.told.each j v at.at).chosen at.unspent

  pub is_basic : IsBasic fit tag_of parked holds ch n tag queue s
  is_basic = record {
    no_repeats = no_repeats;
    members = members;
    all_members = all_members;
    holder_first = heads;
    kept = ⊎_elim (λ (home : IsHome d fit tag_of parked tag s.words r.seats s.views s.homes). inl
        (home.value, ap (λ hs. get_elem? hs 0) home.slot)) (λ (away : IsAway d s.views s.homes). inr (holds_in away)) r.slot;
    alone = nobody;
    relied_on = λ x e p. let h = at_home x e in ⊎_elim (λ (m : 0 < length r.seats). inl (pass_at 0 m))
        (λ (m : 0 < slice_index s.words waiting). inr (announced_at m)) (h.0.relied_on (ap parked h.1 ∙ p));
    behind = λ j v at h noted. let t = (r.told.each j v at.at).tested h noted in (
      t.0,
      ⊎_elim (λ (m : 1 < length r.seats). inl (pass_at 1 m)) (λ (m : 0 < slice_index s.words waiting). inr (announced_at m)) t.1,
    );
    one_choice = choice;
    uncounted = λ j v at e. sym (ap is_counted (choice j v at)) ∙ (r.told.each j v at.at).counted e;
    counted = r.told.waiting_is;
    queued = λ j v at e. (r.told.each j v at.at).queued e ∙ ap is_counted (choice j v at);
    leaving = λ j v at e. (r.told.each j v at.at).leaving e;
    one_tag = λ j v at. (r.queued.each_seat j v at.at).tagged at.unspent;
    value_tag = λ x e. let h = at_home x e in sym (ap tag_of h.1) ∙ h.0.tagged;
    value_fits = λ x e. let h = at_home x e in subst fit h.1 h.0.fits;
    one_seat = one_seat n s.views r.queued.numbers;
    no_other = no_other n s.views r.queued.numbers;
  }
