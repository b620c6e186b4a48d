-- Each kind of event keeps the rule of a lock's table, and is recorded.
use Rattle.std.proofs.Common.{◌≡◌, ◌≢◌, ◌⊎◌, ℕ, suc, ◌+◌, ◌^◌, ◌<◌, Bool, true, false, cond, List, [], ◌∷◌, ◌++◌, length, map, set}
use Rattle.std.proofs.Common.{slice_index, slice_get, refl, ap, sym, ◌∙◌, subst, inl, inr, ⊎_elim, arith, Option, Some}
use Rattle.std.proofs.Common.{length-append}
use Rattle.std.proofs.lemmas.List.{map-append}
use Rattle.std.proofs.lemmas.List.Sums.{sum_by_push}
use Rattle.std.proofs.Math.ListN.{length-set}
use mathlib.Core.Option.{some, none, some-injective, some-ne-none}
use lib.ListN.{get_elem?}
use lib.Seq.{set-get_or}
use mathlib.Core.Logic.{dite}
use native.Mathlib.Decide.{ℕ_discrete}
use Rattle.atomic_table.specs.Table.{State, Me, Act, keeps, takes, gives, stepped, put_back, Valid, carried_after, Splits, Joins}
use Rattle.atomic_table.specs.Table.{opening, Final, Seen}
use Rattle.lock_rules.specs.Hands.{MayRest}
use Rattle.lock_rules.specs.Rows.{waiting}
use Rattle.lock_rules.specs.Tag.{Tag}
use Rattle.lock_rules.specs.Views.{IsPlain, is_counted, first_view, without_next, next_split, joined_view, spent_view}
use Rattle.lock_rules.specs.declared.step.Answer.TheVariants.{Yes}
use Rattle.lock_rules.specs.declared.view.Phase.{Phase}
use Rattle.lock_rules.specs.declared.view.Phase.TheVariants.{Idle, Queued, Holding, Leaving}
use Rattle.lock_rules.specs.declared.view.View.{View}
use Rattle.lock_rules.specs.declared.view.Waiters.{Waiters}
use Rattle.lock_tables.specs.Happened.{Happened, Stepped, SteppedAndTook}
use Rattle.lock_tables.specs.Laws.{IsDisciplined, number_at}
use Rattle.lock_tables.specs.Numbers.{passes_of}
use Rattle.lock_tables.specs.Queue.{IsIn, Enters, Takes, EntersAndTakes, Leaves, Stays}
use Rattle.lock_tables.specs.Rule.{Discipline, is_holder, is_busy, is_queued, is_leaving, holding, announced, IsBehind, IsWaitedFor}
use Rattle.lock_tables.specs.Rule.{AreTold, IsAway, IsHome, IsLock}
use Rattle.lock_tables.proofs.Lists.{head_cut, there, no_true, number_is, numbers_stay, names_stay}
use Rattle.lock_tables.proofs.Numbers.{others_spent}
use Rattle.lock_tables.proofs.Queues as queues
use Rattle.lock_tables.proofs.Queues.{IsLike, Q, no_place, not_in, lives, wrong_phase}
use Rattle.lock_tables.proofs.Told.{IsCalm, waiting_same, more_behind, more_wait, tells_like, tells_calm, told_same}
use Rattle.lock_tables.proofs.Told.{told_split, told_join, told_start}
use Rattle.lock_rules.proofs.Sums.{sum_set, part_le, some_part}

pub is_one : (b : Bool) → 0 < cond b 1 0 → b ≡ true
is_one true h = refl
is_one false h = absurd (omega arith)

-- who isn't busy isn't queued
unqueued : (lingers : Bool) (p : Phase) → is_busy lingers p ≡ false → is_queued p ≡ false
unqueued lingers Idle e = refl
unqueued lingers Queued e = absurd (no_true e)
unqueued lingers Holding e = refl
unqueued lingers Leaving e = refl

append_one : (l : List ℕ) (a : ℕ) → length (l ++ a ∷ []) ≡ length l + 1
append_one l a = omega (arith, length-append l (a ∷ []))

module _ {V : Type 0} (fit : V → Type 0) (tag_of : V → Tag) (parked : V → Bool) (d : Discipline) (laws : IsDisciplined d) where
  abbrev pub St : Type 0
  St = State (Option V) View

  abbrev pub Locked : Waiters → ℕ → Tag → St → Type 0
  Locked = IsLock d fit tag_of parked

  abbrev Homes : Type 0
  Homes = List (mathlib.Core.Option.Option (Option V))

  abbrev pub MeOf : Type 0
  MeOf = Me (Option V) View

  -- what a step gives: an act that may be done, the rule behind it, and its record
  abbrev pub Kept : Waiters → ℕ → Tag → (ℕ → List ℕ → List ℕ → Type 0) → Act (Option V) → ℕ → ℕ → ℕ → MeOf → View → St → Type 0
  Kept ch n tag event act word now id me w s = Valid s.homes me.1 act × Locked ch n tag (stepped s word now id me.1 w act)
      × Stepped Locked d.queue event act word (slice_index s.words word) now me w (w, carried_after me.1 act)

  module _ (ch : Waiters) (n : ℕ) (tag : Tag) where
    abbrev pub Home : List ℕ → List ℕ → List View → Homes → Type 0
    Home = IsHome d fit tag_of parked tag

    abbrev pub Told : List ℕ → List ℕ → List View → Type 0
    Told = AreTold d.lingers ch

    abbrev holds : Phase → Bool
    holds = is_holder d.lingers

    held_is : (v : View) (b : Bool) → holds v.phase ≡ b → holding d.lingers v ≡ cond b 1 0
    held_is v b e = ap (λ (x : Bool). cond x 1 0) e

    -- the record of a step
    happens : (event : ℕ → List ℕ → List ℕ → Type 0) (act : Act (Option V)) (word now id : ℕ) (me : MeOf) (w : View) (s : St)
        (r : Locked ch n tag s) → Locked ch n tag (stepped s word now id me.1 w act)
        → get_elem? s.views id ≡ some me.0 → me.0.spent ≡ false → Valid s.homes me.1 act
        → event me.0.number (d.queue s.words s.views) (d.queue (set s.words word now) (set s.views id w))
        → Happened Locked d.queue event act word (slice_index s.words word) now me (w, carried_after me.1 act)
    happens event act word now id me w s r r' at live acted did =
        let st = r.queued.each_seat id me.0 at in
        let choice = sym ((r.told.each id me.0 at).chosen live) in
        let count = sym (st.counted live) in
        let own = sym (st.tagged live) in record {
          seat = id;
          state = s;
          allowed = subst (λ (x : Waiters × ℕ × Tag). Locked x.0 x.1 x.2 s) (λ i. (choice i, count i, own i)) r;
          knew = at;
          was = refl;
          acted = acted;
          carries = refl;
          next_allowed = subst (λ (x : Waiters × ℕ × Tag). Locked x.0 x.1 x.2 (stepped s word now id me.1 w act))
              (λ i. (choice i, count i, own i)) r';
          queue = did;
        }

    queue_of : (words seats : List ℕ) (views : List View) → Q d n tag words seats views → d.queue words views ≡ map (number_at views) seats
    queue_of words seats views q = laws.queue_is n tag words seats views q

    -- the queue after a step that leaves its seat's number
    queue_after : (words seats : List ℕ) (views : List View) (id : ℕ) (v w : View) → Q d n tag words seats (set views id w)
        → get_elem? views id ≡ some v → IsLike v w
        → d.queue words (set views id w) ≡ map (number_at views) seats
    queue_after words seats views id v w q at l =
        queue_of words seats (set views id w) q
        ∙ names_stay (number_at (set views id w)) (number_at views) seats (λ _ j _. numbers_stay views id v w at l.number j)

    -- a holder, where the slot is away
    pub holder_of : (s : St) (r : Locked ch n tag s) → IsAway d s.views s.homes → (j : ℕ) × (v : View) × (get_elem? s.views j ≡ some v)
        × (holds v.phase ≡ true)
    holder_of s r away = let h = away.held in let p = some_part (holding d.lingers) s.views (omega arith) in
        (p.0, p.1, p.2, is_one (holds p.1.phase) p.3)

    -- the slot, where nobody begins or ends to hold
    slot_same : (s : St) (r : Locked ch n tag s) (id : ℕ) (v w : View) (words seats : List ℕ) → get_elem? s.views id ≡ some v
        → holds w.phase ≡ holds v.phase
        → (Home s.words r.seats s.views s.homes → IsWaitedFor s.words r.seats → IsWaitedFor words seats)
        → Home words seats (set s.views id w) s.homes ⊎ IsAway d (set s.views id w) s.homes
    slot_same s r id v w words seats at same more =
        let t = sum_set (holding d.lingers) s.views id v w at in
        let h : holding d.lingers w ≡ holding d.lingers v = ap (λ (x : Bool). cond x 1 0) same in
        ⊎_elim
        (λ (home : Home s.words r.seats s.views s.homes). inl (record {
          value = home.value;
          slot = home.slot;
          fits = home.fits;
          tagged = home.tagged;
          relied_on = λ e. more home (home.relied_on e);
          free = let f = home.free in omega (arith, t, h, f);
        }))
        (λ (away : IsAway d s.views s.homes). inr (record { slot = away.slot; held = let f = away.held in omega (arith, t, h, f) }))
        r.slot

    -- a step that is no event of the queue
    pub stays_by : (word now id : ℕ) (me : MeOf) (w : View) (s : St) (r : Locked ch n tag s) → get_elem? s.views id ≡ some me.0
        → me.0.spent ≡ false → IsLike me.0 w
        → is_busy d.lingers w.phase ≡ is_busy d.lingers me.0.phase → holds w.phase ≡ holds me.0.phase
        → (holds w.phase ≡ true → w.followed ≡ true → 1 < length r.seats)
        → Told (set s.words word now) r.seats (set s.views id w)
        → (Home s.words r.seats s.views s.homes → IsWaitedFor s.words r.seats → IsWaitedFor (set s.words word now) r.seats)
        → d.Core n (set s.words word now) r.seats (set s.views id w) → Kept ch n tag Stays keeps word now id me w s
    stays_by word now id me w s r at live l b h followed told more core =
        let q' = queues.stays d n tag s.words (set s.words word now) r.seats s.views id me.0 w r.queued at live l
        (length-set s.words word now) b h followed core in
        let r' : Locked ch n tag (stepped s word now id me.1 w keeps) = record {
          seats = r.seats;
          queued = q';
          told = told;
          slot = slot_same s r id me.0 w (set s.words word now) r.seats at h more;
        } in
        let same = queue_after (set s.words word now) r.seats s.views id me.0 w q' at l ∙ sym (queue_of s.words r.seats s.views r.queued) in
        (tt, r', (refl, happens Stays keeps word now id me w s r r' at live tt same))

    -- such a step on another word than `waiting`
    pub stays : (word now id : ℕ) (me : MeOf) (w : View) (s : St) (r : Locked ch n tag s) → word ≢ waiting
        → get_elem? s.views id ≡ some me.0 → me.0.spent ≡ false → IsLike me.0 w → w.announced ≡ me.0.announced → IsCalm me.0 w
        → is_busy d.lingers w.phase ≡ is_busy d.lingers me.0.phase → holds w.phase ≡ holds me.0.phase
        → (holds w.phase ≡ true → w.tested ≡ Yes → (w.announced ≡ false) × IsBehind s.words r.seats)
        → (holds w.phase ≡ true → w.followed ≡ true → 1 < length r.seats)
        → d.Core n (set s.words word now) r.seats (set s.views id w) → Kept ch n tag Stays keeps word now id me w s
    stays word now id me w s r apart at live l a calm b h tested followed core =
        let words : List ℕ = set s.words word now in
        let same = waiting_same s.words word now apart in
        let behind = more_behind s.words words r.seats r.seats (omega (arith, same)) (omega arith) in
        let mine = tells_calm d.lingers ch s.words words r.seats r.seats me.0 w l a (r.told.each id me.0 at) calm
        (λ e y. let z = tested e y in (z.0, behind z.1)) in
        stays_by word now id me w s r at live l b h followed
        (told_same d.lingers ch s.words words r.seats r.seats s.views id me.0 w r.told at same a mine (λ j u ne e h' y. behind y))
        (λ _. more_wait s.words words r.seats r.seats (omega (arith, same)) (omega arith)) core

    -- the same by a load
    pub loads : (word id : ℕ) (me : MeOf) (w : View) (s : St) (r : Locked ch n tag s) → word ≢ waiting
        → get_elem? s.views id ≡ some me.0 → me.0.spent ≡ false → IsLike me.0 w → w.announced ≡ me.0.announced → IsCalm me.0 w
        → is_busy d.lingers w.phase ≡ is_busy d.lingers me.0.phase → holds w.phase ≡ holds me.0.phase
        → (holds w.phase ≡ true → w.tested ≡ Yes → (w.announced ≡ false) × IsBehind s.words r.seats)
        → (holds w.phase ≡ true → w.followed ≡ true → 1 < length r.seats)
        → d.Core n s.words r.seats (set s.views id w) → Kept ch n tag Stays keeps word (slice_index s.words word) id me w s
    loads word id me w s r apart at live l a calm b h tested followed core =
        stays word (slice_index s.words word) id me w s r apart at live l a calm b h tested followed
        (subst (λ (ws : List ℕ). d.Core n ws r.seats (set s.views id w)) (sym (set-get_or s.words word 0)) core)

    -- Enter
    pub enters : (word now id : ℕ) (me : MeOf) (w : View) (s : St) (r : Locked ch n tag s) → word ≢ waiting
        → get_elem? s.views id ≡ some me.0 → me.0.spent ≡ false → IsLike me.0 w → w.announced ≡ me.0.announced
        → w.announced ≡ is_counted w.waiters → me.0.phase ≡ Idle → w.phase ≡ Queued
        → d.Core n (set s.words word now) (r.seats ++ id ∷ []) (set s.views id w)
        → Kept ch n tag Enters keeps word now id me w s
    enters word now id me w s r apart at live l a announced idle queued core =
        let v : View = me.0 in
        let words : List ℕ = set s.words word now in
        let same = waiting_same s.words word now apart in
        let q' = queues.enters d n tag s.words (set s.words word now) r.seats s.views id v w r.queued at live l
        (length-set s.words word now) idle queued core in
        let long = append_one r.seats id in
        let r' : Locked ch n tag (stepped s word now id me.1 w keeps)
        = record {
          seats = r.seats ++ id ∷ [];
          queued = q';
          told = told_same d.lingers ch s.words words r.seats (r.seats ++ id ∷ []) s.views id v w r.told at same a
              (tells_like d.lingers ch s.words words r.seats (r.seats ++ id ∷ []) v w l a (r.told.each id v at) (λ _. announced)
              (λ e. absurd (wrong_phase is_leaving w Queued queued refl e)) (λ e _. absurd (wrong_phase holds w Queued queued refl e)))
              (λ j u ne e h. more_behind s.words words r.seats (r.seats ++ id ∷ []) (omega (arith, same)) (omega (arith, long)));
          slot = slot_same s r id v w words (r.seats ++ id ∷ []) at (ap holds queued ∙ sym (ap holds idle))
              (λ _. more_wait s.words words r.seats (r.seats ++ id ∷ []) (omega (arith, same)) (omega (arith, long)));
        } in
        let before = queue_of s.words r.seats s.views r.queued in
        let out = λ (x : IsIn v.number (d.queue s.words s.views)). not_in d n tag s.words r.seats s.views r.queued id v at live
        (ap (is_busy d.lingers) idle) (subst (IsIn v.number) before x) in
        let after = queue_after (set s.words word now) (r.seats ++ id ∷ []) s.views id v w q' at l
        ∙ map-append (number_at s.views) r.seats (id ∷ [])
        ∙ (λ i. sym before i ++ number_is s.views id v at i ∷ []) in
        (tt, r', (refl, happens Enters keeps word now id me w s r r' at live tt (out, after)))

    -- the head's pass is the head of the queue
    head_is : (s : St) (r : Locked ch n tag s) (id : ℕ) (v : View) (tail : List ℕ) → get_elem? s.views id ≡ some v → r.seats ≡ id ∷ tail
        → d.queue s.words s.views ≡ v.number ∷ map (number_at s.views) tail
    head_is s r id v tail at cut =
        queue_of s.words r.seats s.views r.queued ∙ ap (map (number_at s.views)) cut
        ∙ (λ i. number_is s.views id v at i ∷ map (number_at s.views) tail)

    -- nobody holds before a queued head takes
    home_before : (s : St) (r : Locked ch n tag s) (id : ℕ) (v : View) → get_elem? s.views id ≡ some v → v.phase ≡ Queued
        → get_elem? r.seats 0 ≡ some id → Home s.words r.seats s.views s.homes
    home_before s r id v at queued first = ⊎_elim (λ home. home) (λ (away : IsAway d s.views s.homes).
        let h = holder_of s r away in
        let same : h.0 ≡ id = some-injective h.0 id (sym ((r.queued.each_seat h.0 h.1 h.2).first h.3) ∙ first) in
        let one : h.1 ≡ v = some-injective h.1 v (sym h.2 ∙ ap (get_elem? s.views) same ∙ at) in
        absurd (no_true (sym h.3 ∙ ap (λ (x : View). holds x.phase) one ∙ ap holds queued))) r.slot

    -- the slot goes away with one who begins to hold
    slot_taken : (s : St) (id : ℕ) (v w : View) (words seats : List ℕ) (home : Home words seats s.views s.homes)
        → get_elem? s.views id ≡ some v → holds v.phase ≡ false → holds w.phase ≡ true
        → IsAway d (set s.views id w) (set s.homes 0 none)
    slot_taken s id v w words seats home at free held =
        let t = sum_set (holding d.lingers) s.views id v w at in
        let a = held_is v false free in
        let b = held_is w true held in
        let f = home.free in
        record { slot = ap (λ (hs : Homes). set hs 0 none) home.slot; held = omega (arith, t, a, b, f) }

    -- what a Take gives
    abbrev pub Taken : (ℕ → List ℕ → List ℕ → Type 0) → ℕ → ℕ → ℕ → MeOf → View → St → Type 0
    Taken event word now id me w s = (a : Act (Option V)) × Valid s.homes me.1 a × Locked ch n tag (stepped s word now id me.1 w a)
        × SteppedAndTook Locked d.queue fit tag_of event word (slice_index s.words word) now me w (w, carried_after me.1 a)

    takes_by : (event : ℕ → List ℕ → List ℕ → Type 0) (word now id : ℕ) (me : MeOf) (w : View) (s : St) (r : Locked ch n tag s)
        (seats : List ℕ) → get_elem? s.views id ≡ some me.0 → me.0.spent ≡ false
        → (home : Home s.words r.seats s.views s.homes) → holds me.0.phase ≡ false → holds w.phase ≡ true
        → Q d n tag (set s.words word now) seats (set s.views id w) → Told (set s.words word now) seats (set s.views id w)
        → event me.0.number (d.queue s.words s.views) (d.queue (set s.words word now) (set s.views id w)) → Taken event word now id me w s
    takes_by event word now id me w s r seats at live home free held q' told did =
        let act : Act (Option V) = takes 0 (Some home.value) in
        let there_now : get_elem? s.homes 0 ≡ some (some (Some home.value)) = ap (λ (hs : Homes). get_elem? hs 0) home.slot in
        let r' : Locked ch n tag (stepped s word now id me.1 w act) =
        record { seats = seats; queued = q'; told = told; slot = inr (slot_taken s id me.0 w s.words r.seats home at free held) } in
        let st = r.queued.each_seat id me.0 at in (
          act,
          there_now,
          r',
          (
            home.value,
            home.fits,
            home.tagged
                ∙ sym (st.tagged live),
            (refl, happens event act word now id me w s r r' at live there_now did),
          ),
        )

    -- who waits, where a pass begins to hold and nobody held
    told_holding : (word now id : ℕ) (v w : View) (s : St) (r : Locked ch n tag s) (seats : List ℕ) → word ≢ waiting
        → get_elem? s.views id ≡ some v → IsLike v w → w.announced ≡ v.announced → w.phase ≡ Holding → ¬ (w.tested ≡ Yes)
        → ((j : ℕ) (u : View) → j ≢ id → get_elem? s.views j ≡ some u → ¬ (holds u.phase ≡ true))
        → Told (set s.words word now) seats (set s.views id w)
    told_holding word now id v w s r seats apart at l a held untested others =
        let words : List ℕ = set s.words word now in
        let same = waiting_same s.words word now apart in
        told_same d.lingers ch s.words words r.seats seats s.views id v w r.told at same a
        (tells_like d.lingers ch s.words words r.seats seats v w l a (r.told.each id v at)
        (λ e. absurd (wrong_phase is_queued w Holding held refl e)) (λ e. absurd (wrong_phase is_leaving w Holding held refl e))
        (λ _ y. absurd (untested y)))
        (λ j u ne e h. absurd (others j u ne e h))

    -- Take, by a load
    pub takes_head : (word id : ℕ) (me : MeOf) (w : View) (s : St) (r : Locked ch n tag s) → word ≢ waiting
        → get_elem? s.views id ≡ some me.0 → me.0.spent ≡ false → IsLike me.0 w → w.announced ≡ me.0.announced
        → me.0.phase ≡ Queued → get_elem? r.seats 0 ≡ some id → w.phase ≡ Holding → ¬ (w.tested ≡ Yes) → w.followed ≡ false
        → d.Core n s.words r.seats (set s.views id w) → Taken Takes word (slice_index s.words word) id me w s
    takes_head word id me w s r apart at live l a queued first held untested alone core =
        let v : View = me.0 in
        let words : List ℕ = set s.words word (slice_index s.words word) in
        let same : words ≡ s.words = set-get_or s.words word 0 in
        let core' : d.Core n words r.seats (set s.views id w) = subst (λ (ws : List ℕ). d.Core n ws r.seats (set s.views id w))
        (sym same) core in
        let q' = queues.takes d n tag s.words words r.seats s.views id v w r.queued at live l
        (length-set s.words word (slice_index s.words word)) queued first held alone core' in
        let told = told_holding word (slice_index s.words word) id v w s r r.seats apart at l a held untested
        (λ j u ne e h. absurd (ne (some-injective j id (sym ((r.queued.each_seat j u e).first h) ∙ first)))) in
        let cut = head_cut r.seats id first in
        let stay = queue_after words r.seats s.views id v w q' at l ∙ sym (queue_of s.words r.seats s.views r.queued) in
        takes_by Takes word (slice_index s.words word) id me w s r r.seats at live (home_before s r id v at queued first)
        (ap holds queued) (ap holds held) q' told
        (ap (λ (l' : List ℕ). slice_get l' 0) (head_is s r id v cut.0 at cut.1), stay)

    -- where the queue is empty, the value is at home
    pub home_alone : (s : St) (r : Locked ch n tag s) → r.seats ≡ [] → Home s.words r.seats s.views s.homes
    home_alone s r empty = ⊎_elim (λ home. home) (λ (away : IsAway d s.views s.homes).
        let h = holder_of s r away in
        absurd (some-ne-none h.0 (sym (ap (λ (l : List ℕ). get_elem? l 0) (sym empty) ∙ (r.queued.each_seat h.0 h.1 h.2).first h.3))))
        r.slot

    -- Enter and Take
    pub enters_and_takes : (word now id : ℕ) (me : MeOf) (w : View) (s : St) (r : Locked ch n tag s) → word ≢ waiting
        → get_elem? s.views id ≡ some me.0 → me.0.spent ≡ false → IsLike me.0 w → w.announced ≡ me.0.announced
        → me.0.phase ≡ Idle → r.seats ≡ [] → w.phase ≡ Holding → ¬ (w.tested ≡ Yes) → w.followed ≡ false
        → d.Core n (set s.words word now) (id ∷ []) (set s.views id w) → Taken EntersAndTakes word now id me w s
    enters_and_takes word now id me w s r apart at live l a idle empty held untested alone core =
        let v : View = me.0 in
        let q' = queues.enters_and_takes d n tag s.words (set s.words word now) r.seats s.views id v w r.queued at live l
        (length-set s.words word now) idle empty held alone core in
        let told = told_holding word now id v w s r (id ∷ []) apart at l a held untested
        (λ j u ne e h. absurd (some-ne-none j (sym (ap (λ (l' : List ℕ). get_elem? l' 0) (sym empty)
        ∙ (r.queued.each_seat j u e).first h)))) in
        let before = queue_of s.words r.seats s.views r.queued ∙ ap (map (number_at s.views)) empty in
        let after = queue_after (set s.words word now) (id ∷ []) s.views id v w q' at l ∙ (λ i. number_is s.views id v at i ∷ []) in
        takes_by EntersAndTakes word now id me w s r (id ∷ []) at live (home_alone s r empty) (ap holds idle) (ap holds held) q' told
        (before, after)

    -- Leave: the value goes home
    pub leaves : (word now id : ℕ) (v w : View) (x : V) (c : List (ℕ × Option V)) (tail : List ℕ) (s : St) (r : Locked ch n tag s)
        → word ≢ waiting → get_elem? s.views id ≡ some v → v.spent ≡ false → IsLike v w → w.announced ≡ v.announced
        → v.announced ≡ false → holds v.phase ≡ true → r.seats ≡ id ∷ tail → is_busy d.lingers w.phase ≡ false
        → holds w.phase ≡ false → c ≡ (0, Some x) ∷ []
        → MayRest fit tag_of parked v x
        → d.Core n (set s.words word now) tail (set s.views id w) → Kept ch n tag Leaves gives word now id (v, c) w s
    leaves word now id v w x c tail s r apart at live l a silent held cut free idle carries rests core =
        let st = r.queued.each_seat id v at in
        let words : List ℕ = set s.words word now in
        let same = waiting_same s.words word now apart in
        let heads : get_elem? r.seats 0 ≡ some id = ap (λ (l' : List ℕ). get_elem? l' 0) cut in
        let told = told_same d.lingers ch s.words words r.seats tail s.views id v w r.told at same a
        (tells_like d.lingers ch s.words words r.seats tail v w l a (r.told.each id v at)
        (λ e. absurd (no_true (sym e ∙ unqueued d.lingers w.phase free))) (λ _. a ∙ silent) (λ e _. absurd (no_true (sym e ∙ idle))))
        (λ j u ne e h. absurd (ne (some-injective j id (sym ((r.queued.each_seat j u e).first h) ∙ heads)))) in
        let q' = queues.leaves d n tag s.words (set s.words word now) r.seats tail s.views id v w r.queued at live l
        (length-set s.words word now) held cut free idle core in
        let a = held_is v true held in
        let b = held_is w false idle in
        let t = sum_set (holding d.lingers) s.views id v w at in
        let away : IsAway d s.views s.homes =
        ⊎_elim (λ (home : Home s.words r.seats s.views s.homes). absurd
        (let p = part_le (holding d.lingers) s.views id v at in let f = home.free in omega (arith, p, f, a))) (λ y. y) r.slot in
        let homes : Homes = put_back s.homes c in
        let slot : homes ≡ some (Some x) ∷ [] = ap (put_back s.homes) carries ∙ ap (λ (hs : Homes). set hs 0 (some (Some x))) away.slot in
        let one : length r.seats ≡ suc (length tail) = ap length cut in
        let r' : Locked ch n tag (stepped s word now id c w gives) = record {
          seats = tail;
          queued = q';
          told = told;
          slot = inl (record {
            value = x;
            slot = slot;
            fits = rests.fits;
            tagged = rests.tagged ∙ st.tagged live;
            relied_on = λ e. ⊎_elim (λ (m : 1 < length r.seats). inl (omega (arith, m, one)))
                (λ (m : 0 < slice_index s.words waiting). inr (omega (arith, m, same)))
                (((r.told.each id v at).tested held (rests.relied_on e)).1);
            free = let f = away.held in omega (arith, t, a, b, f);
          });
        } in
        let after = queue_after (set s.words word now) tail s.views id v w q' at l in (
          tt,
          r',
          (
            refl,
            happens Leaves gives word now id (v, c) w s r r' at live tt (head_is s r id v tail at cut
                ∙ ap (λ (l' : List ℕ). v.number ∷ l') (sym after)),
          ),
        )

    -- a pass is split off
    pub splits : (id : ℕ) (v : View) → v.spent ≡ false → v.from < v.to → Splits (Locked ch n tag) id v (without_next v) (next_split v)
    splits id v live more s r at =
        let w : View = without_next v in
        let new : View = next_split v in
        let t = sum_set (holding d.lingers) s.views id v w at in
        let p = sum_by_push (holding d.lingers) (set s.views id w) new in record {
          seats = r.seats;
          queued = queues.splits d n tag s.words r.seats s.views id v r.queued at live more
              (laws.splits n tag s.words r.seats s.views id v r.queued at live more);
          told = told_split d.lingers ch s.words r.seats s.views id v r.told at live;
          slot = ⊎_elim
              (λ (home : Home s.words r.seats s.views s.homes). inl (record {
                value = home.value;
                slot = home.slot;
                fits = home.fits;
                tagged = home.tagged;
                relied_on = home.relied_on;
                free = let f = home.free in omega (arith, t, p, f);
              }))
              (λ (away : IsAway d s.views s.homes). inr (record { slot = away.slot; held = let f = away.held in omega (arith, t, p, f) }))
              r.slot;
        }

    -- a seat is joined into another
    pub joins : (id : ℕ) (v : View) (other : ℕ) (w : View) → v.spent ≡ false → w.phase ≡ Idle → IsPlain w → w.announced ≡ false
        → Joins (Locked ch n tag) id v other w (joined_view v w) spent_view
    joins id v other w live idle plain silent s r at apart at' =
        let both : View = joined_view v w in
        let h = held_is w false (ap holds idle) in
        let t = sum_set (holding d.lingers) s.views id v both at in
        let p = sum_set (holding d.lingers) (set s.views id both) other w spent_view at' in record {
          seats = r.seats;
          queued = queues.joins d n tag s.words r.seats s.views id v other w r.queued at live at' idle plain
              (laws.joins n tag s.words r.seats s.views id v other w r.queued at live apart at' idle plain);
          told = told_join d.lingers ch s.words r.seats s.views id v other w r.told at at' silent;
          slot = ⊎_elim
              (λ (home : Home s.words r.seats s.views s.homes). inl (record {
                value = home.value;
                slot = home.slot;
                fits = home.fits;
                tagged = home.tagged;
                relied_on = home.relied_on;
                free = let f = home.free in omega (arith, t, p, h, f);
              }))
              (λ (away : IsAway d s.views s.homes). inr
              (record { slot = away.slot; held = let f = away.held in omega (arith, t, p, h, f) }))
              r.slot;
        }

    -- the table at the start
    pub starts : (x : V) → 0 < n → n < 2 ^ 32 → fit x → tag_of x ≡ tag → parked x ≡ false
        → Locked ch n tag (opening (d.opens n) (Some x ∷ []) (first_view d.algorithm ch n tag))
    starts x some_pass few fits tagged free = record {
      seats = [];
      queued = queues.starts d n tag ch (d.opens n) some_pass few (laws.opens_long n) (laws.opens ch n tag some_pass few);
      told = told_start d.lingers ch d.algorithm n tag (d.opens n) (laws.opens_unannounced n);
      slot = inl (record {
        value = x;
        slot = refl;
        fits = fits;
        tagged = tagged;
        relied_on = λ e. absurd (no_true (sym e ∙ free));
        free = refl;
      });
    }

    -- where a seat that is idle has all numbers, the queue is empty
    all_idle : (s : St) (r : Locked ch n tag s) (id : ℕ) (v : View) → get_elem? s.views id ≡ some v → v.phase ≡ Idle → passes_of v ≡ n
        → (j : ℕ) → ¬ (get_elem? r.seats 0 ≡ some j)
    all_idle s r id v at idle all j e =
        let p = r.queued.each_place 0 j e in
        let ne = no_place d n tag s.words r.seats s.views id v r.queued at (ap (is_busy d.lingers) idle) 0 j e in
        let gone = others_spent n s.views id v j p.view r.queued.numbers at all ne p.at in
        no_true (sym gone ∙ lives d n tag s.words r.seats s.views r.queued j p.view p.at p.is)

    -- where a seat that isn't announced has all numbers, nobody is announced
    all_silent : (s : St) (r : Locked ch n tag s) (id : ℕ) (v : View) → get_elem? s.views id ≡ some v → v.announced ≡ false
        → passes_of v ≡ n → ¬ (0 < slice_index s.words waiting)
    all_silent s r id v at silent all m =
        let p = some_part announced s.views (omega (arith, m, r.told.waiting_is)) in
        let is = is_one p.1.announced p.3 in
        dite (ℕ_discrete p.0 id)
        (λ same. let one : p.1 ≡ v = some-injective p.1 v (sym p.2 ∙ ap (get_elem? s.views) same ∙ at) in
        no_true (sym is ∙ ap (λ (x : View). x.announced) one ∙ silent))
        (λ ne. no_true (sym is ∙ (r.told.each p.0 p.1 p.2).gone (others_spent n s.views id v p.0 p.1 r.queued.numbers at all ne p.2)))

    -- what a lock that is closed has at home
    pub ends : (id : ℕ) (v : View) (words : List ℕ) (slots : List (Option V)) → Final (Seen (Locked ch n tag) id v) words slots
        → v.phase ≡ Idle → v.announced ≡ false → passes_of v ≡ n
        → (x : V) × (get_elem? slots 0 ≡ some (Some x)) × fit x × (tag_of x ≡ tag) × (parked x ≡ false)
    ends id v words slots (s, (r, at), told, long, homes) idle silent all =
        let home : Home s.words r.seats s.views s.homes = ⊎_elim (λ h. h) (λ (away : IsAway d s.views s.homes).
        let h = holder_of s r away in absurd (all_idle s r id v at idle all h.0 ((r.queued.each_seat h.0 h.1 h.2).first h.3))) r.slot in
        let quiet : parked home.value ≡ false = elim (parked home.value) as (λ b. parked home.value ≡ b → parked home.value ≡ false) [
          | false ↦ λ e. e
          | true ↦ λ e. ⊎_elim
              (λ (m : 0 < length r.seats). let c = there r.seats 0 m in absurd (all_idle s r id v at idle all c.0 c.1))
              (λ (m : 0 < slice_index s.words waiting). absurd (all_silent s r id v at silent all m)) (home.relied_on e)
        ] refl in
        (home.value, homes 0 (Some home.value) (ap (λ (hs : Homes). get_elem? hs 0) home.slot), home.fits, home.tagged, quiet)
