-- Each kind of step keeps the rule of a trail's table, and tells what it is said to tell.
use Rattle.std.proofs.Common.{◌≡◌, ◌≢◌, ℕ, zero, suc, ◌+◌, ◌%◌, ◌^◌, ◌<◌, ◌≤◌, Bool, true, false, List, [], ◌∷◌, ◌++◌, length, get_or}
use Rattle.std.proofs.Common.{set, slice_index, nat_le, nat_lt, ◌==◌, ◌&&◌, eq-eqb, refl, ap, sym, ◌∙◌, subst, ⊎_elim, arith}
use Rattle.std.proofs.Common.{length-append}
use Rattle.std.specs.Prelude.{sum, replicate, All}
use Rattle.std.specs.List.{sum_by, enumerate_from}
use Rattle.std.proofs.lemmas.List.{length-replicate}
use Rattle.std.proofs.lemmas.List.Sums.{sum_by_push, sum_by-cons}
use Rattle.std.proofs.lemmas.List.Elements.{All-nil, All-cons, All-head, All-tail, All-replicate, All-append, All-map}
use Rattle.std.proofs.lemmas.List.FromFn.{length-enumerate_from, get_or-enumerate_from}
use Rattle.std.proofs.lemmas.Grind.{get_or_default_zero}
use Rattle.std.proofs.lemmas.Bool.Decides.{nat_tests}
use mathlib.Core.Option.{some, none, some-injective, some-ne-none}
use mathlib.Core.Logic.{dite}
use native.Mathlib.Decide.{ℕ_discrete}
use lib.ListN.{get_elem?}
use lib.Seq.{set-get_or}
use Rattle.atomic_table.specs.Table.{State, step, keeps, stepped, Allows, Splits, Joins, opening}
use Rattle.atomic_table.proofs.Lists.{at_set, set_else, set_again, at_longer, at_snoc}
use Rattle.keep_local.proofs.Sums.{sum_set, part_le, parts_le}
use Rattle.keep_local.specs.declared.view.Tally.{Tally}
use Rattle.keep_local.specs.declared.view.View.{View}
use Rattle.keep_local.specs.Views.{times, stands_in, new_tally, first_view, first_alone, behind_first, without_first, first_split}
use Rattle.keep_local.specs.Views.{joined_view, spent_view, with_turns, with_turns_of}
use Rattle.keep_local.specs.Tie.{IsTallyOf, IsHome, SeatStands, HasHome, IsTied}
use Rattle.keep_local.specs.Steps.{Seated, IsTold, appended, looked}
use Rattle.keep_local.proofs.Counts.{one_if, times_own, times_others, turns_fit, tallied, tallied-cons, tallied-append, tallied_cut}
use Rattle.keep_local.proofs.Counts.{none_tallied, span_tallied}

abbrev St : Type 0
St = State (Unit {0}) View

abbrev few : Bool → Type 0
few b = one_if b ≤ 1

-- the seat that was read is there, and a write changes it
set_at : {A : Type 0} (xs : List A) (i : ℕ) (x y : A) → get_elem? xs i ≡ some x → get_elem? (set xs i y) i ≡ some y
set_at [] i x y e = absurd (some-ne-none x (sym e))
set_at (z ∷ zs) zero x y e = refl
set_at (z ∷ zs) (suc i) x y e = set_at zs i x y e

pub one_at : {A : Type 0} (x y : A) (j : ℕ) → get_elem? (x ∷ []) j ≡ some y → (j ≡ 0) × (x ≡ y)
one_at x y zero e = (refl, some-injective x y e)
one_at x y (suc j) e = absurd (some-ne-none y (sym e))

module _ (quotas : List ℕ) where
  abbrev Rule : St → Type 0
  Rule = IsTied quotas

  -- a seat that isn't home
  away : {callers : List ℕ} {seat : ℕ} (v : View) → v.home ≡ false → v.home ≡ true → IsHome quotas callers seat v
  away v not_home is = absurd (let x : false ≡ true = sym not_home ∙ is in cc)

  -- a home seat with other tallies
  still_home : (callers : List ℕ) (seat : ℕ) (v w : View) → w.quotas ≡ v.quotas → w.callers ≡ v.callers
      → (v.home ≡ true → IsHome quotas callers seat v) → v.home ≡ true → IsHome quotas callers seat w
  still_home callers seat v w q c had is = let h = had is in
      record { first = h.first; quotas_are = q ∙ h.quotas_are; callers_are = c ∙ h.callers_are }

  -- the first seat after a write to a seat that is home where the first one is
  home_set : (views : List View) (id : ℕ) (v w : View) → get_elem? views id ≡ some v → w.home ≡ v.home → HasHome views
      → HasHome (set views id w)
  home_set views id v w at same had = dite (ℕ_discrete 0 id)
      (λ e. record {
        view = w;
        at = subst (λ (k : ℕ). get_elem? (set views id w) k ≡ some w) (sym e) (set_at views id v w at);
        home = let same_view : v ≡ had.view = some-injective v had.view (sym at ∙ ap (get_elem? views) (sym e) ∙ had.at) in
            same ∙ ap (λ (u : View). u.home) same_view ∙ had.home;
      })
      (λ ne. record { view = had.view; at = set_else views id 0 w ne ∙ had.at; home = had.home })

  -- both parts of a cut are right
  cut_all : (callers : List ℕ) (ts : List Tally) → All (IsTallyOf quotas callers) ts → All (IsTallyOf quotas callers) (behind_first ts)
      × All (IsTallyOf quotas callers) (first_alone ts)
  cut_all callers [] h = (h, h)
  cut_all callers (t ∷ ts) h = (
    All-tail (IsTallyOf quotas callers) t ts h,
    All-cons (IsTallyOf quotas callers) t [] (All-head (IsTallyOf quotas callers) t ts h) (All-nil (IsTallyOf quotas callers)),
  )

  -- splitting off a seat
  pub splits : (id : ℕ) (v : View) → Splits Rule id v (without_first v) (first_split v)
  splits id v s r at =
      let stands : SeatStands quotas r.callers id v = r.each_seat id v at in
      let cut : All (IsTallyOf quotas r.callers) (behind_first v.tallies)
      × All (IsTallyOf quotas r.callers) (first_alone v.tallies) = cut_all r.callers v.tallies stands.tallies in record {
        callers = r.callers;
        fits = r.fits;
        word = r.word;
        known = r.known;
        within = r.within;
        home = let h = home_set s.views id v (without_first v) at refl r.home in
            record { view = h.view; at = at_longer (set s.views id (without_first v)) (first_split v ∷ []) 0 h.view h.at; home = h.home };
        each_seat = λ j u e. ⊎_elim
            (λ e'. ⊎_elim
            (λ (t : (j ≡ id) × (without_first v ≡ u)). subst (λ (x : ℕ × View). SeatStands quotas r.callers x.0 x.1)
            (λ i. (sym t.0 i, t.1 i))
            (record { home = still_home r.callers id v (without_first v) refl refl stands.home; tallies = cut.0 }))
            (λ (t : (j ≢ id) × (get_elem? s.views j ≡ some u)). r.each_seat j u t.1)
            (at_set s.views id j (without_first v) u e'))
            (λ (same : first_split v ≡ u). subst (SeatStands quotas r.callers j) same
            (record { home = away (first_split v) refl; tallies = cut.1 }))
            (at_snoc (set s.views id (without_first v)) (first_split v) u j e);
        once = λ k.
            let a = sum_set (stands_in k) s.views id v (without_first v) at in
            let b = sum_by_push (stands_in k) (set s.views id (without_first v)) (first_split v) in
            let c = tallied_cut k v.tallies in
            let d : ℕ = one_if (nat_lt k (length quotas)) in
            let h : sum_by (stands_in k) s.views ≡ d = r.once k in
            let goal : sum_by (stands_in k) (set s.views id (without_first v) ++ first_split v ∷ []) ≡ d = omega (arith, a, b, c, h) in
            goal;
      }

  -- joining a seat that isn't home
  pub joins : (id : ℕ) (v : View) (other : ℕ) (w : View) → w.home ≡ false → Joins Rule id v other w (joined_view v w) spent_view
  joins id v other w not_home s r at apart at' =
      let both : View = joined_view v w in
      let was : get_elem? s.views other ≡ some w = sym (set_else s.views id other both apart) ∙ at' in
      let stands : SeatStands quotas r.callers id v = r.each_seat id v at in
      let taken : SeatStands quotas r.callers other w = r.each_seat other w was in record {
        callers = r.callers;
        fits = r.fits;
        word = r.word;
        known = r.known;
        within = r.within;
        home = home_set (set s.views id both) other w spent_view at' (sym not_home) (home_set s.views id v both at refl r.home);
        each_seat = λ j u e. ⊎_elim
            (λ (t : (j ≡ other) × (spent_view ≡ u)). subst (SeatStands quotas r.callers j) t.1
            (record { home = away spent_view refl; tallies = All-nil (IsTallyOf quotas r.callers) }))
            (λ (o : (j ≢ other) × (get_elem? (set s.views id both) j ≡ some u)). ⊎_elim
            (λ (t : (j ≡ id) × (both ≡ u)). subst (λ (x : ℕ × View). SeatStands quotas r.callers x.0 x.1) (λ i. (sym t.0 i, t.1 i))
            (record {
              home = still_home r.callers id v both refl refl stands.home;
              tallies = All-append (IsTallyOf quotas r.callers) w.tallies v.tallies taken.tallies stands.tallies;
            }))
            (λ (t : (j ≢ id) × (get_elem? s.views j ≡ some u)). r.each_seat j u t.1)
            (at_set s.views id j both u o.1))
            (at_set (set s.views id both) other j spent_view u e);
        once = λ k.
            let a = sum_set (stands_in k) s.views id v both at in
            let b = sum_set (stands_in k) (set s.views id both) other w spent_view at' in
            let c = tallied-append k w.tallies v.tallies in
            let d : ℕ = one_if (nat_lt k (length quotas)) in
            let h : sum_by (stands_in k) s.views ≡ d = r.once k in
            let goal : sum_by (stands_in k) (set (set s.views id both) other spent_view) ≡ d = omega (arith, a, b, c, h) in goal;
      }

  -- a tally of another caller stays right
  stays : (callers : List ℕ) (caller n : ℕ) (ts : List Tally) → tallied caller ts ≡ 0 → All (IsTallyOf quotas callers) ts
      → All (IsTallyOf quotas (callers ++ replicate n caller)) ts
  stays callers caller n ts absent had = λ i d h.
      let t : Tally = get_or ts i d in
      let other : t.caller ≢ caller = none_tallied caller ts absent i d h in
      let was : IsTallyOf quotas callers t = had i d h in record {
        known = was.known;
        made = was.made ∙ sym (times_others t.caller callers caller n (λ e. other (sym e)));
        quota = was.quota;
      }

  -- what the home seat knows is right
  tells : (s : St) (r : Rule s) (id : ℕ) (v : View) → get_elem? s.views id ≡ some v → v.home ≡ true → IsTold v (slice_index s.words 0)
  tells s r id v at is =
      let stands : SeatStands quotas r.callers id v = r.each_seat id v at in
      let home : IsHome quotas r.callers id v = stands.home is in record {
        count = ap (λ (ws : List ℕ). slice_index ws 0) r.word ∙ ap length (sym home.callers_are);
        tallies = subst (λ (x : List ℕ × List ℕ). All (IsTallyOf x.0 x.1) v.tallies)
            (λ i. (sym home.quotas_are i, sym home.callers_are i)) stands.tallies;
      }

  -- the load by the home seat
  pub looks : (slots id : ℕ) (me : Seated) → me.0.home ≡ true → Allows Rule slots id me 0 (λ n. n) (looked (step slots 0 0 0 none) me)
  looks slots id me is s r count at low =
      let words : set s.words 0 (slice_index s.words 0) ≡ s.words = set-get_or s.words 0 0 in
      let views : set s.views id me.0 ≡ s.views = set_again s.views id me.0 at in
      let same : s ≡ stepped s 0 (slice_index s.words 0) id me.1 me.0 keeps =
      λ i. record { words = sym words i; homes = s.homes; views = sym views i } in
      (me.0, keeps, tt, subst Rule same r, record { view = refl; told = tells s r id me.0 at is })

  -- the addition of a number by the home seat
  pub appends : (slots id n : ℕ) (me : Seated) (t : Tally) (ts : List Tally) → me.0.home ≡ true → me.0.tallies ≡ t ∷ ts
      → t.made + n ≤ t.quota
      → Allows Rule slots id me 0 (λ k. (k + n) % 2 ^ 64) (appended (step slots 0 n 0 none) me)
  appends slots id n me t ts is first room s r count at low =
      let v : View = me.0 in
      let more_callers : List ℕ = replicate n t.caller in
      let w : View = record v { callers = v.callers ++ more_callers; tallies = record t { made = t.made + n } ∷ ts } in
      let w_is : with_turns n v ≡ w = ap (with_turns_of v n) first in
      let stands : SeatStands quotas r.callers id v = r.each_seat id v at in
      let home : IsHome quotas r.callers id v = stands.home is in
      let told : IsTold v (slice_index s.words 0) = tells s r id v at is in
      let here : All (IsTallyOf quotas r.callers) (t ∷ ts) = subst (All (IsTallyOf quotas r.callers)) first stands.tallies in
      let own : IsTallyOf quotas r.callers t = All-head (IsTallyOf quotas r.callers) t ts here in
      let callers : List ℕ = r.callers ++ more_callers in
      let longer : length callers ≡ length r.callers + n =
      omega (arith, length-append r.callers more_callers, length-replicate n t.caller) in
      let known : All (λ c. c < length quotas) callers = All-append (λ (c : ℕ). c < length quotas) r.callers more_callers r.known
      (All-replicate (λ (c : ℕ). c < length quotas) n t.caller own.known) in
      let within : (k : ℕ) → k < length quotas → times k callers ≤ slice_index quotas k = λ k below. dite (ℕ_discrete t.caller k)
      (λ e. let a = times_own k r.callers t.caller n e in
      let b : t.made ≡ times k r.callers = own.made ∙ ap (λ (x : ℕ). times x r.callers) e in
      let c : t.quota ≡ slice_index quotas k = own.quota ∙ ap (slice_index quotas) e in omega (arith, a, b, c, room))
      (λ ne. let a = times_others k r.callers t.caller n ne in let b = r.within k below in omega (arith, a, b)) in
      let fit : length callers ≤ sum quotas = turns_fit quotas callers known within in
      let found : slice_index s.words 0 ≡ length r.callers = ap (λ (ws : List ℕ). slice_index ws 0) r.word in
      let more : (slice_index s.words 0 + n) % 2 ^ 64 ≡ length callers = let f = r.fits in
      let small : slice_index s.words 0 + n < 2 ^ 64 = omega (arith, found, longer, fit, f) in omega (arith, found, longer, small) in
      -- no other tally is of this caller
      let alone : (k : ℕ) → one_if (nat_lt k (length quotas)) ≤ 1 =
      λ k. elim (nat_lt k (length quotas)) as (λ b. one_if b ≤ 1) [ true ↦ omega arith | false ↦ omega arith ] in
      let mine : tallied t.caller v.tallies ≡ 1 + tallied t.caller ts = ap (tallied t.caller) first ∙ tallied-cons t.caller t ts
      ∙ ap (λ (b : Bool). one_if b + tallied t.caller ts) (eq-eqb t.caller t.caller refl) in
      let all : sum_by (stands_in t.caller) s.views ≡ one_if (nat_lt t.caller (length quotas)) = r.once t.caller in
      let none_behind : tallied t.caller ts ≡ 0 = let p = part_le (stands_in t.caller) s.views id v at in let q = alone t.caller in
      omega (arith, p, q, mine, all) in
      let none_else : (j : ℕ) (u : View) → j ≢ id → get_elem? s.views j ≡ some u
      → tallied t.caller u.tallies ≡ 0 = λ j u ne e. let p = parts_le (stands_in t.caller) s.views id j v u spent_view refl ne at e in
      let q = alone t.caller in omega (arith, p, q, mine, all) in
      let rule : Rule (stepped s 0 ((slice_index s.words 0 + n) % 2 ^ 64) id me.1 w keeps) = record {
        callers = callers;
        fits = r.fits;
        word = ap (λ (ws : List ℕ). set ws 0 ((slice_index s.words 0 + n) % 2 ^ 64)) r.word ∙ ap (λ (k : ℕ). k ∷ []) more;
        known = known;
        within = within;
        home = home_set s.views id v w at refl r.home;
        each_seat = λ j u e. ⊎_elim
            (λ (p : (j ≡ id) × (w ≡ u)). subst (λ (x : ℕ × View). SeatStands quotas callers x.0 x.1) (λ i. (sym p.0 i, p.1 i)) (record {
              home = λ _. record {
                first = home.first;
                quotas_are = home.quotas_are;
                callers_are = ap (λ (cs : List ℕ). cs ++ more_callers) home.callers_are;
              };
              tallies = All-cons (IsTallyOf quotas callers) (record t { made = t.made + n }) ts
                  (record {
                    known = own.known;
                    made = let a = times_own t.caller r.callers t.caller n refl in let b = own.made in
                        omega (arith, a, b);
                    quota = own.quota;
                  })
                  (stays r.callers t.caller n ts none_behind (All-tail (IsTallyOf quotas r.callers) t ts here));
            }))
            (λ (p : (j ≢ id) × (get_elem? s.views j ≡ some u)). let old = r.each_seat j u p.1 in record {
              home = λ h. let other = old.home h in absurd (p.0 (other.first ∙ sym home.first));
              tallies = stays r.callers t.caller n u.tallies (none_else j u p.0 p.1) old.tallies;
            })
            (at_set s.views id j w u e);
        once = λ k.
            let a = sum_set (stands_in k) s.views id v w at in
            let b : stands_in k v ≡ one_if (t.caller == k) + tallied k ts = ap (tallied k) first ∙ tallied-cons k t ts in
            let c = tallied-cons k (record t { made = t.made + n }) ts in
            let d : ℕ = one_if (nat_lt k (length quotas)) in
            let h : sum_by (stands_in k) s.views ≡ d = r.once k in
            let goal : sum_by (stands_in k) (set s.views id w) ≡ d = omega (arith, a, b, c, h) in goal;
      } in (
        w,
        keeps,
        tt,
        rule,
        record {
          view = λ i. (sym w_is i, me.1);
          told = told;
          room = let a = ap length home.callers_are in let b = ap sum home.quotas_are in omega (arith, a, b, longer, fit);
        },
      )

  add_zero_left : (i : ℕ) → 0 + i ≡ i
  add_zero_left i = omega arith

  -- the table at the start
  pub opens : sum quotas < 2 ^ 64 → Rule (opening (0 ∷ []) [] (first_view quotas))
  opens small = record {
    callers = [];
    fits = small;
    word = refl;
    known = All-nil (λ (c : ℕ). c < length quotas);
    within = λ k below. omega arith;
    home = record { view = first_view quotas; at = refl; home = refl };
    each_seat = λ j u e. let p = one_at (first_view quotas) u j e in
        subst (λ (x : ℕ × View). SeatStands quotas [] x.0 x.1) (λ i. (sym p.0 i, p.1 i)) (record {
          home = λ _. record { first = refl; quotas_are = refl; callers_are = refl };
          tallies = All-map (IsTallyOf quotas []) new_tally (enumerate_from 0 quotas) (λ i d h.
              let below : i < length quotas = omega (arith, length-enumerate_from 0 quotas) in
              let is = get_or-enumerate_from 0 quotas i d below in
              let number : (get_or (enumerate_from 0 quotas) i d).0 ≡ i = ap (λ (x : ℕ × ℕ). x.0) is ∙ add_zero_left i in record {
                known = omega (arith, number, below);
                made = refl;
                quota = ap (λ (x : ℕ × ℕ). x.1) is ∙ get_or_default_zero quotas i d.1 below ∙ ap (slice_index quotas) (sym number);
              });
        });
    once = λ k. let a = span_tallied k 0 quotas in let b = sum_by-cons (stands_in k) (first_view quotas) [] in
        let n : ℕ = length quotas in let c : one_if (nat_le 0 k && nat_lt k (0 + n)) ≡ one_if (nat_lt k n) = grind (arith, nat_tests) in
        omega (arith, a, b, c);
  }
