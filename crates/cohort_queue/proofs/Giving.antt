-- The jobs of a new Cohort are given, one after another.
use Rattle.std.proofs.Common.{◌≡◌, ℕ, ◌+◌, ◌<◌, ◌≤◌, List, [], ◌∷◌, ◌++◌, length, map, refl}
use Rattle.std.proofs.Common.{ap, sym, ◌∙◌, subst}
use Rattle.std.proofs.Common.{arith, inl, inr, All, Option, None, Some, MatchOption}
use Rattle.std.proofs.lemmas.List.{length-append, length-map, map-append, append-nil}
use Rattle.std.proofs.lemmas.List.Elements.{All-nil, All-cons, All-head, All-tail, All-push, All-weaker}
use Rattle.crossbeam_queue.specs.Fifo.{Held}
use Rattle.crossbeam_queue.specs.Passes.{Pass, view, IsSamePass}
use Rattle.lock_rules.specs.Tag.{Tag}
use Rattle.cohort_queue.proofs.Counted.{hits_self, times_cons, times_append}
use Rattle.cohort_queue.proofs.Kept.{no_first, no_length}
use Rattle.cohort_queue.specs.Jobs.{HaveOneTag, IsGiven, IsUnsplit, MayTag}
use Rattle.cohort_queue.specs.Numbers.{times, IsNotIn, AreDistinct, AreSame}
use Rattle.cohort_queue.specs.Rule.{times_queued}
use Rattle.cohort_queue.specs.Seats.{HasTag}
use Rattle.cohort_queue.specs.Steps.{with_given, Takes, HasOthers}
use Rattle.cohort_queue.specs.Views.{tagged_by, tag_in, first_view, IsSpent, HasAll}
use Rattle.cohort_queue.specs.declared.view.View.{View}

-- views that are not spent
pub live_one : (v : View) → length v.numbers ≡ 1 → ¬ IsSpent v
live_one v one e = let l : length v.numbers ≡ 0 = ap length e in absurd (omega (arith, one, l))

pub live_unsplit : (v : View) → IsUnsplit v → ¬ IsSpent v
live_unsplit v unsplit e = no_first (sym unsplit.alone ∙ e)

pub live_all : (v : View) → 1 ≤ v.split → HasAll v → ¬ IsSpent v
live_all v some all e =
    let one : 1 ≤ times 0 v.numbers = all 0 some in
    let none : times 0 v.numbers ≡ 0 = ap (λ (l : List ℕ). times 0 l) e in absurd (omega (arith, one, none))

-- the tag of a view that is not open
pub has_tag : (v : View) (t : Tag) → v.tag ≡ tagged_by t → HasTag v
has_tag v t e = e ∙ ap tagged_by (sym (ap tag_in e))

module _ {J : Type 0} (number : J → ℕ) (tag_of : J → Tag) where
  pub none_given : (v : View) → v ≡ first_view → IsGiven tag_of number [] v
  none_given v e = subst (IsGiven tag_of number []) (sym e) (record {
    unsplit = record { alone = refl; first = refl; none_out = refl };
    given = refl;
    tagged = All-nil (λ j. first_view.tag ≡ tagged_by (tag_of j));
  })

  all_at : (P : J → Type 0) (js : List J) (j : J) (more : List J) → All P (js ++ j ∷ more) → P j
  all_at P [] j more all = All-head P j more all
  all_at P (i ∷ is) j more all = all_at P is j more (All-tail P i (is ++ j ∷ more) all)

  all_front : (P : J → Type 0) (js more : List J) → All P (js ++ more) → All P js
  all_front P [] more all = All-nil P
  all_front P (i ∷ is) more all =
      All-cons P i is (All-head P i (is ++ more) all) (all_front P is more (All-tail P i (is ++ more) all))

  pub not_before : (js : List J) (j : J) (more : List J) (v : View) → AreDistinct (map number (js ++ j ∷ more)) → IsGiven tag_of number js v
      → IsNotIn (number j) v.given
  not_before js j more v distinct given =
      let y = number j in
      let all : times y (map number (js ++ j ∷ more)) ≡ times y (map number js ++ map number (j ∷ more)) =
      ap (λ (l : List ℕ). times y l) (map-append number js (j ∷ more)) in
      let a = times_append y (map number js) (map number (j ∷ more)) in
      let b = times_cons y y (map number more) in
      let c : times y v.given ≡ times y (map number js) = ap (λ (l : List ℕ). times y l) given.given in
      omega (arith, all, a, b, c, hits_self y, distinct y)

  may_tag_by : (js : List J) (j : J) (more : List J) (v : View) (t : Tag) → All (λ i. tag_of i ≡ t) (js ++ j ∷ more)
      → IsGiven tag_of number js v → MayTag v (tag_of j)
  may_tag_by [] j more v t all given = inl given.given
  may_tag_by (i ∷ is) j more v t all given = inr (All-head (λ j. v.tag ≡ tagged_by (tag_of j)) i is given.tagged
      ∙ ap tagged_by (all_at (λ i. tag_of i ≡ t) [] i (is ++ j ∷ more) all ∙ sym (all_at (λ i. tag_of i ≡ t) (i ∷ is) j more all)))

  pub may_tag : (jobs js : List J) (j : J) (more : List J) (v : View) → jobs ≡ js ++ j ∷ more → HaveOneTag tag_of jobs
      → IsGiven tag_of number js v → MayTag v (tag_of j)
  may_tag jobs js j more v e one given = may_tag_by js j more v one.tag (subst (All (λ i. tag_of i ≡ one.tag)) e one.each) given

  pub one_more_given : (jobs js : List J) (j : J) (more : List J) (v w : View) → jobs ≡ js ++ j ∷ more → HaveOneTag tag_of jobs
      → IsGiven tag_of number js v → w ≡ with_given v (number j) (tag_of j) → IsGiven tag_of number (js ++ j ∷ []) w
  one_more_given jobs js j more v w e one given is =
      let all : All (λ i. tag_of i ≡ one.tag) (js ++ j ∷ more) = subst (All (λ i. tag_of i ≡ one.tag)) e one.each in
      let mine : tag_of j ≡ one.tag = all_at (λ i. tag_of i ≡ one.tag) js j more all in
      let P : J → Type 0 = λ i. tagged_by (tag_of j) ≡ tagged_by (tag_of i) in
      subst (IsGiven tag_of number (js ++ j ∷ [])) (sym is) (record {
        unsplit = record { alone = given.unsplit.alone; first = given.unsplit.first; none_out = given.unsplit.none_out };
        given = ap (λ (l : List ℕ). l ++ number j ∷ []) given.given ∙ sym (map-append number js (j ∷ []));
        tagged = All-push P js j (All-weaker (λ i. tag_of i ≡ one.tag) P (λ i e. ap tagged_by (mine ∙ sym e)) js
            (all_front (λ i. tag_of i ≡ one.tag) js (j ∷ more) all)) refl;
      })

  -- the jobs were given as far as they were yielded
  pub record Giving (jobs yielded rest : List J) (first now : Pass J View) : Type 0 where
    pub pass : IsSamePass first now
    pub given : IsGiven tag_of number yielded (view now)
    pub all : jobs ≡ yielded ++ rest

  pub all_given : (jobs yielded rest : List J) (first now : Pass J View) → Giving jobs yielded rest first now → rest ≡ []
      → IsGiven tag_of number jobs (view now)
  all_given jobs yielded rest first now had none =
      subst (λ (l : List J). IsGiven tag_of number l (view now))
      (sym (had.all ∙ ap (λ (l : List J). yielded ++ l) none ∙ append-nil yielded)) had.given

  pub room_left : (jobs js : List J) (j : J) (more : List J) (v : View) (size : ℕ) → jobs ≡ js ++ j ∷ more → length jobs ≡ size
      → IsGiven tag_of number js v → length v.given < size
  room_left jobs js j more v size e long given =
      let a : length jobs ≡ length (js ++ j ∷ more) = ap length e in
      let b = length-append js (j ∷ more) in
      let c : length v.given ≡ length (map number js) = ap length given.given in
      let d = length-map js number in omega (arith, a, b, c, d, long)

  pub given_tag : (jobs : List J) (v : View) → 0 < length jobs → IsGiven tag_of number jobs v → HasTag v
  given_tag [] v some given = absurd (omega (arith, some))
  given_tag (j ∷ js) v some given = has_tag v (tag_of j) (All-head (λ j. v.tag ≡ tagged_by (tag_of j)) j js given.tagged)

  -- what the pop of a seat that took over all others tells
  pub all_out : (v w : View) (r : Option J)
      → MatchOption r ((w ≡ v) × Held 0 (HasOthers number v)) (λ x. Takes number tag_of v x w)
      → (r ≡ None → AreSame v.outs v.given) × (AreSame v.outs v.given → r ≡ None)
  all_out v w None m = (
    (λ e x.
        let none : HasOthers number v [] = subst (HasOthers number v) (no_length m.1.0 m.1.1) m.1.2 in
        let c : times_queued number x [] + times x v.outs ≡ times x v.given = none x in
        let z : times_queued number x [] ≡ 0 = refl in omega (arith, c, z)),
    λ same. refl,
  )
  all_out v w (Some j) m = ((λ e. absurd (cc)), λ same. absurd (omega (arith, same (number j), m.known, m.new)))

  pub changed_outs : (v w : View) (H : Type 0) (r : Option J) → MatchOption r ((w ≡ v) × H) (λ x. Takes number tag_of v x w)
      → (outs : List ℕ) × (w ≡ record v { outs = outs })
  changed_outs v w H None m = (v.outs, m.0)
  changed_outs v w H (Some j) m = (v.outs ++ number j ∷ [], m.after)
