-- Each kind of step keeps the rule of a Cohort, and tells what it is said to tell.
use Rattle.std.proofs.Common.{◌≡◌, ℕ, ◌+◌, ◌<◌, ◌≤◌, cond, List, [], ◌∷◌, ◌++◌, set, length, refl, ap, sym, ◌∙◌, subst, arith, All}
use Rattle.std.proofs.Common.{Option, None, zero, suc, ◌==◌, ⊎_elim}
use Rattle.std.specs.List.{sum_by}
use Rattle.std.proofs.lemmas.List.{length-append}
use Rattle.std.proofs.lemmas.Bool.Decides.{nat_tests}
use Rattle.std.proofs.lemmas.List.Elements.{All-nil, All-head, All-tail, All-push, All-weaker}
use Rattle.std.proofs.lemmas.List.Sums.{sum_by_push}
use mathlib.Core.Option.{some, some-injective, some-ne-none}
use lib.ListN.{get_elem?}
use Rattle.atomic_table.proofs.Lists.{set_here}
use Rattle.crossbeam_queue.specs.Fifo.{Pushes, Pops, Forks, Merges, Learns}
use Rattle.lock_rules.proofs.Sums.{sum_set, part_le}
use Rattle.lock_rules.specs.Tag.{Tag}
use Rattle.lock_rules.specs.declared.view.Tagged.{Tagged}
use Rattle.cohort_queue.proofs.Counted.{hits, hits_self, times_cons, times_push, times_append, queued_cons, queued_push}
use Rattle.cohort_queue.proofs.Counted.{without_times, without_length}
use Rattle.cohort_queue.proofs.Counted.{one_more}
use Rattle.cohort_queue.proofs.Views.{Each, each_set, each_push, at_below, same_knowledge, others_spent, sum_alone}
use Rattle.cohort_queue.specs.Jobs.{IsUnsplit, MayTag}
use Rattle.cohort_queue.specs.Numbers.{times, IsIn, IsNotIn, once_below}
use Rattle.cohort_queue.specs.Rule.{SeatStands, IsCohort, times_queued}
use Rattle.cohort_queue.specs.Steps.{with_given, with_out, with_back, counting_one_more, split_off, with_other}
use Rattle.cohort_queue.specs.Steps.{LeavesRoom, PutsBack, HasOthers, Gives, Takes, StoodWith}
use Rattle.cohort_queue.specs.Views.{tagged_by, first_view, spent_view, IsSpent, HasAll}
use Rattle.cohort_queue.specs.declared.view.View.{View}

-- how often a number is out with a view, and how often a view has a number of a seat
abbrev out_times : ℕ → View → ℕ
out_times x v = times x v.outs

abbrev number_times : ℕ → View → ℕ
number_times k v = times k v.numbers

abbrev out_count : View → ℕ
out_count v = length v.outs

first_stands : Each (SeatStands [] None 1) (first_view ∷ [])
first_stands zero v e = subst (SeatStands [] None 1 0) (some-injective first_view v e)
    (record { knows = λ live. record { tag_is = refl; given_is = refl }; spent = λ e. refl; first = λ e. refl })
first_stands (suc j) v e = absurd (some-ne-none v (sym e))

one_number : (v : View) (k : ℕ) → IsUnsplit v → k < v.split → IsIn k v.numbers
one_number v k unsplit below =
    let zero_is : k ≡ 0 = omega (arith, below, unsplit.first) in
    let there : 1 ≤ times 0 (0 ∷ []) = omega (arith, times_cons 0 0 [], hits_self 0) in
    subst (λ (l : List ℕ). 1 ≤ times k l) (sym unsplit.alone) (subst (λ (n : ℕ). 1 ≤ times n (0 ∷ [])) (sym zero_is) there)

pub no_first : ¬ (◌≡◌ {A = List ℕ} (0 ∷ []) [])
no_first e = absurd (cc)

pub no_length : {X : Type 0} (xs : List X) → length xs ≡ 0 → xs ≡ []
no_length [] e = refl
no_length (x ∷ xs) e = absurd (omega (arith, e))

next_below : (n k : ℕ) → once_below n k + hits n k ≡ once_below (n + 1) k
next_below n k = grind (arith, nat_tests)

-- what a list that is not spent knows is said of a longer one
longer_live : (ks ls : List ℕ) → ks ++ ls ≡ [] → ls ≡ []
longer_live [] ls e = e
longer_live (k ∷ ks) ls e = absurd (cc)

module _ {J : Type 0} (number : J → ℕ) (tag_of : J → Tag) where
  abbrev Cohort : List J → List View → Type 0
  Cohort = IsCohort number tag_of

  pub begins : Cohort [] (first_view ∷ [])
  begins = record {
    given = [];
    tag = None;
    split = 1;
    once = λ x. refl;
    in_all = refl;
    distinct = λ x. omega arith;
    tagged = All-nil (λ j. None ≡ tagged_by (tag_of j));
    one_view = λ k. grind (arith, nat_tests);
    each_seat = first_stands;
  }

  -- a pop
  pub takes : (seat : ℕ) (v : View) → ¬ IsSpent v → Pops Cohort seat v (Takes number tag_of v)
  takes seat v live job queue views had at =
      let y = number job in
      let w : View = with_out v y in
      let own : SeatStands had.given had.tag had.split seat v = had.each_seat seat v at in
      let knows = own.knows live in
      let once : (x : ℕ) → times_queued number x queue + sum_by (out_times x) (set views seat w) ≡ times x had.given = λ x.
      let s = sum_set (out_times x) views seat v w at in
      omega (arith, s, had.once x, queued_cons number x job queue, times_push x v.outs y) in
      let part = part_le (out_times y) views seat v at in
      let mine : (times y had.given ≡ 1) × (times y v.outs ≡ 0) = (
        omega (arith, had.once y, had.distinct y, queued_cons number y job queue, hits_self y),
        omega (arith, part, had.once y, had.distinct y, queued_cons number y job queue, hits_self y),
      ) in
      let known : IsIn y v.given = subst (λ (l : List ℕ). 1 ≤ times y l) (sym knows.given_is) (omega (arith, mine.0)) in
      let next : Cohort queue (set views seat w) = record {
        given = had.given;
        tag = had.tag;
        split = had.split;
        once = once;
        in_all = let s = sum_set out_count views seat v w at in
            omega (arith, s, had.in_all, length-append v.outs (y ∷ []));
        distinct = had.distinct;
        tagged = All-tail (λ j. had.tag ≡ tagged_by (tag_of j)) job queue had.tagged;
        one_view = λ k. let s = sum_set (number_times k) views seat v w at in omega (arith, s, had.one_view k);
        each_seat = each_set (SeatStands had.given had.tag had.split) views seat w
            (same_knowledge had.given had.tag had.split seat v w.outs live own) (λ j u n e. had.each_seat j u e);
      } in (
        w,
        next,
        record {
          tagged = knows.tag_is ∙ All-head (λ j. had.tag ≡ tagged_by (tag_of j)) job queue had.tagged;
          known = known;
          new = mine.1;
          few = let outs = part_le out_count views seat v at in
              let all = ap length knows.given_is in omega (arith, outs, all, had.in_all);
          after = refl;
        },
      )

  -- a push of a job that is out
  pub puts_back : (room seat : ℕ) (v : View) (job : J) → ¬ IsSpent v → IsIn (number job) v.outs → v.tag ≡ tagged_by (tag_of job)
      → Pushes Cohort room seat v job (PutsBack number v job)
  puts_back room seat v job live out tagged queue views short had at =
      let y = number job in
      let w : View = with_back v y in
      let own : SeatStands had.given had.tag had.split seat v = had.each_seat seat v at in
      let knows = own.knows live in
      let part = part_le (out_times y) views seat v at in
      let one : times y v.outs ≡ 1 = omega (arith, part, had.once y, had.distinct y, out) in (
        w,
        record {
          given = had.given;
          tag = had.tag;
          split = had.split;
          once = λ x.
              let s = sum_set (out_times x) views seat v w at in
              let t = without_times y x v.outs in
              let q = queued_push number x queue job in
              let m : cond (y == x) (times y v.outs) 0 ≡ hits y x = rw one refl in
              omega (arith, s, t, q, m, had.once x);
          in_all =
              let s = sum_set out_count views seat v w at in
              let t = without_length y v.outs in
              omega (arith, s, t, one, had.in_all, length-append queue (job ∷ []));
          distinct = had.distinct;
          tagged = All-push (λ j. had.tag ≡ tagged_by (tag_of j)) queue job had.tagged (sym knows.tag_is ∙ tagged);
          one_view = λ k. let s = sum_set (number_times k) views seat v w at in omega (arith, s, had.one_view k);
          each_seat = each_set (SeatStands had.given had.tag had.split) views seat w
              (same_knowledge had.given had.tag had.split seat v w.outs live own) (λ j u n e. had.each_seat j u e);
        },
        refl,
      )

  -- what is learned
  pub leaves_room : (seat : ℕ) (v : View) → ¬ IsSpent v → Learns Cohort seat v (LeavesRoom v)
  leaves_room seat v live queue views had at =
      let knows = (had.each_seat seat v at).knows live in
      let part = part_le out_count views seat v at in
      let long : length v.given ≡ length had.given = ap length knows.given_is in
      omega (arith, part, long, had.in_all)

  pub stood : (seat : ℕ) (v : View) → Learns Cohort seat v (StoodWith number tag_of v)
  stood seat v queue views had at = record { views = views; state = had; seat = seat; at = at }

  pub has_others : (seat : ℕ) (v : View) → seat ≡ 0 → ¬ IsSpent v → HasAll v → Learns Cohort seat v (HasOthers number v)
  has_others seat v is live all queue views had at x =
      let own : SeatStands had.given had.tag had.split seat v = had.each_seat seat v at in
      let first : get_elem? views 0 ≡ some v = subst (λ i. get_elem? views i ≡ some v) is at in
      let alone : sum_by (out_times x) views ≡ times x v.outs = sum_alone (out_times x) views seat v at (λ j u n e.
      let none = (had.each_seat j u e).spent
      (others_spent had.split views v u j had.one_view first (own.first is) all e (λ q. n (q ∙ sym is))) in
      ap (λ (l : List ℕ). times x l) none) in
      let same : times x v.given ≡ times x had.given = ap (λ (l : List ℕ). times x l) (own.knows live).given_is in
      omega (arith, had.once x, alone, same)

  -- a push by which a job is given
  pub gives : (room seat : ℕ) (v : View) (job : J) → seat ≡ 0 → IsUnsplit v → IsNotIn (number job) v.given → MayTag v (tag_of job)
      → Pushes Cohort room seat v job (Gives number tag_of v job)
  gives room seat v job is unsplit new may queue views short had at =
      let y = number job in
      let t = tag_of job in
      let w : View = with_given v y t in
      let own : SeatStands had.given had.tag had.split seat v = had.each_seat seat v at in
      let live : ¬ IsSpent v = λ e. no_first (sym unsplit.alone ∙ e) in
      let knows = own.knows live in
      let first : get_elem? views 0 ≡ some v = subst (λ i. get_elem? views i ≡ some v) is at in
      let all : HasAll v = λ k below. one_number v k unsplit below in
      let given = had.given ++ y ∷ [] in
      let tag : Option Tagged = tagged_by t in (
        w,
        record {
          given = given;
          tag = tag;
          split = had.split;
          once = λ x.
              let s = sum_set (out_times x) views seat v w at in
              omega (arith, s, had.once x, queued_push number x queue job, times_push x had.given y);
          in_all =
              let s = sum_set out_count views seat v w at in
              omega (arith, s, had.in_all, length-append queue (job ∷ []), length-append had.given (y ∷ []));
          distinct = one_more had.given y had.distinct (subst (λ (l : List ℕ). times y l ≡ 0) knows.given_is new);
          tagged = All-push (λ j. tag ≡ tagged_by (tag_of j)) queue job (⊎_elim
              (λ (none : v.given ≡ []).
              let short : length had.given ≡ 0 = ap length (sym knows.given_is ∙ none) in
              let empty : queue ≡ [] = no_length queue (omega (arith, short, had.in_all)) in
              subst (All (λ j. tag ≡ tagged_by (tag_of j))) (sym empty) (All-nil (λ j. tag ≡ tagged_by (tag_of j))))
              (λ (same : v.tag ≡ tag).
              let before : had.tag ≡ tag = sym knows.tag_is ∙ same in
              All-weaker (λ j. had.tag ≡ tagged_by (tag_of j)) (λ j. tag ≡ tagged_by (tag_of j)) (λ j e. sym before ∙ e) queue had.tagged)
              may) refl;
          one_view = λ k. let s = sum_set (number_times k) views seat v w at in omega (arith, s, had.one_view k);
          each_seat = each_set (SeatStands given tag had.split) views seat w
              (record {
                knows = λ n. record { tag_is = refl; given_is = ap (λ (l : List ℕ). l ++ y ∷ []) knows.given_is };
                spent = own.spent;
                first = own.first;
              })
              (λ j u n e.
              let s = had.each_seat j u e in
              let gone = others_spent had.split views v u j had.one_view first (own.first is) all e (λ q. n (q ∙ sym is)) in
              record { knows = λ lives. absurd (lives gone); spent = s.spent; first = s.first });
        },
        refl,
      )

  -- a seat is split off
  pub splits : (seat : ℕ) (v : View) → seat ≡ 0 → ¬ IsSpent v → Forks Cohort seat v (counting_one_more v) (split_off v)
  splits seat v is live queue views had at =
      let left : View = counting_one_more v in
      let right : View = split_off v in
      let own : SeatStands had.given had.tag had.split seat v = had.each_seat seat v at in
      let knows = own.knows live in
      let count : v.split ≡ had.split = own.first is in
      let some_view = at_below (set views seat left) seat left (set_here views seat left (at_below views seat v at)) in
      record {
        given = had.given;
        tag = had.tag;
        split = had.split + 1;
        once = λ x.
            let s = sum_set (out_times x) views seat v left at in
            let p = sum_by_push (out_times x) (set views seat left) right in
            omega (arith, s, p, had.once x);
        in_all =
            let s = sum_set out_count views seat v left at in
            let p = sum_by_push out_count (set views seat left) right in
            omega (arith, s, p, had.in_all);
        distinct = had.distinct;
        tagged = had.tagged;
        one_view = λ k.
            let s = sum_set (number_times k) views seat v left at in
            let p = sum_by_push (number_times k) (set views seat left) right in
            let r : number_times k right ≡ hits had.split k + 0 = times_cons k v.split [] ∙ ap (λ n. hits n k + 0) count in
            let m = next_below had.split k in
            omega (arith, s, p, r, m, had.one_view k);
        each_seat = each_push (SeatStands had.given had.tag (had.split + 1)) (set views seat left) right
            (each_set (SeatStands had.given had.tag (had.split + 1)) views seat left
            (record {
              knows = λ n. record { tag_is = knows.tag_is; given_is = knows.given_is };
              spent = own.spent;
              first = λ e. ap (λ n. n + 1) count;
            })
            (λ j u n e.
            let s = had.each_seat j u e in record { knows = s.knows; spent = s.spent; first = λ q. absurd (n (q ∙ sym is)) }))
            (record {
              knows = λ n. record { tag_is = knows.tag_is; given_is = knows.given_is };
              spent = λ e. absurd (cc);
              first = λ e. absurd (omega (arith, e, some_view));
            });
      }

  -- a seat is joined to the first one
  pub joins : (seat : ℕ) (v : View) (other : ℕ) (w : View) → seat ≡ 0 → ¬ IsSpent v
      → Merges Cohort seat v other w (with_other v w) spent_view
  joins seat v other w is live queue views had at apart at' =
      let both : View = with_other v w in
      let own : SeatStands had.given had.tag had.split seat v = had.each_seat seat v at in
      let knows = own.knows live in
      let joined : List View = set views seat both in
      record {
        given = had.given;
        tag = had.tag;
        split = had.split;
        once = λ x.
            let s = sum_set (out_times x) views seat v both at in
            let t = sum_set (out_times x) joined other w spent_view at' in
            omega (arith, s, t, had.once x, times_append x w.outs v.outs);
        in_all =
            let s = sum_set out_count views seat v both at in
            let t = sum_set out_count joined other w spent_view at' in
            omega (arith, s, t, had.in_all, length-append w.outs v.outs);
        distinct = had.distinct;
        tagged = had.tagged;
        one_view = λ k.
            let s = sum_set (number_times k) views seat v both at in
            let t = sum_set (number_times k) joined other w spent_view at' in
            omega (arith, s, t, had.one_view k, times_append k w.numbers v.numbers);
        each_seat = each_set (SeatStands had.given had.tag had.split) joined other spent_view
            (record { knows = λ lives. absurd (lives refl); spent = λ e. refl; first = λ e. absurd (apart (e ∙ sym is)) })
            (λ j u n e. each_set (SeatStands had.given had.tag had.split) views seat both
            (record {
              knows = λ n. record { tag_is = knows.tag_is; given_is = knows.given_is };
              spent = λ e. absurd (live (longer_live w.numbers v.numbers e));
              first = own.first;
            })
            (λ j u n e. had.each_seat j u e) j u e);
      }
