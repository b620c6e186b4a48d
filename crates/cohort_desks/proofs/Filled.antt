-- Jobs that are put into their slots and moved out of them.
use Rattle.std.proofs.Common.{
  ◌≡◌,
  ◌<◌,
  ◌≤◌,
  ◌⊎◌,
  ℕ,
  ◌+◌,
  List,
  [],
  ◌∷◌,
  ◌++◌,
  length,
  map,
  refl,
  ap,
  sym,
  ◌∙◌,
  arith,
  inl,
  inr,
  subst,
  Option,
  Some,
  None,
  slice_set,
}
use Rattle.std.proofs.lemmas.List.{map-append, length-append}
use Rattle.std.proofs.lemmas.List.{length-set}
use Rattle.std.specs.Prelude.{slice_get}
use mathlib.Core.Logic.{dite}
use native.Mathlib.Decide.{ℕ_discrete}
use Rattle.lock_rules.specs.Tag.{Tag}
use Rattle.cohort_queue.specs.Numbers.{AreDistinct, IsIn, IsNotIn}
use Rattle.cohort_queue.proofs.Counted.{one_more}
use Rattle.cohort_desks.specs.Slots.{AreFit, AreOwn, HasGathered, HasMoved, IsFull, IsThere}
use Rattle.cohort_desks.proofs.Items.{get_set_other, get_set_same, in_front, one_more_item, set_is}
use Rattle.cohort_desks.proofs.Numbers.{in_last, in_longer, in_more, not_last}

module _ {J : Type 0} (number : J → ℕ) (tag_of : J → Tag) (tag : Tag) where
  -- a job that was put into its slot
  pub full_here : (slots : List (Option J)) (job : J) → number job < length slots → tag_of job ≡ tag
      → IsFull number tag_of tag (slice_set slots (number job) (Some job)) (number job)
  full_here slots job within tagged = record {
    job = job;
    at = get_set_same slots (number job) (Some job) within;
    number_is = refl;
    tag_is = tagged;
  }

  -- the others are as they were
  pub full_other : (slots : List (Option J)) (k x : ℕ) (o : Option J) → (x ≡ k → ⊥) → IsFull number tag_of tag slots x
      → IsFull number tag_of tag (slice_set slots k o) x
  full_other slots k x o other full = record {
    job = full.job;
    at = get_set_other slots k x o other ∙ full.at;
    number_is = full.number_is;
    tag_is = full.tag_is;
  }

  pub full_put : (slots : List (Option J)) (job : J) (x : ℕ) → number job < length slots → tag_of job ≡ tag → IsFull number tag_of tag
      slots x
      → IsFull number tag_of tag (slice_set slots (number job) (Some job)) x
  full_put slots job x within tagged full = dite (ℕ_discrete x (number job))
      (λ same. subst (IsFull number tag_of tag (slice_set slots (number job) (Some job))) (sym same) (full_here slots job within tagged))
      (λ other. full_other slots (number job) x (Some job) other full)

  pub own_put : (slots : List (Option J)) (job : J) → tag_of job ≡ tag → AreOwn number tag_of tag slots
      → AreOwn number tag_of tag (slice_set slots (number job) (Some job))
  own_put slots job tagged own k one e = dite (ℕ_discrete k (number job))
      (λ same.
      let both : ◌≡◌ {A = Option J} (Some job) (Some one) = set_is slots (number job) (Some job) (Some one)
      (ap (slice_get (slice_set slots (number job) (Some job))) (sym same) ∙ e) in
      let is : job ≡ one = cc in
      subst (λ (j : J). (number j ≡ k) × (tag_of j ≡ tag)) is (sym same, tagged))
      (λ other. own k one (sym (get_set_other slots (number job) k (Some job) other) ∙ e))

  pub own_emptied : (slots : List (Option J)) (k : ℕ) → AreOwn number tag_of tag slots
      → AreOwn number tag_of tag (slice_set slots k None)
  own_emptied slots k own i one e = dite (ℕ_discrete i k)
      (λ same.
      let both : ◌≡◌ {A = Option J} None (Some one) = set_is slots k None (Some one) (ap (slice_get (slice_set slots k None)) (sym same)
      ∙ e) in
      absurd (cc))
      (λ other. own i one (sym (get_set_other slots k i None other) ∙ e))

  -- one job more was put into its slot, of those that are to be
  pub put_there : (slots : List (Option J)) (jobs front : List J) (job : J) (limit : ℕ) → jobs ≡ front ++ job ∷ [] → length slots ≡ limit
      → AreFit number tag_of tag limit jobs → (x : ℕ) → IsThere number tag_of tag slots jobs x
      → IsThere number tag_of tag (slice_set slots (number job) (Some job)) front x
  put_there slots jobs front job limit cut many fit x there = by_case there
    where
      last : (number job < limit) × (tag_of job ≡ tag)
      last = Rattle.cohort_desks.proofs.Items.at_end (λ (k : ℕ) (j : J). (number j < limit) × (tag_of j ≡ tag)) jobs front job cut fit

      within : number job < length slots
      within = subst (λ (n : ℕ). number job < n) (sym many) last.0

      among : IsIn x (map number front) ⊎ (x ≡ number job) → IsThere number tag_of tag (slice_set slots (number job) (Some job)) front x
      among (inl is) = inr is
      among (inr same) = inl (subst (IsFull number tag_of tag (slice_set slots (number job) (Some job))) (sym same) (full_here slots job
          within last.1))

      by_case : IsThere number tag_of tag slots jobs x → IsThere number tag_of tag (slice_set slots (number job) (Some job)) front x
      by_case (inl full) = inl (full_put slots job x within last.1 full)
      by_case (inr is) = among (in_longer x (number job) (map number front) (subst (IsIn x) (ap (map number) cut ∙ map-append number
          front (job ∷ [])) is))

  -- what a list has that jobs are gathered in: none with a number from a place on
  pub record Gathering (old new : List (Option J)) (jobs : List J) (place : ℕ) : Type 0 where
    pub so_far : HasGathered number tag_of tag old new jobs
    pub below : (x : ℕ) → place ≤ x → IsNotIn x (map number jobs)

  pub none_gathered : (slots : List (Option J)) (jobs : List J) → jobs ≡ [] → AreOwn number tag_of tag slots → Gathering slots slots jobs 0
  none_gathered slots jobs none own = record {
    so_far = record {
      many = refl;
      own = own;
      fit = λ i job e. absurd (let no : slice_get [] i ≡ Some job = ap (λ (l : List J). slice_get l i) (sym none) ∙ e in cc);
      distinct = λ x. subst (λ (l : List J). Rattle.cohort_queue.specs.Numbers.times x (map number l) ≤ 1) (sym none) (omega arith);
      there = λ x full. inl full;
    };
    below = λ x past. ap (λ (l : List J). Rattle.cohort_queue.specs.Numbers.times x (map number l)) none;
  }

  pub gathered_on : (old new new' : List (Option J)) (jobs jobs' : List J) (place : ℕ) → place < length new
      → Gathering old new jobs place → HasMoved new jobs place new' jobs' → Gathering old new' jobs' (place + 1)
  gathered_on old new new' jobs jobs' place within had (inl same) =
      subst (λ (l : List J). Gathering old new' l (place + 1)) (sym same.1)
      (subst (λ (s : List (Option J)). Gathering old s jobs (place + 1)) (sym same.0) (record {
        so_far = had.so_far;
        below = λ x past. had.below x (omega (arith, past));
      }))
  gathered_on old new new' jobs jobs' place within had (inr (inl none)) =
      subst (λ (l : List J). Gathering old new' l (place + 1)) (sym none.2)
      (subst (λ (s : List (Option J)). Gathering old s jobs (place + 1)) (sym none.1) (record {
        so_far = record {
          many = length-set new place None ∙ had.so_far.many;
          own = own_emptied new place had.so_far.own;
          fit = had.so_far.fit;
          distinct = had.so_far.distinct;
          there = λ x full. still x (had.so_far.there x full);
        };
        below = λ x past. had.below x (omega (arith, past));
      }))
    where
      still : (x : ℕ) → IsThere number tag_of tag new jobs x → IsThere number tag_of tag (slice_set new place None) jobs x
      still x (inr is) = inr is
      still x (inl full) = inl (full_other new place x None
          (λ same.
          let both : ◌≡◌ {A = Option (Option J)} (Some None) (Some (Some full.job)) = sym none.0 ∙ ap (slice_get new) (sym same) ∙
          full.at in absurd (cc))
          full)
  gathered_on old new new' jobs jobs' place within had (inr (inr moved)) =
      subst (λ (l : List J). Gathering old new' l (place + 1)) (sym moved.3)
      (subst (λ (s : List (Option J)). Gathering old s (jobs ++ job ∷ []) (place + 1)) (sym moved.2) (record {
        so_far = record {
          many = length-set new place None ∙ had.so_far.many;
          own = own_emptied new place had.so_far.own;
          fit = one_more_item (λ (i : ℕ) (j : J). (number j < length old) × (tag_of j ≡ tag)) jobs (jobs ++ job ∷ []) job refl
              had.so_far.fit
              (subst (λ (n : ℕ). n < length old) (sym is.0) (subst (λ (n : ℕ). place < n) had.so_far.many within), is.1);
          distinct = subst AreDistinct (sym numbers) (one_more (map number jobs) (number job) had.so_far.distinct
              (subst (λ (n : ℕ). IsNotIn n (map number jobs)) (sym is.0) (had.below place (omega arith))));
          there = λ x full. still x (had.so_far.there x full);
        };
        below = λ x past. subst (IsNotIn x) (sym numbers) (not_last x (number job) (map number jobs) (had.below x (omega (arith, past)))
            (λ same. let at = is.0 in omega (arith, past, same, at)));
      }))
    where
      job : J
      job = moved.0

      is : (number job ≡ place) × (tag_of job ≡ tag)
      is = had.so_far.own place job moved.1

      numbers : map number (jobs ++ job ∷ []) ≡ map number jobs ++ number job ∷ []
      numbers = map-append number jobs (job ∷ [])

      still : (x : ℕ) → IsThere number tag_of tag new jobs x → IsThere number tag_of tag (slice_set new place None) (jobs ++ job ∷ []) x
      still x (inr there) = inr (subst (IsIn x) (sym numbers) (in_more x (number job) (map number jobs) there))
      still x (inl full) = dite (ℕ_discrete x place)
          (λ same. inr (subst (IsIn x) (sym numbers) (subst (λ (n : ℕ). IsIn n (map number jobs ++ number job ∷ [])) (is.0 ∙ sym same)
          (in_last (number job) (map number jobs)))))
          (λ other. inl (full_other new place x None other full))

module _ {J : Type 0} (number : J → ℕ) (tag_of : J → Tag) where
  -- jobs that are being put into their slots, the last one first
  pub record Filling (slots0 : List (Option J)) (jobs0 : List J) (slots : List (Option J)) (jobs : List J) : Type 0 where
    pub many : length slots ≡ length slots0
    pub within : (i : ℕ) (job : J) → slice_get jobs i ≡ Some job → number job < length slots0
    pub own : (tag : Tag) → AreFit number tag_of tag (length slots0) jobs0 → AreOwn number tag_of tag slots0 → AreOwn number tag_of tag
        slots
    pub fit : (tag : Tag) → AreFit number tag_of tag (length slots0) jobs0 → AreFit number tag_of tag (length slots0) jobs
    pub there : (tag : Tag) → AreFit number tag_of tag (length slots0) jobs0 → (x : ℕ) → IsThere number tag_of tag slots0 jobs0 x
        → IsThere number tag_of tag slots jobs x

  pub none_put : (slots : List (Option J)) (jobs : List J)
      → ((i : ℕ) (job : J) → slice_get jobs i ≡ Some job → number job < length slots) → Filling slots jobs slots jobs
  none_put slots jobs within = record {
    many = refl;
    within = within;
    own = λ tag fit own. own;
    fit = λ tag fit. fit;
    there = λ tag fit x is. is;
  }

  pub one_put : (slots0 : List (Option J)) (jobs0 : List J) (slots slots' : List (Option J)) (jobs front : List J) (job : J)
      → Filling slots0 jobs0 slots jobs → jobs ≡ front ++ job ∷ [] → slots' ≡ slice_set slots (number job) (Some job)
      → Filling slots0 jobs0 slots' front
  one_put slots0 jobs0 slots slots' jobs front job had cut put = subst (λ (s : List (Option J)). Filling slots0 jobs0 s front) (sym put)
      (record {
        many = length-set slots (number job) (Some job) ∙ had.many;
        within = in_front (λ (i : ℕ) (j : J). number j < length slots0) jobs front job cut had.within;
        own = λ tag fit own. own_put number tag_of tag slots job (last tag fit).1 (had.own tag fit own);
        fit = λ tag fit. in_front (λ (i : ℕ) (j : J). (number j < length slots0) × (tag_of j ≡ tag)) jobs front job cut (had.fit tag fit);
        there = λ tag fit x is. put_there number tag_of tag slots jobs front job (length slots0) cut had.many (had.fit tag fit) x (had.there
            tag fit x is);
      })
    where
      last : (tag : Tag) → AreFit number tag_of tag (length slots0) jobs0 → (number job < length slots0) × (tag_of job ≡ tag)
      last tag fit = Rattle.cohort_desks.proofs.Items.at_end (λ (k : ℕ) (j : J). (number j < length slots0) × (tag_of j ≡ tag)) jobs
          front job cut
          (had.fit tag fit)

  pub moved_short : (slots slots' : List (Option J)) (list list' : List J) (place : ℕ) → HasMoved slots list place slots' list'
      → length list' ≤ length list + 1
  moved_short slots slots' list list' place (inl same) = let e = ap length same.1 in omega (arith, e)
  moved_short slots slots' list list' place (inr (inl none)) = let e = ap length none.2 in omega (arith, e)
  moved_short slots slots' list list' place (inr (inr moved)) =
      let e = ap length moved.3 in let a = length-append list (moved.0 ∷ []) in omega (arith, e, a)

  pub moved_many : (slots slots' : List (Option J)) (list list' : List J) (place : ℕ) → HasMoved slots list place slots' list'
      → length slots' ≡ length slots
  moved_many slots slots' list list' place (inl same) = ap length same.0
  moved_many slots slots' list list' place (inr (inl none)) = ap length none.1 ∙ length-set slots place None
  moved_many slots slots' list list' place (inr (inr moved)) = ap length moved.2 ∙ length-set slots place None
