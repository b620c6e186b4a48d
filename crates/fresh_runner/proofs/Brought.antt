-- What callers bring, before they begin.
use Rattle.std.proofs.Common.{◌≡◌, ℕ, ◌+◌, List, [], ◌∷◌, ◌++◌, length, refl, ap, sym, ◌∙◌, subst, arith, Option, Some, None, IfSome}
use Rattle.std.specs.Prelude.{slice_get, slice_index}
use Rattle.std.specs.List.{enumerate_from}
use Rattle.std.proofs.lemmas.Option.{slice_get_within}
use Rattle.lock_rules.specs.Tag.{Tag}
use Rattle.keep_local.specs.States.{ShareState}
use Rattle.clof_compose.specs.Contexts.{Context}
use Rattle.clof_compose.specs.Courses.{Course, course_of}
use Rattle.clof_compose.specs.Meanings.{Rest}
use Rattle.clof_compose.specs.Passes.{AreAll, IsNumber}
use Rattle.clof_compose.specs.Shares.{IsShareIn}
use Rattle.clof_compose.proofs.Lists.{length_more}
use Rattle.clof_compose.proofs.Shares.{as_many_shares, new_share_in}
use Rattle.fresh_root.specs.States.{IsOf, SeenState}
use Rattle.threaded_runner.proofs.Crews.{none_made_at}
use Rattle.threaded_runner.proofs.Dealt.{quotas_known}
use Rattle.threaded_runner.proofs.Items.{at_end, in_front}
use Rattle.fresh_runner.specs.Books.{book_course, fresh_in}
use Rattle.fresh_runner.specs.Crews.{AreLists}
use Rattle.fresh_runner.specs.Jobs.{IsAccount, IsBlank}
use Rattle.fresh_runner.specs.Places.{places_of}
use Rattle.fresh_runner.specs.Ready.{IsFreshDealt}
use Rattle.fresh_runner.specs.declared.account.Account.{Account}
use Rattle.fresh_runner.specs.declared.account.Marks.{Marks}
use Rattle.fresh_runner.specs.declared.lists.Lists.{Lists}
use Rattle.fresh_runner.proofs.Items.{all_at, item}
use Rattle.fresh_runner.proofs.Places.{no_places}

-- what is known of a value that may be there, put together
pub both : {X : Type 0} (o : Option X) (P Q : X → Type 0) → IfSome o P → IfSome o Q → IfSome o (λ x. P x × Q x)
both None P Q p q = tt
both (Some x) P Q p q = (p, q)

-- there are as many shares as callers
pub many_shares : (course : Course) (sections : List (List ℕ)) (shares : List ShareState) (seens : List SeenState)
    → IsFreshDealt course sections shares seens → length shares ≡ length sections
many_shares course sections shares seens is =
    as_many_shares course.name course.quotas shares is.dealt.dealt ∙ quotas_known (book_course course) sections shares is.dealt
    ∙ is.dealt.callers

-- each is that of its caller
pub shares_in : (course : Course) (sections : List (List ℕ)) (shares : List ShareState) (seens : List SeenState)
    → IsFreshDealt course sections shares seens → (k : ℕ) (s : ShareState) → slice_get shares k ≡ Some s → IsShareIn course k s
shares_in course sections shares seens is =
    new_share_in course shares (quotas_known (book_course course) sections shares is.dealt) is.dealt.dealt

-- and has made no turn
pub shares_new : (course : Course) (sections : List (List ℕ)) (shares : List ShareState) (seens : List SeenState)
    → IsFreshDealt course sections shares seens → (k : ℕ) (s : ShareState) → slice_get shares k ≡ Some s → s.made ≡ 0
shares_new course sections shares seens is k s e =
    none_made_at course.name (enumerate_from 0 course.quotas) k s (ap (λ (l : List ShareState). slice_get l k) (sym is.dealt.dealt) ∙ e)

module _ {P : Type 0} (rest : P → Rest) (has : Context → Type 0) (level : ℕ) (tag : Tag) where
  -- with blank marks for each share
  pub are_lists : (count : ℕ) (sections : List (List ℕ)) (lists : Lists P) → AreAll (λ p. (rest p).context) has level tag count
      lists.passes.items → count ≡ length sections → IsFreshDealt (course_of tag) sections lists.shares.items lists.seens.items
      → length lists.marks.items ≡ length lists.shares.items
      → ((k : ℕ) (s : ShareState) (m : Marks) → slice_get lists.shares.items k ≡ Some s → slice_get lists.marks.items k ≡ Some m
      → IsBlank s.quota m)
      → AreLists rest has level tag (length sections) lists
  are_lists count sections lists passes counted is as_many blank =
      let course = course_of tag in
      let shares = lists.shares.items in
      let seens = lists.seens.items in
      let many = many_shares course sections shares seens is in record {
        recorded = is.dealt.recorded;
        passes = passes.each;
        shares = λ k s e. (shares_in course sections shares seens is k s e, shares_new course sections shares seens is k s e);
        seens = λ k s e. (is.seens_are.each k s e, all_at (λ (t : SeenState). t.list ≡ []) seens k s is.blank e);
        marks = λ k m e.
            let within = slice_get_within lists.marks.items k m e in
            let share = item shares k (omega (arith, within, as_many)) in
            subst (λ (n : ℕ). IsBlank n m) (shares_in course sections shares seens is k share.0 share.1).quota
            (blank k share.0 m share.1 e);
        many_passes = passes.all ∙ counted;
        many_shares = many;
        many_seens = is.seens_are.all;
        many_marks = as_many ∙ many;
      }

  module _ (lists after : Lists P) (p : P) (a : Account) (are : AreLists rest has level tag (length lists.passes.items) lists)
      (passes : lists.passes.items ≡ after.passes.items ++ p ∷ []) (shares : lists.shares.items ≡ after.shares.items ++ a.share ∷ [])
      (seens : lists.seens.items ≡ after.seens.items ++ a.seen ∷ []) (marks : lists.marks.items ≡ after.marks.items ++ a.marks ∷ []) where
    abbrev n : ℕ
    n = length after.passes.items

    abbrev share_at : ℕ → ShareState → Type 0
    share_at k s = IsShareIn (course_of tag) k s × (s.made ≡ 0)

    abbrev seen_at : ℕ → SeenState → Type 0
    seen_at k s = IsOf (fresh_in (course_of tag).payload) k s × (s.list ≡ [])

    abbrev marks_at : ℕ → Marks → Type 0
    marks_at k m = IsBlank (slice_index (course_of tag).quotas k) m

    pub fewer_passes : length lists.passes.items ≡ n + 1
    fewer_passes = length_more after.passes.items lists.passes.items p passes

    as_shares : length after.shares.items ≡ n
    as_shares =
        let some = fewer_passes in
        let one = length_more after.shares.items lists.shares.items a.share shares in
        let many = are.many_shares in omega (arith, some, one, many)

    as_seens : length after.seens.items ≡ n
    as_seens =
        let some = fewer_passes in
        let one = length_more after.seens.items lists.seens.items a.seen seens in
        let many = are.many_seens in omega (arith, some, one, many)

    as_marks : length after.marks.items ≡ n
    as_marks =
        let some = fewer_passes in
        let one = length_more after.marks.items lists.marks.items a.marks marks in
        let many = are.many_marks in omega (arith, some, one, many)

    -- what stands before the last caller's
    pub fewer : AreLists rest has level tag (length after.passes.items) after
    fewer = record {
      recorded = are.recorded;
      passes = in_front (λ k q. IsNumber has level tag k (rest q).context) lists.passes.items after.passes.items p passes are.passes;
      shares = in_front share_at lists.shares.items after.shares.items a.share shares are.shares;
      seens = in_front seen_at lists.seens.items after.seens.items a.seen seens are.seens;
      marks = in_front marks_at lists.marks.items after.marks.items a.marks marks are.marks;
      many_passes = refl;
      many_shares = as_shares;
      many_seens = as_seens;
      many_marks = as_marks;
    }

    -- the last caller's pass
    pub last_pass : IsNumber has level tag (length after.passes.items) (rest p).context
    last_pass = at_end (λ k q. IsNumber has level tag k (rest q).context) lists.passes.items after.passes.items p passes are.passes

    -- and its account
    pub last_account : IsAccount (course_of tag) (length after.passes.items) a × (a.share.made ≡ 0)
    last_account =
        let share = subst (λ k. share_at k a.share) as_shares (at_end share_at lists.shares.items after.shares.items a.share shares
        are.shares) in
        let seen = subst (λ k. seen_at k a.seen) as_seens (at_end seen_at lists.seens.items after.seens.items a.seen seens are.seens) in
        let blank = subst (λ k. marks_at k a.marks) as_marks (at_end marks_at lists.marks.items after.marks.items a.marks marks are.marks)
        in
        let made = share.1 in
        let quota = share.0.quota in
        let room = blank.room in (
          record {
            recorded = are.recorded;
            share_is = share.0;
            seen_is = seen.0;
            marks_are = blank.none ∙ sym (no_places (length after.passes.items))
                ∙ ap (places_of (length after.passes.items)) (sym seen.1);
            as_many = ap length blank.none ∙ sym made;
            room = omega (arith, quota, room);
          },
          made,
        )
