use Rattle.std.proofs.Common.{◌++◌, ◌∷◌, [], refl, ap, sym, ◌∙◌, subst, arith}
use Rattle.std.specs.Prelude.{IsSomeAnd}
use Rattle.keep_local.specs.States.{ShareState}
use Rattle.keep_local.specs.Views.{times}
use Rattle.clof_compose.specs.Calls.{HasOpened}
use Rattle.clof_compose.specs.Contexts.{IsContextOf}
use Rattle.clof_compose.specs.Courses.{course_of}
use Rattle.clof_compose.proofs.Owned.{some_with}
use Rattle.clof_compose.proofs.Releasing.{may_release_lowest}
use Rattle.mc_text.specs.Request.{view}
use Rattle.threaded_runner.specs.Jobs.{IsCommandAt}
use Rattle.fresh_runner.specs.Books.{book_in, fresh_book_calls, fresh_book_tag}
use Rattle.fresh_runner.proofs.Accounts.{account_after}
use Rattle.fresh_runner.proofs.Holders.{book_home, calls_made, few_calls, list_is, takes_next}
use Rattle.fresh_runner.proofs.Tags.{fresh_is}
use Rattle.fresh_runner.proofs.holding.hold.Goals as goal

pub give-refused-requires : goal.give-refused-requires
give-refused-requires g c =
    let tag = g.C.Composed.tag c.args.lock.now in
    let level = g.C.Composed.level c.args.lock.now in
    let share = c.acquire-held.new.share in
    let made = c.acquire-held.ensures.made in
    let r = c.root.result.now in
    let account = c.requires.account in
    let caller = ap (λ (s : ShareState). s.caller) made in
    let opened = subst (λ o. IsSomeAnd o (HasOpened fresh_book_calls fresh_book_tag tag level share)) c.root.ensures.value
    c.acquire-held.ensures.opened in
    let at = subst (λ n. IsCommandAt (book_in (course_of tag).payload) n c.args.account.now.share.made (view c.args.command)) (sym caller)
    c.requires.next in
    let many = account.as_many in
    let below = c.requires.share.quota in
    let room = account.room in
    record {
      home = book_home tag level c.args.account.now.share.made share r opened;
      own = account.seen_is.fresh_is ∙ fresh_is tag r opened.tagged;
      caller = account.seen_is.caller_is ∙ sym caller;
      next = takes_next tag level c.args.account.now.share.made share r opened (ap (λ (s : ShareState). s.made) made)
          (view c.args.command) at;
      few = few_calls tag level c.args.account.now.share.made share r opened account.recorded;
      room = omega (arith, many, below, room);
    }

pub release-requires-clause-root : goal.release-requires-clause-root
release-requires-clause-root g c =
    let tag = g.C.Composed.tag c.args.lock.now in
    let level = g.C.Composed.level c.args.lock.now in
    let share = c.acquire-held.new.share in
    let made = c.acquire-held.ensures.made in
    let r = c.root.result.now in
    let others = c.root.ensures.others c.give-refused.new.root in
    let number = ap (λ s. s.context.number) others ∙ ap (λ k. k.number) c.acquire-held.ensures.held in
    let opened = subst (λ o. IsSomeAnd o (HasOpened fresh_book_calls fresh_book_tag tag level share)) c.root.ensures.value
    c.acquire-held.ensures.opened in
    let caller = ap (λ (s : ShareState). s.caller) made in
    let context = subst (λ l. IsContextOf (course_of tag).shape l c.args.account.now.share.caller
    (g.C.Pass.Resting.rest c.args.pass).context.number) c.requires.lowest c.requires.share.context in
    let own = subst (λ n. IsContextOf (course_of tag).shape 0 n (g.C.Pass.Resting.rest c.args.pass).context.number) (sym caller) context in
    let list = list_is tag level c.args.account.now.share.made share r opened in
    some_with _ (g.C.Held.Standing.stand c.acquire-held.result) _ c.give-refused.new.root others
    (may_release_lowest fresh_book_calls fresh_book_tag tag level _ share.caller share r c.give-refused.new.root c.requires.lowest opened
    (subst (λ n. IsContextOf (course_of tag).shape 0 share.caller n) (sym number) own)
    c.give-refused.ensures.trail c.give-refused.ensures.tag
    (c.give-refused.ensures.called ∙ ap (λ l. l ++ share.caller ∷ []) (sym list)) refl)

pub returns-clause-account : goal.returns-clause-account
returns-clause-account g c =
    let tag = g.C.Composed.tag c.args.lock.now in
    let level = g.C.Composed.level c.args.lock.now in
    let old = c.args.account.now in
    let share = c.acquire-held.new.share in
    let made = c.acquire-held.ensures.made in
    let r = c.root.result.now in
    let opened = subst (λ o. IsSomeAnd o (HasOpened fresh_book_calls fresh_book_tag tag level share)) c.root.ensures.value
    c.acquire-held.ensures.opened in
    let caller = ap (λ (s : ShareState). s.caller) made in
    let called = calls_made tag level old.share.made share r opened (ap (λ (s : ShareState). s.made) made) in
    account_after (course_of tag) old.share.caller old c.give-refused.new.account r.payload.fresh.list c.requires.account
    c.give-refused.ensures.prefix (ap (λ n. times n r.payload.fresh.list) (sym caller) ∙ called)
    (c.give-refused.ensures.share ∙ made)
    (c.give-refused.ensures.seen ∙ ap (λ n. record old.seen { list = r.payload.fresh.list ++ n ∷ [] }) caller)
    c.give-refused.ensures.marks c.give-refused.ensures.capacity
