use Rattle.std.proofs.Common.{List, ℕ, length, map, ap, sym, ◌∙◌, subst}
use Rattle.std.specs.Prelude.{IsSome}
use Rattle.keep_local.specs.States.{TrailState, callers_in}
use Rattle.kv_history.specs.Log.{Log}
use Rattle.mc_text.specs.Reading.{commands_of}
use Rattle.threaded_runner.specs.Books.{book_calls, book_tag}
use Rattle.threaded_runner.specs.Done.{AreDone}
use Rattle.fresh_runner.specs.declared.book.FreshBook.{FreshBook}
use Rattle.fresh_runner.proofs.Ends.{are_marked}
use Rattle.fresh_runner.proofs.Settled.{sections_in, settled_home}
use Rattle.fresh_runner.proofs.finishing.finish_fresh.Goals as goal

pub close-book-requires-clause-home : goal.close-book-requires-clause-home
close-book-requires-clause-home c =
    subst (λ (b : FreshBook). IsSome b.fresh.payload) (sym c.into_parts-trail.ensures.payload) (settled_home c.args.root c.requires.fit).0

pub finish-requires-clause-quotas : goal.finish-requires-clause-quotas
finish-requires-clause-quotas c =
    let trail = c.new.ensures.trail ∙ c.into_parts-trail.ensures.trail in
    let tagged = ap book_tag c.new.ensures.payload ∙ c.close-book.ensures.tagged
    ∙ ap (λ (b : FreshBook). b.fresh.tag) c.into_parts-trail.ensures.payload in
    let sections = sections_in c.args.root.payload.fresh.tag c.new.result.payload.journal.sections tagged in
    ap (λ (s : TrailState). s.quotas) trail ∙ c.requires.quotas ∙ ap (map (λ (one : List ℕ). length (commands_of one))) sections

pub finish-requires-clause-recorded : goal.finish-requires-clause-recorded
finish-requires-clause-recorded c =
    ap (λ (s : TrailState). s.recorded) (c.new.ensures.trail ∙ c.into_parts-trail.ensures.trail) ∙ c.requires.recorded

pub finish-requires-clause-many : goal.finish-requires-clause-many
finish-requires-clause-many c =
    let tagged = ap book_tag c.new.ensures.payload ∙ c.close-book.ensures.tagged
    ∙ ap (λ (b : FreshBook). b.fresh.tag) c.into_parts-trail.ensures.payload in
    let sections = sections_in c.args.root.payload.fresh.tag c.new.result.payload.journal.sections tagged in
    c.requires.many ∙ ap length sections

pub returns-clause-sections : goal.returns-clause-sections
returns-clause-sections c =
    let tagged = ap book_tag c.new.ensures.payload ∙ c.close-book.ensures.tagged
    ∙ ap (λ (b : FreshBook). b.fresh.tag) c.into_parts-trail.ensures.payload in
    let sections = sections_in c.args.root.payload.fresh.tag c.new.result.payload.journal.sections tagged in
    ap (λ (l : Log). l.sections) c.in_ok-left.ensures.journal ∙ sym sections

pub returns-clause-marks : goal.returns-clause-marks
returns-clause-marks c =
    let trail = c.in_ok-left.ensures.trail ∙ c.new.ensures.trail ∙ c.into_parts-trail.ensures.trail in
    let tagged = ap book_tag c.new.ensures.payload ∙ c.close-book.ensures.tagged
    ∙ ap (λ (b : FreshBook). b.fresh.tag) c.into_parts-trail.ensures.payload in
    let told = sections_in c.args.root.payload.fresh.tag c.new.result.payload.journal.sections tagged in
    let sections = told ∙ sym (ap (λ (l : Log). l.sections) c.in_ok-left.ensures.journal) in
    let done = subst (λ (s : TrailState). AreDone s.name s.quotas c.args.shares.items) (sym trail) c.requires.shares in
    let quotas = ap (λ (s : TrailState). s.quotas) trail ∙ c.requires.quotas
    ∙ ap (map (λ (one : List ℕ). length (commands_of one))) sections in
    let called = c.close-book.ensures.calls ∙ ap (λ (b : FreshBook). b.fresh.list) c.into_parts-trail.ensures.payload
    ∙ (settled_home c.args.root c.requires.fit).1 ∙ ap (λ (s : TrailState). callers_in s.closed) (sym trail) in
    are_marked c.in_ok-left.left.trail c.in_ok-left.left.journal c.args.shares.items c.args.seens.items c.args.marks.items
    c.in_ok-left.ensures.finished done quotas (c.requires.many ∙ ap length sections) (book_calls c.close-book.result) called
    c.close-book.ensures.prefixes (c.requires.seens.all ∙ c.requires.tokens) c.requires.many_marks c.requires.marked c.requires.as_many
