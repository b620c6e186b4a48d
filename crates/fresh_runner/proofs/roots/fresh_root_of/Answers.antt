use Rattle.std.proofs.Common.{length, map, ap, sym, ◌∙◌, subst}
use Rattle.std.proofs.lemmas.List.{length-map}
use Rattle.fresh_root.specs.States.{AreAll, FreshState}
use Rattle.run_texts.specs.declared.section.Section.{Section}
use Rattle.threaded_runner.specs.Books.{book_tag}
use Rattle.threaded_runner.specs.declared.book.Book.{Book}
use Rattle.fresh_runner.specs.declared.book.FreshBook.{FreshBook}
use Rattle.fresh_runner.proofs.Told.{fresh_dealt}
use Rattle.fresh_runner.proofs.roots.fresh_root_of.Goals as goal

pub returns-in-Ok-clause-dealt : goal.returns-in-Ok-clause-dealt
returns-in-Ok-clause-dealt c =
    let root = c.in_ok-root.root in
    let sections = map (λ (section : Section). section.bytes.now) c.args.sections.now in
    let r = c.new-in-Ok.result in
    let fresh = ap (λ (b : FreshBook). b.fresh) c.new-in-Ok.ensures.payload ∙ c.new.ensures in
    let trail = c.new-in-Ok.ensures.trail ∙ c.into_parts-trail.ensures.trail in
    let tag = ap (λ (f : FreshState Book). f.tag) fresh ∙ c.in-Ok.ensures.tag ∙ ap book_tag c.into_parts-trail.ensures.payload in
    let as_sections = length-map c.args.sections.now (λ (section : Section). section.bytes.now) in
    let many = c.in-Ok.ensures.tokens ∙ sym as_sections in
    let seens = subst (λ n. AreAll c.in-Ok.fresh.name n c.in-Ok.seens.items) (sym as_sections) c.in-Ok.ensures.seens in
    fresh_dealt root r sections c.in_ok-root.shares.items c.in-Ok.seens.items trail tag c.in_ok-root.ensures.dealt
    (ap (λ (f : FreshState Book). f.tokens) fresh ∙ many)
    (subst (λ n. AreAll n (length sections) c.in-Ok.seens.items) (ap (λ (f : FreshState Book). f.name) (sym fresh)) seens)
    c.in-Ok.ensures.blank
