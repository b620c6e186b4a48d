use Rattle.std.proofs.Common.{List, ℕ, length, map, ap, sym, ◌∙◌}
use Rattle.std.proofs.lemmas.List.{length-map}
use Rattle.keep_local.specs.States.{new_trail}
use Rattle.kv_history.specs.Log.{Log}
use Rattle.mc_text.specs.Reading.{commands_of}
use Rattle.run_texts.specs.declared.section.Section.{Section}
use Rattle.threaded_runner.specs.declared.book.Book.{Book}
use Rattle.threaded_runner.proofs.Dealt.{counts}
use Rattle.threaded_runner.proofs.Told.{dealt}
use Rattle.threaded_runner.proofs.roots.root_of.Goals as goal

pub returns-clause-dealt : goal.returns-clause-dealt
returns-clause-dealt c =
    let trail = c.in_ok-trail.trail in
    let told = ap (λ (b : Book). b.journal.sections) c.new.ensures.payload
    ∙ ap (λ (l : Log). l.sections) c.new-book.ensures ∙ c.in_ok-journal.ensures.sections in
    let each = c.deref.ensures.value ∙ c.in_ok-quotas.ensures
    ∙ ap (map (λ (one : List ℕ). length (commands_of one))) c.in_ok-journal.ensures.sections in
    dealt trail.name trail.receipts c.args.shape c.deref.result.now c.new.result _ _ (c.new.ensures.trail ∙ c.in_ok-trail.ensures.trail)
    (c.requires.callers ∙ sym (length-map c.args.sections.now (λ (one : Section). one.bytes.now))) told each c.in_ok-trail.ensures.shares

pub returns-clause-trail : goal.returns-clause-trail
returns-clause-trail c =
    let trail = c.in_ok-trail.trail in
    let each = c.deref.ensures.value ∙ c.in_ok-quotas.ensures
    ∙ ap (map (λ (one : List ℕ). length (commands_of one))) c.in_ok-journal.ensures.sections ∙ sym (counts c.args.sections.now) in
    let made = c.new.ensures.trail ∙ c.in_ok-trail.ensures.trail in
    made ∙ ap (new_trail trail.name trail.receipts c.args.shape) each
    ∙ ap (λ s. new_trail s.name s.receipts c.args.shape (map (λ section. length (commands_of section.bytes.now)) c.args.sections.now))
    (sym c.new.ensures.trail)
