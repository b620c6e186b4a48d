use Rattle.std.proofs.Common.{◌≡◌, ℕ, List, subst, sym, inl, inr}
use Rattle.std.specs.Prelude.{IfErr}
use Rattle.command_words.specs.Asked.{Asked}
use Rattle.command_words.specs.Plain.{plain}
use Rattle.clof_answers.specs.Outcome.{WordsRefused, HasRead, IsAccepted, IsAnswer, ReadsInput}
use Rattle.clof_answers.proofs.Stops.{stopped_text, from_text}
use Rattle.clof_tool.proofs.top_call.top_with.Goals as goal

pub returns-clause-words_refused : goal.returns-clause-words_refused
returns-clause-words_refused g c asked status says refused =
    let same : asked ≡ plain c.in-Ok.asked = c.in-Ok.ensures.only asked says in
    elim (c.answer.ensures.answered.words_refused status (subst (λ (a : Asked). WordsRefused a status) same refused)) [
      | inl is ↦ inl (subst (λ m. IfErr m (λ s. c.print-status.result ≡ s)) is c.print-status.ensures.refused)
      | inr is ↦ inr (subst (λ m. IfErr m (λ s. c.print-status.result ≡ s)) is c.print-status.ensures.refused)
    ]

pub returns-clause-cut_short : goal.returns-clause-cut_short
returns-clause-cut_short g c asked written says is =
    let found = stopped_text c.answer.result c.print-status.result written _ _ is c.print-status.ensures.refused
    c.answer.ensures.answered.silent (c.print-status.ensures.cut_short written is) c.answer.ensures.answered.answer in
    let same : plain c.in-Ok.asked ≡ asked = sym (c.in-Ok.ensures.only asked says) in
    let source = g.S.Source in
    let read = subst (λ (a : Asked). (input : List ℕ)
    × HasRead a (source.left c.args.source.now) (source.given c.args.source.now) (source.given c.answer.new.source) input
    × IsAnswer a input found.0.items) same found.1.1 in
    (read.0, found.0.items, read.1, read.2, found.1.0.0, found.1.0.1)

pub returns-clause-complete : goal.returns-clause-complete
returns-clause-complete g c asked says words accepted calm no_fault no_stall =
    let same : asked ≡ plain c.in-Ok.asked = c.in-Ok.ensures.only asked says in
    let source = g.S.Source in
    let own = c.answer.ensures.complete
    (λ status refused. words status (subst (λ (a : Asked). WordsRefused a status) (sym same) refused))
    (λ reads. subst (λ (a : Asked). IsAccepted a (source.left c.args.source.now)) same (accepted (subst ReadsInput (sym same) reads)))
    (λ reads rose. calm (subst ReadsInput (sym same) reads) rose) in
    elim own [
      | inl made ↦ inl (from_text c.answer.result _ made (c.print-status.ensures.complete no_fault no_stall))
      | inr memory ↦ inr (subst (λ m. IfErr m (λ s. c.print-status.result ≡ s)) memory c.print-status.ensures.refused)
    ]

pub returns-clause-read_calm : goal.returns-clause-read_calm
returns-clause-read_calm g c other =
    c.answer.ensures.answered.read_calm
    (λ is. other (subst (λ m. IfErr m (λ s. c.print-status.result ≡ s)) is c.print-status.ensures.refused))
