use Rattle.std.proofs.Common.{◌≡◌, ℕ, Bool, Some, Err, refl, sym, ap, ◌∙◌}
use Rattle.std.specs.Prelude.{◌==◌}
use Rattle.std.specs.Option.{ok_or}
use Rattle.std.proofs.lemmas.Result.{err_from_is_err_and}
use Rattle.synth_text.specs.declared.fault.Flaw.TheVariants as flaws
use Rattle.byte_text.specs.Cuts.{pieces}
use Rattle.byte_text.specs.Views.{text_at, piece_texts}
use Rattle.byte_text.proofs.CutLaws.{pieces-next, left-falls}
use Rattle.synth_text.proofs.Entries.{goes_on, ends, ok_or_err, ok_or_ok}
use Rattle.synth_text.proofs.index_text.read_entries.Goals as goal

pub returns-in_err-entry : goal.returns-in_err-entry
returns-in_err-entry g c =
    let test : ℕ → Bool = λ byte. byte == c.args.separator in
    let parts = piece_texts c.first_piece.result in
    let next = pieces-next test (text_at c.loop-rest.rest) c.in-Some.text.now parts (ap text_at c.in-Some.is) c.first_piece.ensures in
    let refused : ok_or c.read.result flaws.Indexes ≡ Err c.in_err-entry.field-0.0 = sym c.in_err-entry.ensures.value in
    let none = ok_or_err c.read.result flaws.Indexes c.in_err-entry.field-0.0 refused in
    let p = err_from_is_err_and c.from_residual.result c.from_residual.ensures.1 in
    let says = g.E.Entry.says in
    let total = ends says c.loop-rest.entries.items parts.0 (pieces test parts.1) _ (sym c.read.ensures ∙ none.0)
    (rw next at c.loop-rest.invariant) in
    rw (p.1, p.2, ← none.1, total) refl

pub loop-rest-smaller : goal.loop-rest-smaller
loop-rest-smaller g c =
    left-falls (λ byte. byte == c.args.separator) (text_at c.loop-rest.rest) c.in-Some.text.now (piece_texts c.first_piece.result)
    (ap text_at c.in-Some.is) c.first_piece.ensures

pub loop-rest-preserved : goal.loop-rest-preserved
loop-rest-preserved g c =
    let test : ℕ → Bool = λ byte. byte == c.args.separator in
    let parts = piece_texts c.first_piece.result in
    let next = pieces-next test (text_at c.loop-rest.rest) c.in-Some.text.now parts (ap text_at c.in-Some.is) c.first_piece.ensures in
    let read : c.read.result ≡ Some c.in_ok-entry.entry =
    ok_or_ok c.read.result flaws.Indexes c.in_ok-entry.entry (sym c.in_ok-entry.ensures.value) in
    rw c.in_ok-push.ensures.items (goes_on g.E.Entry.says c.loop-rest.entries.items parts.0 c.in_ok-entry.entry (pieces test parts.1) _
    (sym c.read.ensures ∙ read) (rw next at c.loop-rest.invariant))
