use Rattle.std.proofs.Common.{◌-◌, length, Ok, sym, ap, subst, ◌∙◌, arith, inl}
use Rattle.std.proofs.lemmas.Bool.{eqb-true, eqb-false}
use Rattle.std.proofs.lemmas.Result.{err_from_is_err_and}
use Rattle.synth_text.specs.Flaws.{◌>>=◌}
use Rattle.calc_query.specs.declared.query.Location.TheVariants as locations
use Rattle.calc_query.specs.Readings.{parts_from, Answers, FailsWith}
use Rattle.calc_query.proofs.PartReadings.{pieces_of}
use Rattle.calc_query.proofs.LocationReadings.{fails_after, location-whole, location-other, location-empty, location-set, location-parts}
use Rattle.calc_query.proofs.reading.read_behind.Goals as goal

pub returns-then-is_whole-clause-location : goal.returns-then-is_whole-clause-location
returns-then-is_whole-clause-location c =
    location-whole c.args.tree.now c.args.word (c.args.end - length c.args.text.now) c.args.text.now
    (sym c.is_whole.ensures ∙ c.if-is_whole.true)

pub returns-then-is_empty-clause-location : goal.returns-then-is_empty-clause-location
returns-then-is_empty-clause-location c =
    let now = c.args.tree.now in
    let text = c.args.text.now in
    let at = c.args.end - length text in
    inl
    (location-other now c.args.word at text (sym c.is_whole.ensures ∙ c.if-is_whole.false)
    ∙ location-empty now c.args.word at text (eqb-true (length text) 0 (sym c.is_empty.ensures ∙ c.if-is_empty.true)))

pub returns-then-is_ascii_digit-clause-location : goal.returns-then-is_ascii_digit-clause-location
returns-then-is_ascii_digit-clause-location c =
    let now = c.args.tree.now in
    let text = c.args.text.now in
    let at = c.args.end - length text in
    let some = eqb-false (length text) 0 (sym c.is_empty.ensures ∙ c.if-is_empty.false) in
    let is = location-other now c.args.word at text (sym c.is_whole.ensures ∙ c.if-is_whole.false)
    ∙ location-set now c.args.word at text (omega (arith, some)) (sym c.is_ascii_digit.ensures.value ∙ c.if-is_ascii_digit.true) in
    subst (Answers c.read_numbers.result) (sym is) c.read_numbers.ensures.location

pub returns-then-is_ascii_digit-clause-layers : goal.returns-then-is_ascii_digit-clause-layers
returns-then-is_ascii_digit-clause-layers c = c.read_numbers.ensures.layers c.args.tree.now

pub returns-in_err-parts-clause-location : goal.returns-in_err-parts-clause-location
returns-in_err-parts-clause-location c =
    let now = c.args.tree.now in
    let text = c.args.text.now in
    let at = c.args.end - length text in
    let fault = c.in_err-parts.field-0.0 in
    let some = eqb-false (length text) 0 (sym c.is_empty.ensures ∙ c.if-is_empty.false) in
    let is = location-other now c.args.word at text (sym c.is_whole.ensures ∙ c.if-is_whole.false)
    ∙ location-parts now c.args.word at text (omega (arith, some)) (sym c.is_ascii_digit.ensures.value ∙ c.if-is_ascii_digit.false) in
    let p = err_from_is_err_and c.from_residual.result c.from_residual.ensures.1 in
    let failed = subst (FailsWith fault) (sym is)
    (fails_after fault (parts_from now c.args.word at (pieces_of text))
    (λ parts. Ok (locations.Parts parts)) c.in_err-parts.ensures.parts) in
    rw (p.1, p.2) failed

pub returns-clause-location : goal.returns-clause-location
returns-clause-location c =
    let now = c.args.tree.now in
    let text = c.args.text.now in
    let at = c.args.end - length text in
    let some = eqb-false (length text) 0 (sym c.is_empty.ensures ∙ c.if-is_empty.false) in
    location-other now c.args.word at text (sym c.is_whole.ensures ∙ c.if-is_whole.false)
    ∙ location-parts now c.args.word at text (omega (arith, some)) (sym c.is_ascii_digit.ensures.value ∙ c.if-is_ascii_digit.false)
    ∙ ap (λ reading. reading >>= λ parts. Ok (locations.Parts parts)) c.in_ok-parts.ensures.parts
