use Rattle.std.proofs.Common.{◌-◌, length, Ok, sym, ap, subst, ◌∙◌, arith}
use Rattle.std.proofs.lemmas.Result.{err_from_is_err_and}
use Rattle.synth_text.specs.Flaws.{◌>>=◌}
use Rattle.calc_query.specs.Readings.{location_of, op_len, term_of, FailsWith}
use Rattle.calc_query.proofs.LocationReadings.{fails_after, op_fits, term_behind}
use Rattle.calc_query.proofs.reading.read_term.Goals as goal

pub split_at-requires : goal.split_at-requires
split_at-requires g c = omega (arith, c.len.ensures, ap op_len c.read_op-op.ensures, op_fits c.args.word.now)

pub returns-in_err-location-clause-term : goal.returns-in_err-location-clause-term
returns-in_err-location-clause-term g c =
    let now = c.as_tree.result.now in
    let word = c.args.word.now in
    let fault = c.in_err-location.field-0.0 in
    let op = c.read_op-op.result in
    let p = err_from_is_err_and c.from_residual.result c.from_residual.ensures.1 in
    let failed = subst (FailsWith fault) (sym
    (term_behind now c.args.number word op c.len.result c.split_at.result.1.now c.read_op-op.ensures c.len.ensures
    c.split_at.ensures.back))
    (fails_after fault (location_of now c.args.number (length word - length c.split_at.result.1.now) c.split_at.result.1.now)
    (λ location. Ok (record { op = op; location = location })) c.in_err-location.ensures.location) in
    rw (p.1, p.2) (subst (λ described. FailsWith fault (term_of described c.args.number word)) c.as_tree.ensures failed)

pub returns-clause-term : goal.returns-clause-term
returns-clause-term g c =
    let op = c.read_op-op.result in
    ap (λ described. term_of described c.args.number c.args.word.now) (sym c.as_tree.ensures)
    ∙ term_behind c.as_tree.result.now c.args.number c.args.word.now op c.len.result c.split_at.result.1.now c.read_op-op.ensures
    c.len.ensures c.split_at.ensures.back
    ∙ ap (λ reading. reading >>= λ location. Ok (record { op = op; location = location })) c.in_ok-location.ensures.location
