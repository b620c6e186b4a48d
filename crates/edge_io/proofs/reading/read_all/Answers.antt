use Rattle.std.proofs.Common.{◌≡◌, ◌≤◌, length, vec_len, arith}
use Rattle.std.proofs.lemmas.Result.{err_from_is_err_and}
use Rattle.edge_io.proofs.Taken.{given_more, took_within}
use Rattle.edge_io.proofs.reading.read_all.Goals as goal

pub returns-clause-longer : goal.returns-clause-longer
returns-clause-longer g c same = took_within _ _ _ _ c.loop-source.invariant.lost (omega arith)

pub returns-in_err-count-clause-dropped : goal.returns-in_err-count-clause-dropped
returns-in_err-count-clause-dropped g c =
    let p = err_from_is_err_and c.from_residual-in_err-count.result c.from_residual-in_err-count.ensures.1 in
    let bytes = c.loop-source.bytes in
    let sized : vec_len bytes ≡ length bytes.items = omega arith in
    let within : vec_len bytes ≤ c.args.limit = omega arith in
    rw p.1 (given_more _ _ _ _ _ _ _ (vec_len bytes) bytes.items sized c.loop-source.invariant.lost c.loop-source.invariant.given within
    c.in_err-count.ensures.dropped)
