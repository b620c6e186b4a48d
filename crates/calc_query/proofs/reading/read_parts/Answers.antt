use Rattle.std.proofs.Common.{◌≡◌, ◌+◌, ◌-◌, ◌≤◌, length, sym, ap, subst, ◌∙◌, arith, inl}
use Rattle.std.specs.List.{AllByRecursion}
use Rattle.std.proofs.lemmas.Result.{err_from_is_err_and}
use Rattle.topo_tree.specs.Objects.{IsLayer}
use Rattle.calc_query.specs.declared.query.Part.{Part}
use Rattle.calc_query.specs.Readings.{parts_from}
use Rattle.calc_query.proofs.PartReadings.{pieces_of, pieces_left, length_left, begins, after, stops, next_read, pieces_shorter, all_push}
use Rattle.calc_query.proofs.reading.read_parts.Goals as goal

pub returns-in_err-part-clause-parts : goal.returns-in_err-part-clause-parts
returns-in_err-part-clause-parts c =
    let now = c.args.tree.now in
    let word = c.args.word in
    let fault = c.in_err-part.field-0.0 in
    let pieces = c.in-Some.pieces in
    let parts = c.loop-rest.parts.items in
    let total = parts_from now word (c.args.end - length c.args.text.now) (pieces_of c.args.text.now) in
    let so_far = subst (λ rest. after parts (parts_from now word (begins c.args.end rest) (pieces_left rest)) ≡ total) c.in-Some.is
    c.loop-rest.invariant.read in
    let p = err_from_is_err_and c.from_residual.result c.from_residual.ensures.1 in
    let failed = stops now word (c.args.end - length pieces.now) parts pieces.now c.first_part.result.0.now fault c.first_part.result.1
    total c.first_part.ensures (sym c.in_err-part.ensures.part) so_far in
    rw (p.1, p.2) (inl failed)

pub loop-rest-preserved : goal.loop-rest-preserved
loop-rest-preserved c =
    let now = c.args.tree.now in
    let word = c.args.word in
    let end = c.args.end in
    let pieces = c.in-Some.pieces in
    let parts = c.loop-rest.parts.items in
    let part = c.in_ok-part.part in
    let behind = c.first_part.result.1 in
    let total = parts_from now word (end - length c.args.text.now) (pieces_of c.args.text.now) in
    let so_far = subst (λ rest. after parts (parts_from now word (begins end rest) (pieces_left rest)) ≡ total) c.in-Some.is
    c.loop-rest.invariant.read in
    let left = subst (λ rest. length_left rest ≤ end + 1) c.in-Some.is c.loop-rest.invariant.within in
    let pushed = c.in_ok-push.ensures.items in
    let is_part : Part → Type 0 = λ p. IsLayer now p.layer in
    record {
      within = omega (arith, left, pieces_shorter pieces.now c.first_part.result.0.now behind c.first_part.ensures);
      read =
          ap (λ ps. after ps (parts_from now word (begins end behind) (pieces_left behind))) pushed
          ∙ next_read now word end parts pieces.now c.first_part.result.0.now part behind total c.first_part.ensures (omega (arith, left))
          (sym c.in_ok-part.ensures.part) so_far;
      layers = subst (AllByRecursion is_part) (sym pushed)
          (all_push is_part parts part c.loop-rest.invariant.layers c.in_ok-part.ensures.layer);
    }
