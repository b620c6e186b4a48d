use Rattle.std.proofs.Common.{◌≡◌, [], Ok, Err, ap, sym, ◌∙◌}
use Rattle.std.specs.Prelude.{is_some}
use Rattle.std.proofs.lemmas.Result.{err_from_is_err_and}
use Rattle.byte_text.specs.Classes.{is_white}
use Rattle.byte_text.specs.Views.{text_at, piece_texts}
use Rattle.byte_text.proofs.CutLaws.{left-falls}
use Rattle.synth_text.proofs.AttributeFold.{none_hold}
use Rattle.synth_text.proofs.AttributeLaws.{StepsOver, goes_on, stops, begins, begins_badly, some_text}
use Rattle.synth_text.proofs.attributes.read_words.Goals as goal

pub returns-in_err-attributes : goal.returns-in_err-attributes
returns-in_err-attributes c =
    let p = err_from_is_err_and c.from_residual.result c.from_residual.ensures.1 in
    rw (p.1, p.2) (begins_badly c.args.kind c.args.text.now c.in_err-attributes.field-0.0
    (piece_texts c.first_piece.result) c.first_piece.ensures ((rw c.none.ensures at c.in_err-attributes.ensures) [] none_hold))

pub loop-rest-init : goal.loop-rest-init
loop-rest-init c =
    begins c.args.kind c.args.text.now c.in_ok-attributes.attributes (piece_texts c.first_piece.result) c.first_piece.ensures
    ((rw c.none.ensures at c.in_ok-attributes.ensures) [] none_hold)

pub returns-in_err-attributes-2 : goal.returns-in_err-attributes-2
returns-in_err-attributes-2 c =
    let p = err_from_is_err_and c.from_residual-in_err-attributes-2.result c.from_residual-in_err-attributes-2.ensures.1 in
    let parts = piece_texts c.first_piece-in-Some.result in
    let more : c.is_some.result ≡ is_some parts.1 = c.is_some.ensures ∙ sym (some_text c.first_piece-in-Some.result.1) in
    let step : StepsOver c.args.kind c.loop-rest.attributes parts.0 (is_some parts.1) (Err c.in_err-attributes-2.field-0.0) =
    record {
      gap = rw more at c.in_err-attributes-2.ensures.gap;
      adds = rw more at c.in_err-attributes-2.ensures.word;
    } in
    rw (p.1, p.2)
    (stops c.args.kind c.loop-rest.attributes c.in_err-attributes-2.field-0.0 (text_at c.loop-rest.rest) c.in-Some.text.now parts _
    (ap text_at c.in-Some.is) c.first_piece-in-Some.ensures step c.loop-rest.invariant)

pub loop-rest-smaller : goal.loop-rest-smaller
loop-rest-smaller c =
    left-falls is_white (text_at c.loop-rest.rest) c.in-Some.text.now (piece_texts c.first_piece-in-Some.result)
    (ap text_at c.in-Some.is) c.first_piece-in-Some.ensures

pub loop-rest-preserved : goal.loop-rest-preserved
loop-rest-preserved c =
    let parts = piece_texts c.first_piece-in-Some.result in
    let more : c.is_some.result ≡ is_some parts.1 = c.is_some.ensures ∙ sym (some_text c.first_piece-in-Some.result.1) in
    let step : StepsOver c.args.kind c.loop-rest.attributes parts.0 (is_some parts.1) (Ok c.in_ok-attributes-2.attributes) =
    record {
      gap = rw more at c.in_ok-attributes-2.ensures.gap;
      adds = rw more at c.in_ok-attributes-2.ensures.word;
    } in
    goes_on c.args.kind c.loop-rest.attributes c.in_ok-attributes-2.attributes (text_at c.loop-rest.rest) c.in-Some.text.now parts _
    (ap text_at c.in-Some.is) c.first_piece-in-Some.ensures step c.loop-rest.invariant
