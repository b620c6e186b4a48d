use Rattle.std.proofs.Common.{◌≡◌, None, Some, Ok, refl, sym, ap}
use Rattle.std.proofs.lemmas.Result.{err_from_is_err_and}
use Rattle.synth_text.specs.Rules.{broken_items}
use Rattle.synth_text.proofs.RuleLaws.{items_hold, broken_first, broken_large, broken_none}
use Rattle.synth_text.proofs.rules.described.Goals as goal

pub returns-in_err-check_items : goal.returns-in_err-check_items
returns-in_err-check_items c =
    let rule = c.in_err-check_items.field-0.0 in
    let first : broken_items c.args.parts.items ≡ Some rule = sym (rw c.deref.ensures.value at c.in_err-check_items.ensures) in
    let p = err_from_is_err_and c.from_residual.result c.from_residual.ensures.1 in
    rw (p.1, p.2, broken_first c.args.parts.items rule first) refl

pub describe-requires : goal.describe-requires
describe-requires c = (items_hold c.args.parts.items (sym (rw c.deref.ensures.value at c.in_ok-check_items.ensures))).few

pub is_large-requires-clause-few : goal.is_large-requires-clause-few
is_large-requires-clause-few c =
    rw c.in_ok-description.ensures (items_hold c.args.parts.items (sym (rw c.deref.ensures.value at c.in_ok-check_items.ensures))).few

pub returns-then-is_large : goal.returns-then-is_large
returns-then-is_large c =
    let hold : broken_items c.args.parts.items ≡ None = sym (rw c.deref.ensures.value at c.in_ok-check_items.ensures) in
    rw (broken_large c.args.parts.items hold (sym (rw c.in_ok-description.ensures at c.if-is_large.ensures))) refl

pub returns : goal.returns
returns c =
    let hold : broken_items c.args.parts.items ≡ None = sym (rw c.deref.ensures.value at c.in_ok-check_items.ensures) in
    rw (broken_none c.args.parts.items hold (sym (rw c.in_ok-description.ensures at c.if-is_large.ensures)))
    (ap Ok (sym c.in_ok-description.ensures))
