use Rattle.std.proofs.Common.{◌≡◌, ◌+◌, ◌≤◌, ℕ, List, [], Option, inl, sym, ap, ◌∙◌, subst, length, length-append, ◌∷◌, arith}
use Rattle.std.specs.Prelude.{◌==◌, vec_len}
use Rattle.byte_text.specs.Cuts.{pieces}
use Rattle.byte_text.specs.Views.{text_at, piece_texts}
use Rattle.byte_text.proofs.CutLaws.{left, pieces-next, left-falls}
use Rattle.lock_plan.specs.declared.lists.ListFault.TheVariants as faults
use Rattle.lock_plan.specs.Lists.{pieces_of}
use Rattle.lock_plan.proofs.Readings as readings
use Rattle.lock_plan.proofs.Readings.{HasRead, left_parts, nonempty}
use Rattle.lock_plan.proofs.lists.read_list.Goals as goal

pub loop-rest-init : goal.loop-rest-init
loop-rest-init g c =
    let says = g.R.Entries.says c.args.reader.now in
    let all = pieces_of c.args.separator c.args.text.now in
    let none = c.new-entries.ensures.items in
    record {
      read = subst (λ (read : List g.row.R-Entry.Denot). HasRead says all read all) (sym none) (readings.starts says all);
      few = omega (arith, ap length none);
    }

pub returns-in_default-entry-clause-refused : goal.returns-in_default-entry-clause-refused
returns-in_default-entry-clause-refused g c =
    let test = λ (byte : ℕ). byte == c.args.separator in
    let says = g.R.Entries.says c.args.reader.now in
    let parts = piece_texts c.first_piece.result in
    let next = pieces-next test (text_at c.loop-rest.rest) c.in-Some.text.now parts (ap text_at c.in-Some.is) c.first_piece.ensures in
    let long : vec_len c.loop-rest.entries ≡ length c.loop-rest.entries.items = omega arith in
    inl (
      length c.loop-rest.entries.items,
      readings.stops says (pieces_of c.args.separator c.args.text.now) (pieces test parts.1) c.loop-rest.entries.items parts.0
          (sym c.in_default-entry.ensures.entry) (rw next at c.loop-rest.invariant.read),
      ap faults.Unknown (c.len.ensures ∙ long),
    )

pub loop-rest-smaller : goal.loop-rest-smaller
loop-rest-smaller g c =
    left-falls (λ byte. byte == c.args.separator) (text_at c.loop-rest.rest) c.in-Some.text.now (piece_texts c.first_piece.result)
    (ap text_at c.in-Some.is) c.first_piece.ensures

pub loop-rest-preserved : goal.loop-rest-preserved
loop-rest-preserved g c =
    let test = λ (byte : ℕ). byte == c.args.separator in
    let says = g.R.Entries.says c.args.reader.now in
    let parts = piece_texts c.first_piece.result in
    let next = pieces-next test (text_at c.loop-rest.rest) c.in-Some.text.now parts (ap text_at c.in-Some.is) c.first_piece.ensures in
    let before = c.loop-rest.entries.items in
    let entry = c.in-Some-entry.entry in
    let said = sym c.in-Some-entry.ensures.entry in
    let whole = left_parts test c.in-Some.text.now in
    let some : 1 ≤ length parts.0 = nonempty says parts.0 entry said c.entry.ensures.empty in
    let here : left (text_at c.loop-rest.rest) ≡ length c.in-Some.text.now + 1 =
    ap (λ (o : Option (List ℕ)). left o) (ap text_at c.in-Some.is) in
    let first : length parts.0 + 1 + left parts.1 ≡ length c.in-Some.text.now + 1 =
    ap (λ (p : List ℕ × Option (List ℕ)). length p.0 + 1 + left p.1) c.first_piece.ensures ∙ sym whole in
    let items = c.in_ok-push.ensures.items in
    record {
      read = rw items (readings.goes_on says (pieces_of c.args.separator c.args.text.now) (pieces test parts.1) before parts.0 entry said
          (rw next at c.loop-rest.invariant.read));
      few = let bound = c.loop-rest.invariant.few in
          omega (arith, bound, some, here, first, ap length items, length-append before (entry ∷ []));
    }

pub returns : goal.returns
returns g c =
    let says = g.R.Entries.says c.args.reader.now in
    let all = pieces_of c.args.separator c.args.text.now in
    let none = ap text_at c.in_default.is in
    let bound = c.loop-rest.invariant.few in
    record {
      entries = readings.ends says all c.loop-rest.entries.items (rw none at c.loop-rest.invariant.read);
      few = omega (arith, bound, c.requires);
      refused = tt;
    }
