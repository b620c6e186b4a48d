use Rattle.std.proofs.Common.{◌≡◌, ◌+◌, ◌*◌, ◌≤◌, take, get_or, arith}
use Rattle.std.specs.Char.{digit_value}
use Rattle.std.specs.Str.Parse.{digits_value}
use Rattle.std.proofs.lemmas.Int.Digits.{digits_value_more}
use Rattle.std.proofs.lemmas.Str.Parse.{digits_value-take-le}
use Rattle.byte_text.proofs.numerals.value_up_to.Goals as goal

-- the digits so far are over the limit, and so are all
pub returns-in-None : goal.returns-in-None
returns-in-None c small =
    let text = c.args.text.now in
    let more : digits_value c.args.radix (take (c.loop-byte.byte-index + 1) text)
    ≡ digits_value c.args.radix (take c.loop-byte.byte-index text) * c.args.radix + digit_value (get_or text c.loop-byte.byte-index 0)
    = digits_value_more c.args.radix text c.loop-byte.byte-index c.loop-byte-test.true in
    let fewer : digits_value c.args.radix (take (c.loop-byte.byte-index + 1) text) ≤ digits_value c.args.radix text
    = digits_value-take-le c.args.radix text (c.loop-byte.byte-index + 1) (omega arith) in
    c.in-None.ensures (rw (c.loop-byte.invariant.0, ← more) (omega arith))
