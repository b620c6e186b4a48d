use Rattle.std.proofs.Common.{◌≡◌, ◌+◌, ◌*◌, ◌^◌, ◌<◌, ℕ, length, get_or, take, arith}
use Rattle.std.specs.Char.{digit_value}
use Rattle.std.specs.Str.Parse.{digits_value}
use Rattle.std.proofs.lemmas.Int.Digits.{digits_more, digits_value_more}
use Rattle.std.proofs.lemmas.Str.{digit_value_digit}
use Rattle.std.proofs.lemmas.Str.Parse.{digit_from_value}
use Rattle.byte_text.proofs.Digits.{digit_at, few_digits}
use Rattle.byte_text.proofs.decimals.short_number.Goals.{
  then-byte-lt48-via-then-byte-lt48,
  then-byte-lt48-via-else-byte-lt48+then-byte-gt57,
}
use Rattle.byte_text.proofs.decimals.short_number.Goals as goal

-- a byte that is no digit
pub returns-then-byte-lt48 : goal.returns-then-byte-lt48
returns-then-byte-lt48 c numeral =
    let byte = get_or c.args.text.now c.loop-byte.byte-index 0 in
    let digit = digit_from_value byte (digit_at 10 c.args.text.now c.loop-byte.byte-index numeral.1 c.loop-byte-test.true) in
    elim c.then-byte-lt48.branch [
      | then-byte-lt48-via-then-byte-lt48 w ↦ absurd (omega (arith, digit.0, w.if-byte-lt48))
      | then-byte-lt48-via-else-byte-lt48+then-byte-gt57 w ↦ absurd (omega (arith, digit.1, w.if-byte-gt57))
    ]

pub overflow_mul-number : goal.overflow_mul-number
overflow_mul-number c =
    let so_far = c.loop-byte.invariant in
    omega (arith, so_far.1, few_digits c.args.text.now c.loop-byte.byte-index c.loop-byte-test.true c.requires so_far.0)

pub overflow_add-number : goal.overflow_add-number
overflow_add-number c =
    let so_far = c.loop-byte.invariant in
    omega (arith, so_far.1, few_digits c.args.text.now c.loop-byte.byte-index c.loop-byte-test.true c.requires so_far.0)

pub loop-byte-preserved : goal.loop-byte-preserved
loop-byte-preserved c =
    let text = c.args.text.now in
    let i = c.loop-byte.byte-index in
    let within = c.loop-byte-test.true in
    let so_far = c.loop-byte.invariant in
    let value : digit_value (get_or text i 0) + 48 ≡ get_or text i 0 =
    digit_value_digit (get_or text i 0) (c.if-byte-lt48.false, c.if-byte-gt57.false) in
    let more : digits_value 10 (take (i + 1) text) ≡ digits_value 10 (take i text) * 10 + digit_value (get_or text i 0) =
    digits_value_more 10 text i within in
    (digits_more 10 text i within so_far.0 (omega (arith, value)), omega (arith, more, value, so_far.1, c.from.ensures))
