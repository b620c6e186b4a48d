use Rattle.std.proofs.Common.{◌-◌, ap, ◌∙◌, arith}
use Rattle.std.specs.Char.{digit_char}
use Rattle.cpu_set.proofs.HexText.{digits_begin, digits_push, digits_end, nibble}
use Rattle.cpu_set.proofs.write_hex.push_digits.Goals as goal

pub loop-place-init : goal.loop-place-init
loop-place-init c = digits_begin c.args.text.now.items 8 c.args.word

pub loop-place-preserved : goal.loop-place-preserved
loop-place-preserved c =
    digits_push c.args.text.now.items c.loop-place.text.items c.push.new.self.items 8 c.loop-place.place
    (c.loop-place.place - 1) c.args.word c.hex_digit.result (omega arith) c.loop-place.auto.place
    (c.hex_digit.ensures ∙ ap digit_char (nibble c.args.word (c.loop-place.place - 1))) c.in_ok-push.ensures.items c.loop-place.invariant

pub overflow_mul-place : goal.overflow_mul-place
overflow_mul-place c = omega arith

pub returns : goal.returns
returns c =
    digits_end c.args.text.now.items c.loop-place.text.items 8 c.loop-place.place c.args.word c.loop-place-test.false c.loop-place.invariant
