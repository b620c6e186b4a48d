use Rattle.std.proofs.Common.{◌+◌, ◌-◌, ◌/◌, codes, ap, ◌∙◌, arith}
use Rattle.std.specs.Char.{digit_char}
use Rattle.cpu_set.specs.Bits.{mask_of}
use Rattle.cpu_set.proofs.HexText.{digits_begin, digits_push}
use Rattle.cpu_set.proofs.TasksetText.{taskset_written}
use Rattle.cpu_set.proofs.set.CpuSet.write_taskset.Goals as goal

pub loop-place-init : goal.loop-place-init
loop-place-init c =
    rw (c.in_ok-extend_from_slice.ensures.items, c.in_ok-text.ensures.items)
    (digits_begin (codes "0x") (c.highest.result / 4 + 1) (mask_of c.args.self.now))

pub loop-place-preserved : goal.loop-place-preserved
loop-place-preserved c =
    digits_push (codes "0x") c.loop-place.text.items c.push.new.self.items (c.highest.result / 4 + 1) c.loop-place.place
    (c.loop-place.place - 1) (mask_of c.args.self.now) c.hex_digit.result
    (omega arith) c.loop-place.auto.place
    (c.hex_digit.ensures ∙ ap digit_char c.hex_place.ensures) c.in_ok-push.ensures.items c.loop-place.invariant

pub returns : goal.returns
returns c =
    taskset_written c.args.self.now c.loop-place.text.items (c.highest.result / 4 + 1) c.loop-place.place c.highest.ensures.set
    (omega (arith, c.highest.ensures.number, c.highest.ensures.limit))
    (ap (λ n. n / 4 + 1) c.highest.ensures.number) c.loop-place-test.false c.loop-place.invariant
