use Rattle.std.proofs.Common.{◌≡◌, ◌+◌, ◌-◌, ◌/◌, ◌++◌, ap, ◌∙◌, arith}
use Rattle.cpu_set.specs.Bits.{word_of}
use Rattle.cpu_set.specs.Texts.{word_text}
use Rattle.cpu_set.proofs.HexText.{hex_begin, hex_first, hex_next, hex_written}
use Rattle.cpu_set.proofs.set.CpuSet.write_hex.Goals as goal
use Rattle.cpu_set.proofs.set.CpuSet.write_hex.Goals.{then-place-count+in_ok-push, else-place-count}

pub loop-place-init : goal.loop-place-init
loop-place-init c = rw c.in_ok-text.ensures.items (hex_begin c.args.self.now (c.highest.result / 32 + 1))

pub word-requires : goal.word-requires
word-requires c = omega (arith, c.highest.ensures.limit)

pub loop-place-preserved : goal.loop-place-preserved
loop-place-preserved c =
    let place = c.loop-place.place - 1 in
    let count = c.highest.result / 32 + 1 in
    let grown : c.push_word.new.text.items ≡ c.if-place-count.text.items ++ word_text place (word_of c.args.self.now place) =
    c.in_ok-push_word.ensures ∙ ap (λ w. c.if-place-count.text.items ++ word_text place w) c.word.ensures in
    rw grown (elim c.if-place-count.branch [
      | then-place-count+in_ok-push w ↦ rw (w.text-is, w.in_ok-push.ensures.items)
          (hex_next c.args.self.now count c.loop-place.place place c.loop-place.text.items (omega arith)
          (omega (arith, w.if-place-count.true)) c.loop-place.invariant)
      | else-place-count w ↦ rw w.text-is
          (hex_first c.args.self.now count c.loop-place.place place c.loop-place.text.items (ap (λ n. n / 32 + 1) c.highest.ensures.number)
          (omega arith) (omega (arith, w.if-place-count.false)) c.loop-place.auto.place c.loop-place.invariant)
    ])

pub returns : goal.returns
returns c =
    hex_written c.args.self.now (c.highest.result / 32 + 1) c.loop-place.place c.loop-place.text.items
    (ap (λ n. n / 32 + 1) c.highest.ensures.number) c.loop-place-test.false c.loop-place.invariant
