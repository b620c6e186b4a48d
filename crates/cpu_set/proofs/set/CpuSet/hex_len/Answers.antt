use Rattle.std.proofs.Common.{◌≡◌, ◌-◌, ◌≤◌, ◌∷◌, [], ◌++◌, length, refl, sym, ap, ◌∙◌, arith}
use Rattle.std.proofs.lemmas.List.{length-append}
use Rattle.cpu_set.specs.Bits.{word_of}
use Rattle.cpu_set.specs.Texts.{word_text}
use Rattle.cpu_set.proofs.HexText.{hex_begin, hex_first, hex_next, hex_written}
use Rattle.cpu_set.proofs.set.CpuSet.hex_len.Goals as goal
use Rattle.cpu_set.proofs.set.CpuSet.hex_len.Goals.{then-place-count, else-place-count}

pub loop-place-init : goal.loop-place-init
loop-place-init c = ([], refl, hex_begin c.args.self.now c.args.count)

pub loop-place-preserved : goal.loop-place-preserved
loop-place-preserved c =
    let text = c.loop-place.invariant.0 in
    let place = c.loop-place.place - 1 in
    let one = word_text place (word_of c.args.self.now place) in
    let added : c.word_len-length.result ≡ length one =
    c.word_len-length.ensures.length ∙ ap (λ w. length (word_text place w)) c.word.ensures in
    elim c.if-place-count.branch [
      | then-place-count w ↦ (
        (text ++ 44 ∷ []) ++ one,
        omega (arith, w.length-is, added, c.loop-place.invariant.1, length-append (text ++ 44 ∷ []) one, length-append text (44 ∷ [])),
        hex_next c.args.self.now c.args.count c.loop-place.place place text (omega arith)
            (omega (arith, w.if-place-count.true)) c.loop-place.invariant.2,
      )
      | else-place-count w ↦ (
        text ++ one,
        omega (arith, w.length-is, added, c.loop-place.invariant.1, length-append text one),
        hex_first c.args.self.now c.args.count c.loop-place.place place text c.requires.count (omega arith)
            (omega (arith, w.if-place-count.false)) c.loop-place.auto.place c.loop-place.invariant.2,
      )
    ]

pub word-requires : goal.word-requires
word-requires c = omega arith

pub overflow_add-length : goal.overflow_add-length
overflow_add-length c = omega (arith, c.loop-place.invariant.1, c.loop-place.invariant.2.bound)

pub overflow_add-length-in-loop-place : goal.overflow_add-length-in-loop-place
overflow_add-length-in-loop-place c =
    let so_far : c.loop-place.length ≤ 1408 = omega (arith, c.loop-place.invariant.1, c.loop-place.invariant.2.bound) in
    elim c.if-place-count.branch [
      | then-place-count w ↦ omega (arith, w.length-is, c.word_len-length.ensures.limit)
      | else-place-count w
          ↦ omega (arith, w.length-is, c.word_len-length.ensures.limit)
    ]

pub returns : goal.returns
returns c =
    sym c.loop-place.invariant.1 ∙ ap length
    (hex_written c.args.self.now c.args.count c.loop-place.place c.loop-place.invariant.0 c.requires.count c.loop-place-test.false
    c.loop-place.invariant.2)
