use Rattle.cpu_set.proofs.HexSteps.{is_word-number, no_number}
use Rattle.cpu_set.proofs.read_hex.word_number.Goals as goal

pub returns-in-Number : goal.returns-in-Number
returns-in-Number c =
    is_word-number c.args.word.now c.without_prefix-digits.result.now c.in-Number.value c.without_prefix-digits.ensures
    c.if-digits-gt8.false c.in-Number.ensures

pub returns-in-TooLarge : goal.returns-in-TooLarge
returns-in-TooLarge c =
    no_number c.args.word.now c.without_prefix-digits.result.now _ c.without_prefix-digits.ensures c.if-digits-gt8.false
    c.read_numeral.ensures c.in-TooLarge.is
