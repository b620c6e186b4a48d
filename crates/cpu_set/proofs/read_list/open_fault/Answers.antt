use Rattle.cpu_set.proofs.ListSteps.{open_numeral, open_other}
use Rattle.cpu_set.proofs.read_list.open_fault.Goals as goal

pub returns-in-Number : goal.returns-in-Number
returns-in-Number c = open_numeral c.args.at c.args.low.now _ c.read_numeral.ensures c.in-Number.is

pub returns-in-NotNumeral : goal.returns-in-NotNumeral
returns-in-NotNumeral c = open_other c.args.at c.args.low.now c.in-NotNumeral.ensures
