use Rattle.std.proofs.Common.{arith}
use Rattle.clof_tool.proofs.Room.{for_left, never_full}
use Rattle.clof_tool.proofs.in_memory.top_in_memory.Goals as goal

pub returns-clause-no_read_fault : goal.returns-clause-no_read_fault
returns-clause-no_read_fault g c is = let rose = c.call_top.ensures.ended.by_input.read_fault is in omega (arith, rose)

pub returns-clause-no_write_fault : goal.returns-clause-no_write_fault
returns-clause-no_write_fault g c roomy written is =
    never_full c.args.words.now c.args.source.now.left c.args.out.now.held _ c.args.source.now.given _ c.args.out.now.room written
    c.call_top.result is roomy c.call_top.ensures.ended.by_words.usage_else (c.call_top.ensures.ended.by_output.write_full written is)
    (λ asked says. c.call_top.ensures.ended.by_output.cut_short asked written says is)

pub returns-clause-printed : goal.returns-clause-printed
returns-clause-printed g c asked says is =
    let found = c.call_top.ensures.ended.by_output.printed asked says is in
    (found.1, for_left asked c.args.source.now.left found.0 found.1 c.args.source.now.given _ found.2 found.3, cc)
