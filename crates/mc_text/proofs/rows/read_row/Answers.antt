use Rattle.mc_text.proofs.rows.read_row.Goals as goal

pub returns-in-Storage-clause-spelled : goal.returns-in-Storage-clause-spelled
returns-in-Storage-clause-spelled c = c.read_storage.ensures.spelled c.args.spelling.now

pub returns-in-Cas-clause-spelled : goal.returns-in-Cas-clause-spelled
returns-in-Cas-clause-spelled c = c.read_cas.ensures.spelled c.args.spelling.now
