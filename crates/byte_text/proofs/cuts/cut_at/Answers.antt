use Rattle.byte_text.proofs.CutLaws.{cuts_at}
use Rattle.byte_text.proofs.cuts.cut_at.Goals as goal

pub returns : goal.returns
returns c = cuts_at c.args.byte c.args.text.now c.cut.result c.cut.ensures
