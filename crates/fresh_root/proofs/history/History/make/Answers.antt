use Rattle.fresh_root.proofs.Kept.{opens}
use Rattle.fresh_root.proofs.history.History.make.Goals as goal

pub of_words-requires : goal.of_words-requires
of_words-requires c = opens
