use Rattle.std.proofs.Common.{sym, subst}
use Rattle.kv_history.specs.Contents.{NoneDue}
use Rattle.kv_history.specs.Contents as contents
use Rattle.kv_history.proofs.Live.{due-empty}
use Rattle.kv_history.proofs.store.Store.new.Goals as goal

pub returns-clause-none_expired : goal.returns-clause-none_expired
returns-clause-none_expired c = subst (λ (items : contents.Items). NoneDue 0 items) (sym c.new.ensures) (due-empty 0)
