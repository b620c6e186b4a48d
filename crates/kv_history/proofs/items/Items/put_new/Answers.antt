use Rattle.std.proofs.Common.{◌∙◌, ap, sym, subst}
use Rattle.std.specs.FinMap.{get}
use Rattle.kv_history.specs.Contents as contents
use Rattle.kv_history.specs.Dues.{Agrees}
use Rattle.kv_history.specs.Views.{plain_item}
use Rattle.kv_history.proofs.Agreement.{agrees-alike, agrees-insert, put-back}
use Rattle.kv_history.proofs.items.Items.put_new.Goals as goal

pub invariant_of-self-in-Ok : goal.invariant_of-self-in-Ok
invariant_of-self-in-Ok c =
    subst (Agrees c.relist.new.self) (sym c.in_ok-insert.ensures.ok)
    (agrees-insert c.args.key.now (plain_item c.args.item) c.self.inside.table c.self.inside.dues c.relist.new.self c.in-Ok.ensures.ok
    c.self.invariant)

pub invariant_of-self-in-Err : goal.invariant_of-self-in-Err
invariant_of-self-in-Err c =
    let key = c.args.key.now in
    let none = ap (λ (items : contents.Items). get items key) c.self.view_is ∙ c.requires in
    let again = put-back key (plain_item c.args.item) c.self.inside.table c.insert.new.self c.remove.new.self none
    c.in_ok-insert.ensures.ok c.remove.ensures.removed in
    subst (Agrees c.relist.new.self) (sym again)
    (agrees-alike c.self.inside.table c.self.inside.dues c.relist.new.self c.in-Err.ensures.err c.self.invariant)

pub returns-in-Err-clause-err : goal.returns-in-Err-clause-err
returns-in-Err-clause-err c =
    let key = c.args.key.now in
    let none = ap (λ (items : contents.Items). get items key) c.self.view_is ∙ c.requires in
    put-back key (plain_item c.args.item) c.self.inside.table c.insert.new.self c.remove.new.self none c.in_ok-insert.ensures.ok
    c.remove.ensures.removed ∙ c.self.view_is
