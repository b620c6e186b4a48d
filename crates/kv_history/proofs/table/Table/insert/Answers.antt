use Rattle.std.proofs.Common.{◌∙◌}
use Rattle.std.specs.FinMap.{insert}
use Rattle.kv_history.specs.Views.{plain_item}
use Rattle.kv_history.proofs.Keyed.{put-keyed}
use Rattle.kv_history.proofs.table.Table.insert.Goals as goal

pub returns-clause-ok : goal.returns-clause-ok
returns-clause-ok c =
    let updates = c.in_ok-insert.ensures.updates in
    let key_is = c.in_ok-to_vec.ensures.items_if_clones_equal (λ x y same. same) in
    put-keyed c.in_ok-to_vec.field-0.items c.self.inside.entries.entries c.insert.new.self.entries c.args.item updates.1 updates.3
    ∙ (λ i. insert (c.self.view_is i) (key_is i) (plain_item c.args.item))
