use Rattle.fresh_root.proofs.Prefixes.{ordered}
use Rattle.fresh_root.proofs.laws.what_was_seen_is_ordered.Goals as goal

pub returns : goal.returns
returns c s r j k v w at at' unspent unspent' = ordered v.list w.list r.view.list
    (r.each j v at unspent).list (r.each k w at' unspent').list
