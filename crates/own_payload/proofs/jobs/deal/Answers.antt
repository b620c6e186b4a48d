use Rattle.std.proofs.Common.{sym, ◌∙◌}
use Rattle.clof_compose.proofs.Shares.{as_many_shares, new_share_in}
use Rattle.own_payload.proofs.jobs.deal.Goals as goal

pub pair-requires-clause-shares : goal.pair-requires-clause-shares
pair-requires-clause-shares g c = new_share_in _ c.args.lists.shares.items c.requires.ready.quotas c.requires.ready.dealt

pub pair-requires-clause-many : goal.pair-requires-clause-many
pair-requires-clause-many g c =
    as_many_shares _ _ c.args.lists.shares.items c.requires.ready.dealt ∙ c.requires.ready.quotas
    ∙ sym (c.requires.ready.all.all ∙ c.requires.ready.many)
