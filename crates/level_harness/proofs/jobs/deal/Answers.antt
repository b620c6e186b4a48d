use Rattle.std.proofs.Common.{sym, ◌∙◌}
use Rattle.clof_compose.proofs.Shares.{as_many_shares, new_share_in}
use Rattle.level_harness.proofs.jobs.deal.Goals as goal

pub pair-requires-clause-shares : goal.pair-requires-clause-shares
pair-requires-clause-shares g c = new_share_in _ c.args.shares.items c.requires.quotas c.requires.shares

pub pair-requires-clause-many : goal.pair-requires-clause-many
pair-requires-clause-many g c =
    as_many_shares _ _ c.args.shares.items c.requires.shares ∙ c.requires.quotas ∙ sym (c.requires.all.all ∙ c.requires.count)
