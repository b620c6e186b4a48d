use Rattle.std.proofs.Common.{◌≡◌, ap, ◌∙◌, length, rules}
use Rattle.fresh_root.proofs.Tokens.{last_stands}
use Rattle.fresh_root.proofs.fresh.Fresh.record.Goals as goal

pub returns-clause-marked : goal.returns-clause-marked
returns-clause-marked g c =
    let seen : c.show.new.seen.list ≡ g.P.Payload.calls c.args.payload = search rules in
    last_stands _ _ _ _ c.requires.called (c.length.ensures ∙ ap length seen)
