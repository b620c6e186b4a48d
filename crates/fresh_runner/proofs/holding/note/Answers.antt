use Rattle.fresh_runner.proofs.Holders.{next_in}
use Rattle.fresh_runner.proofs.holding.note.Goals as goal

pub apply-requires : goal.apply-requires
apply-requires c =
    next_in c.args.fresh.now.tag c.args.fresh.now.list _ c.args.account.now.share.caller _ _ c.look-book.ensures.tagged
    c.look-book.ensures.calls c.caller-caller.ensures c.requires.next
