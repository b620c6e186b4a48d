use denote.Param.Send.{sendable}
use Rattle.fresh_root.proofs.Crossing.{fresh_sent}
use Rattle.fresh_runner.proofs.Sent.{book_sent}
use Rattle.fresh_runner.proofs.laws.fresh_books_may_be_sent.Goals as goal

pub returns : goal.returns
returns c =
    let fresh = fresh_sent c.histories_may_be_sent.ensures in λ life. search (sendable, fresh, book_sent) depth 30 fits 100000
