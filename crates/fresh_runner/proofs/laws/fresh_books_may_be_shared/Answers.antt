use denote.Param.Send.{sendable}
use Rattle.fresh_root.proofs.Crossing.{fresh_shared}
use Rattle.fresh_runner.proofs.Sent.{book_shared}
use Rattle.fresh_runner.proofs.laws.fresh_books_may_be_shared.Goals as goal

pub returns : goal.returns
returns c =
    let fresh = fresh_shared c.histories_may_be_shared.ensures in λ life. search (sendable, fresh, book_shared) depth 30 fits 100000
