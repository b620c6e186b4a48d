-- What may go to another thread.
use denote.Ref.{NamedLft}
use denote.Param.Send.{IsSend, IsSync}
use Rattle.threaded_runner.specs.contracts.book.Book as Book
use Rattle.threaded_runner.proofs.book.Book.TheSendSync.{the_send, the_sync}

pub book_sent : (life : NamedLft) → IsSend (Book.the_row life)
book_sent life = the_send life

pub book_shared : (life : NamedLft) → IsSync (Book.the_row life)
book_shared life = the_sync life
