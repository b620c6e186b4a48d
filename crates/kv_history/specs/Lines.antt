-- What the crate's replies of one line say.
use Rattle.std.specs.Prelude.{ℕ, List, ◌++◌, codes, decimal}
use Rattle.kv_history.specs.declared.reply_line.ReplyLine.{ReplyLine}
use Rattle.kv_history.specs.declared.reply_line.ReplyLine.TheVariants.{Fixed, Number}
use Rattle.kv_history.specs.declared.reply_line.FixedLine.{FixedLine}
use Rattle.kv_history.specs.declared.reply_line.FixedLine.TheVariants.{
  Stored,
  NotStored,
  Exists,
  NotFound,
  Deleted,
  Touched,
  Done,
  Back,
  Version,
  NotNumber,
  TooLarge,
  Fault,
}
use Rattle.mc_text.specs.Request as asked
use Rattle.mc_text.specs.Request.{Request}
use Rattle.kv_history.specs.Answer.{fault_words}

abbrev pub words_of : FixedLine → List ℕ
words_of Stored = codes "STORED"
words_of NotStored = codes "NOT_STORED"
words_of Exists = codes "EXISTS"
words_of NotFound = codes "NOT_FOUND"
words_of Deleted = codes "DELETED"
words_of Touched = codes "TOUCHED"
words_of Done = codes "OK"
words_of Back = codes "CLIENT_ERROR moment goes back"
words_of Version = codes "VERSION clof 1"
words_of NotNumber = codes "CLIENT_ERROR cannot increment or decrement non-numeric value"
words_of TooLarge = codes "SERVER_ERROR object too large for cache"
words_of (Fault fault) = fault_words fault

abbrev pub fixed_line : FixedLine → List ℕ
fixed_line line = words_of line ++ codes "\r\n"

abbrev pub written_line : ReplyLine → List ℕ
written_line (Fixed line) = fixed_line line
written_line (Number number) = decimal number ++ codes "\r\n"

-- the reply to a request is one line at most
abbrev pub HasLine : Request → Type 0
HasLine (asked.Store storing) = ⊥
HasLine (asked.Get uniques keys) = ⊥
HasLine _ = Unit {0}
