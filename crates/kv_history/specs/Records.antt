-- The records of a journal, and the entries that they are of.
use Rattle.std.specs.Prelude.{◌≡◌, ◌+◌, ℕ, Bool, List, [], ◌∷◌, ◌++◌, length}
use Rattle.mc_text.specs.Request.{WholeCommand}
use Rattle.kv_history.specs.declared.record.Record.{Record}
use Rattle.kv_history.specs.Log.{Logged, Turn}

abbrev pub turn_of : Record → Turn
turn_of one = record { caller = one.caller; void = one.void }

-- one record was put behind others: that of a caller's command, whose reply ends at this place in the buffer
pub record IsNoted (before after : List Record) (caller : ℕ) (command : WholeCommand) (void : Bool) (end : ℕ) : Type 0 where
  pub one : Record
  pub after_is : after ≡ before ++ one ∷ []
  pub caller_is : one.caller ≡ caller
  pub spelling : one.spelling.now ≡ command.spelling
  pub void_is : one.void ≡ void
  pub end_is : one.end ≡ end

-- a record is that of an entry whose reply begins at a place in the buffer
pub record IsPlaced (start : ℕ) (one : Record) (entry : Logged) : Type 0 where
  pub caller : one.caller ≡ entry.caller
  pub void : one.void ≡ entry.void
  pub spelling : one.spelling.now ≡ entry.command.spelling
  pub end : one.end ≡ start + length entry.reply

-- the records are those of the entries, whose replies stand in the buffer one behind the other
abbrev pub ArePlaced : ℕ → List Record → List Logged → Type 0
ArePlaced start [] [] = Unit {0}
ArePlaced start [] (entry ∷ entries) = ⊥
ArePlaced start (one ∷ records) [] = ⊥
ArePlaced start (one ∷ records) (entry ∷ entries) = IsPlaced start one entry × ArePlaced one.end records entries
