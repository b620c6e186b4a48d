-- A command as plain data, without where it lies in memory.
use Rattle.std.specs.Prelude.{ℕ, ℤ, Bool, true, false, List}
use Rattle.mc_text.specs.declared.command.How.{How}
use Rattle.mc_text.specs.declared.command.LineFault.{LineFault}
use Rattle.mc_text.specs.declared.command.Command.{Command}
use Rattle.mc_text.specs.declared.command.Command.TheVariants as commands
use Rattle.mc_text.specs.Keys.{keys_left}

-- an item to be stored, how it is stored, and whether the reply is left out
pub record Storing : Type 0 where
  pub how : How
  pub key : List ℕ
  pub flags : ℕ
  pub exptime : ℤ
  pub unique : ℕ
  pub block : List ℕ
  pub quiet : Bool

-- what a command asks for: to store an item; to give the items of some keys, with their uniques or without; to remove an item;
-- to count an item's number up or down; to set when an item expires; to remove all items; the version; to log more or less;
-- to set the moment by which items expire; to end the section; and nothing, for a fault
pub data Request : Type 0 where
  Store : (storing : Storing) → Request
  Get : (uniques : Bool) (keys : List (List ℕ)) → Request
  Delete : (key : List ℕ) (quiet : Bool) → Request
  Count : (up : Bool) (key : List ℕ) (delta : ℕ) (quiet : Bool) → Request
  Touch : (key : List ℕ) (exptime : ℤ) (quiet : Bool) → Request
  Flush : (quiet : Bool) → Request
  Version : Request
  Verbosity : (quiet : Bool) → Request
  Moment : (moment : ℕ) (quiet : Bool) → Request
  Quit : Request
  Bad : (fault : LineFault) → Request

-- what a command asks for, and the bytes that spell it
pub record WholeCommand : Type 0 where
  pub request : Request
  pub spelling : List ℕ

-- the request ends a section
abbrev pub is_quit : Request → Bool
is_quit Quit = true
is_quit _ = false

abbrev pub request_of : Command → Request
request_of (commands.Store how key flags exptime unique block quiet spelling) =
    Store (record {
      how = how;
      key = key.now;
      flags = flags;
      exptime = exptime;
      unique = unique;
      block = block.now;
      quiet = quiet;
    })
request_of (commands.Get uniques keys spelling) = Get uniques (keys_left keys)
request_of (commands.Delete key quiet spelling) = Delete key.now quiet
request_of (commands.Count up key delta quiet spelling) = Count up key.now delta quiet
request_of (commands.Touch key exptime quiet spelling) = Touch key.now exptime quiet
request_of (commands.Flush quiet spelling) = Flush quiet
request_of (commands.Version spelling) = Version
request_of (commands.Verbosity quiet spelling) = Verbosity quiet
request_of (commands.Moment moment quiet spelling) = Moment moment quiet
request_of (commands.Quit spelling) = Quit
request_of (commands.Bad fault spelling) = Bad fault

abbrev pub spelling_of : Command → List ℕ
spelling_of (commands.Store how key flags exptime unique block quiet spelling) = spelling.now
spelling_of (commands.Get uniques keys spelling) = spelling.now
spelling_of (commands.Delete key quiet spelling) = spelling.now
spelling_of (commands.Count up key delta quiet spelling) = spelling.now
spelling_of (commands.Touch key exptime quiet spelling) = spelling.now
spelling_of (commands.Flush quiet spelling) = spelling.now
spelling_of (commands.Version spelling) = spelling.now
spelling_of (commands.Verbosity quiet spelling) = spelling.now
spelling_of (commands.Moment moment quiet spelling) = spelling.now
spelling_of (commands.Quit spelling) = spelling.now
spelling_of (commands.Bad fault spelling) = spelling.now

-- a command, without where it lies in memory
abbrev pub view : Command → WholeCommand
view command = record { request = request_of command; spelling = spelling_of command }
