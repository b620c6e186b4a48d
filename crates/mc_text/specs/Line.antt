-- What the words of a line say, by the table of commands. By memcached's protocol.txt and this project's profile.
use Rattle.std.specs.Prelude.{
  ℕ,
  ◌-◌,
  ℤ,
  Bool,
  true,
  false,
  List,
  [],
  ◌∷◌,
  length,
  take,
  Option,
  Some,
  None,
  Ok,
  Err,
  codes,
  ◌==◌,
  if◌then◌else◌,
  slice_index,
}
use Rattle.std.specs.Option.{option_map_or}
use Rattle.std.specs.Str.{bytes_eq}
use Rattle.byte_text.specs.Words.{words}
use Rattle.mc_text.specs.declared.command.How.{How}
use Rattle.mc_text.specs.declared.command.How.TheVariants.{Set, Add, Replace, Append, Prepend, Cas}
use Rattle.mc_text.specs.declared.command.LineFault.TheVariants.{Unknown, Format}
use Rattle.mc_text.specs.declared.row.Row.{Row}
use Rattle.mc_text.specs.declared.row.Row.TheVariants as rows
use Rattle.mc_text.specs.Request.{Request, Get, Delete, Count, Touch, Flush, Version, Verbosity, Moment, Quit, Bad}
use Rattle.mc_text.specs.Field.{
  Said,
  ◌>>=◌,
  key_of,
  keys_of,
  number32_of,
  exptime_of,
  unique_of,
  delta_of,
  level_of,
  quiet_of,
}

-- a text without a `\r` at its end
abbrev pub without_return : List ℕ → List ℕ
without_return text = if slice_index text (length text - 1) == 13 then take (length text - 1) text else text

-- the words of a line, whose `\n` is cut off: a `\r` directly before that isn't part of them either
abbrev pub words_of_line : List ℕ → List (List ℕ)
words_of_line content = words (without_return content)

-- what a storage line says
pub record Header : Type 0 where
  pub how : How
  pub key : List ℕ
  pub flags : ℕ
  pub exptime : ℤ
  pub bytes : ℕ
  pub unique : ℕ
  pub quiet : Bool

-- what a line says: it announces a block, or is a command by itself
pub data Line : Type 0 where
  Storage : (header : Header) → Line
  Whole : (request : Request) → Line

-- a line without a fault, or else the line alone with its fault
abbrev pub unless_fault : Said Line → Line
unless_fault (Ok line) = line
unless_fault (Err fault) = Whole (Bad fault)

-- the row of the table that a line's first word names
unfoldable pub row_of : List ℕ → Option Row
row_of name =
    if bytes_eq name (codes "get") then Some (rows.Retrieval false)
    else if bytes_eq name (codes "gets") then Some (rows.Retrieval true)
    else if bytes_eq name (codes "set") then Some (rows.Storage Set)
    else if bytes_eq name (codes "add") then Some (rows.Storage Add)
    else if bytes_eq name (codes "replace") then Some (rows.Storage Replace)
    else if bytes_eq name (codes "append") then Some (rows.Storage Append)
    else if bytes_eq name (codes "prepend") then Some (rows.Storage Prepend)
    else if bytes_eq name (codes "cas") then Some rows.Cas
    else if bytes_eq name (codes "delete") then Some rows.Delete
    else if bytes_eq name (codes "incr") then Some (rows.Count true)
    else if bytes_eq name (codes "decr") then Some (rows.Count false)
    else if bytes_eq name (codes "touch") then Some rows.Touch
    else if bytes_eq name (codes "flush_all") then Some rows.Flush
    else if bytes_eq name (codes "version") then Some rows.Version
    else if bytes_eq name (codes "verbosity") then Some rows.Verbosity
    else if bytes_eq name (codes "moment") then Some rows.Moment
    else if bytes_eq name (codes "quit") then Some rows.Quit
    else None

-- the words of a storage line behind its name that each such line has
pub record Fields : Type 0 where
  pub key : List ℕ
  pub flags : List ℕ
  pub exptime : List ℕ
  pub bytes : List ℕ

-- what these say: the first wrong word decides
unfoldable pub header_of : How → Fields → Bool → Said Header
header_of how fields quiet = do
  key ← key_of fields.key
  flags ← number32_of fields.flags
  exptime ← exptime_of fields.exptime
  bytes ← number32_of fields.bytes
  Ok (record { how = how; key = key; flags = flags; exptime = exptime; bytes = bytes; unique = 0; quiet = quiet })

-- key flags exptime bytes [noreply]
unfoldable pub storage_of : How → List (List ℕ) → Said Line
storage_of how (key ∷ flags ∷ exptime ∷ bytes ∷ more) = do
  quiet ← quiet_of more
  header ← header_of how (record { key = key; flags = flags; exptime = exptime; bytes = bytes }) quiet
  Ok (Storage header)
storage_of how _ = Err Unknown

-- key flags exptime bytes unique [noreply]
unfoldable pub cas_of : List (List ℕ) → Said Line
cas_of (key ∷ flags ∷ exptime ∷ bytes ∷ unique ∷ more) = do
  quiet ← quiet_of more
  header ← header_of Cas (record { key = key; flags = flags; exptime = exptime; bytes = bytes }) quiet
  number ← unique_of unique
  Ok (Storage (record header { unique = number }))
cas_of _ = Err Unknown

-- one or more keys
unfoldable pub retrieval_of : Bool → List (List ℕ) → Said Line
retrieval_of uniques words = do
  keys ← keys_of words
  Ok (Whole (Get uniques keys))

-- key [noreply]
unfoldable pub delete_of : List (List ℕ) → Said Line
delete_of (key ∷ more) = do
  quiet ← quiet_of more
  name ← key_of key
  Ok (Whole (Delete name quiet))
delete_of [] = Err Unknown

-- key delta [noreply]
unfoldable pub count_of : Bool → List (List ℕ) → Said Line
count_of up (key ∷ delta ∷ more) = do
  quiet ← quiet_of more
  name ← key_of key
  number ← delta_of delta
  Ok (Whole (Count up name number quiet))
count_of up _ = Err Unknown

-- key exptime [noreply]
unfoldable pub touch_of : List (List ℕ) → Said Line
touch_of (key ∷ exptime ∷ more) = do
  quiet ← quiet_of more
  name ← key_of key
  expiry ← exptime_of exptime
  Ok (Whole (Touch name expiry quiet))
touch_of _ = Err Unknown

-- a delay of `flush_all`: 0 alone
unfoldable pub flush_at : List ℕ → Bool → Said Line
flush_at delay quiet = if bytes_eq delay (codes "0") then Ok (Whole (Flush quiet)) else Err Format

-- `0`, and maybe `noreply`
unfoldable pub delayed_of : List (List ℕ) → Said Line
delayed_of (delay ∷ more) = do
  quiet ← quiet_of more
  flush_at delay quiet
delayed_of [] = Err Unknown

-- nothing, or `noreply` alone; and else with a delay
abbrev pub or_delayed : Said Bool → List (List ℕ) → Said Line
or_delayed (Ok quiet) words = Ok (Whole (Flush quiet))
or_delayed (Err fault) words = delayed_of words

-- [`0`] [noreply]
unfoldable pub flush_of : List (List ℕ) → Said Line
flush_of words = or_delayed (quiet_of words) words

-- level [noreply]
unfoldable pub verbosity_of : List (List ℕ) → Said Line
verbosity_of (level ∷ more) = do
  quiet ← quiet_of more
  _ ← level_of level
  Ok (Whole (Verbosity quiet))
verbosity_of [] = Err Unknown

-- moment [noreply]
unfoldable pub moment_of : List (List ℕ) → Said Line
moment_of (moment ∷ more) = do
  quiet ← quiet_of more
  number ← number32_of moment
  Ok (Whole (Moment number quiet))
moment_of [] = Err Unknown

-- nothing behind the name
unfoldable pub lone_of : Request → List (List ℕ) → Said Line
lone_of request [] = Ok (Whole request)
lone_of request _ = Err Unknown

-- what the words behind a name say, by the name's row
unfoldable pub said_in : Row → List (List ℕ) → Said Line
said_in (rows.Storage how) words = storage_of how words
said_in rows.Cas words = cas_of words
said_in (rows.Retrieval uniques) words = retrieval_of uniques words
said_in rows.Delete words = delete_of words
said_in (rows.Count up) words = count_of up words
said_in rows.Touch words = touch_of words
said_in rows.Flush words = flush_of words
said_in rows.Version words = lone_of Version words
said_in rows.Verbosity words = verbosity_of words
said_in rows.Moment words = moment_of words
said_in rows.Quit words = lone_of Quit words

-- what the words of a line say
unfoldable pub said_by : List (List ℕ) → Said Line
said_by [] = Err Unknown
said_by (name ∷ words) = option_map_or (λ row. said_in row words) (row_of name) (Err Unknown)

-- a line with a fault is a command that asks for nothing
abbrev pub line_of : List (List ℕ) → Line
line_of words = unless_fault (said_by words)
