-- What a store answers to a request, and what it holds afterwards. By memcached's protocol.txt and this project's profile.
use Rattle.std.specs.Prelude.{
  ℕ,
  ◌+◌,
  ◌-◌,
  ◌%◌,
  ◌^◌,
  ℤ,
  List,
  [],
  ◌∷◌,
  ◌++◌,
  length,
  Bool,
  true,
  false,
  Option,
  None,
  Some,
  codes,
  decimal,
  nat_lt,
  nat_le,
  ◌==◌,
  if◌then◌else◌,
}
use Rattle.std.specs.List.{flat_map}
use Rattle.std.specs.Option.{option_map_or}
use Rattle.std.specs.FinMap as map
use Rattle.byte_text.specs.Numerals.{number_below}
use Rattle.mc_text.specs.declared.command.How.{How}
use Rattle.mc_text.specs.declared.command.How.TheVariants.{Set, Add, Replace, Append, Prepend, Cas}
use Rattle.mc_text.specs.declared.command.LineFault.{LineFault}
use Rattle.mc_text.specs.declared.command.LineFault.TheVariants.{Unknown, Format, Chunk, TooLarge, Delta}
use Rattle.mc_text.specs.Begins.{value_limit}
use Rattle.mc_text.specs.Request as asked
use Rattle.mc_text.specs.Request.{Storing, Request, WholeCommand}
use Rattle.kv_history.specs.declared.expiry.Expiry.{Expiry}
use Rattle.kv_history.specs.Expiry.{expiry_of, is_due}
use Rattle.kv_history.specs.Contents.{Item, Items, Contents, empty_store, left_at}

-- what a client is told, and what the store then holds
pub record Answer : Type 0 where
  pub reply : List ℕ
  pub store : Contents

-- a reply of one line
abbrev pub line : List ℕ → Contents → Answer
line words store = record { reply = words ++ codes "\r\n"; store = store }

-- ---- storing an item

-- the unique behind a unique: uniques are kept in 64 bits
abbrev pub unique_after : ℕ → ℕ
unique_after unique = (unique + 1) % 2 ^ 64

-- to store an item gives it the next unique, and uses that up
abbrev pub with_item : Contents → List ℕ → ℕ → Expiry → List ℕ → Contents
with_item store key flags expiry block = record store {
  items = map.insert store.items key (record { flags = flags; expiry = expiry; block = block; unique = store.next_unique });
  next_unique = unique_after store.next_unique;
}

-- an item that expires at once uses the unique up, and the key is absent
abbrev pub expired : Contents → List ℕ → Contents
expired store key = record store { items = map.remove store.items key; next_unique = unique_after store.next_unique }

-- an item with the expiry that its expiry time gives
abbrev pub kept : Contents → Storing → Contents
kept store storing = let expiry = expiry_of store.moment storing.exptime in
    if is_due store.moment expiry then expired store storing.key else with_item store storing.key storing.flags expiry storing.block

-- a block joined to the one of an item that is present: the flags and the expiry stay
abbrev pub joined : Contents → List ℕ → Item → List ℕ → Answer
joined store key item block = if nat_lt value_limit (length block) then line (codes "SERVER_ERROR object too large for cache") store
    else line (codes "STORED") (with_item store key item.flags item.expiry block)

-- a storage command, by what its key has
abbrev pub storage : Contents → Storing → How → Option Item → Answer
storage store storing Set found = line (codes "STORED") (kept store storing)
storage store storing Add None = line (codes "STORED") (kept store storing)
storage store storing Add (Some item) = line (codes "NOT_STORED") store
storage store storing Replace None = line (codes "NOT_STORED") store
storage store storing Replace (Some item) = line (codes "STORED") (kept store storing)
storage store storing Append None = line (codes "NOT_STORED") store
storage store storing Append (Some item) = joined store storing.key item (item.block ++ storing.block)
storage store storing Prepend None = line (codes "NOT_STORED") store
storage store storing Prepend (Some item) = joined store storing.key item (storing.block ++ item.block)
storage store storing Cas None = line (codes "NOT_FOUND") store
storage store storing Cas (Some item) =
    if item.unique == storing.unique then line (codes "STORED") (kept store storing) else line (codes "EXISTS") store

-- ---- other changes

-- the store without a key's item
abbrev pub without : Contents → List ℕ → Contents
without store key = record store { items = map.remove store.items key }

abbrev pub deletion : Contents → List ℕ → Option Item → Answer
deletion store key None = line (codes "NOT_FOUND") store
deletion store key (Some item) = line (codes "DELETED") (without store key)

-- the number that a block is: decimal, of 1 to 20 digits, below 2^64
abbrev pub number_of : List ℕ → Option ℕ
number_of block = if nat_le (length block) 20 then number_below (2 ^ 64) block else None

-- counted up, a number goes round at 2^64; counted down, it stops at 0
abbrev pub counted : Bool → ℕ → ℕ → ℕ
counted true number delta = (number + delta) % 2 ^ 64
counted false number delta = number - delta

-- an item gets a new number, in decimal: that is the reply too; the flags and the expiry stay
abbrev pub renumbered : Contents → List ℕ → Item → ℕ → Answer
renumbered store key item number = line (decimal number) (with_item store key item.flags item.expiry (decimal number))

abbrev pub counting : Contents → Bool → List ℕ → ℕ → Option Item → Answer
counting store up key delta None = line (codes "NOT_FOUND") store
counting store up key delta (Some item) =
    option_map_or (λ number. renumbered store key item (counted up number delta)) (number_of item.block)
    (line (codes "CLIENT_ERROR cannot increment or decrement non-numeric value") store)

-- an item that is present, with another expiry: the rest of it stays, its unique too
abbrev pub with_expiry : Contents → List ℕ → Item → Expiry → Contents
with_expiry store key item expiry = record store { items = map.insert store.items key (record item { expiry = expiry }) }

-- the item gets the expiry that the expiry time gives, and is removed where it expires at once
abbrev pub touched : Contents → List ℕ → Item → Expiry → Contents
touched store key item expiry = if is_due store.moment expiry then without store key else with_expiry store key item expiry

abbrev pub touching : Contents → List ℕ → ℤ → Option Item → Answer
touching store key exptime None = line (codes "NOT_FOUND") store
touching store key exptime (Some item) = line (codes "TOUCHED") (touched store key item (expiry_of store.moment exptime))

-- the next unique and the moment stay
abbrev pub flushed : Contents → Contents
flushed store = record store { items = map.empty }

-- the moment never goes back; the items expire whose time has come
abbrev pub moved : Contents → ℕ → Answer
moved store moment = if nat_lt moment store.moment then line (codes "CLIENT_ERROR moment goes back") store
    else line (codes "OK") (record store { items = left_at moment store.items; moment = moment })

-- ---- giving items

-- the end of an item's line: its unique, where the command asks for uniques
abbrev pub line_end : Bool → ℕ → List ℕ
line_end uniques unique = if uniques then codes " " ++ decimal unique ++ codes "\r\n" else codes "\r\n"

-- an item in a reply: a line with its key, its flags and the length of its value, and the value with a line end
unfoldable pub written_item : Bool → List ℕ → Item → List ℕ
written_item uniques key item =
    codes "VALUE " ++ key ++ codes " " ++ decimal item.flags ++ codes " " ++ decimal (length item.block) ++ line_end uniques item.unique
    ++ item.block ++ codes "\r\n"

-- what a reply says of a key: its item, or nothing where it is absent
abbrev pub written_key : Items → Bool → List ℕ → List ℕ
written_key items uniques key = option_map_or (written_item uniques key) (map.get items key) []

-- ---- every request

-- what is said of a line with a fault
abbrev pub fault_words : LineFault → List ℕ
fault_words Unknown = codes "ERROR"
fault_words Format = codes "CLIENT_ERROR bad command line format"
fault_words Chunk = codes "CLIENT_ERROR bad data chunk"
fault_words TooLarge = codes "SERVER_ERROR object too large for cache"
fault_words Delta = codes "CLIENT_ERROR invalid numeric delta argument"

-- a quiet command has no reply, whatever it would be
abbrev pub hushed : Bool → Answer → Answer
hushed quiet answer = record { reply = if quiet then [] else answer.reply; store = answer.store }

-- the answer to a request, a case each
abbrev pub answer : Contents → Request → Answer
answer store (asked.Store storing) = hushed storing.quiet (storage store storing storing.how (map.get store.items storing.key))
answer store (asked.Get uniques keys) = record { reply = flat_map (written_key store.items uniques) keys ++ codes "END\r\n"; store = store }
answer store (asked.Delete key quiet) = hushed quiet (deletion store key (map.get store.items key))
answer store (asked.Count up key delta quiet) = hushed quiet (counting store up key delta (map.get store.items key))
answer store (asked.Touch key exptime quiet) = hushed quiet (touching store key exptime (map.get store.items key))
answer store (asked.Flush quiet) = hushed quiet (line (codes "OK") (flushed store))
answer store asked.Version = line (codes "VERSION clof 1") store
answer store (asked.Verbosity quiet) = hushed quiet (line (codes "OK") store)
answer store (asked.Moment moment quiet) = hushed quiet (moved store moment)
answer store asked.Quit = record { reply = []; store = store }
answer store (asked.Bad fault) = line (fault_words fault) store

abbrev pub reply_of : Contents → Request → List ℕ
reply_of store request = (answer store request).reply

abbrev pub store_after : Contents → Request → Contents
store_after store request = (answer store request).store

-- ---- commands, one after another

abbrev pub replies_from : Contents → List WholeCommand → List (List ℕ)
replies_from store [] = []
replies_from store (command ∷ more) = reply_of store command.request ∷ replies_from (store_after store command.request) more

abbrev pub store_from : Contents → List WholeCommand → Contents
store_from store [] = store
store_from store (command ∷ more) = store_from (store_after store command.request) more

-- the replay of commands on the empty store: their replies, and what it then holds
abbrev pub replies_of : List WholeCommand → List (List ℕ)
replies_of commands = replies_from empty_store commands

abbrev pub store_of : List WholeCommand → Contents
store_of commands = store_from empty_store commands
