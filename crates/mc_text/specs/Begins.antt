-- The whole command that a text begins with: a line, and behind a storage line the block and its line end.
-- By memcached's protocol.txt and this project's profile.
use Rattle.std.specs.Prelude.{◌≡◌, ℕ, ◌+◌, ◌≤◌, ◌⊎◌, List, [], ◌∷◌, ◌++◌, length, take, nat_lt, if◌then◌else◌}
use Rattle.byte_text.specs.Cuts.{IsCutAt}
use Rattle.mc_text.specs.declared.command.LineFault.TheVariants.{Chunk, TooLarge}
use Rattle.mc_text.specs.Request.{Storing, Request, Store, Bad, WholeCommand}
use Rattle.mc_text.specs.Line.{words_of_line, line_of, Header, Line, Storage, Whole}

-- the greatest number of bytes of a value
abbrev pub value_limit : ℕ
value_limit = 1048576

-- the item that a storage line and its block ask to store
abbrev pub storing : Header → List ℕ → Storing
storing header block =
    record {
      how = header.how;
      key = header.key;
      flags = header.flags;
      exptime = header.exptime;
      unique = header.unique;
      block = block;
      quiet = header.quiet;
    }

-- behind a storage line stand so many bytes, and `\r\n` at once
pub record EndsAtOnce (behind : List ℕ) (bytes : ℕ) (block : List ℕ) : Type 0 where
  pub after : List ℕ
  pub behind_is : behind ≡ block ++ (13 ∷ 10 ∷ after)
  pub length_is : length block ≡ bytes

-- behind a storage line stand so many bytes and at least two others, which aren't `\r\n`: `extra` bytes through the next `\n`
pub record EndsLater (behind : List ℕ) (bytes extra : ℕ) : Type 0 where
  pub block : List ℕ
  pub tail : List ℕ
  pub other : List ℕ
  pub after : List ℕ
  pub behind_is : behind ≡ block ++ tail
  pub length_is : length block ≡ bytes
  pub two : 2 ≤ length tail
  pub differs : ¬ (take 2 tail ≡ 13 ∷ 10 ∷ [])
  pub cut : IsCutAt 10 tail other after
  pub extra_is : extra ≡ length other + 1

-- a command whose block is too long asks for nothing, whatever follows the block
abbrev pub limited : ℕ → Request → Request
limited bytes request = if nat_lt value_limit bytes then Bad TooLarge else request

-- a line, with what stands behind it, asks for this, and `more` bytes behind it belong to the command
abbrev pub Asks : Line → List ℕ → Request → ℕ → Type 0
Asks (Whole request) behind asked more = (asked ≡ request) × (more ≡ 0)
Asks (Storage header) behind asked more =
    ((block : List ℕ) × EndsAtOnce behind header.bytes block × (asked ≡ limited header.bytes (Store (storing header block)))
    × (more ≡ header.bytes + 2))
    ⊎ ((extra : ℕ) × EndsLater behind header.bytes extra × (asked ≡ limited header.bytes (Bad Chunk)) × (more ≡ header.bytes + extra))

-- a text begins with a whole command, spelled by its first `count` bytes: a line, and what it asks for behind it
pub record Begins (text : List ℕ) (command : WholeCommand) (count : ℕ) : Type 0 where
  pub content : List ℕ
  pub behind : List ℕ
  pub more : ℕ
  pub cut : IsCutAt 10 text content behind
  pub asks : Asks (line_of (words_of_line content)) behind command.request more
  pub count_is : count ≡ length content + 1 + more
  pub spelling_is : command.spelling ≡ take count text
