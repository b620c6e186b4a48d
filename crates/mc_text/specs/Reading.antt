-- The plain way to read a section: the command at its front, then those behind it.
use Rattle.std.specs.Prelude.{
  ℕ,
  zero,
  suc,
  ◌+◌,
  Bool,
  true,
  false,
  List,
  [],
  ◌∷◌,
  length,
  take,
  drop,
  Option,
  Some,
  None,
  option_map,
  option_and_then,
  codes,
  nat_lt,
  nat_eq,
  ◌==◌,
  if◌then◌else◌,
}
use Rattle.std.specs.List.{starts_with}
use Rattle.std.specs.Option.{option_map_or}
use Rattle.byte_text.specs.Cuts.{cut}
use Rattle.mc_text.specs.declared.command.LineFault.TheVariants.{Chunk}
use Rattle.mc_text.specs.Request.{Request, Store, Bad, WholeCommand, is_quit}
use Rattle.mc_text.specs.Line.{words_of_line, line_of, Header, Line, Storage, Whole}
use Rattle.mc_text.specs.Begins.{limited, storing}

-- what stands before the first `\n`, and what stands behind it
abbrev pub at_line_end : List ℕ → Option (List ℕ × List ℕ)
at_line_end text = cut (λ byte. byte == 10) text

-- how many bytes behind a block through the next `\n`, and whether they are `\r\n`; none where less than two bytes or no `\n` stand there
unfoldable pub line_end : List ℕ → Option (Bool × ℕ)
line_end tail =
    if nat_lt (length tail) 2 then None
    else if starts_with nat_eq tail (codes "\r\n") then Some (true, 2)
    else option_map (λ parts. (false, length parts.0 + 1)) (at_line_end tail)

-- what a storage line asks for, by its block and whether `\r\n` follows that
abbrev pub stored : Header → List ℕ → Bool → Request
stored header block ended = limited header.bytes (if ended then Store (storing header block) else Bad Chunk)

-- what a line asks for, with what stands behind it, and how many bytes behind it belong to the command
unfoldable pub asked_by : Line → List ℕ → Option (Request × ℕ)
asked_by (Whole request) behind = Some (request, 0)
asked_by (Storage header) behind =
    option_map (λ end. (stored header (take header.bytes behind) end.0, header.bytes + end.1)) (line_end (drop header.bytes behind))

-- the whole command at the front of a text
unfoldable pub first_command : List ℕ → Option WholeCommand
first_command text =
    option_and_then (λ line. option_map
    (λ asked. record { request = asked.0; spelling = take (length line.0 + 1 + asked.1) text })
    (asked_by (line_of (words_of_line line.0)) line.1)) (at_line_end text)

-- a command in front of what is read behind it; behind `quit` nothing is
abbrev pub in_front : WholeCommand → List ℕ → List WholeCommand × List ℕ → List WholeCommand × List ℕ
in_front command behind read = if is_quit command.request then (command ∷ [], behind) else (command ∷ read.0, read.1)

-- the commands at the front of a text, and what stands behind them; at most so many
unfoldable pub read_within : ℕ → List ℕ → List WholeCommand × List ℕ
read_within zero text = ([], text)
read_within (suc k) text =
    option_map_or (λ command. let behind = drop (length command.spelling) text in in_front command behind (read_within k behind))
    (first_command text) ([], text)

-- the commands of a section, and its rest: a command has at least one byte
unfoldable pub commands_of : List ℕ → List WholeCommand
commands_of section = (read_within (length section) section).0

unfoldable pub rest_of : List ℕ → List ℕ
rest_of section = (read_within (length section) section).1
