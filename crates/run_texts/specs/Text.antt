-- The printed text of a run: a line for each turn and then one for each caller. The form is this project's own.
use Rattle.std.specs.Prelude.{◌+◌, ℕ, ◌/◌, ◌%◌, ◌==◌, ◌&&◌, nat_lt, if◌then◌else◌, List, [], ◌∷◌, ◌++◌, length, map, codes, decimal}
use Rattle.std.specs.Prelude.{Option, Some, None, option_map, option_and_then, slice_get, replicate}
use Rattle.std.specs.List.{flat_map, enumerate_from, count_by}
use Rattle.std.specs.Option.{option_map_or}
use Rattle.byte_text.specs.Numerals.{lower_hex_digit}
use Rattle.keep_local.specs.declared.shape.Shape.{Shape}
use Rattle.keep_local.specs.declared.turn.Turn.{Turn}
use Rattle.keep_local.specs.Laws.{turn_after}
use Rattle.keep_local.specs.States.{callers_in}
use Rattle.mc_text.specs.Request.{WholeCommand}
use Rattle.mc_text.specs.Reading.{commands_of, rest_of}
use Rattle.kv_history.specs.Answer.{replies_of}
use Rattle.run_texts.specs.Callers.{Placed}

-- how a byte is printed between quotes
abbrev pub escaped_byte : ℕ → List ℕ
escaped_byte byte =
    if byte == 13 then codes "\\r" else
    (if byte == 10 then codes "\\n" else
    (if byte == 92 then codes "\\\\" else
    (if byte == 34 then codes "\\\"" else
    (if nat_lt 31 byte && nat_lt byte 127 then byte ∷ [] else
    codes "\\x" ++ (lower_hex_digit (byte / 16) ∷ lower_hex_digit (byte % 16) ∷ [])))))

-- how a text is printed between quotes
abbrev pub escaped : List ℕ → List ℕ
escaped text = flat_map escaped_byte text

-- numbers, each behind its name
abbrev pub labelled : List (List ℕ × ℕ) → List ℕ
labelled parts = flat_map (λ part. part.0 ++ decimal part.1) parts

-- a text between quotes, behind a space
unfoldable pub quoted : List ℕ → List ℕ
quoted text = codes " \"" ++ (escaped text ++ codes "\"")

-- a turn, with its command and its reply
pub record Told : Type 0 where
  pub turn : Turn
  pub command : List ℕ
  pub reply : List ℕ

-- the PU of a caller
abbrev pub pu_of : List Placed → ℕ → ℕ
pu_of sections caller = option_map_or (λ section. section.pu) (slice_get sections caller) 0

-- the first numbers of a turn's line: its own, its caller and where that stands
abbrev pub place_numbers : List Placed → ℕ → ℕ → List (List ℕ × ℕ)
place_numbers sections number caller =
    (codes "turn ", number) ∷ (codes " caller ", caller) ∷ (codes " pu ", pu_of sections caller) ∷ []

-- the others: at which level the caller found the lock, which levels had a waiter, and at which level it left the lock
abbrev pub level_numbers : Turn → List (List ℕ × ℕ)
level_numbers turn = (codes " climb ", turn.climb) ∷ (codes " tests ", turn.tests) ∷ (codes " left ", turn.left) ∷ []

-- all but its own
abbrev pub holder_numbers : List Placed → Turn → List (List ℕ × ℕ)
holder_numbers sections turn = (codes " caller ", turn.caller) ∷ (codes " pu ", pu_of sections turn.caller) ∷ level_numbers turn

-- the line of a turn
unfoldable pub turn_line : List Placed → ℕ → Told → List ℕ
turn_line sections number told =
    labelled (place_numbers sections number told.turn.caller)
    ++ (labelled (level_numbers told.turn) ++ (quoted told.command ++ (quoted told.reply ++ codes "\n")))

-- the front of the lines of ten turns, before the last digit of their numbers
unfoldable pub line_front : ℕ → List ℕ
line_front tens = codes "turn " ++ (if tens == 0 then [] else decimal tens)

-- the line of a turn from the last digit of its number on
unfoldable pub line_behind : List Placed → ℕ → Told → List ℕ
line_behind sections number told =
    ((48 + number % 10) ∷ []) ++ (labelled (holder_numbers sections told.turn)
    ++ (quoted told.command ++ (quoted told.reply ++ codes "\n")))

-- the numbers of a caller's line: its own, where it stands, how many commands it gave, and how many bytes stand behind them
abbrev pub caller_numbers : ℕ → Placed → List (List ℕ × ℕ)
caller_numbers caller section =
    (codes "caller ", caller) ∷ (codes " pu ", section.pu) ∷ (codes " commands ", length (commands_of section.bytes))
    ∷ (codes " rest ", length (rest_of section.bytes)) ∷ []

-- the line of a caller
unfoldable pub caller_line : ℕ → Placed → List ℕ
caller_line caller section = labelled (caller_numbers caller section) ++ codes "\n"

-- the lines of turns, numbered from 0
abbrev pub turn_lines : List Placed → List Told → List ℕ
turn_lines sections told = flat_map (λ at. turn_line sections at.0 at.1) (enumerate_from 0 told)

-- the lines of all callers, in order
abbrev pub caller_lines : List Placed → List ℕ
caller_lines sections = flat_map (λ at. caller_line at.0 at.1) (enumerate_from 0 sections)

-- a hold of the lock: who held it, and at which levels others were waiting (bit k for level k)
pub record Hold : Type 0 where
  pub caller : ℕ
  pub tests : ℕ

-- the turns that holds make behind others: each climbs to where the one before left, and leaves as the shape says
abbrev pub turns_behind : Shape → List Turn → List Hold → List Turn
turns_behind shape before [] = []
turns_behind shape before (hold ∷ holds) =
    turn_after shape before hold.caller hold.tests
    ∷ turns_behind shape (before ++ turn_after shape before hold.caller hold.tests ∷ []) holds

-- the command that a caller gives behind these calls: the next one of its section
abbrev pub next_command : List Placed → List ℕ → ℕ → Option WholeCommand
next_command sections before caller =
    option_and_then (λ section. slice_get (commands_of section.bytes) (count_by (λ other. other == caller) before))
    (slice_get sections caller)

-- the commands that callers give one after another, behind others; none where a caller has no section or no command left
abbrev pub commands_behind : List Placed → List ℕ → List ℕ → Option (List WholeCommand)
commands_behind sections before [] = Some []
commands_behind sections before (caller ∷ callers) =
    option_and_then (λ command. option_map (λ more. command ∷ more) (commands_behind sections (before ++ caller ∷ []) callers))
    (next_command sections before caller)

-- turns with their commands and replies
abbrev pub told : List Turn → List WholeCommand → List (List ℕ) → List Told
told [] commands replies = []
told (turn ∷ turns) [] replies = []
told (turn ∷ turns) (command ∷ commands) [] = []
told (turn ∷ turns) (command ∷ commands) (reply ∷ replies) =
    record { turn = turn; command = command.spelling; reply = reply } ∷ told turns commands replies

-- the text of turns, with the replies of one thread that gives these commands; nothing where the commands can't be given
abbrev pub text_of : List Placed → List Turn → Option (List WholeCommand) → List ℕ
text_of sections turns None = []
text_of sections turns (Some commands) = turn_lines sections (told turns commands (replies_of commands)) ++ caller_lines sections

-- the text of turns: the m-th turn of a caller stands for the m-th command of its section
unfoldable pub turns_text : List Placed → List Turn → List ℕ
turns_text sections turns = text_of sections turns (commands_behind sections [] (callers_in turns))

-- the text of a run: the m-th hold of a caller stands for the m-th command of its section
unfoldable pub run_text : List Placed → Shape → List Hold → List ℕ
run_text sections shape holds =
    text_of sections (turns_behind shape [] holds) (commands_behind sections [] (map (λ hold. hold.caller) holds))

-- callers under one lock, without levels below it
abbrev pub one_lock : ℕ → Shape
one_lock callers = record { paths = replicate callers (0 ∷ []); keeps = [] }
