-- The commands of a section, and its rest: exactly one pair fits, and it is what is read.
use Rattle.std.proofs.Common.{
  ◌≡◌,
  ℕ,
  zero,
  suc,
  ◌<◌,
  ◌≤◌,
  Bool,
  true,
  false,
  List,
  [],
  ◌∷◌,
  ◌++◌,
  length,
  drop,
  Option,
  Some,
  None,
  cond,
  refl,
  sym,
  ap,
  ◌∙◌,
  subst,
  append_assoc,
  arith,
}
use Rattle.std.specs.Bool.{MatchBool}
use Rattle.std.proofs.lemmas.List.{length-drop, drop_at, append-nil}
use Rattle.mc_text.specs.Request.{WholeCommand, is_quit}
use Rattle.mc_text.specs.Begins.{Begins}
use Rattle.mc_text.specs.Section.{Spelled, EachBegins, Ends, spellings}
use Rattle.mc_text.specs.Reading.{first_command, in_front, read_within, commands_of, rest_of}
use Rattle.mc_text.proofs.Beginnings.{begins_within, begins_parts, begins_first, first_begins, first_no_command, no_command_first}

-- what stands behind a command in a text
abbrev behind_of : WholeCommand → List ℕ → List ℕ
behind_of command text = drop (length command.spelling) text

-- a command that is read has at least one byte, and no more than the text
first_within : (text : List ℕ) (command : WholeCommand) → first_command text ≡ Some command
    → (0 < length command.spelling) × (length command.spelling ≤ length text)
first_within text command is = begins_within text command (length command.spelling) (first_begins text command is)

-- behind a command fewer bytes stand
drop_shorter : (text : List ℕ) (command : WholeCommand) (k : ℕ) → first_command text ≡ Some command → length text ≤ suc k
    → length (behind_of command text) ≤ k
drop_shorter text command k is short =
    let within = first_within text command is in
    omega (arith, within.0, within.1, length-drop (length command.spelling) text)

-- an empty text begins with no command
none_short : (text : List ℕ) (command : WholeCommand) → first_command text ≡ Some command → length text ≤ 0 → ⊥
none_short text command is enough =
    let within = first_within text command is in
    omega (arith, within.0, within.1)

-- how a text is read once its first command is known
read_by : (k : ℕ) (text : List ℕ) (command : WholeCommand) → first_command text ≡ Some command
    → read_within (suc k) text ≡ in_front command (behind_of command text) (read_within k (behind_of command text))
unfolding read_within
read_by k text command is = rw is refl

-- nothing is read of a text without a first command
read_none : (k : ℕ) (text : List ℕ) → first_command text ≡ None → read_within k text ≡ ([], text)
unfolding read_within
read_none zero text is = refl
read_none (suc k) text is = rw is refl

-- where there is room for each byte, more room changes nothing
read_enough : (k m : ℕ) (text : List ℕ) (first : Option WholeCommand) → first_command text ≡ first → length text ≤ k → length text ≤ m
    → read_within k text ≡ read_within m text
read_enough k m text None is enough more = read_none k text is ∙ sym (read_none m text is)
read_enough zero m text (Some command) is enough more = absurd (none_short text command is enough)
read_enough (suc k) zero text (Some command) is enough more = absurd (none_short text command is more)
read_enough (suc k) (suc m) text (Some command) is enough more =
    let behind = behind_of command text in
    let later = read_enough k m behind (first_command behind) refl (drop_shorter text command k is enough)
    (drop_shorter text command m is more) in
    read_by k text command is ∙ ap (in_front command behind) later ∙ sym (read_by m text command is)

-- what is read of a text is its first command, and what is read behind it
read_first : (text : List ℕ) (command : WholeCommand) → first_command text ≡ Some command
    → read_within (length text) text
    ≡ in_front command (behind_of command text) (read_within (length (behind_of command text)) (behind_of command text))
read_first text command is =
    let behind = behind_of command text in
    read_enough (length text) (suc (length text)) text (Some command) is (omega arith) (omega arith)
    ∙ read_by (length text) text command is
    ∙ ap (in_front command behind)
    (read_enough (length text) (length behind) behind (first_command behind) refl
    (drop_shorter text command (length text) is (omega arith)) (omega arith))

-- the parts of what is read
front_commands : (quit : Bool) (command : WholeCommand) (behind : List ℕ) (read : List WholeCommand × List ℕ)
    → (cond {A = List WholeCommand × List ℕ} quit (command ∷ [], behind) (command ∷ read.0, read.1)).0
    ≡ command ∷ cond {A = List WholeCommand} quit [] read.0
front_commands true command behind read = refl
front_commands false command behind read = refl

front_rest : (quit : Bool) (command : WholeCommand) (behind : List ℕ) (read : List WholeCommand × List ℕ)
    → (cond {A = List WholeCommand × List ℕ} quit (command ∷ [], behind) (command ∷ read.0, read.1)).1
    ≡ cond {A = List ℕ} quit behind read.1
front_rest true command behind read = refl
front_rest false command behind read = refl

-- a command that begins a text is its first command, and the others are those behind it; none behind `quit`
pub commands_first : (text : List ℕ) (command : WholeCommand) → first_command text ≡ Some command
    → commands_of text
    ≡ command ∷ cond {A = List WholeCommand} (is_quit command.request) [] (commands_of (drop (length command.spelling) text))
unfolding commands_of
commands_first text command is =
    let behind = behind_of command text in
    ap (λ read. read.0) (read_first text command is)
    ∙ front_commands (is_quit command.request) command behind (read_within (length behind) behind)

-- the rest is that of what stands behind the command, and all of it behind `quit`
pub rest_first : (text : List ℕ) (command : WholeCommand) → first_command text ≡ Some command
    → rest_of text
    ≡ cond {A = List ℕ} (is_quit command.request) (drop (length command.spelling) text) (rest_of (drop (length command.spelling) text))
unfolding rest_of
rest_first text command is =
    let behind = behind_of command text in
    ap (λ read. read.1) (read_first text command is)
    ∙ front_rest (is_quit command.request) command behind (read_within (length behind) behind)

-- a text that begins with no command is the rest
pub commands_none : (text : List ℕ) → first_command text ≡ None → commands_of text ≡ []
unfolding commands_of
commands_none text is = ap (λ read. read.0) (read_none (length text) text is)

-- and nothing of it is read
pub rest_none : (text : List ℕ) → first_command text ≡ None → rest_of text ≡ text
unfolding rest_of
rest_none text is = ap (λ read. read.1) (read_none (length text) text is)

-- a command in front of a section
spelled_more : (text : List ℕ) (command : WholeCommand) (commands : List WholeCommand) (rest : List ℕ)
    → Begins text command (length command.spelling) → is_quit command.request ≡ false → Spelled (behind_of command text) commands rest
    → Spelled text (command ∷ commands) rest
spelled_more text command commands rest begins goes_on spelled =
    let text_is : text ≡ command.spelling ++ (spellings commands ++ rest) = begins_parts text command (length command.spelling) begins
    ∙ ap (λ b. command.spelling ++ b) spelled.whole in
    record {
      whole = text_is ∙ sym (append_assoc command.spelling (spellings commands) rest);
      each = (subst (λ t. Begins t command (length command.spelling)) text_is begins, spelled.each);
      ends = subst (λ quit. MatchBool quit (commands ≡ []) (Ends commands rest)) (sym goes_on) spelled.ends;
    }

-- `quit` and what stands behind it
spelled_quit : (text : List ℕ) (command : WholeCommand) → Begins text command (length command.spelling) → is_quit command.request ≡ true
    → Spelled text (command ∷ []) (behind_of command text)
spelled_quit text command begins quits =
    let behind = behind_of command text in
    let no_commands : List WholeCommand = [] in
    let text_is = begins_parts text command (length command.spelling) begins in
    record {
      whole = text_is ∙ ap (λ front. front ++ behind) (sym (append-nil command.spelling));
      each = (subst (λ t. Begins t command (length command.spelling)) text_is begins, tt);
      ends = subst (λ quit. MatchBool quit (no_commands ≡ []) (Ends no_commands behind)) (sym quits) refl;
    }

-- once it is known whether the command is `quit`
spelled_front : (text : List ℕ) (command : WholeCommand) (quit : Bool) (read : List WholeCommand × List ℕ)
    → is_quit command.request ≡ quit → Begins text command (length command.spelling)
    → Spelled (behind_of command text) read.0 read.1
    → Spelled text (cond {A = List WholeCommand × List ℕ} quit (command ∷ [], behind_of command text) (command ∷ read.0, read.1)).0
    (cond {A = List WholeCommand × List ℕ} quit (command ∷ [], behind_of command text) (command ∷ read.0, read.1)).1
spelled_front text command true read is begins spelled = spelled_quit text command begins is
spelled_front text command false read is begins spelled = spelled_more text command read.0 read.1 begins is spelled

-- what is read of a text fits it
read_spelled : (k : ℕ) (text : List ℕ) (first : Option WholeCommand) → first_command text ≡ first → length text ≤ k
    → Spelled text (read_within k text).0 (read_within k text).1
read_spelled k text None is enough =
    subst (λ (read : List WholeCommand × List ℕ). Spelled text read.0 read.1) (sym (read_none k text is))
    (record { whole = refl; each = tt; ends = first_no_command text is })
read_spelled zero text (Some command) is enough = absurd (none_short text command is enough)
read_spelled (suc k) text (Some command) is enough =
    let behind = behind_of command text in
    subst (λ (read : List WholeCommand × List ℕ). Spelled text read.0 read.1) (sym (read_by k text command is))
    (spelled_front text command (is_quit command.request) (read_within k behind) refl (first_begins text command is)
    (read_spelled k behind (first_command behind) refl (drop_shorter text command k is enough)))

-- each section is what is read of it
pub section_spelled : (section : List ℕ) → Spelled section (commands_of section) (rest_of section)
unfolding commands_of rest_of
section_spelled section = read_spelled (length section) section (first_command section) refl (omega arith)

-- two lists of commands that follow a first one are the same, once it is known whether that is `quit`
only_front : (quit : Bool) (commands later : List WholeCommand) (behind rest last : List ℕ)
    → MatchBool quit (commands ≡ []) (Ends commands rest) → behind ≡ spellings commands ++ rest
    → (Ends commands rest → (commands ≡ later) × (rest ≡ last))
    → (commands ≡ cond {A = List WholeCommand} quit [] later) × (rest ≡ cond {A = List ℕ} quit behind last)
only_front true commands later behind rest last none behind_is same =
    (none, sym (behind_is ∙ ap (λ (cs : List WholeCommand). spellings cs ++ rest) none))
only_front false commands later behind rest last ends behind_is same = same ends

-- what fits a section is what is read of it: by its commands, one after another
spelled_from : (commands : List WholeCommand) (section rest : List ℕ) → section ≡ spellings commands ++ rest → EachBegins commands rest
    → Ends commands rest → (commands ≡ commands_of section) × (rest ≡ rest_of section)
spelled_from [] section rest whole each ends =
    let none = no_command_first rest ends in
    (sym (ap commands_of whole ∙ commands_none rest none), sym (ap rest_of whole ∙ rest_none rest none))
spelled_from (command ∷ commands) section rest whole each ends =
    let behind = spellings commands ++ rest in
    let section_is : section ≡ command.spelling ++ behind = whole ∙ append_assoc command.spelling (spellings commands) rest in
    let first : first_command section ≡ Some command =
    ap first_command section_is ∙ begins_first (command.spelling ++ behind) command (length command.spelling) each.0 in
    let behind_is : behind_of command section ≡ behind = ap (drop (length command.spelling)) section_is
    ∙ drop_at command.spelling behind (length command.spelling) refl in
    let later = only_front (is_quit command.request) commands (commands_of (behind_of command section)) (behind_of command section) rest
    (rest_of (behind_of command section)) ends behind_is
    (λ more. spelled_from commands (behind_of command section) rest behind_is each.1 more) in (
      ap (λ cs. command ∷ cs) later.0 ∙ sym (commands_first section command first),
      later.1 ∙ sym (rest_first section command first),
    )

-- no other commands and rest fit a section
pub spelled_only : (section : List ℕ) (commands : List WholeCommand) (rest : List ℕ) → Spelled section commands rest
    → (commands ≡ commands_of section) × (rest ≡ rest_of section)
spelled_only section commands rest spelled = spelled_from commands section rest spelled.whole spelled.each spelled.ends

-- none or others
length_choice : (quit : Bool) (commands : List WholeCommand) → length (cond {A = List WholeCommand} quit [] commands) ≤ length commands
length_choice true commands = omega arith
length_choice false commands = omega arith

-- a section has no more commands than bytes
commands_few : (k : ℕ) (text : List ℕ) (first : Option WholeCommand) → first_command text ≡ first → length text ≤ k
    → length (commands_of text) ≤ length text
commands_few k text None is enough = omega (arith, ap length (commands_none text is))
commands_few zero text (Some command) is enough = absurd (none_short text command is enough)
commands_few (suc k) text (Some command) is enough =
    let behind = behind_of command text in
    let within = first_within text command is in
    let later = commands_few k behind (first_command behind) refl (drop_shorter text command k is enough) in
    let choice = length_choice (is_quit command.request) (commands_of behind) in
    omega (arith, within.0, within.1, later, choice, ap length (commands_first text command is), length-drop (length command.spelling) text)

-- the same with the room that the text gives
pub length-commands_of : (text : List ℕ) → length (commands_of text) ≤ length text
length-commands_of text = commands_few (length text) text (first_command text) refl (omega arith)
