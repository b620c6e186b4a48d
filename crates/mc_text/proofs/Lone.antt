-- Lines that are told by their first letter: each is a command by itself, and not `quit`.
use Rattle.std.proofs.Common.{◌≡◌, ℕ, suc, Bool, true, false, List, [], ◌∷◌, ◌++◌, ◌+◌, ◌-◌, ◌==◌, ◌<◌, ◌≤◌, length, take, drop, nat_lt}
use Rattle.std.proofs.Common.{cond, Option, Some, None, Ok, Err, inl, inr, refl, sym, ap, ◌∙◌, subst, codes, append_assoc, arith, tests}
use Rattle.std.specs.List.{filter, slice_split, onto_first}
use Rattle.std.specs.Option.{option_map_or}
use Rattle.std.specs.Str.{bytes_eq}
use Rattle.std.specs.Prelude.{if◌then◌else◌, slice_get, slice_index}
use Rattle.std.proofs.lemmas.Bool.{lt-ltb}
use Rattle.std.proofs.lemmas.List.{length-append, length-take-le, drop_at}
use Rattle.byte_text.specs.Cuts.{IsCutAt}
use Rattle.byte_text.specs.Words.{words}
use Rattle.mc_text.specs.declared.row.Row.{Row}
use Rattle.mc_text.specs.declared.row.Row.TheVariants as rows
use Rattle.mc_text.specs.declared.command.LineFault.TheVariants.{Unknown, Format}
use Rattle.mc_text.specs.Request.{Get, Delete, Count, Touch, Flush, Version, Verbosity, Moment, WholeCommand, is_quit}
use Rattle.mc_text.specs.Field.{Said, ◌>>=◌, key_of, keys_of, number32_of, exptime_of, delta_of, level_of, quiet_of}
use Rattle.mc_text.specs.Line.{
  Line,
  Storage,
  Whole,
  without_return,
  words_of_line,
  unless_fault,
  row_of,
  retrieval_of,
  delete_of,
  count_of,
  touch_of,
  flush_at,
  delayed_of,
  or_delayed,
  flush_of,
  verbosity_of,
  moment_of,
  lone_of,
  said_in,
  said_by,
  line_of,
}
use Rattle.mc_text.specs.Reading.{commands_of, rest_of}
use Rattle.mc_text.specs.Lone.{IsLoneLetter, Passes}
use Rattle.mc_text.proofs.Steps.{whole_line}
use Rattle.mc_text.proofs.Sections.{commands_first, rest_first}

-- a line is a command by itself, and not `quit`
abbrev IsLone : Line → Type 0
IsLone (Storage header) = ⊥
IsLone (Whole request) = is_quit request ≡ false

-- so is what is said, or it is a fault
abbrev IsSaidLone : Said Line → Type 0
IsSaidLone (Ok line) = IsLone line
IsSaidLone (Err fault) = Unit {0}

lone_line : (said : Said Line) → IsSaidLone said → IsLone (unless_fault said)
lone_line (Ok line) is = is
lone_line (Err fault) is = refl

-- ---- row by row

then_lone : {A : Type 0} (said : Said A) (next : A → Said Line) → ((value : A) → IsSaidLone (next value)) → IsSaidLone (said >>= next)
then_lone (Ok value) next each = each value
then_lone (Err fault) next each = tt

either_lone : (test : Bool) (one other : Said Line) → IsSaidLone one → IsSaidLone other → IsSaidLone (if test then one else other)
either_lone true one other is more = is
either_lone false one other is more = more

retrieval_lone : (uniques : Bool) (words : List (List ℕ)) → IsSaidLone (retrieval_of uniques words)
unfolding retrieval_of
retrieval_lone uniques words = then_lone (keys_of words) (λ keys. Ok (Whole (Get uniques keys))) (λ keys. refl)

delete_lone : (words : List (List ℕ)) → IsSaidLone (delete_of words)
unfolding delete_of
delete_lone [] = tt
delete_lone (key ∷ more) =
    then_lone (quiet_of more) (λ quiet. key_of key >>= (λ name. Ok (Whole (Delete name quiet))))
    (λ quiet. then_lone (key_of key) (λ name. Ok (Whole (Delete name quiet))) (λ name. refl))

count_lone : (up : Bool) (words : List (List ℕ)) → IsSaidLone (count_of up words)
unfolding count_of
count_lone up [] = tt
count_lone up (key ∷ []) = tt
count_lone up (key ∷ delta ∷ more) =
    then_lone (quiet_of more) (λ quiet. key_of key >>= (λ name. delta_of delta >>= (λ number. Ok (Whole (Count up name number quiet)))))
    (λ quiet. then_lone (key_of key) (λ name. delta_of delta >>= (λ number. Ok (Whole (Count up name number quiet))))
    (λ name. then_lone (delta_of delta) (λ number. Ok (Whole (Count up name number quiet))) (λ number. refl)))

touch_lone : (words : List (List ℕ)) → IsSaidLone (touch_of words)
unfolding touch_of
touch_lone [] = tt
touch_lone (key ∷ []) = tt
touch_lone (key ∷ exptime ∷ more) =
    then_lone (quiet_of more) (λ quiet. key_of key >>= (λ name. exptime_of exptime >>= (λ expiry. Ok (Whole (Touch name expiry quiet)))))
    (λ quiet. then_lone (key_of key) (λ name. exptime_of exptime >>= (λ expiry. Ok (Whole (Touch name expiry quiet))))
    (λ name. then_lone (exptime_of exptime) (λ expiry. Ok (Whole (Touch name expiry quiet))) (λ expiry. refl)))

flush_at_lone : (delay : List ℕ) (quiet : Bool) → IsSaidLone (flush_at delay quiet)
unfolding flush_at
flush_at_lone delay quiet = either_lone (bytes_eq delay (codes "0")) (Ok (Whole (Flush quiet))) (Err Format) refl tt

delayed_lone : (words : List (List ℕ)) → IsSaidLone (delayed_of words)
unfolding delayed_of
delayed_lone [] = tt
delayed_lone (delay ∷ more) = then_lone (quiet_of more) (λ quiet. flush_at delay quiet) (λ quiet. flush_at_lone delay quiet)

or_delayed_lone : (said : Said Bool) (words : List (List ℕ)) → IsSaidLone (or_delayed said words)
or_delayed_lone (Ok quiet) words = refl
or_delayed_lone (Err fault) words = delayed_lone words

flush_lone : (words : List (List ℕ)) → IsSaidLone (flush_of words)
unfolding flush_of
flush_lone words = or_delayed_lone (quiet_of words) words

verbosity_lone : (words : List (List ℕ)) → IsSaidLone (verbosity_of words)
unfolding verbosity_of
verbosity_lone [] = tt
verbosity_lone (level ∷ more) =
    then_lone (quiet_of more) (λ quiet. level_of level >>= (λ _. Ok (Whole (Verbosity quiet))))
    (λ quiet. then_lone (level_of level) (λ _. Ok (Whole (Verbosity quiet))) (λ _. refl))

moment_lone : (words : List (List ℕ)) → IsSaidLone (moment_of words)
unfolding moment_of
moment_lone [] = tt
moment_lone (moment ∷ more) =
    then_lone (quiet_of more) (λ quiet. number32_of moment >>= (λ number. Ok (Whole (Moment number quiet))))
    (λ quiet. then_lone (number32_of moment) (λ number. Ok (Whole (Moment number quiet))) (λ number. refl))

version_lone : (words : List (List ℕ)) → IsSaidLone (lone_of Version words)
unfolding lone_of
version_lone [] = refl
version_lone (word ∷ words) = tt

-- ---- by the line's row

-- a row of the table, or none, whose lines are commands by themselves, and not `quit`
abbrev IsLoneRow : Option Row → Type 0
IsLoneRow None = Unit {0}
IsLoneRow (Some (rows.Storage how)) = ⊥
IsLoneRow (Some rows.Cas) = ⊥
IsLoneRow (Some (rows.Retrieval uniques)) = Unit {0}
IsLoneRow (Some rows.Delete) = Unit {0}
IsLoneRow (Some (rows.Count up)) = Unit {0}
IsLoneRow (Some rows.Touch) = Unit {0}
IsLoneRow (Some rows.Flush) = Unit {0}
IsLoneRow (Some rows.Version) = Unit {0}
IsLoneRow (Some rows.Verbosity) = Unit {0}
IsLoneRow (Some rows.Moment) = Unit {0}
IsLoneRow (Some rows.Quit) = ⊥

row_lone : (found : Option Row) (words : List (List ℕ)) → IsLoneRow found
    → IsSaidLone (option_map_or (λ row. said_in row words) found (Err Unknown))
unfolding said_in
row_lone None words is = tt
row_lone (Some (rows.Storage how)) words is = absurd is
row_lone (Some rows.Cas) words is = absurd is
row_lone (Some (rows.Retrieval uniques)) words is = retrieval_lone uniques words
row_lone (Some rows.Delete) words is = delete_lone words
row_lone (Some (rows.Count up)) words is = count_lone up words
row_lone (Some rows.Touch) words is = touch_lone words
row_lone (Some rows.Flush) words is = flush_lone words
row_lone (Some rows.Version) words is = version_lone words
row_lone (Some rows.Verbosity) words is = verbosity_lone words
row_lone (Some rows.Moment) words is = moment_lone words
row_lone (Some rows.Quit) words is = absurd is

-- a name is that of a row, or another
named : (test : Bool) (row : Row) (other : Option Row) → IsLoneRow (Some row) → IsLoneRow other
    → IsLoneRow (if test then Some row else other)
named true row other is more = is
named false row other is more = more

-- names by their first letters
letter_row : (letter : ℕ) (more : List ℕ) → IsLoneLetter letter → IsLoneRow (row_of (letter ∷ more))
unfolding row_of
letter_row letter more is = elim is [
  | inl d ↦ rw d (named (bytes_eq (100 ∷ more) (codes "delete")) rows.Delete _ tt
      (named (bytes_eq (100 ∷ more) (codes "decr")) (rows.Count false) _ tt tt))
  | inr (inl f) ↦ rw f (named (bytes_eq (102 ∷ more) (codes "flush_all")) rows.Flush _ tt tt)
  | inr (inr (inl g)) ↦ rw g (named (bytes_eq (103 ∷ more) (codes "get")) (rows.Retrieval false) _ tt
      (named (bytes_eq (103 ∷ more) (codes "gets")) (rows.Retrieval true) _ tt tt))
  | inr (inr (inr (inl i))) ↦ rw i (named (bytes_eq (105 ∷ more) (codes "incr")) (rows.Count true) _ tt tt)
  | inr (inr (inr (inr (inl m)))) ↦ rw m (named (bytes_eq (109 ∷ more) (codes "moment")) rows.Moment _ tt tt)
  | inr (inr (inr (inr (inr (inl t))))) ↦ rw t (named (bytes_eq (116 ∷ more) (codes "touch")) rows.Touch _ tt tt)
  | inr (inr (inr (inr (inr (inr v))))) ↦ rw v (named (bytes_eq (118 ∷ more) (codes "version")) rows.Version _ tt
      (named (bytes_eq (118 ∷ more) (codes "verbosity")) rows.Verbosity _ tt tt))
]

-- ---- the first word begins with the first letter

-- words whose first one begins so
pub record BeginsSo (letter : ℕ) (words : List (List ℕ)) : Type 0 where
  pub word : List ℕ
  pub others : List (List ℕ)
  pub words_are : words ≡ (letter ∷ word) ∷ others

first_word : (letter : ℕ) (parts : List (List ℕ)) → BeginsSo letter (filter (λ word. nat_lt 0 (length word)) (onto_first letter parts))
first_word letter [] = record { word = []; others = []; words_are = refl }
first_word letter (part ∷ parts) =
    let long : 0 < length (letter ∷ part) = omega arith in
    let kept = filter (λ word. nat_lt 0 (length word)) parts in
    record {
      word = part;
      others = kept;
      words_are =
          ap (λ (keep : Bool). cond {A = List (List ℕ)} keep ((letter ∷ part) ∷ kept) kept) (lt-ltb 0 (length (letter ∷ part)) long);
    }

begins_so : (letter : ℕ) (more : List ℕ) → (letter == 32) ≡ false → BeginsSo letter (words (letter ∷ more))
begins_so letter more other = rw other (first_word letter (slice_split (λ byte. byte == 32) more))

-- what is left of a line without the `\r` at its end begins so too
pub record KeepsFirst (letter : ℕ) (text : List ℕ) : Type 0 where
  pub rest : List ℕ
  pub text_is : text ≡ letter ∷ rest

either_keeps : (test : Bool) (letter : ℕ) (front more : List ℕ) → KeepsFirst letter (if test then letter ∷ front else letter ∷ more)
either_keeps true letter front more = record { rest = front; text_is = refl }
either_keeps false letter front more = record { rest = more; text_is = refl }

keeps_first : (letter : ℕ) (more : List ℕ) → (letter == 13) ≡ false → KeepsFirst letter (without_return (letter ∷ more))
keeps_first letter [] other = rw other (record { rest = []; text_is = refl })
keeps_first letter (next ∷ more) other =
    let text = letter ∷ next ∷ more in
    let last : suc (length more) ≡ length text - 1 = omega arith in
    subst (λ n. KeepsFirst letter (if slice_index text n == 13 then take n text else text)) last
    (either_keeps (slice_index text (suc (length more)) == 13) letter (take (length more) (next ∷ more)) (next ∷ more))

-- ---- the line

lone_words : (letter : ℕ) (words : List (List ℕ)) → IsLoneLetter letter → BeginsSo letter words → IsLone (line_of words)
unfolding said_by
lone_words letter words lone begins =
    let words_are = begins.words_are in
    rw words_are (lone_line (option_map_or (λ row. said_in row begins.others) (row_of (letter ∷ begins.word)) (Err Unknown))
    (row_lone (row_of (letter ∷ begins.word)) begins.others (letter_row letter begins.word lone)))

lone_content : (letter : ℕ) (more : List ℕ) → IsLoneLetter letter → IsLone (line_of (words_of_line (letter ∷ more)))
lone_content letter more lone =
    let no_return : (letter == 13) ≡ false = grind (lone, tests, arith) in
    let no_space : (letter == 32) ≡ false = grind (lone, tests, arith) in
    let kept = keeps_first letter more no_return in
    subst (λ text. IsLone (line_of (words text))) (sym kept.text_is)
    (lone_words letter (words (letter ∷ kept.rest)) lone (begins_so letter kept.rest no_space))

-- a text with such a line begins with it
lone_passes : (text content behind : List ℕ) (line : Line) → IsCutAt 10 text content behind → line_of (words_of_line content) ≡ line
    → IsLone line → Passes text behind
lone_passes text content behind (Storage header) cut said lone = absurd lone
lone_passes text content behind (Whole request) cut said lone =
    let long = length-append content (10 ∷ behind) in
    let within : length content + 1 ≤ length text = omega (arith, ap length cut.parts, long) in
    record {
      command = record { request = request; spelling = take (length content + 1) text };
      first = whole_line text content behind request cut said;
      goes_on = lone;
      behind_is =
          sym (drop_at (content ++ 10 ∷ []) behind (length content + 1) (length-append content (10 ∷ [])))
          ∙ ap (drop (length content + 1)) (append_assoc content (10 ∷ []) behind ∙ sym cut.parts)
          ∙ ap (λ n. drop n text) (sym (length-take-le (length content + 1) text within));
    }

-- the first byte of the text is that of its first line
pub passes_lone : (text content behind : List ℕ) (letter : ℕ) → IsCutAt 10 text content behind → Some letter ≡ slice_get text 0
    → IsLoneLetter letter → Passes text behind
passes_lone text [] behind letter cut begins lone =
    let first : Some letter ≡ Some 10 = begins ∙ ap (λ t. slice_get t 0) cut.parts in
    let same : letter ≡ 10 = cc in
    absurd (grind (lone, same, arith))
passes_lone text (byte ∷ content) behind letter cut begins lone =
    let first : Some letter ≡ Some byte = begins ∙ ap (λ t. slice_get t 0) cut.parts in
    let same : letter ≡ byte = cc in
    lone_passes text (byte ∷ content) behind (line_of (words_of_line (byte ∷ content))) cut refl
    (lone_content byte content (subst IsLoneLetter same lone))

-- ---- what is read behind it

pub passed_fewer : (text behind : List ℕ) → Passes text behind → length (commands_of text) ≡ length (commands_of behind) + 1
passed_fewer text behind passed =
    let more : commands_of text ≡ passed.command ∷ commands_of behind =
    commands_first text passed.command passed.first
    ∙ ap (λ (quit : Bool). passed.command
    ∷ cond {A = List WholeCommand} quit [] (commands_of (drop (length passed.command.spelling) text))) passed.goes_on
    ∙ ap (λ rest. passed.command ∷ commands_of rest) (sym passed.behind_is) in
    omega (arith, ap length more)

pub passed_rest : (text behind : List ℕ) → Passes text behind → rest_of text ≡ rest_of behind
passed_rest text behind passed =
    let left = drop (length passed.command.spelling) text in
    rest_first text passed.command passed.first
    ∙ ap (λ (quit : Bool). cond {A = List ℕ} quit left (rest_of left)) passed.goes_on
    ∙ ap rest_of (sym passed.behind_is)
