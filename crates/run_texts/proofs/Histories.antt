-- The printed text of a run tells who held the lock, and what they saw.
use Rattle.std.proofs.Common.{◌≡◌, ℕ, ◌+◌, ◌^◌, ◌<◌, ◌≤◌, ◌%◌, List, [], ◌∷◌, ◌++◌, map, codes, Option, Some, None, inl, inr}
use Rattle.std.proofs.Common.{refl, sym, ap, ◌∙◌, subst, append_assoc, arith}
use Rattle.std.specs.Prelude.{decimal, option_map, slice_index_or}
use Rattle.std.specs.List.{Contains, AllByRecursion, flat_map, enumerate_from}
use Rattle.std.proofs.lemmas.Fmt.{decimal_by_steps, decimal_injective}
use Rattle.std.proofs.lemmas.List.{append_cancel_left}
use Rattle.std.proofs.lemmas.List.Elements.{Contains-append_cases}
use Rattle.std.proofs.lemmas.Option.{option_and_then_some}
use Rattle.byte_text.proofs.CutLaws.{more_lacks}
use Rattle.keep_local.specs.declared.shape.Shape.{Shape}
use Rattle.keep_local.specs.declared.turn.Turn.{Turn}
use Rattle.keep_local.specs.Laws.{turn_after}
use Rattle.mc_text.specs.Request.{WholeCommand}
use Rattle.kv_history.specs.Contents.{Contents, empty_store}
use Rattle.kv_history.specs.Answer.{reply_of, store_after, replies_from}
use Rattle.run_texts.specs.Callers.{Placed}
use Rattle.run_texts.specs.Text.{
  Hold,
  Told,
  caller_line,
  caller_lines,
  commands_behind,
  labelled,
  level_numbers,
  next_command,
  place_numbers,
  pu_of,
  quoted,
  run_text,
  told,
  turn_line,
  turns_behind,
}
use Rattle.run_texts.proofs.Cuts.{one_cut}

-- the caller and the tests of a hold have 32 bits
pub record IsSmall (hold : Hold) : Type 0 where
  pub caller : hold.caller < 2 ^ 32
  pub tests : hold.tests < 2 ^ 32

-- each of these holds stands for a command that its caller still has
pub record CanBeHeld (sections : List Placed) (holds : List Hold) : Type 0 where
  pub commands : List WholeCommand
  pub are : commands_behind sections [] (map (λ hold. hold.caller) holds) ≡ Some commands
  pub small : AllByRecursion IsSmall holds

-- ---- numbers in a line

other_byte : (byte : ℕ) → (byte ≡ 32 → ⊥) → ¬ (Contains (byte ∷ []) 32)
other_byte byte differs = more_lacks 32 byte [] differs (λ has. absurd (omega (arith, has.1)))

-- a number has no space
number_lacks : (n : ℕ) → n < 2 ^ 64 → ¬ (Contains (decimal n) 32)
number_lacks n small = decimal_by_steps (λ _ digits. ¬ (Contains digits 32)) one more n small
  where
    one : (n : ℕ) → n < 10 → ¬ (Contains ((48 + n) ∷ []) 32)
    one n few = other_byte (48 + n) (λ is. omega arith)

    more : (n : ℕ) (digits : List ℕ) → 10 ≤ n → ¬ (Contains digits 32) → ¬ (Contains (digits ++ ((48 + n % 10) ∷ [])) 32)
    more n digits long lacks = λ has.
        elim (Contains-append_cases digits ((48 + n % 10) ∷ []) 32 has) [
          | inl early ↦ lacks early
          | inr last ↦ other_byte (48 + n % 10) (λ is. omega arith) last
        ]

-- numbers in front of a space are the same
same_number : (m n : ℕ) (x y : List ℕ) → m < 2 ^ 64 → n < 2 ^ 64 → decimal m ++ 32 ∷ x ≡ decimal n ++ 32 ∷ y → (m ≡ n) × (x ≡ y)
same_number m n x y small few same =
    let cut = one_cut 32 (decimal m ++ 32 ∷ x) (decimal m) x (decimal n) y
    (record { parts = refl; first = number_lacks m small }) (record { parts = same; first = number_lacks n few }) in
    (decimal_injective m n small few cut.0, cut.1)

-- ---- a turn's line

-- the parts of a line, one behind the other
in_parts : (t n c w p u l a s b f k z : List ℕ)
    → ((t ++ n) ++ ((c ++ w) ++ ((p ++ u) ++ []))) ++ (((l ++ a) ++ ((s ++ b) ++ ((f ++ k) ++ []))) ++ z)
    ≡ t ++ (n ++ (c ++ (w ++ (p ++ (u ++ (l ++ (a ++ (s ++ (b ++ (f ++ (k ++ z)))))))))))
in_parts t n c w p u l a s b f k z = simp append_assoc

-- what stands behind the tests of a turn, behind its climb, and behind its PU
abbrev pub behind_tests : Told → List ℕ → List ℕ
behind_tests one more =
    codes " left " ++ (decimal one.turn.left ++ ((quoted one.command ++ (quoted one.reply ++ codes "\n")) ++ more))

abbrev pub behind_climb : Told → List ℕ → List ℕ
behind_climb one more = codes " tests " ++ (decimal one.turn.tests ++ behind_tests one more)

abbrev pub behind_pu : Told → List ℕ → List ℕ
behind_pu one more = codes " climb " ++ (decimal one.turn.climb ++ behind_climb one more)

-- the same without its space
abbrev at_left : Told → List ℕ → List ℕ
at_left one more = codes "left " ++ (decimal one.turn.left ++ ((quoted one.command ++ (quoted one.reply ++ codes "\n")) ++ more))

pub line_parts : (sections : List Placed) (n : ℕ) (one : Told) (more : List ℕ)
    → turn_line sections n one ++ more
    ≡ codes "turn "
    ++ (decimal n
    ++ (codes " caller "
    ++ (decimal one.turn.caller
    ++ (codes " pu "
    ++ (decimal (pu_of sections one.turn.caller) ++ behind_pu one more)))))
unfolding turn_line
line_parts sections n one more =
    let end = quoted one.command ++ (quoted one.reply ++ codes "\n") in
    let levels = labelled (level_numbers one.turn) in
    let place = labelled (place_numbers sections n one.turn.caller) in
    append_assoc place (levels ++ end) more
    ∙ ap (λ rest. place ++ rest) (append_assoc levels end more)
    ∙ in_parts (codes "turn ") (decimal n) (codes " caller ") (decimal one.turn.caller) (codes " pu ")
    (decimal (pu_of sections one.turn.caller)) (codes " climb ") (decimal one.turn.climb) (codes " tests ") (decimal one.turn.tests)
    (codes " left ") (decimal one.turn.left) (end ++ more)

-- lines of one number, in front of others, are of one caller with the same tests, where it climbed as far
same_hold : (sections : List Placed) (n : ℕ) (one other : Told) (more behind : List ℕ)
    → one.turn.caller < 2 ^ 64 → other.turn.caller < 2 ^ 64
    → one.turn.tests < 2 ^ 64 → other.turn.tests < 2 ^ 64 → one.turn.climb ≡ other.turn.climb
    → turn_line sections n one ++ more ≡ turn_line sections n other ++ behind
    → (one.turn.caller ≡ other.turn.caller) × (one.turn.tests ≡ other.turn.tests)
same_hold sections n one other more behind small few low less climb same =
    let parts = sym (line_parts sections n one more) ∙ same ∙ line_parts sections n other behind in
    let numbered = append_cancel_left (decimal n) _ _ (append_cancel_left (codes "turn ") _ _ parts) in
    let called = append_cancel_left (codes " caller ") _ _ numbered in
    let caller = same_number one.turn.caller other.turn.caller _ _ small few called in
    let placed = append_cancel_left (codes "pu ") _ _ caller.1 in
    let pu = ap (λ (w : ℕ). decimal (pu_of sections w)) caller.0 in
    let climbed = append_cancel_left (decimal (pu_of sections one.turn.caller)) _ _
    (placed ∙ ap (λ (d : List ℕ). d ++ behind_pu other behind) (sym pu)) in
    let tested = append_cancel_left (decimal one.turn.climb) _ _
    (append_cancel_left (codes " climb ") _ _ climbed ∙ ap (λ (d : ℕ). decimal d ++ behind_climb other behind) (sym climb)) in
    let tests = same_number one.turn.tests other.turn.tests (at_left one more) (at_left other behind) low less
    (append_cancel_left (codes " tests ") _ _ tested) in
    (caller.0, tests.0)

-- ---- the lines of a run under way

-- the lines of some holds, numbered from n, and of all callers
abbrev lines_from : List Placed → Shape → ℕ → List Turn → Contents → List Hold → List WholeCommand → List ℕ
lines_from sections shape n before store holds commands =
    flat_map (λ at. turn_line sections at.0 at.1)
    (enumerate_from n (told (turns_behind shape before holds) commands (replies_from store commands)))
    ++ caller_lines sections

-- the callers of holds
abbrev callers_of : List Hold → List ℕ
callers_of holds = map (λ (hold : Hold). hold.caller) holds

-- a line of a turn is none of a caller
no_turn : (sections : List Placed) (n : ℕ) (one : Told) (more : List ℕ) → caller_lines sections ≡ turn_line sections n one ++ more → ⊥
unfolding caller_line
no_turn [] n one more is =
    let heads : 0 ≡ 116 = ap (λ (text : List ℕ). slice_index_or text 0 0) (is ∙ line_parts [] n one more) in
    omega (arith, heads)
no_turn (section ∷ sections) n one more is =
    let heads : 99 ≡ 116 = ap (λ (text : List ℕ). slice_index_or text 0 0) (is ∙ line_parts (section ∷ sections) n one more) in
    omega (arith, heads)

-- the commands behind a first one
behind_first : (command : WholeCommand) (rest : Option (List WholeCommand)) (all : List WholeCommand)
    → option_map (λ more. command ∷ more) rest ≡ Some all → (more : List WholeCommand) × (rest ≡ Some more) × (all ≡ command ∷ more)
behind_first command None all is = cc
behind_first command (Some more) all is = (more, refl, cc)

-- the commands of a first hold and of others
pub record Gives (sections : List Placed) (before : List ℕ) (caller : ℕ) (callers : List ℕ) (all : List WholeCommand) : Type 0 where
  pub command : WholeCommand
  pub more : List WholeCommand
  pub next : next_command sections before caller ≡ Some command
  pub rest : commands_behind sections (before ++ caller ∷ []) callers ≡ Some more
  pub all_are : all ≡ command ∷ more

pub gives : (sections : List Placed) (before : List ℕ) (caller : ℕ) (callers : List ℕ) (all : List WholeCommand)
    → commands_behind sections before (caller ∷ callers) ≡ Some all → Gives sections before caller callers all
gives sections before caller callers all is =
    option_and_then_some
    (λ command. option_map (λ more. command ∷ more) (commands_behind sections (before ++ caller ∷ []) callers))
    (next_command sections before caller) all is
    (λ command next rest.
    let found = behind_first command (commands_behind sections (before ++ caller ∷ []) callers) all rest in
    record { command = command; more = found.0; next = next; rest = found.1; all_are = found.2 })

-- the lines of a first hold and of those behind it
first_line : (sections : List Placed) (shape : Shape) (n : ℕ) (before : List Turn) (store : Contents) (hold : Hold) (holds : List Hold)
    (command : WholeCommand) (more : List WholeCommand)
    → lines_from sections shape n before store (hold ∷ holds) (command ∷ more)
    ≡ turn_line sections n (record {
      turn = turn_after shape before hold.caller hold.tests;
      command = command.spelling;
      reply = reply_of store command.request;
    })
    ++ lines_from sections shape (n + 1) (before ++ turn_after shape before hold.caller hold.tests ∷ []) (store_after store command.request)
    holds more
first_line sections shape n before store hold holds command more =
    let turn = turn_after shape before hold.caller hold.tests in
    append_assoc
    (turn_line sections n (record { turn = turn; command = command.spelling; reply = reply_of store command.request }))
    (flat_map (λ (at : ℕ × Told). turn_line sections at.0 at.1)
    (enumerate_from (n + 1)
    (told (turns_behind shape (before ++ turn ∷ []) holds) more (replies_from (store_after store command.request) more))))
    (caller_lines sections)

-- the lines behind a hold's, where it is the first of both runs
record Behind (sections : List Placed) (shape : Shape) (n : ℕ) (before : List Turn) (earlier : List ℕ) (store : Contents) (hold : Hold)
    (holds others : List Hold) : Type 0 where
  command : WholeCommand
  more : List WholeCommand
  also : List WholeCommand
  given : commands_behind sections (earlier ++ hold.caller ∷ []) (callers_of holds) ≡ Some more
  gave : commands_behind sections (earlier ++ hold.caller ∷ []) (callers_of others) ≡ Some also
  same : lines_from sections shape (n + 1) (before ++ turn_after shape before hold.caller hold.tests ∷ [])
      (store_after store command.request) holds more
      ≡ lines_from sections shape (n + 1) (before ++ turn_after shape before hold.caller hold.tests ∷ [])
      (store_after store command.request) others also

behind : (sections : List Placed) (shape : Shape) (n : ℕ) (before : List Turn) (earlier : List ℕ) (store : Contents) (hold : Hold)
    (holds others : List Hold) (commands also : List WholeCommand)
    → commands_behind sections earlier (callers_of (hold ∷ holds)) ≡ Some commands
    → commands_behind sections earlier (callers_of (hold ∷ others)) ≡ Some also
    → lines_from sections shape n before store (hold ∷ holds) commands ≡ lines_from sections shape n before store (hold ∷ others) also
    → Behind sections shape n before earlier store hold holds others
behind sections shape n before earlier store hold holds others commands also given gave same =
    let a = gives sections earlier hold.caller (callers_of holds) commands given in
    let b = gives sections earlier hold.caller (callers_of others) also gave in
    let first = a.next in
    let second = b.next in
    let command : b.command ≡ a.command = cc in
    let also_is : also ≡ a.command ∷ b.more = b.all_are ∙ ap (λ (c : WholeCommand). c ∷ b.more) command in
    let lines = sym (first_line sections shape n before store hold holds a.command a.more)
    ∙ ap (lines_from sections shape n before store (hold ∷ holds)) (sym a.all_are)
    ∙ same
    ∙ ap (lines_from sections shape n before store (hold ∷ others)) also_is
    ∙ first_line sections shape n before store hold others a.command b.more in
    record {
      command = a.command;
      more = a.more;
      also = b.more;
      given = a.rest;
      gave = b.rest;
      same = append_cancel_left _ _ _ lines;
    }

-- the first holds of two runs of one text
first_hold : (sections : List Placed) (shape : Shape) (n : ℕ) (before : List Turn) (earlier : List ℕ) (store : Contents) (hold other : Hold)
    (holds others : List Hold) (commands also : List WholeCommand) → IsSmall hold → IsSmall other
    → commands_behind sections earlier (callers_of (hold ∷ holds)) ≡ Some commands
    → commands_behind sections earlier (callers_of (other ∷ others)) ≡ Some also
    → lines_from sections shape n before store (hold ∷ holds) commands ≡ lines_from sections shape n before store (other ∷ others) also
    → hold ≡ other
first_hold sections shape n before earlier store hold other holds others commands also small few given gave same =
    let a = gives sections earlier hold.caller (callers_of holds) commands given in
    let b = gives sections earlier other.caller (callers_of others) also gave in
    let lines = sym (first_line sections shape n before store hold holds a.command a.more)
    ∙ ap (lines_from sections shape n before store (hold ∷ holds)) (sym a.all_are)
    ∙ same
    ∙ ap (lines_from sections shape n before store (other ∷ others)) b.all_are
    ∙ first_line sections shape n before store other others b.command b.more in
    let one : Told = record {
      turn = turn_after shape before hold.caller hold.tests;
      command = a.command.spelling;
      reply = reply_of store a.command.request;
    } in
    let two : Told = record {
      turn = turn_after shape before other.caller other.tests;
      command = b.command.spelling;
      reply = reply_of store b.command.request;
    } in
    let found = same_hold sections n one two _ _ (omega (arith, small.caller)) (omega (arith, few.caller)) (omega (arith, small.tests))
    (omega (arith, few.tests)) refl lines in
    λ i. record { caller = found.0 i; tests = found.1 i }

-- lines of one text are those of the same holds
tells : (sections : List Placed) (shape : Shape) (n : ℕ) (before : List Turn) (earlier : List ℕ) (store : Contents)
    (holds others : List Hold) (commands also : List WholeCommand) → AllByRecursion IsSmall holds → AllByRecursion IsSmall others
    → commands_behind sections earlier (callers_of holds) ≡ Some commands
    → commands_behind sections earlier (callers_of others) ≡ Some also
    → lines_from sections shape n before store holds commands ≡ lines_from sections shape n before store others also → holds ≡ others
tells sections shape n before earlier store [] [] commands also small few given gave same = refl
tells sections shape n before earlier store [] (other ∷ others) commands also small few given gave same =
    let b = gives sections earlier other.caller (callers_of others) also gave in
    absurd (no_turn sections n _ _ (same
    ∙ ap (lines_from sections shape n before store (other ∷ others)) b.all_are
    ∙ first_line sections shape n before store other others b.command b.more))
tells sections shape n before earlier store (hold ∷ holds) [] commands also small few given gave same =
    let a = gives sections earlier hold.caller (callers_of holds) commands given in
    absurd (no_turn sections n _ _ (sym same
    ∙ ap (lines_from sections shape n before store (hold ∷ holds)) a.all_are
    ∙ first_line sections shape n before store hold holds a.command a.more))
tells sections shape n before earlier store (hold ∷ holds) (other ∷ others) commands also small few given gave same =
    let is = first_hold sections shape n before earlier store hold other holds others commands also small.0 few.0 given gave same in
    let gave_too = subst (λ (o : Hold). commands_behind sections earlier (callers_of (o ∷ others)) ≡ Some also) (sym is) gave in
    let same_too = subst
    (λ (o : Hold). lines_from sections shape n before store (hold ∷ holds) commands
    ≡ lines_from sections shape n before store (o ∷ others) also)
    (sym is) same in
    let rest = behind sections shape n before earlier store hold holds others commands also given gave_too same_too in
    let later = tells sections shape (n + 1) (before ++ turn_after shape before hold.caller hold.tests ∷ []) (earlier ++ hold.caller ∷ [])
    (store_after store rest.command.request) holds others rest.more rest.also small.1 few.1 rest.given rest.gave rest.same in
    ap (λ (hs : List Hold). hold ∷ hs) later ∙ ap (λ (h : Hold). h ∷ others) is

-- the text of holds that can be
text_lines : (sections : List Placed) (shape : Shape) (holds : List Hold) (commands : List WholeCommand)
    → commands_behind sections [] (callers_of holds) ≡ Some commands
    → run_text sections shape holds ≡ lines_from sections shape 0 [] empty_store holds commands
unfolding run_text
text_lines sections shape holds commands given = rw given refl

pub holds_once : (sections : List Placed) (shape : Shape) (holds others : List Hold) → CanBeHeld sections holds → CanBeHeld sections others
    → run_text sections shape holds ≡ run_text sections shape others → holds ≡ others
holds_once sections shape holds others can could same =
    tells sections shape 0 [] [] empty_store holds others can.commands could.commands can.small could.small can.are could.are
    (sym (text_lines sections shape holds can.commands can.are) ∙ same ∙ text_lines sections shape others could.commands could.are)
