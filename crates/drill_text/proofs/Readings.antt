-- The commands of a caller's section.
use Rattle.std.proofs.Common.{
  ◌≡◌,
  ℕ,
  zero,
  suc,
  ◌+◌,
  ◌%◌,
  ◌^◌,
  ◌<◌,
  ◌≤◌,
  false,
  true,
  List,
  [],
  ◌∷◌,
  ◌++◌,
  length,
  map,
  codes,
  refl,
  sym,
  ap,
  ◌∙◌,
  subst,
  append_assoc,
  append-nil,
  arith,
}
use Rattle.std.specs.Prelude.{decimal, filter, flat_map}
use Rattle.std.specs.List.{AllByRecursion}
use Rattle.std.proofs.lemmas.List.{length-append}
use Rattle.std.proofs.lemmas.List.Concat.{flat_map-append}
use Rattle.std.proofs.lemmas.List.Folds.{flat_map-map}
use Rattle.mc_text.specs.Request.{Count, Request, Store, WholeCommand, is_quit}
use Rattle.mc_text.specs.Begins.{Begins, storing}
use Rattle.mc_text.specs.Section.{EachBegins, Ends, NoCommand, Spelled, spellings}
use Rattle.mc_text.specs.Reading.{commands_of, rest_of}
use Rattle.mc_text.specs.Laws.{EachSectionIsRead, OneReading}
use Rattle.drill_text.specs.Drill.{addition, additions, below, delta, drill_section, key_name, keys, of_caller, opening}
use Rattle.drill_text.proofs.Numbers.{below_within}
use Rattle.drill_text.proofs.Sizes.{keys_are}
use Rattle.drill_text.proofs.Lines.{
  addition_above,
  addition_front,
  addition_says,
  block_begins,
  line_begins,
  opening_above,
  opening_front,
  opening_header,
  opening_says,
}

abbrev pub opening_command : ℕ → WholeCommand
opening_command key = record { request = Store (storing (opening_header key) (48 ∷ [])); spelling = opening key }

abbrev pub addition_command : ℕ → ℕ → WholeCommand
addition_command drill j =
    record { request = Count true (key_name (j % 8)) (delta drill j) true; spelling = addition drill j }

-- the commands of a caller
abbrev pub commands_in : ℕ → ℕ → List WholeCommand
commands_in drill caller = map opening_command (below keys) ++ map (addition_command drill) (of_caller caller)

-- ---- each begins what stands from its place on

-- a command that isn't `quit` begins each text in front of which it is spelled
record IsPlain (command : WholeCommand) : Type 0 where
  begins : (more : List ℕ) → Begins (command.spelling ++ more) command (length command.spelling)
  goes_on : is_quit command.request ≡ false

opening_is : (key : ℕ) → opening key ≡ opening_front key ++ 13 ∷ 10 ∷ 48 ∷ 13 ∷ 10 ∷ []
unfolding opening
opening_is key =
    ap (λ (rest : List ℕ). codes "add k" ++ rest) (sym (append_assoc (decimal key) (codes " 0 0 1 noreply") (codes "\r\n0\r\n")))

opening_plain : (key : ℕ) → key < 8 → IsPlain (opening_command key)
opening_plain key small = record {
  begins =
      λ more. subst
      (λ (text : List ℕ). Begins (text ++ more)
      (record { request = Store (storing (opening_header key) (48 ∷ [])); spelling = text }) (length text))
      (sym (opening_is key))
      (block_begins (opening_front key) more (opening_header key) 48 (opening_above key small) (opening_says key small) refl);
  goes_on = refl;
}

in_front : (a b c d : List ℕ) → a ++ (b ++ (c ++ d)) ≡ (a ++ (b ++ c)) ++ d
in_front a b c d = simp append_assoc

addition_is : (drill j : ℕ) → addition drill j ≡ addition_front (j % 8) (delta drill j) ++ 13 ∷ 10 ∷ []
unfolding addition
addition_is drill j =
    ap (λ (rest : List ℕ). codes "incr k" ++ rest)
    (ap (λ (rest : List ℕ). decimal (j % 8) ++ 32 ∷ rest) (sym (append_assoc (decimal (delta drill j)) (codes " noreply") (codes "\r\n")))
    ∙ sym (append_assoc (decimal (j % 8)) (32 ∷ (decimal (delta drill j) ++ codes " noreply")) (codes "\r\n")))

addition_plain : (drill j : ℕ) → IsPlain (addition_command drill j)
addition_plain drill j =
    let key : j % 8 < 8 = omega arith in
    let few : delta drill j < 2 ^ 64 = omega arith in
    record {
      begins =
          λ more. subst
          (λ (text : List ℕ). Begins (text ++ more)
          (record { request = Count true (key_name (j % 8)) (delta drill j) true; spelling = text }) (length text))
          (sym (addition_is drill j))
          (line_begins (addition_front (j % 8) (delta drill j)) more (Count true (key_name (j % 8)) (delta drill j) true)
          (addition_above (j % 8) (delta drill j) key few) (addition_says (j % 8) (delta drill j) key few));
      goes_on = refl;
    }

-- ---- the section is read as these commands

plain_append : (front behind : List WholeCommand) → AllByRecursion IsPlain front → AllByRecursion IsPlain behind
    → AllByRecursion IsPlain (front ++ behind)
plain_append [] behind a b = b
plain_append (first ∷ more) behind a b = (a.0, plain_append more behind a.1 b)

openings_plain : (some : List ℕ) → AllByRecursion (λ key. key < keys) some → keys ≡ 8
    → AllByRecursion IsPlain (map opening_command some)
openings_plain [] within is = tt
openings_plain (key ∷ more) within is = (opening_plain key (omega (arith, within.0, is)), openings_plain more within.1 is)

additions_plain : (drill : ℕ) (some : List ℕ) → AllByRecursion IsPlain (map (addition_command drill) some)
additions_plain drill [] = tt
additions_plain drill (j ∷ more) = (addition_plain drill j, additions_plain drill more)

plain_each : (commands : List WholeCommand) (rest : List ℕ) → AllByRecursion IsPlain commands → EachBegins commands rest
plain_each [] rest plain = tt
plain_each (command ∷ more) rest plain = (plain.0.begins (spellings more ++ rest), plain_each more rest plain.1)

plain_ends : (commands : List WholeCommand) (rest : List ℕ) → AllByRecursion IsPlain commands → NoCommand rest → Ends commands rest
plain_ends [] rest plain none = none
plain_ends (command ∷ more) rest plain none = rw plain.0.goes_on (plain_ends more rest plain.1 none)

nothing_begins : NoCommand []
nothing_begins = λ command count begins.
    absurd (omega (arith, ap length begins.cut.parts, length-append begins.content (10 ∷ begins.behind)))

section_is : (drill caller : ℕ) → drill_section drill caller ≡ spellings (commands_in drill caller) ++ []
unfolding drill_section
section_is drill caller =
    let spelled = λ (command : WholeCommand). command.spelling in
    sym (append-nil (spellings (commands_in drill caller))
    ∙ flat_map-append spelled (map opening_command (below keys)) (map (addition_command drill) (of_caller caller))
    ∙ ap (λ (front : List ℕ). front ++ flat_map spelled (map (addition_command drill) (of_caller caller)))
    (flat_map-map spelled opening_command (below keys))
    ∙ ap (λ (behind : List ℕ). flat_map opening (below keys) ++ behind) (flat_map-map spelled (addition_command drill) (of_caller caller)))

spelled : (drill caller : ℕ) → Spelled (drill_section drill caller) (commands_in drill caller) []
spelled drill caller =
    let plain = plain_append (map opening_command (below keys)) (map (addition_command drill) (of_caller caller))
    (openings_plain (below keys) (below_within keys) keys_are) (additions_plain drill (of_caller caller)) in
    record {
      whole = section_is drill caller;
      each = plain_each (commands_in drill caller) [] plain;
      ends = plain_ends (commands_in drill caller) [] plain nothing_begins;
    }

-- what is read of a section is its commands
pub commands_are : EachSectionIsRead → OneReading → (drill caller : ℕ) → commands_of (drill_section drill caller) ≡ commands_in drill caller
commands_are read one drill caller =
    let section = drill_section drill caller in
    (one section (commands_of section) (commands_in drill caller) (rest_of section) [] (read section) (spelled drill caller)).0
