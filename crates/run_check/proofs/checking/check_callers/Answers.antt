use Rattle.std.proofs.Common.{◌≡◌, ℕ, ◌<◌, List, [], ◌∷◌, ◌++◌, length, map, get_or, Option, Some, refl, ap, ◌∙◌, subst, arith}
use Rattle.std.specs.Prelude.{slice_get, option_map, MatchOption}
use Rattle.std.specs.Borrow.{Bor}
use Rattle.std.proofs.lemmas.Bool.Decides.{nat_tests}
use Rattle.std.proofs.lemmas.List.{length-map}
use Rattle.std.proofs.lemmas.Option.{slice_get-get_or, slice_get-map}
use Rattle.run_texts.specs.declared.section.Section.{Section}
use Rattle.run_texts.specs.Text.{caller_line}
use Rattle.run_texts.specs.Views.{section_view}
use Rattle.run_check.proofs.Passing.{all_passed, one_too_many, other_line, passed_more}
use Rattle.run_check.proofs.checking.check_callers.Goals as goal

-- the section of a caller
section_there : (sections : List Section) (caller : ℕ) (none : Section) → caller < length sections
    → slice_get (map section_view sections) caller ≡ Some (section_view (get_or sections caller none))
section_there sections caller none within =
    slice_get-map section_view sections caller ∙ ap (option_map section_view) (slice_get-get_or sections caller none within)

-- whether a line stands in front of a text
abbrev Stands : List ℕ → List ℕ → Option (Bor (List ℕ)) → Type 0
Stands text line passed = MatchOption passed ((rest : List ℕ) → text ≡ line ++ rest → ⊥) (λ rest. text ≡ line ++ rest.now)

pub returns-in_default : goal.returns-in_default
returns-in_default c =
    let sections = c.args.sections.now in
    let caller = c.loop-caller.caller in
    let none : Section = record { pu = 0; bytes = record { ref_ptr = (0, 0); now = [] } } in
    let section = section_view (get_or sections caller none) in (
      caller,
      c.loop-caller.invariant.number,
      other_line (map section_view sections) c.args.text.now c.loop-caller.rest.now caller c.loop-caller.invariant.passed section
          (section_there sections caller none c.loop-caller-test.true)
          (subst (Stands c.loop-caller.rest.now (caller_line caller section)) c.in_default.is c.in_ok-behind.ensures),
    )

pub overflow_add-line : goal.overflow_add-line
overflow_add-line c =
    let sections = c.args.sections.now in
    let caller = c.loop-caller.caller in
    let none : Section = record { pu = 0; bytes = record { ref_ptr = (0, 0); now = [] } } in
    let section = section_view (get_or sections caller none) in
    let passed = passed_more (map section_view sections) c.args.text.now c.loop-caller.rest.now caller c.loop-caller.invariant.passed
    section c.in-Some.behind.now (section_there sections caller none c.loop-caller-test.true)
    (subst (Stands c.loop-caller.rest.now (caller_line caller section)) c.in-Some.is c.in_ok-behind.ensures) in
    omega (arith, passed.within, c.loop-caller.invariant.number, c.requires.printed)

pub loop-caller-preserved : goal.loop-caller-preserved
loop-caller-preserved c =
    let sections = c.args.sections.now in
    let caller = c.loop-caller.caller in
    let none : Section = record { pu = 0; bytes = record { ref_ptr = (0, 0); now = [] } } in
    let section = section_view (get_or sections caller none) in
    record {
      passed = passed_more (map section_view sections) c.args.text.now c.loop-caller.rest.now caller c.loop-caller.invariant.passed section
          c.in-Some.behind.now (section_there sections caller none c.loop-caller-test.true)
          (subst (Stands c.loop-caller.rest.now (caller_line caller section)) c.in-Some.is c.in_ok-behind.ensures);
      number = omega (arith, c.loop-caller.invariant.number);
    }

-- a list without elements
no_elements : (xs : List ℕ) → length xs ≡ 0 → xs ≡ []
no_elements [] none = refl
no_elements (x ∷ xs) none = absurd (omega arith)

pub returns-then-is_empty : goal.returns-then-is_empty
returns-then-is_empty c =
    let sections = c.args.sections.now in
    let rest = c.loop-caller.rest.now in
    let last : c.loop-caller.caller ≡ length (map section_view sections) =
    omega (arith, length-map sections section_view, c.loop-caller-test.false, c.loop-caller.auto.caller-end) in
    let none : length rest ≡ 0 = grind (arith, nat_tests) in
    all_passed (map section_view sections) c.args.text.now rest c.loop-caller.caller c.loop-caller.invariant.passed last
    (no_elements rest none)

pub returns-else-is_empty : goal.returns-else-is_empty
returns-else-is_empty c =
    let sections = c.args.sections.now in
    let rest = c.loop-caller.rest.now in
    let last : c.loop-caller.caller ≡ length (map section_view sections) =
    omega (arith, length-map sections section_view, c.loop-caller-test.false, c.loop-caller.auto.caller-end) in
    let some : 0 < length rest = grind (arith, nat_tests) in (
      c.loop-caller.caller,
      c.loop-caller.invariant.number,
      one_too_many (map section_view sections) c.args.text.now rest c.loop-caller.caller c.loop-caller.invariant.passed last some,
    )
