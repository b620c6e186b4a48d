use Rattle.std.proofs.Common.{◌≡◌, ◌<◌, false, List, [], Some, inl, inr, refl, sym, ap, ◌∙◌, subst, arith}
use Rattle.std.specs.Prelude.{slice_get}
use Rattle.std.proofs.lemmas.Bool.{cases_lt}
use Rattle.std.proofs.lemmas.Option.{slice_get-get_or, slice_get_within}
use Rattle.std.proofs.Common.{get_or, length}
use Rattle.mc_text.specs.Commands.{commands_left}
use Rattle.mc_text.specs.declared.commands.Commands.{Commands}
use Rattle.run_check.specs.Replays.{AllGiven}
use Rattle.run_check.proofs.Endings.{none_left, some_left}
use Rattle.run_check.proofs.replay.Replay.has_ended.Goals as goal

pub returns-in-Some : goal.returns-in-Some
returns-in-Some c =
    let index = c.loop-commands.commands-index in
    let items = c.deref-commands-items.result.now in
    let none : Commands = record { rest = record { ref_ptr = (0, 0); now = [] }; ended = false } in
    let commands = get_or items index none in
    let place : slice_get c.self.inside.left.items index ≡ Some commands =
    ap (λ (xs : List Commands). slice_get xs index) (sym c.deref-commands-items.ensures.value)
    ∙ slice_get-get_or items index none c.loop-commands-test.true in
    let has = c.self.invariant.each index commands place in (
      λ no. cc,
      λ all. absurd (some_left c.self.inside.journal index _ _ (commands_left commands) has c.in-Some.ensures.commands
          (subst AllGiven (sym c.self.view_is) all)),
    )

pub loop-commands-preserved : goal.loop-commands-preserved
loop-commands-preserved c = λ caller commands below is.
    let index = c.loop-commands.commands-index in
    let items = c.deref-commands-items.result.now in
    let none : Commands = record { rest = record { ref_ptr = (0, 0); now = [] }; ended = false } in
    elim (cases_lt caller index) [
      | inl earlier ↦ c.loop-commands.invariant caller commands earlier is
      | inr last ↦
          let same : caller ≡ index = omega (arith, below, last) in
          let there = slice_get-get_or items index none c.loop-commands-test.true in
          let at : slice_get items index ≡ Some commands = ap (slice_get items) (sym same) ∙ is in
          let one : commands ≡ get_or items index none = cc in
          ap commands_left one ∙ c.in_default.ensures.commands.0
    ]

pub returns : goal.returns
returns c =
    let log = c.self.inside.journal in
    let left = c.self.inside.left.items in
    let items = c.deref-commands-items.result.now in
    let none : Commands = record { rest = record { ref_ptr = (0, 0); now = [] }; ended = false } in
    let same = c.deref-commands-items.ensures.value in
    let given : AllGiven log = λ caller section place.
    let within : caller < length left = omega (arith, slice_get_within log.sections caller section place, c.self.invariant.many) in
    let commands = get_or left caller none in
    let there = slice_get-get_or left caller none within in
    none_left log caller section (commands_left commands) c.facts.ensures.own_first (c.self.invariant.each caller commands there)
    (c.loop-commands.invariant caller commands (omega (arith, within, ap length same))
    (ap (λ (xs : List Commands). slice_get xs caller) same ∙ there)) place in
    (λ _. subst AllGiven c.self.view_is given, λ _. refl)
