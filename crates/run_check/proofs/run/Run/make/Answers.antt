use Rattle.std.proofs.Common.{◌≡◌, ◌-◌, ◌^◌, ◌<◌, [], ◌∷◌, ◌++◌, length, map, Some, sym, ap, ◌∙◌, subst, arith}
use Rattle.std.specs.Prelude.{slice_get}
use Rattle.std.proofs.lemmas.List.{length-append, length-map}
use Rattle.kv_history.specs.Log.{Log, EachHasSection, EachOwnFirst, applied_entry}
use Rattle.run_texts.specs.Entries.{told_entry}
use Rattle.run_texts.specs.Text.{turn_line}
use Rattle.run_texts.specs.Views.{section_view}
use Rattle.run_check.specs.Replays.{Gives, HasGiven}
use Rattle.run_check.specs.Runs.{Course}
use Rattle.run_check.proofs.Moves.{compared, gives_some, last_one, no_command_left, no_turn_told}
use Rattle.run_check.proofs.run.Run.make.Goals as goal

pub returns-in_default : goal.returns-in_default
returns-in_default c =
    let sections = map section_view c.args.sections.now in
    let few : length sections < 2 ^ 32 = omega (arith, length-map c.args.sections.now section_view, c.requires.few) in
    no_turn_told sections c.args.shape.now c.args.self.now c.requires.under_way few c.requires.levels c.args.text.now c.in_default.ensures

pub returns-then-not-branch : goal.returns-then-not-branch
returns-then-not-branch c =
    let sections = map section_view c.args.sections.now in
    let few : length sections < 2 ^ 32 = omega (arith, length-map c.args.sections.now section_view, c.requires.few) in
    let log = ap (λ (s : Course). s.log) c.self.view_is in
    no_command_left sections c.args.shape.now c.args.self.now c.requires.under_way few c.requires.levels c.args.text.now c.in-Some.turn
    c.give.new.self c.in_ok-give.field-0 c.in-Some.ensures c.if-not-branch.true
    (subst (λ (l : Log). Gives l c.give.new.self c.in-Some.turn.caller c.in_ok-give.field-0) log c.in_ok-give.ensures)

pub returns : goal.returns
returns c =
    let sections = map section_view c.args.sections.now in
    let few : length sections < 2 ^ 32 = omega (arith, length-map c.args.sections.now section_view, c.requires.few) in
    let now = c.args.self.now in
    let log = ap (λ (s : Course). s.log) c.self.view_is in
    let turn = c.in-Some.turn in
    let after : Course = record { turns = c.push.new.self; log = c.give.new.self } in
    let given : HasGiven now.log after.log turn.caller = subst (λ (l : Log). HasGiven l after.log turn.caller) log
    (gives_some c.self.inside.replay c.give.new.self turn.caller c.in_ok-give.field-0 c.if-not-branch.false c.in_ok-give.ensures) in
    let entry = applied_entry now.log.entries turn.caller given.command in
    let pushed = c.in_ok-push_last.ensures in
    let size : length after.log.entries - 1 ≡ length now.log.entries =
    omega (arith, ap length given.entries, length-append now.log.entries (entry ∷ [])) in
    let last = last_one now.log.entries entry in
    let there : slice_get (now.log.entries ++ entry ∷ []) (length now.log.entries) ≡ Some pushed.0 =
    (λ i. slice_get (sym given.entries i) (sym size i)) ∙ pushed.1 in
    let entry_is : pushed.0 ≡ entry = cc in
    let line_is : c.as_slice.result.now ≡ turn_line sections (length now.log.entries) (told_entry turn entry) =
    c.as_slice.ensures.value ∙ pushed.2
    ∙ (λ i. c.clear.ensures.items i ++ turn_line sections (size i) (told_entry turn (entry_is i))) in
    compared sections c.args.shape.now now c.requires.under_way few c.requires.levels c.args.text.now turn after c.as_slice.result.now
    c.strip_prefix.result (subst EachHasSection log c.facts.ensures.callers)
    (subst EachOwnFirst log c.facts.ensures.own_first) c.in-Some.ensures given
    (c.in_ok-push.ensures ∙ ap (λ (s : Course). s.turns ++ turn ∷ []) c.self.view_is) line_is c.strip_prefix.ensures.cases
