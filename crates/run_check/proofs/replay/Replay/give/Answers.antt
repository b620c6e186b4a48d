use Rattle.std.proofs.Common.{Some, sym, ap, ◌∙◌, subst}
use Rattle.std.proofs.lemmas.Option.{slice_get-get_or}
use Rattle.mc_text.specs.Commands.{commands_left}
use Rattle.mc_text.specs.Request.{WholeCommand, view}
use Rattle.kv_history.specs.Log.{Log, IsNext, calls}
use Rattle.run_check.specs.Replays.{HasGiven}
use Rattle.run_check.proofs.Givings.{next_is, no_next, one_given}
use Rattle.run_check.proofs.replay.Replay.give.Goals as goal

pub returns-in_default-next : goal.returns-in_default-next
returns-in_default-next c =
    let caller = c.args.caller in
    let log = c.self.inside.journal in
    let left = c.self.inside.left.items in
    let commands = c.in-Some.commands.now in
    let place = slice_get-get_or left caller commands c.in-Some.ensures.item.3.0 ∙ ap Some (sym c.in-Some.ensures.value) in
    let has = c.self.invariant.each caller commands place in
    subst (λ (now : Log). (command : WholeCommand) → IsNext now.sections (calls now) caller command → ⊥) c.self.view_is
    (no_next log.sections (calls log) caller (commands_left commands) has c.in_default-next.ensures.commands.0)

pub apply-requires : goal.apply-requires
apply-requires c =
    let caller = c.args.caller in
    let log = c.self.inside.journal in
    let left = c.self.inside.left.items in
    let commands = c.in-Some.commands.now in
    let place = slice_get-get_or left caller commands c.in-Some.ensures.item.3.0 ∙ ap Some (sym c.in-Some.ensures.value) in
    next_is log.sections (calls log) caller (commands_left commands) (c.self.invariant.each caller commands place)
    (view c.in-Some-next.command) (commands_left c.next.new.self) c.in-Some-next.ensures.commands

pub invariant_of-self-in_err-apply : goal.invariant_of-self-in_err-apply
invariant_of-self-in_err-apply c =
    let caller = c.args.caller in
    let left = c.self.inside.left.items in
    let commands = c.in-Some.commands.now in
    let place = slice_get-get_or left caller commands c.in-Some.ensures.item.3.0 ∙ ap Some (sym c.in-Some.ensures.value) in
    one_given c.self.inside.journal c.apply.new.self left caller commands c.next.new.self (view c.in-Some-next.command) c.self.invariant
    place c.in-Some-next.ensures.commands c.in_err-apply.ensures.sections c.in_err-apply.ensures.calls

pub invariant_of-self-2 : goal.invariant_of-self-2
invariant_of-self-2 c =
    let caller = c.args.caller in
    let left = c.self.inside.left.items in
    let commands = c.in-Some.commands.now in
    let place = slice_get-get_or left caller commands c.in-Some.ensures.item.3.0 ∙ ap Some (sym c.in-Some.ensures.value) in
    one_given c.self.inside.journal c.apply.new.self left caller commands c.next.new.self (view c.in-Some-next.command) c.self.invariant
    place c.in-Some-next.ensures.commands c.in_ok-apply.ensures.sections c.in_ok-apply.ensures.calls

pub returns : goal.returns
returns c =
    let caller = c.args.caller in
    let log = c.self.inside.journal in
    let left = c.self.inside.left.items in
    let commands = c.in-Some.commands.now in
    let place = slice_get-get_or left caller commands c.in-Some.ensures.item.3.0 ∙ ap Some (sym c.in-Some.ensures.value) in
    subst (λ (now : Log). HasGiven now c.apply.new.self caller) c.self.view_is (record {
      command = view c.in-Some-next.command;
      next = next_is log.sections (calls log) caller (commands_left commands) (c.self.invariant.each caller commands place)
          (view c.in-Some-next.command) (commands_left c.next.new.self) c.in-Some-next.ensures.commands;
      sections = c.in_ok-apply.ensures.sections;
      entries = c.in_ok-apply.ensures.applied;
    })
