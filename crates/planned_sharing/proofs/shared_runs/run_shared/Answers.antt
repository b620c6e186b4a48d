use denote.Exit.{no}
use denote.Param.Send.{arg_send, arg_sync, param_send, param_sync}
use mir.Syntax.{named}
use Rattle.std.proofs.Common.{◌≡◌, ◌∙◌, ap, arith, length}
use Rattle.std.specs.Prelude.{slice_index}
use Rattle.std.proofs.lemmas.List.{length-map}
use Rattle.std.proofs.lemmas.Result.{IfOk-weaker}
use Rattle.lock_rules.specs.contracts.tokens.Pass.{the_row as the_pass_row}
use Rattle.lock_rules.specs.contracts.tokens.PassPlaced.TheImpl as placed
use Rattle.clof_compose.specs.contracts.level_tokens.LevelPass.{the_row as the_low_row}
use Rattle.clof_compose.specs.contracts.level_tokens.LevelPassResting.TheImpl as low_resting
use Rattle.clof_compose.specs.contracts.top_tokens.TopPass.{the_row as the_top_row}
use Rattle.clof_compose.specs.contracts.top_tokens.TopPassResting.TheImpl as top_resting
use Rattle.clof_compose.specs.declared.token.Resting as resting
use Rattle.lock_levels.proofs.Levels.{shape_named}
use Rattle.cohort_desks.proofs.Crossing.{desk_sent}
use Rattle.cohort_runner.proofs.Crossing.{caller_sent}
use Rattle.cohort_runner.specs.contracts.caller.CallerNumbered.TheImpl as numbered
use Rattle.threaded_runner.specs.Books.{book_tag}
use Rattle.run_work.proofs.Crossing.{room_shared}
use Rattle.planned_sharing.proofs.shared_runs.run_shared.Goals as goal

pub rise_flat-requires-clause-may : goal.rise_flat-requires-clause-may
rise_flat-requires-clause-may g c κs within =
    let same : c.in_ok-root.root.trail.shape ≡ c.args.shape.now =
    ap (λ t. t.shape) c.in_ok-root.ensures.trail ∙ c.in_ok-copied_shape.ensures in
    let at_home : length c.in_ok-homes.field-0.items ≡ length c.args.sections.now =
    ap length c.in_ok-homes.ensures ∙ length-map c.args.shape.now.paths (λ path. slice_index path 0) ∙ c.requires.callers in
    record {
      formed = c.requires.formed;
      few = omega (arith, c.requires.few, c.requires.callers);
      shape_is = shape_named book_tag c.in_ok-root.root c.args.shape.now same;
      kinds_each = c.requires.plan;
      dealt_is = (c.in_ok-root.ensures.dealt, at_home, c.args.sharing.some_threads);
    }

pub rise-requires-clause-may : goal.rise-requires-clause-may
rise-requires-clause-may g c κs within =
    let same : c.in_ok-root.root.trail.shape ≡ c.args.shape.now =
    ap (λ t. t.shape) c.in_ok-root.ensures.trail ∙ c.in_ok-copied_shape.ensures in
    let at_home : length c.in_ok-homes.field-0.items ≡ length c.args.sections.now =
    ap length c.in_ok-homes.ensures ∙ length-map c.args.shape.now.paths (λ path. slice_index path 0) ∙ c.requires.callers in
    record {
      formed = c.requires.formed;
      few = omega (arith, c.requires.few, c.requires.callers);
      shape_is = shape_named book_tag c.in_ok-root.root c.args.shape.now same;
      kinds_each = c.requires.plan;
      dealt_is = (c.in_ok-root.ensures.dealt, at_home, c.args.sharing.some_threads);
    }

-- what the tag of an idle pass means, of a top lock and of one of more levels
abbrev top_ghosts : resting.Ghosts (the_top_row the_pass_row).Denot
top_ghosts = top_resting.ghosts the_pass_row placed.ghosts top_resting.no_dict top_resting.no_dict

abbrev low_ghosts : resting.Ghosts (the_low_row the_pass_row).Denot
low_ghosts = low_resting.ghosts the_pass_row placed.ghosts low_resting.no_dict low_resting.no_dict

pub rise_flat-requires-send-J : goal.rise_flat-requires-send-J
rise_flat-requires-send-J g c κs within =
    let row = the_top_row the_pass_row in
    let caller = caller_sent (record { mir = named 1; lft = κs.1.0 }) row top_ghosts c.top_passes_may_be_sent.ensures in
    param_send _ _ (arg_send _ no _ (desk_sent _ (numbered.ghosts row top_ghosts numbered.no_dict numbered.no_dict) caller))

pub rise_flat-requires-sync-K : goal.rise_flat-requires-sync-K
rise_flat-requires-sync-K g c κs within =
    param_sync _ _ (arg_sync _ no _
    (room_shared (record { mir = named 1; lft = κs.1.0 }) (the_top_row the_pass_row) top_ghosts c.top_passes_may_be_sent.ensures))

pub rise-requires-send-J : goal.rise-requires-send-J
rise-requires-send-J g c κs within =
    let row = the_low_row the_pass_row in
    let caller = caller_sent (record { mir = named 1; lft = κs.1.0 }) row low_ghosts c.low_passes_may_be_sent.ensures in
    param_send _ _ (arg_send _ no _ (desk_sent _ (numbered.ghosts row low_ghosts numbered.no_dict numbered.no_dict) caller))

pub rise-requires-sync-K : goal.rise-requires-sync-K
rise-requires-sync-K g c κs within =
    param_sync _ _ (arg_sync _ no _
    (room_shared (record { mir = named 1; lft = κs.1.0 }) (the_low_row the_pass_row) low_ghosts c.low_passes_may_be_sent.ensures))

pub returns-then-top-eq0-clause-shape : goal.returns-then-top-eq0-clause-shape
returns-then-top-eq0-clause-shape g c =
    let same : c.in_ok-root.root.trail.shape ≡ c.args.shape.now =
    ap (λ t. t.shape) c.in_ok-root.ensures.trail ∙ c.in_ok-copied_shape.ensures in
    IfOk-weaker c.rise_flat.result _ _ (λ left is. is.shape_is ∙ shape_named book_tag c.in_ok-root.root c.args.shape.now same)
    c.rise_flat.ensures

pub returns-else-top-eq0-clause-shape : goal.returns-else-top-eq0-clause-shape
returns-else-top-eq0-clause-shape g c =
    let same : c.in_ok-root.root.trail.shape ≡ c.args.shape.now =
    ap (λ t. t.shape) c.in_ok-root.ensures.trail ∙ c.in_ok-copied_shape.ensures in
    IfOk-weaker c.rise.result _ _ (λ left is. is.shape_is ∙ shape_named book_tag c.in_ok-root.root c.args.shape.now same)
    c.rise.ensures

pub rise_flat-requires-clause-top : goal.rise_flat-requires-clause-top
rise_flat-requires-clause-top g c κs within =
    let kinds = ap length c.as_slice.ensures in
    let plan = c.requires.plan in let one = c.if-top-eq0.true in omega (arith, kinds, plan, one)

pub rise_flat-requires-clause-shape : goal.rise_flat-requires-clause-shape
rise_flat-requires-clause-shape g c κs within = ap (λ t. t.shape) c.in_ok-root.ensures.trail ∙ c.in_ok-copied_shape.ensures

pub returns-then-top-eq0-clause-finished : goal.returns-then-top-eq0-clause-finished
returns-then-top-eq0-clause-finished g c = IfOk-weaker c.rise_flat.result _ _ (λ left is. is.finished) c.rise_flat.ensures

pub returns-then-top-eq0-clause-sections : goal.returns-then-top-eq0-clause-sections
returns-then-top-eq0-clause-sections g c =
    IfOk-weaker c.rise_flat.result _ _ (λ left is. is.sections_are ∙ c.in_ok-root.ensures.dealt.told) c.rise_flat.ensures

pub rise-requires-clause-top : goal.rise-requires-clause-top
rise-requires-clause-top g c κs within =
    let kinds = ap length c.as_slice.ensures in
    let plan = c.requires.plan in omega (arith, kinds, plan)

pub rise-requires-clause-most : goal.rise-requires-clause-most
rise-requires-clause-most g c κs within =
    let kinds = ap length c.as_slice.ensures in
    let plan = c.requires.plan in
    let levels = c.requires.levels in omega (arith, kinds, plan, levels)

pub rise-requires-clause-shape : goal.rise-requires-clause-shape
rise-requires-clause-shape g c κs within = ap (λ t. t.shape) c.in_ok-root.ensures.trail ∙ c.in_ok-copied_shape.ensures

pub returns-else-top-eq0-clause-finished : goal.returns-else-top-eq0-clause-finished
returns-else-top-eq0-clause-finished g c = IfOk-weaker c.rise.result _ _ (λ left is. is.finished) c.rise.ensures

pub returns-else-top-eq0-clause-sections : goal.returns-else-top-eq0-clause-sections
returns-else-top-eq0-clause-sections g c =
    IfOk-weaker c.rise.result _ _ (λ left is. is.sections_are ∙ c.in_ok-root.ensures.dealt.told) c.rise.ensures
