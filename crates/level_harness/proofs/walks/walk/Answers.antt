use Rattle.std.proofs.Common.{◌≡◌, ◌≤◌, [], length, ap, sym, ◌∙◌, subst, arith, vec_capacity}
use Rattle.std.specs.Prelude.{slice_get}
use Rattle.clof_compose.specs.Passes.{AreAll}
use Rattle.level_harness.proofs.Items.{written_all}
use Rattle.level_harness.proofs.Values.{passed_on}
use Rattle.clof_compose.proofs.Shares.{as_many_shares, new_share_in}
use Rattle.level_harness.proofs.walks.walk.Goals as goal

pub seat-walkers-requires-clause-shares : goal.seat-walkers-requires-clause-shares
seat-walkers-requires-clause-shares g c = new_share_in _ c.args.shares.items c.requires.quotas c.requires.shares

pub seat-walkers-requires-clause-many : goal.seat-walkers-requires-clause-many
seat-walkers-requires-clause-many g c =
    as_many_shares _ _ c.args.shares.items c.requires.shares ∙ c.requires.quotas ∙ sym (c.requires.all.all ∙ c.requires.count)

pub seat-walkers-requires-clause-empty : goal.seat-walkers-requires-clause-empty
seat-walkers-requires-clause-empty g c = passed_on (λ v. v.items ≡ []) c.with_capacity-2.result c.ok-2.result c.in_ok-walkers.walkers
    c.with_capacity-2.ensures.items c.ok-2.ensures.value c.in_ok-walkers.was

pub seat-walkers-requires-clause-room : goal.seat-walkers-requires-clause-room
seat-walkers-requires-clause-room g c =
    let room = passed_on (λ v. c.len.result ≤ vec_capacity v) c.with_capacity-2.result c.ok-2.result c.in_ok-walkers.walkers
    c.with_capacity-2.ensures.capacity c.ok-2.ensures.value c.in_ok-walkers.was in
    let long = c.len.ensures in
    let ok = c.args.passes.ok in
    omega (arith, room, long, ok)

pub make_steps-stood-requires-clause-each : goal.make_steps-stood-requires-clause-each
make_steps-stood-requires-clause-each g c = λ k w e.
    c.seat-walkers.ensures.each k w (ap (λ l. slice_get l k) (sym c.deref_mut.ensures.value) ∙ e)

pub make_steps-stood-requires-clause-empty : goal.make_steps-stood-requires-clause-empty
make_steps-stood-requires-clause-empty g c = passed_on (λ v. v.items ≡ []) c.with_capacity.result c.ok.result c.in_ok-stood.stood
    c.with_capacity.ensures.items c.ok.ensures.value c.in_ok-stood.was

pub make_steps-stood-requires-clause-capacity : goal.make_steps-stood-requires-clause-capacity
make_steps-stood-requires-clause-capacity g c = passed_on (λ v. length c.args.order.now ≤ vec_capacity v) c.with_capacity.result
    c.ok.result c.in_ok-stood.stood c.with_capacity.ensures.capacity c.ok.ensures.value c.in_ok-stood.was

pub idle_passes-passes-requires-clause-each : goal.idle_passes-passes-requires-clause-each
idle_passes-passes-requires-clause-each g c =
    let same = written_all c.seat-walkers.result.0.items c.make_steps-stood.new.walkers c.seat-walkers.result.0.len
    (c.make_steps-stood.auto.walkers ∙ ap length c.deref_mut.ensures.value) c.seat-walkers.result.0.ok.0 in
    λ k w e. c.make_steps-stood.ensures.each k w (ap (λ l. slice_get l k) (sym same) ∙ e)

pub idle_passes-passes-requires-clause-done : goal.idle_passes-passes-requires-clause-done
idle_passes-passes-requires-clause-done g c =
    let same = written_all c.seat-walkers.result.0.items c.make_steps-stood.new.walkers c.seat-walkers.result.0.len
    (c.make_steps-stood.auto.walkers ∙ ap length c.deref_mut.ensures.value) c.seat-walkers.result.0.ok.0 in
    λ k w e. c.make_steps-stood.ensures.done k w (ap (λ l. slice_get l k) (sym same) ∙ e)

pub idle_passes-passes-requires-clause-room : goal.idle_passes-passes-requires-clause-room
idle_passes-passes-requires-clause-room g c =
    let long = c.make_steps-stood.auto.walkers ∙ ap length c.deref_mut.ensures.value in
    let same = written_all c.seat-walkers.result.0.items c.make_steps-stood.new.walkers c.seat-walkers.result.0.len long
    c.seat-walkers.result.0.ok.0 in
    let all = ap length same ∙ long ∙ c.seat-walkers.ensures.many in
    let room = c.seat-walkers.ensures.room in
    let ok = c.args.passes.ok in
    omega (arith, all, room, ok)

pub close-root-requires-clause-all : goal.close-root-requires-clause-all
close-root-requires-clause-all g c =
    let long = c.make_steps-stood.auto.walkers ∙ ap length c.deref_mut.ensures.value in
    let same = written_all c.seat-walkers.result.0.items c.make_steps-stood.new.walkers c.seat-walkers.result.0.len long
    c.seat-walkers.result.0.ok.0 in
    let all = ap length same ∙ long ∙ c.seat-walkers.ensures.many ∙ c.requires.all.all in
    subst (λ n. AreAll (λ p. (g.C.Pass.Resting.rest p).context) (g.C.Composed.has c.args.lock) (g.C.Composed.level c.args.lock)
    (g.C.Composed.tag c.args.lock) n c.idle_passes-passes.result.items) all c.idle_passes-passes.ensures
