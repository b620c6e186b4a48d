use Rattle.std.proofs.Common.{List, length, ap, sym, ◌∙◌, subst, arith}
use Rattle.std.specs.Prelude.{slice_get}
use Rattle.std.proofs.lemmas.List.{length-map}
use Rattle.std.proofs.lemmas.Option.{IfSome_then}
use Rattle.keep_local.specs.States.{ShareState}
use Rattle.clof_compose.specs.Courses.{course_of}
use Rattle.run_texts.specs.declared.section.Section.{Section}
use Rattle.threaded_runner.proofs.Dealt.{counts}
use Rattle.fresh_runner.specs.Crews.{AreLists}
use Rattle.fresh_runner.specs.declared.lists.Lists.{Lists}
use Rattle.fresh_runner.proofs.Brought.{are_lists, both, many_shares}
use Rattle.fresh_runner.proofs.running.rooms_for.Goals as goal

pub returns-clause-lists : goal.returns-clause-lists
returns-clause-lists g c =
    let has = g.C.Composed.has c.args._lock.now in
    let level = g.C.Composed.level c.args._lock.now in
    let tag = g.C.Composed.tag c.args._lock.now in
    let as_sections = length-map c.args._sections.now (λ (section : Section). section.bytes.now) in
    let value = c.deref.ensures.value in
    IfSome_then c.rooms.result (both c.rooms.result _ _ c.rooms.ensures.many c.rooms.ensures.marks) (λ made is.
    let lists : Lists _ = record { passes = c.args._passes.now; shares = c.args.shares.now; seens = c.args._seens.now; marks = made.1 } in
    subst (λ n. AreLists g.C.Pass.Resting.rest has level tag n lists) as_sections (are_lists g.C.Pass.Resting.rest has level tag _ _ lists
    c.requires.passes (c.requires.count ∙ sym as_sections) c.requires.dealt (is.0 ∙ ap length value)
    (λ k s m here there. is.1 k s m (ap (λ (l : List ShareState). slice_get l k) value ∙ here) there)))

pub returns-clause-quotas : goal.returns-clause-quotas
returns-clause-quotas g c = c.requires.dealt.dealt.quotas ∙ sym (counts c.args._sections.now)

pub returns-clause-room : goal.returns-clause-room
returns-clause-room g c =
    let as_sections = length-map c.args._sections.now (λ (section : Section). section.bytes.now) in
    let many = many_shares (course_of (g.C.Composed.tag c.args._lock.now)) _ c.args.shares.now.items c.args._seens.now.items
    c.requires.dealt in
    let asked = ap length c.deref.ensures.value in
    IfSome_then c.rooms.result c.rooms.ensures.jobs_room (λ made room. omega (arith, many, as_sections, asked, room))

pub returns-clause-stopped_room : goal.returns-clause-stopped_room
returns-clause-stopped_room g c =
    let as_sections = length-map c.args._sections.now (λ (section : Section). section.bytes.now) in
    let many = many_shares (course_of (g.C.Composed.tag c.args._lock.now)) _ c.args.shares.now.items c.args._seens.now.items
    c.requires.dealt in
    let count = c.requires.count in
    let asked = ap length c.deref.ensures.value in
    IfSome_then c.rooms.result c.rooms.ensures.stopped_room (λ made room. omega (arith, many, as_sections, asked, room, count))
