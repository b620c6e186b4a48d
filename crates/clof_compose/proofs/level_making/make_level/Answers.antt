use Rattle.std.proofs.Common.{◌≡◌, ℕ, Some, ◌-◌, ◌<◌, length, sym, ◌∙◌, subst, arith, vec_capacity}
use Rattle.std.specs.Prelude.{All, slice_get}
use Rattle.std.proofs.lemmas.Option.{get_or_from_slice_get}
use mathlib.Core.Logic.{dite}
use native.Mathlib.Decide.{ℕ_discrete}
use Rattle.clof_compose.specs.Courses.{course_of}
use Rattle.clof_compose.specs.Levels.{level_context}
use Rattle.clof_compose.specs.Nodes.{AreLocks, IsLevel, IsOfLevel, locks_of}
use Rattle.clof_compose.specs.Passes.{AreAll}
use Rattle.clof_compose.proofs.Lists.{all_each, as_many, given_all, under_some}
use Rattle.clof_compose.proofs.Parents.{parent_within, some_under}
use Rattle.clof_compose.proofs.level_making.make_level.Goals as goal

pub make_nodes-requires-clause-parents : goal.make_nodes-requires-clause-parents
make_nodes-requires-clause-parents g c =
    λ n within.
    let found = some_under (course_of (g.H.Composed.tag c.args.high)).shape c.args.level c.args.keep c.args.parents.now c.requires.shape
    (g.H.Composed.count c.args.high) c.requires.nodes n (subst (λ k. n < k) c.requires.all.all within) in
    under_some c.args.parents.now found.0 n found.1

pub make_nodes-requires-clause-few_nodes : goal.make_nodes-requires-clause-few_nodes
make_nodes-requires-clause-few_nodes g c = dite (ℕ_discrete (length c.args.passes.items) 0)
    (λ e. omega (arith, e))
    (λ ne.
    let all = c.requires.all.all in
    let found = some_under (course_of (g.H.Composed.tag c.args.high)).shape c.args.level c.args.keep c.args.parents.now c.requires.shape
    (g.H.Composed.count c.args.high) c.requires.nodes (length c.args.passes.items - 1) (omega (arith, ne, all)) in
    let small = c.type_inv.parents found.0 in
    let is = get_or_from_slice_get c.args.parents.now found.0 (length c.args.passes.items - 1) 0 found.1 in
    omega (arith, small, is))

pub give_passes-nodes-requires-clause-within : goal.give_passes-nodes-requires-clause-within
give_passes-nodes-requires-clause-within g c =
    λ k n e. subst (λ m. n < m) (sym (c.in-Ok.ensures.many ∙ c.requires.all.all)) (parent_within (course_of (g.H.Composed.tag
    c.args.high)).shape c.args.level c.args.keep c.args.parents.now c.requires.shape (g.H.Composed.count c.args.high) c.requires.nodes
    c.requires.contexts k n e)

pub returns-in-Ok-clause-made : goal.returns-in-Ok-clause-made
returns-in-Ok-clause-made g c =
    subst (λ l. All (λ lock. g.B.Basic.made lock c.args.recipe) l) (sym c.give_passes-nodes.ensures.locks) c.in-Ok.ensures.made

pub returns-in-Ok-clause-sound : goal.returns-in-Ok-clause-sound
returns-in-Ok-clause-sound g c =
    let many = as_many c.give_passes-nodes.result.0.items c.in-Ok.nodes.items c.give_passes-nodes.ensures.locks ∙ c.in-Ok.ensures.many
    ∙ c.requires.all.all in
    let room = c.in-Ok.ensures.list in
    let all = c.requires.all.all in
    subst (λ l. IsLevel g.B.Basic.name g.B.Basic.tag g.B.Basic.count g.B.Pass.Placed.place (g.H.Composed.has c.args.high)
    (g.H.Composed.sound
    c.args.high) (g.H.Composed.level c.args.high) (g.H.Composed.count c.args.high) (g.H.Composed.tag c.args.high) c.args.level c.args.keep l
    c.give_passes-nodes.result.0.items c.in-Ok.list.items (vec_capacity c.in-Ok.list)) (sym c.in-Ok-Ok-Ok.ensures''.items) (record {
      high_is = c.requires.sound;
      above = c.requires.above;
      shape_is = c.requires.shape;
      all_nodes = many;
      parents_are = λ k n e. subst (λ m. n < m) (sym many) (parent_within (course_of (g.H.Composed.tag c.args.high)).shape c.args.level
          c.args.keep c.args.parents.now c.requires.shape (g.H.Composed.count c.args.high) c.requires.nodes c.requires.contexts k n e);
      locks_are = subst (λ l. AreLocks g.B.Basic.tag (g.H.Composed.has c.args.high) (g.H.Composed.level c.args.high) (g.H.Composed.tag
          c.args.high) l) (sym c.give_passes-nodes.ensures.locks) c.in-Ok.ensures.locks;
      unfilled = c.give_passes-nodes.ensures.filled;
      empty = c.in-Ok.ensures.emptied;
      room = omega (arith, room, all);
    })

pub returns-in-Ok-clause-passes : goal.returns-in-Ok-clause-passes
returns-in-Ok-clause-passes g c =
    let within : (k n : ℕ) → slice_get c.args.parents.now k ≡ Some n → n < length c.in-Ok.nodes.items = λ k n e. subst (λ m. n < m) (sym
    (c.in-Ok.ensures.many ∙ c.requires.all.all)) (parent_within (course_of (g.H.Composed.tag
    c.args.high)).shape c.args.level c.args.keep c.args.parents.now c.requires.shape (g.H.Composed.count c.args.high) c.requires.nodes
    c.requires.contexts k n e) in
    let all = given_all g.B.Basic.name g.B.Basic.tag g.B.Pass.Placed.place _ _ (g.H.Composed.tag c.args.high) c.args.level
    c.args.parents.now c.in-Ok.nodes.items c.give_passes-nodes.result.1.items within c.in-Ok.ensures.locks c.give_passes-nodes.ensures.all
    c.give_passes-nodes.ensures.each in
    subst (λ l. AreAll (λ p. level_context p.id.level p.id.node p.id.number (g.B.Pass.Placed.place p.low)) (IsOfLevel g.B.Basic.name
    g.B.Basic.tag c.args.level l (locks_of c.give_passes-nodes.result.0.items)) c.args.level (g.H.Composed.tag c.args.high) (length l)
    c.give_passes-nodes.result.1.items) (sym c.in-Ok-Ok-Ok.ensures''.items)
    (subst (λ l. AreAll (λ p. level_context p.id.level p.id.node p.id.number (g.B.Pass.Placed.place p.low)) (IsOfLevel g.B.Basic.name
    g.B.Basic.tag c.args.level c.args.parents.now l) c.args.level (g.H.Composed.tag c.args.high) (length c.args.parents.now)
    c.give_passes-nodes.result.1.items) (sym c.give_passes-nodes.ensures.locks) all)

pub returns-in-Ok-clause-fresh : goal.returns-in-Ok-clause-fresh
returns-in-Ok-clause-fresh g c = all_each (λ p. p.report.tests ≡ 0) c.give_passes-nodes.result.1.items (λ k p e.
    (c.give_passes-nodes.ensures.each k p e).fresh)
