use Rattle.std.proofs.Common.{◌≡◌, ℕ, List, [], reverse, length, ap, sym, ◌∙◌, subst, arith, Some, None}
use Rattle.std.specs.Prelude.{slice_get}
use Rattle.lock_rules.specs.Tag.{Tag}
use Rattle.clof_compose.specs.Contexts.{Context}
use Rattle.clof_compose.specs.Nodes.{AreFilled, AreLocks, FallsTo, IsOfLevel, locks_of, under}
use Rattle.clof_compose.specs.Passes.{AreAll, AreFrom}
use Rattle.clof_compose.proofs.Lists.{as_many, full}
use Rattle.clof_compose.proofs.level.LevelPassPassComposed.close.Goals as goal

-- the pass of a context of a level falls to its number
falls_there : {B : Type 0} (name tag : B → Tag) (level : ℕ) (parents : List ℕ) (locks : List B) (c : Context) (k : ℕ)
    → IsOfLevel name tag level parents locks c → c.number ≡ k → FallsTo name tag parents locks k c.pass
falls_there {B} name tag level parents locks c k is number n lock at here =
    let node : c.node ≡ n = (let h : Some c.node ≡ Some n = sym is.node_is ∙ ap (slice_get parents) number ∙ at in cc) in
    let of = is.pass_is lock (ap (slice_get locks) node ∙ here) in
    let turn : c.pass.number ≡ under parents n k = is.number_is ∙ (λ i. under parents (node i) (number i)) in
    λ i. record { lock = of.lock_is i; tag = of.tag_is i; number = turn i }

none_from : {P : Type 0} (context : P → Context) (has : Context → Type 0) (level : ℕ) (t : Tag) (first : ℕ) (passes : List P)
    → passes ≡ [] → AreFrom context has level t first (reverse passes)
none_from {P} context has level t first passes none k p e =
    let never : None ≡ Some p = ap (λ (l : List P). slice_get (reverse l) k) (sym none) ∙ e in absurd (cc)

pub take_passes-nodes-requires-clause-within : goal.take_passes-nodes-requires-clause-within
take_passes-nodes-requires-clause-within g c =
    λ k n e. c.requires.sound.parents_are k n (ap (λ l. slice_get l k) (sym c.deref.ensures.value) ∙ e)

pub take_passes-nodes-requires-clause-filled : goal.take_passes-nodes-requires-clause-filled
take_passes-nodes-requires-clause-filled g c =
    subst (λ l. AreFilled g.B.Basic.name g.B.Basic.tag g.B.Basic.count g.B.Pass.Placed.place l 0 c.args.self.nodes.items) (sym
    c.deref.ensures.value) c.requires.sound.unfilled

pub take_passes-nodes-requires-clause-all : goal.take_passes-nodes-requires-clause-all
take_passes-nodes-requires-clause-all g c = c.requires.all.all ∙ ap length (sym c.deref.ensures.value)

pub take_passes-nodes-requires-clause-each : goal.take_passes-nodes-requires-clause-each
take_passes-nodes-requires-clause-each g c = λ k p e.
    let is = c.requires.all.each k p e in
    subst (λ l. FallsTo g.B.Basic.name g.B.Basic.tag l (locks_of c.args.self.nodes.items) k (g.B.Pass.Placed.place p.low)) (sym
    c.deref.ensures.value) (falls_there _ _ _ _ _ _ k is.own is.number_is)

pub close_nodes-passes-requires-clause-locks : goal.close_nodes-passes-requires-clause-locks
close_nodes-passes-requires-clause-locks g c =
    subst (λ l. AreLocks g.B.Basic.tag (g.H.Composed.has c.args.self.high) (g.H.Composed.level c.args.self.high) (g.H.Composed.tag
    c.args.self.high) l) (sym c.take_passes-nodes.ensures.locks) c.requires.sound.locks_are

pub close_nodes-passes-requires-clause-full : goal.close_nodes-passes-requires-clause-full
close_nodes-passes-requires-clause-full g c = full _ _ c.take_passes-nodes.ensures.filled

pub close_nodes-passes-requires-clause-behind : goal.close_nodes-passes-requires-clause-behind
close_nodes-passes-requires-clause-behind g c = none_from _ _ _ _ _ _ c.requires.sound.empty

pub close_nodes-passes-requires-clause-room : goal.close_nodes-passes-requires-clause-room
close_nodes-passes-requires-clause-room g c =
    let many = as_many _ _ c.take_passes-nodes.ensures.locks in
    let all = c.requires.sound.all_nodes in
    let none = ap length c.requires.sound.empty in
    let room = c.requires.sound.room in
    omega (arith, many, all, none, room)

pub close-requires-clause-sound : goal.close-requires-clause-sound
close-requires-clause-sound g c = c.requires.sound.high_is

pub close-requires-clause-all : goal.close-requires-clause-all
close-requires-clause-all g c =
    let many = as_many _ _ c.take_passes-nodes.ensures.locks in
    let all = c.requires.sound.all_nodes in
    let none = ap length c.requires.sound.empty in
    subst (λ n. AreAll (λ p. (g.H.Pass.Resting.rest p).context) (g.H.Composed.has c.args.self.high) (g.H.Composed.level
    c.args.self.high) (g.H.Composed.tag c.args.self.high) n c.close_nodes-passes.result.items) (omega (arith, many, all, none))
    c.close_nodes-passes.ensures
