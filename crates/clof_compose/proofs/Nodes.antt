-- What a token of a level tells of its node.
use Rattle.std.proofs.Common.{◌≡◌, ℕ, zero, suc, ◌+◌, ◌<◌, List, [], ◌∷◌, length, refl, ap, sym, ◌∙◌, subst, arith, Option, Some, None}
use Rattle.std.specs.Prelude.{IsSomeAnd, slice_get}
use Rattle.std.proofs.lemmas.List.{length-map}
use Rattle.lock_rules.specs.Tag.{Tag}
use Rattle.lock_rules.specs.Meanings.{Place}
use Rattle.lock_rules.specs.Passes.{IsOf}
use Rattle.keep_local.specs.declared.shape.Shape.{Shape}
use Rattle.keep_local.specs.Shapes.{callers_of, node_of, top_of}
use Rattle.keep_local.specs.States.{ShareState}
use Rattle.clof_compose.specs.Calls.{MayTurn, MayRelease}
use Rattle.clof_compose.specs.Contexts.{Context, IsContextOf, own_tag}
use Rattle.clof_compose.specs.Courses.{Course, course_of}
use Rattle.clof_compose.specs.Nodes.{IsContextOfNode, IsInShape, IsLevel, IsLockOf, IsOfLevel, locks_of}
use Rattle.clof_compose.specs.Releases.{IsReleasing}
use Rattle.clof_compose.specs.declared.node.Node.{Node}
use Rattle.clof_compose.specs.declared.root.Root.{Root}
use Rattle.clof_compose.proofs.Contexts.{own_tag-tells}
use Rattle.clof_compose.proofs.Tops.{course_is}

pub and_weaker : {A : Type 0} (Q R : A → Type 0) (o : Option A) → ((a : A) → Q a → R a) → IsSomeAnd o Q → IsSomeAnd o R
and_weaker Q R None f h = absurd h
and_weaker Q R (Some a) f h = f a h

pub get_within : {A : Type 0} (xs : List A) (k : ℕ) → k < length xs → (x : A) × (slice_get xs k ≡ Some x)
get_within [] k h = absurd (omega (arith, h))
get_within (x ∷ xs) zero h = (x, refl)
get_within (x ∷ xs) (suc k) h = get_within xs k (omega (arith, h))

some_is : (a b : ℕ) → Some a ≡ Some b → a ≡ b
some_is a b e = cc

module _ {B L HL : Type 0} {name tag : B → Tag} {count : B → ℕ} {place : L → Place} {has : Context → Type 0} {sound : Type 0}
    {high_level high_count : ℕ} {t : Tag} {level keep : ℕ} {parents : List ℕ} {nodes : List (Node B L)} {list : List HL} {capacity : ℕ}
    (is : IsLevel name tag count place has sound high_level high_count t level keep parents nodes list capacity)
    {c : Context} (own : IsOfLevel name tag level parents (locks_of nodes) c) where
  pub node_within : c.node < length nodes
  node_within = is.parents_are c.number c.node own.node_is

  pub level_same : c.level ≡ level
  level_same = ap (λ (x : Context). x.level) own.context_is

  pub level_below : c.level < top_of (course_of t).shape
  level_below = subst (λ n. n < top_of (course_of t).shape) (sym level_same) is.shape_is.below_top

  pub above : high_level ≡ c.level + 1
  above = let e = level_same in let a = is.above in omega (arith, e, a)

  module _ (lock : B) (here : slice_get (locks_of nodes) c.node ≡ Some lock) where
    pub pass_of : IsOf (name lock) (tag lock) c.pass
    pass_of = own.pass_is lock here

    module _ (m : ℕ) (d : Context) (told : own_tag m d ≡ tag lock) where
      lock_is : IsLockOf tag has high_level t c.node lock
      lock_is = is.locks_are c.node lock here

      same : (m ≡ c.node) × (d ≡ lock_is.context)
      same = own_tag-tells m c.node d lock_is.context (told ∙ lock_is.tag_is)

      pub node_same : m ≡ c.node
      node_same = same.0

      -- the value's context in the high lock is that of the node
      pub node_context : IsContextOfNode has c.level t m d
      node_context = record {
        own = subst has (sym same.1) lock_is.is.own;
        level_is = ap (λ (x : Context). x.level) same.1 ∙ lock_is.is.level_is ∙ above;
        tag_is = ap (λ (x : Context). x.tag) same.1 ∙ lock_is.is.tag_is;
        number_is = ap (λ (x : Context). x.number) same.1 ∙ lock_is.is.number_is ∙ sym same.0;
      }

      -- a caller under the context is under the node
      under_node : (shape : Shape) (w : ℕ) → IsInShape shape level keep parents → w < callers_of shape → IsContextOf shape level w c.number
          → node_of shape w level ≡ m
      under_node shape w shaped known at =
          some_is (node_of shape w level) c.node (sym (shaped.paths w c.number known at) ∙ own.node_is) ∙ sym same.0

      -- the share's caller may go on to the high lock
      pub may_go_up : (share : ShareState) → MayTurn (course_of t) level c.number share → MayTurn (course_of t) (c.level + 1) m share
      may_go_up share may = record {
        own = may.own;
        known = may.known;
        quota = may.quota;
        context = record {
          lowest = λ e. absurd (omega (arith, e));
          higher = λ k e. let s = level_same in let k_is : level ≡ k = omega (arith, e, s) in
              sym (under_node (course_of t).shape share.caller is.shape_is may.known may.context)
              ∙ ap (node_of (course_of t).shape share.caller) k_is;
        };
      }

      -- the root as the node's release finds it
      module _ {P : Type 0} (calls : P → List ℕ) (root_tag : P → Tag) where
        pub releasing : (r : Root P) → MayRelease calls root_tag t level c.number r → IsReleasing calls root_tag t c.level keep m r
        releasing r may =
            let shape : (course_of t).shape ≡ r.trail.shape = ap (λ (k : Course). k.shape) (course_is calls root_tag t r may.tagged) in
            let shaped : IsInShape r.trail.shape level keep parents = subst (λ (s : Shape). IsInShape s level keep parents) shape
            is.shape_is in
            let at : IsReleasing calls root_tag t level keep m r = record {
              tagged = may.tagged;
              calls_are = may.calls_are;
              turn = may.turn;
              now = may.now;
              near = λ known. under_node r.trail.shape may.turn.caller shaped known may.context;
              keep_is = shaped.keep_is;
              below_top = shaped.below_top;
              noted = may.noted;
              undue = may.undue;
            } in
            subst (λ (k : ℕ). IsReleasing calls root_tag t k keep m r) (sym level_same) at

  lock_at : (lock : B) × (slice_get (locks_of nodes) c.node ≡ Some lock)
  lock_at = get_within (locks_of nodes) c.node (subst (λ n. c.node < n) (sym (length-map nodes (λ (n : Node B L). n.lock))) node_within)

  -- what the tag of the context's pass tells
  module _ (m : ℕ) (d : Context) (told : own_tag m d ≡ c.pass.tag) where
    told_lock : own_tag m d ≡ tag lock_at.0
    told_lock = told ∙ (pass_of lock_at.0 lock_at.1).tag_is

    pub high_context : IsContextOfNode has c.level t m d
    high_context = node_context lock_at.0 lock_at.1 m d told_lock

    pub high_may : (share : ShareState) → MayTurn (course_of t) level c.number share → MayTurn (course_of t) (c.level + 1) m share
    high_may = may_go_up lock_at.0 lock_at.1 m d told_lock
