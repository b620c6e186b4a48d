-- How a node's holder comes to the root.
use Rattle.std.proofs.Common.{◌≡◌, ℕ, ◌+◌, ◌<◌, ◌⊎◌, inl, inr, ⊎_elim, List, [], ◌∷◌, ◌++◌, map}
use Rattle.std.proofs.Common.{append_assoc, refl, ap, sym, ◌∙◌, subst, arith, Option, Some, None}
use Rattle.std.specs.Prelude.{All, IfSome, IfNone}
use Rattle.std.specs.Option.{option_map_or}
use Rattle.std.proofs.lemmas.List.{append-nil}
use Rattle.std.proofs.lemmas.List.Elements.{All-nil, All-head, All-tail}
use Rattle.lock_rules.specs.Tag.{Tag}
use Rattle.keep_local.specs.declared.shape.Shape.{Shape}
use Rattle.keep_local.specs.declared.turn.Turn.{Turn}
use Rattle.keep_local.specs.Shapes.{top_of, node_of}
use Rattle.keep_local.specs.Turns.{run, last_turn, climb_after, Begins}
use Rattle.keep_local.specs.States.{TrailState, ShareState, IsTrail, IsShareOf, opened}
use Rattle.keep_local.proofs.Runs.{run_none, run_lower, run_higher}
use Rattle.clof_compose.specs.Calls.{MayTurn, HasOpened}
use Rattle.clof_compose.specs.Courses.{Course, course_of}
use Rattle.clof_compose.specs.Owns.{IsHandedOver}
use Rattle.clof_compose.specs.Roots.{root_tag, IsKept}
use Rattle.clof_compose.specs.declared.root.Root.{Root}
use Rattle.clof_compose.proofs.Begun.{begins_at, last_push}
use Rattle.clof_compose.proofs.Tops.{course_is}

-- a list is empty, or has a last element
record Snoc (xs : List Turn) : Type 0 where
  front : List Turn
  last : Turn
  is : xs ≡ front ++ last ∷ []

snoc : (xs : List Turn) → (xs ≡ []) ⊎ Snoc xs
snoc [] = inl refl
snoc (x ∷ xs) = inr (⊎_elim
    (λ (e : xs ≡ []). record { front = []; last = x; is = ap (λ (l : List Turn). x ∷ l) e })
    (λ (s : Snoc xs). record { front = x ∷ s.front; last = s.last; is = ap (λ (l : List Turn). x ∷ l) s.is })
    (snoc xs))

-- a level below the one that a turn has to climb to has no run
pub run_reset : (shape : Shape) (level : ℕ) (turns : List Turn) → level < climb_after shape turns → run level turns ≡ 0
run_reset shape level turns h = ⊎_elim
    (λ (e : turns ≡ []). ap (run level) e ∙ run_none level)
    (λ (s : Snoc turns).
    let climb : climb_after shape turns ≡ s.last.left = ap (λ (o : Option Turn). option_map_or (λ t. t.left) o (top_of shape)) (ap
    last_turn s.is ∙ last_push s.front s.last) in
    ap (run level) s.is ∙ run_higher level s.front s.last (omega (arith, h, climb)))
    (snoc turns)

-- turns that left lower do not change a run
pub run_kept : (level : ℕ) (before more : List Turn) → All (λ t. t.left < level) more → run level (before ++ more) ≡ run level before
run_kept level before [] all = ap (run level) (append-nil before)
run_kept level before (t ∷ ts) all =
    let first : t.left < level = All-head (λ (u : Turn). u.left < level) t ts all in
    let rest = run_kept level (before ++ t ∷ []) ts (All-tail (λ (u : Turn). u.left < level) t ts all) in
    ap (run level) (sym (append_assoc before (t ∷ []) ts)) ∙ rest ∙ run_lower level before t first

-- the share's caller is under the node one level up
pub may_turn_above : (course : Course) (level above node number : ℕ) (share : ShareState) → above ≡ level + 1 → number ≡ node
    → MayTurn course (level + 1) node share → MayTurn course above number share
may_turn_above course level above node number share up is may = record {
  own = may.own;
  known = may.known;
  quota = may.quota;
  context = record { lowest = λ e. absurd (omega (arith, e, up)); higher = λ k e. is ∙ may.context.higher k (sym up ∙ e) };
}

module _ {P : Type 0} (calls : P → List ℕ) (tag : P → Tag) where
  -- the root of a kept high lock, when a turn is opened there
  module _ (t : Tag) (level node kept : ℕ) (share : ShareState) (r : Root P) (over : IsHandedOver calls tag t level node kept r) (may :
      MayTurn (course_of t) (level + 1) node share) where
    pub share_own : share.name ≡ r.trail.name
    share_own = may.own ∙ ap (λ (c : Course). c.name) (course_is calls tag t r over.tagged)

    pub kept_begins : Begins r.trail.shape r.trail.closed (opened r.trail share.caller level)
    kept_begins =
        let shape : (course_of t).shape ≡ r.trail.shape = ap (λ (c : Course). c.shape) (course_is calls tag t r over.tagged) in
        let under : node ≡ node_of (course_of t).shape share.caller level = may.context.higher level refl in
        begins_at r.trail share.caller level over.last over.last_is over.left (sym (ap (λ (s : Shape). node_of s share.caller level)
        shape) ∙ sym under ∙ sym over.near)

    module _ (r' : Root P) (share' : ShareState) (payload : r'.payload ≡ r.payload) (trail : r'.trail ≡ record r.trail {
      current = Some
          (opened r.trail share.caller level);
    }) (same : share'.caller ≡ share.caller)
        (is : IsTrail r'.trail) (counted : IsShareOf r'.trail share') where
      pub kept_opened : HasOpened calls tag t level share' r'
      kept_opened = record {
        tagged = (λ i. root_tag tag (record { trail = trail i; payload = payload i })) ∙ over.tagged;
        trail = is;
        calls_are = ap calls payload ∙ over.settled.calls_are ∙ sym (ap (λ (s : TrailState). map (λ u. u.caller) s.closed) trail);
        is_open = record {
          turn = opened r.trail share.caller level;
          now = ap (λ (s : TrailState). s.current) trail;
          caller_is = sym
              same;
          climbed = omega arith;
        };
        noted = ap (λ (s : TrailState). s.noted) trail ∙ subst (λ (o : Option Turn). IfNone o (r.trail.noted ≡ 0)) over.settled.closed
            over.settled.trail.closed;
        share_is = counted;
      }

      pub kept_in_hand : (above : ℕ) → IsKept calls above r r'
      kept_in_hand above = record {
        name = ap (λ (s : TrailState). s.name) trail;
        receipts = ap (λ (s : TrailState). s.receipts) trail;
        recorded = ap (λ (s : TrailState). s.recorded) trail;
        shape = ap (λ (s : TrailState). s.shape) trail;
        quotas = ap (λ (s : TrailState). s.quotas) trail;
        more = [];
        closed = ap (λ (s : TrailState). s.closed) trail ∙ sym (append-nil r.trail.closed);
        lower = All-nil (λ (u : Turn). u.left < above);
        in_hand = record {
          trail = is;
          settled = λ e. absurd (let x : None ≡ Some (opened r.trail share.caller level) = sym e
              ∙ ap (λ (s : TrailState). s.current) trail in cc);
        };
      }

  -- the root of a high lock that was taken anew
  module _ (t : Tag) (level above : ℕ) (share : ShareState) (r : Root P) (up : above ≡ level + 1) (has : HasOpened calls tag t above
      share r) where
    pub opened_below : HasOpened calls tag t level share r
    opened_below = record {
      tagged = has.tagged;
      trail = has.trail;
      calls_are = has.calls_are;
      is_open = record {
        turn = has.is_open.turn;
        now = has.is_open.now;
        caller_is = has.is_open.caller_is;
        climbed = let c =
            has.is_open.climbed in omega (arith, c, up);
      };
      noted = has.noted;
      share_is = has.share_is;
    }

    pub run_is_none : 0 ≡ run level r.trail.closed
    run_is_none =
        let begins : Begins r.trail.shape r.trail.closed has.is_open.turn = subst (λ (o : Option Turn). IfSome o (λ u. Begins
        r.trail.shape r.trail.closed u)) has.is_open.now has.trail.lawful.1 in
        let climbed = has.is_open.climbed in
        let climb = begins.climb in
        sym (run_reset r.trail.shape level r.trail.closed (omega (arith, climbed, climb, up)))
