-- How a node's holder notes the answer of `waiter`, and keeps the high lock or not.
use Rattle.std.proofs.Common.{◌≡◌, ℕ, ◌+◌, ◌<◌, Bool, true, false, List, [], ◌∷◌, ◌++◌, refl, ap, sym, ◌∙◌, subst, arith}
use Rattle.std.proofs.Common.{Option, Some, None}
use Rattle.std.specs.Prelude.{All, IfSome, option_map, slice_index}
use Rattle.std.specs.Int.{bit_at}
use Rattle.std.proofs.lemmas.List.{append-nil}
use Rattle.std.proofs.lemmas.List.Elements.{All-nil, All-cons}
use Rattle.std.proofs.lemmas.Nat.Bits.{bit_at-lt}
use mathlib.Core.Logic.{dite}
use native.Mathlib.Decide.{ℕ_discrete}
use Rattle.lock_rules.specs.Tag.{Tag}
use Rattle.keep_local.specs.declared.turn.Turn.{Turn}
use Rattle.keep_local.specs.Shapes.{top_of, callers_of, node_of}
use Rattle.keep_local.specs.Turns.{run, last_turn, Ends, IsDue}
use Rattle.keep_local.specs.States.{TrailState, IsTrail, IsNoting, MayLeave, callers_in, all_tests, all_turns, option_list, left_at, tested}
use Rattle.keep_local.proofs.Runs.{run_same}
use Rattle.keep_local.proofs.Trails.{with_test_other, with_test_same}
use Rattle.clof_compose.specs.Calls.{ClosesWith, MayRelease, SameBelow}
use Rattle.clof_compose.specs.Owns.{IsHandedOver, bit_of}
use Rattle.clof_compose.specs.Releases.{IsReleasing}
use Rattle.clof_compose.specs.Roots.{root_tag, IsKept}
use Rattle.clof_compose.specs.declared.report.Report.{Report}
use Rattle.clof_compose.specs.declared.root.Root.{Root}
use Rattle.clof_compose.proofs.Begun.{all_last, last_push, leaves_at_level}
use Rattle.clof_compose.proofs.Closes.{closes_now, ends_at}
use Rattle.clof_compose.proofs.Tops.{calls_closed, closed_is}

callers_noted : (turns : List Turn) (t u : Turn) → t.caller ≡ u.caller → callers_in (turns ++ t ∷ []) ≡ callers_in (turns ++ u ∷ [])
callers_noted [] t u e = λ i. e i ∷ []
callers_noted (x ∷ xs) t u e = λ i. x.caller ∷ callers_noted xs t u e i

module _ {P : Type 0} (calls : P → List ℕ) (tag : P → Tag) (t : Tag) (level keep node : ℕ) (yes : Bool) (r r₁ : Root P) (is : IsReleasing
    calls tag t level keep node r) (payload : r₁.payload ≡ r.payload)
    (trail : r₁.trail ≡ record r.trail { current = option_map (λ u. tested u level yes) r.trail.current; noted = level + 1 }) (lawful :
    IsTrail r₁.trail) (was : IsTrail r.trail) where
  abbrev noted_turn : Turn
  noted_turn = tested is.turn level yes

  pub noted_is : r₁.trail ≡ record r.trail { current = Some noted_turn; noted = level + 1 }
  noted_is = trail ∙ ap (λ (o : Option Turn). record r.trail { current = option_map (λ u. tested u level yes) o; noted = level + 1 }) is.now

  closed_same : r₁.trail.closed ≡ r.trail.closed
  closed_same = ap (λ (s : TrailState). s.closed) noted_is

  shape_same : r₁.trail.shape ≡ r.trail.shape
  shape_same = ap (λ (s : TrailState). s.shape) noted_is

  -- the open turn is of a caller of the shape, and so under the node
  near : node_of r.trail.shape is.turn.caller level ≡ node
  near =
      let all : All (λ u. u.caller < callers_of r.trail.shape) (r.trail.closed ++ is.turn ∷ []) = subst (λ (o : Option Turn). All (λ u.
      u.caller < callers_of r.trail.shape) (r.trail.closed ++ option_list o)) is.now was.known in
      is.near (all_last (λ u. u.caller < callers_of r.trail.shape) (r.trail.closed ++ is.turn ∷ []) is.turn (last_push r.trail.closed
      is.turn) all)

  -- nothing was noted at this level before
  no_bit : bit_at is.turn.tests level ≡ 0
  no_bit =
      let noting : IsNoting r.trail.shape r.trail.noted is.turn = subst (λ (o : Option Turn). IfSome o (λ u. IsNoting r.trail.shape
      r.trail.noted u)) is.now was.noting in
      let small = bit_at-lt is.turn.tests level in
      dite (ℕ_discrete (bit_at is.turn.tests level) 1)
      (λ e. let below : level < r.trail.noted = noting.tests level e in let n = is.noted in absurd (omega (arith, below, n)))
      (λ ne. omega (arith, ne, small))

  pub bit_is : bit_at noted_turn.tests level ≡ bit_of yes
  bit_is = with_test_same is.turn.tests level yes no_bit

  pub below_same : SameBelow level is.turn.tests noted_turn.tests
  below_same j h = with_test_other is.turn.tests level j yes (omega (arith, h))

  undue_below : (j : ℕ) → j < level → ¬ IsDue r₁.trail.shape r₁.trail.closed noted_turn.tests j
  undue_below j h due = is.undue j h (record {
    queued = sym (below_same j h) ∙ due.queued;
    below = subst (λ (s : TrailState). run j s.closed < slice_index s.shape.keeps j) noted_is due.below;
  })

  calls_same : calls r₁.payload ≡ callers_in (all_turns r₁.trail)
  calls_same = ap calls payload ∙ is.calls_are ∙ ap (λ (o : Option Turn). callers_in (r.trail.closed ++ option_list o)) is.now
      ∙ callers_noted r.trail.closed is.turn noted_turn refl
      ∙ sym (ap (λ (s : TrailState). callers_in (all_turns s)) noted_is)

  tag_same : root_tag tag r₁ ≡ t
  tag_same = (λ i. root_tag tag (record { trail = noted_is i; payload = payload i })) ∙ is.tagged

  -- the note leaves the holder where it stands
  pub noted_kept : (above : ℕ) → IsKept calls above r r₁
  noted_kept above = record {
    name = ap (λ (s : TrailState). s.name) noted_is;
    receipts = ap (λ (s : TrailState). s.receipts) noted_is;
    recorded = ap (λ (s : TrailState). s.recorded) noted_is;
    shape = shape_same;
    quotas = ap (λ (s : TrailState). s.quotas) noted_is;
    more = [];
    closed = closed_same ∙ sym (append-nil r.trail.closed);
    lower = All-nil (λ (u : Turn). u.left < above);
    in_hand = record {
      trail = lawful;
      settled = λ e. absurd (let x : None ≡ Some noted_turn = sym e
          ∙ ap (λ (s : TrailState). s.current) noted_is in cc);
    };
  }

  one_is_yes : (b : Bool) → bit_of b ≡ 1 → b ≡ true
  one_is_yes true e = refl
  one_is_yes false e = absurd (omega arith)

  undue_here : (yes ≡ true → ¬ (run level r.trail.closed < keep)) → ¬ IsDue r₁.trail.shape r₁.trail.closed noted_turn.tests level
  undue_here not_kept due =
      let below : run level r.trail.closed < slice_index r.trail.shape.keeps level = subst (λ (s : TrailState). run level s.closed <
      slice_index s.shape.keeps level) noted_is due.below in
      let keep_is = is.keep_is in
      not_kept (one_is_yes yes (sym bit_is ∙ due.queued)) (omega (arith, below, keep_is))

  -- where the level must not be kept, the high lock may be released
  pub may_release_above : (above : ℕ) → above ≡ level + 1 → (yes ≡ true → ¬ (run level r.trail.closed < keep))
      → MayRelease calls tag t above node r₁
  may_release_above above up not_kept = record {
    tagged = tag_same;
    calls_are = calls_same;
    turn = noted_turn;
    now = ap (λ (s : TrailState). s.current) noted_is;
    context = record {
      lowest = λ e. absurd (omega (arith, e, up));
      higher = λ k e. let k_is : k ≡ level = omega (arith, e, up) in sym (ap (λ (n : ℕ). node_of r₁.trail.shape is.turn.caller n) k_is
          ∙ ap (λ s. node_of s is.turn.caller level) shape_same ∙ near);
    };
    noted = ap (λ (s : TrailState). s.noted) noted_is ∙ sym up;
    undue = λ j h due. dite (ℕ_discrete j level)
        (λ same. undue_here not_kept (subst (λ (n : ℕ). IsDue r₁.trail.shape r₁.trail.closed noted_turn.tests n) same due))
        (λ other. undue_below j (omega (arith, h, up, other)) due);
  }

  -- where it is kept, the turn leaves at the level
  module _ (kept : ℕ) (answered : yes ≡ true) (below : kept < keep) (kept_is : kept ≡ run level r.trail.closed) where
    due_here : IsDue r₁.trail.shape r₁.trail.closed noted_turn.tests level
    due_here = record {
      queued = bit_is ∙ ap bit_of answered;
      below = let k = is.keep_is in subst (λ (s : TrailState). run level s.closed < slice_index s.shape.keeps level) (sym noted_is)
          (omega (arith, below, kept_is, k));
    }

    may_leave_noted : MayLeave r₁.trail level noted_turn
    may_leave_noted = leaves_at_level r₁.trail noted_turn level (subst (λ s. level < top_of s) (sym shape_same) is.below_top)
        (ap (λ (s : TrailState). s.noted) noted_is) due_here undue_below

    pub may_leave_here : IfSome r₁.trail.current (MayLeave r₁.trail level)
    may_leave_here = subst (λ (o : Option Turn). IfSome o (MayLeave r₁.trail level)) (sym (ap (λ (s : TrailState). s.current) noted_is))
        may_leave_noted

    -- with the tests that it has then
    pub closes_here : (n : Report) → n.tests ≡ noted_turn.tests → n.receipt.name ≡ r₁.trail.receipts
        → n.receipt.tests ≡ all_tests r₁.trail.closed ++ n.tests ∷ [] → ClosesWith level n r
    closes_here n e own told =
        let noting : IsNoting r₁.trail.shape r₁.trail.noted noted_turn = subst (λ (o : Option Turn). IfSome o (IsNoting r₁.trail.shape
        r₁.trail.noted)) (ap (λ (s : TrailState). s.current) noted_is) lawful.noting in
        let ends : Ends r.trail.shape r.trail.closed (left_at noted_turn level) = subst (λ (s : TrailState). Ends s.shape s.closed
        (left_at noted_turn level)) noted_is (ends_at r₁.trail noted_turn level may_leave_noted noting) in
        closes_now level n r is.turn noted_turn.tests is.now below_same e ends (own ∙ ap (λ (s : TrailState). s.receipts) noted_is)
        (told ∙ ap (λ (s : TrailState). all_tests s.closed ++ n.tests ∷ []) noted_is)

    module _ (r₂ : Root P) (payload' : r₂.payload ≡ r₁.payload)
        (trail' : r₂.trail ≡ record r₁.trail {
          closed = r₁.trail.closed ++ option_list (option_map (λ u. left_at u level)
              r₁.trail.current);
          current = None;
          noted = 0;
        }) (lawful' : IsTrail r₂.trail) where
      left_is : r₂.trail ≡ record r₁.trail { closed = r₁.trail.closed ++ left_at noted_turn level ∷ []; current = None; noted = 0 }
      left_is = closed_is calls tag r₁.trail r₂.trail noted_turn level (ap (λ (s : TrailState). s.current) noted_is) trail'

      settled_calls : calls r₂.payload ≡ callers_in r₂.trail.closed
      settled_calls = ap calls payload' ∙ calls_closed calls tag r₁ noted_turn level (ap (λ (s : TrailState). s.current) noted_is)
          calls_same ∙ sym (ap (λ (s : TrailState). callers_in s.closed) left_is)

      pub left_over : IsHandedOver calls tag t level node (kept + 1) r₂
      left_over =
          let closed : r₂.trail.closed ≡ r₁.trail.closed ++ left_at noted_turn level ∷ [] = ap (λ (s : TrailState). s.closed) left_is in
          let counted = run_same level r₁.trail.closed (left_at noted_turn level) refl in
          let before : run level r₁.trail.closed ≡ run level r.trail.closed = ap (run level) closed_same in
          let after : run level r₂.trail.closed ≡ run level (r₁.trail.closed ++ left_at noted_turn level ∷ []) = ap (run level) closed in
          record {
            tagged = (λ i. root_tag tag (record { trail = left_is i; payload = payload' i })) ∙ tag_same;
            settled = record { trail = lawful'; closed = ap (λ (s : TrailState). s.current) left_is; calls_are = settled_calls };
            last = left_at noted_turn level;
            last_is = ap last_turn closed ∙ last_push r₁.trail.closed (left_at noted_turn level);
            left = refl;
            near = ap (λ (s : TrailState). node_of s.shape is.turn.caller level) left_is
                ∙ ap (λ s. node_of s is.turn.caller level) shape_same ∙ near;
            kept_is = omega (arith, counted, before, after, kept_is);
          }

      pub left_kept : (above : ℕ) → level < above → IsKept calls above r₁ r₂
      left_kept above h = record {
        name = ap (λ (s : TrailState). s.name) left_is;
        receipts = ap (λ (s : TrailState). s.receipts) left_is;
        recorded = ap (λ (s : TrailState). s.recorded) left_is;
        shape = ap (λ (s : TrailState). s.shape) left_is;
        quotas = ap (λ (s : TrailState). s.quotas) left_is;
        more = left_at noted_turn level ∷ [];
        closed = ap (λ (s : TrailState). s.closed) left_is;
        lower = All-cons (λ (u : Turn). u.left < above) (left_at noted_turn level) [] h (All-nil (λ (u : Turn). u.left < above));
        in_hand = record { trail = lawful'; settled = λ e. settled_calls };
      }
