-- How a node's value is kept for the next one, or gets ready for the release of the high lock.
use Rattle.std.proofs.Common.{◌≡◌, ℕ, ◌+◌, ◌<◌, ◌≤◌, Bool, true, List, [], ◌∷◌, ◌++◌, refl, ap, sym, ◌∙◌, subst, arith, Option, Some, None}
use Rattle.std.specs.Prelude.{IfSome, IsSomeAnd, option_map}
use Rattle.std.specs.Int.{bit_at}
use Rattle.lock_rules.specs.Tag.{Tag}
use Rattle.keep_local.specs.Turns.{run}
use Rattle.keep_local.specs.States.{TrailState, IsTrail, MayLeave, all_tests, option_list, left_at, tested, tests_of}
use Rattle.clof_compose.specs.Calls.{ClosesWith, MayRelease, tests_in}
use Rattle.clof_compose.specs.Contexts.{Context}
use Rattle.clof_compose.specs.Levels.{IsStanding, kept_stand, high_with_root}
use Rattle.clof_compose.specs.Meanings.{Rest, Stand}
use Rattle.clof_compose.specs.Owns.{IsHandedOver, IsOwnFit, bit_of}
use Rattle.clof_compose.specs.Releases.{HasNoted, IsReleasing}
use Rattle.clof_compose.specs.Roots.{IsKept}
use Rattle.clof_compose.specs.declared.own.High.{High}
use Rattle.clof_compose.specs.declared.report.Report.{Report}
use Rattle.clof_compose.specs.declared.root.Root.{Root}
use Rattle.clof_compose.proofs.Owned.{at_root, if_root, some_with, kept_fits}
use Rattle.clof_compose.proofs.Released.{bit_is, noted_is, noted_kept, may_release_above, may_leave_here, closes_here, left_over, left_kept}

module _ {P Pass Held : Type 0} (rest : Pass → Rest) (stand : Held → Stand (Root P)) (stands : Held → Type 0) (put : Held → Root P
    → Held) (calls : P → List ℕ) (tag : P → Tag)
    (level keep node kept : ℕ) (yes : Bool) (high : High Pass Held) (r r₁ : Root P)
    (value : (kept_stand stand high).root ≡ Some r)
    (others : (x : Root P) → kept_stand stand (high_with_root put high x) ≡ record (kept_stand stand high) { root = Some x })
    (stays : (x : Root P) → IsKept calls (kept_stand stand high).context.level r x → IsStanding stands (high_with_root put high x))
    (above : (kept_stand stand high).context.level ≡ level + 1)
    (number : (kept_stand stand high).context.number ≡ node)
    (kept_some : IfSome (kept_stand stand high).root (λ q. kept ≡ run level q.trail.closed))
    (releasing : IsSomeAnd (kept_stand stand high).root (IsReleasing calls tag (kept_stand stand high).context.tag level keep node))
    (payload : r₁.payload ≡ r.payload)
    (noted : r₁.trail ≡ record r.trail { current = option_map (λ u. tested u level yes) r.trail.current; noted = level + 1 })
    (lawful : IsTrail r₁.trail) (was : IsTrail r.trail) where
  rel : IsReleasing calls tag (kept_stand stand high).context.tag level keep node r
  rel = at_root (IsReleasing calls tag (kept_stand stand high).context.tag level keep node) (kept_stand stand high).root r value releasing

  kept_is : kept ≡ run level r.trail.closed
  kept_is = if_root (λ (q : Root P). kept ≡ run level q.trail.closed) (kept_stand stand high).root r value kept_some

  abbrev high₁ : High Pass Held
  high₁ = high_with_root put high r₁

  pub stands_noted : IsStanding stands high₁
  stands_noted = stays r₁ (noted_kept calls tag (kept_stand stand high).context.tag level keep node yes r r₁ rel payload noted lawful was
      (kept_stand stand high).context.level)

  pub ready_above : (yes ≡ true → keep ≤ kept) → IsSomeAnd (kept_stand stand high₁).root (MayRelease calls tag (kept_stand stand
      high).context.tag (level + 1) node)
  ready_above full = some_with (MayRelease calls tag (kept_stand stand high).context.tag (level + 1) node) (kept_stand stand high)
      (kept_stand stand high₁) r₁ (others r₁)
      (may_release_above calls tag (kept_stand stand high).context.tag level keep node yes r r₁ rel payload noted lawful was
      (level + 1) refl (λ e below. let f : keep ≤ kept = full e in let k = kept_is in absurd (omega (arith, f, below, k))))

  turn_is : r₁.trail.current ≡ Some (tested rel.turn level yes)
  turn_is = ap (λ (s : TrailState). s.current) (noted_is calls tag (kept_stand stand high).context.tag level keep node yes r r₁ rel
      payload noted lawful was)

  tests_noted : tests_in (kept_stand stand high₁).root ≡ (tested rel.turn level yes).tests
  tests_noted = ap (λ (s : Stand (Root P)). tests_in s.root) (others r₁) ∙ ap tests_of turn_is

  pub bit_noted : bit_at (tests_in (kept_stand stand high₁).root) level ≡ bit_of yes
  bit_noted = ap (λ (n : ℕ). bit_at n level) tests_noted ∙ bit_is calls tag (kept_stand stand high).context.tag level keep node yes r r₁
      rel payload noted lawful was

  pub all_noted : IsSomeAnd (kept_stand stand high).root (λ x. IsSomeAnd (kept_stand stand high₁).root (HasNoted level yes x))
  all_noted = subst (λ (o : Option (Root P)). IsSomeAnd o (λ x. IsSomeAnd (kept_stand stand high₁).root (HasNoted level yes x))) (sym value)
      (some_with (HasNoted level yes r) (kept_stand stand high) (kept_stand stand high₁) r₁ (others r₁) (record {
        payload = payload;
        trail = noted;
      }))

  module _ (r₁' : Root P) (value₁ : (kept_stand stand high₁).root ≡ Some r₁') where
    pub root_same : r₁ ≡ r₁'
    root_same = let e : Some r₁ ≡ Some r₁' = sym (ap (λ (s : Stand (Root P)). s.root) (others r₁)) ∙ value₁ in cc

    module _ (answered : yes ≡ true) (below : kept < keep) where
      pub may_leave : IfSome r₁'.trail.current (MayLeave r₁'.trail level)
      may_leave = subst (λ (q : Root P). IfSome q.trail.current (MayLeave q.trail level)) root_same
          (may_leave_here calls tag (kept_stand stand high).context.tag level keep node yes r r₁ rel payload noted lawful was kept answered
          below kept_is)

      pub closes_kept : (n : Report) → n.tests ≡ tests_of r₁'.trail.current → n.receipt.name ≡ r₁'.trail.receipts
          → n.receipt.tests ≡ all_tests r₁'.trail.closed ++ n.tests ∷ []
          → IsSomeAnd (kept_stand stand high).root (ClosesWith level n)
      closes_kept n e own told = subst (λ (o : Option (Root P)). IsSomeAnd o (ClosesWith level n)) (sym value)
          (closes_here calls tag (kept_stand stand high).context.tag level keep node yes r r₁ rel payload noted lawful was kept answered
          below kept_is n (e ∙ ap (λ (q : Root P). tests_of q.trail.current) (sym root_same) ∙ ap tests_of turn_is)
          (own ∙ ap (λ (q : Root P). q.trail.receipts) (sym root_same))
          (told ∙ ap (λ (q : Root P). all_tests q.trail.closed ++ n.tests ∷ []) (sym root_same)))

      module _ (others₁ : (x : Root P) → kept_stand stand (high_with_root put high₁ x) ≡ record (kept_stand stand high₁) { root = Some x })
          (stays₁ : (x : Root P) → IsKept calls (kept_stand stand high₁).context.level r₁' x
          → IsStanding stands (high_with_root put high₁ x))
          (r₂ : Root P) (payload₂ : r₂.payload ≡ r₁'.payload)
          (trail₂ : r₂.trail ≡ record r₁'.trail {
            closed = r₁'.trail.closed ++ option_list (option_map (λ u. left_at u level)
                r₁'.trail.current);
            current = None;
            noted = 0;
          })
          (lawful₂ : IsTrail r₂.trail) where
        payload₃ : r₂.payload ≡ r₁.payload
        payload₃ = payload₂ ∙ ap (λ (q : Root P). q.payload) (sym root_same)

        trail₃ : r₂.trail ≡ record r₁.trail {
          closed = r₁.trail.closed ++ option_list (option_map (λ u. left_at u level)
              r₁.trail.current);
          current = None;
          noted = 0;
        }
        trail₃ = trail₂ ∙ ap (λ (q : Root P). record q.trail {
          closed = q.trail.closed ++ option_list (option_map (λ u. left_at u level)
              q.trail.current);
          current = None;
          noted = 0;
        }) (sym root_same)

        above₁ : (kept_stand stand high₁).context.level ≡ level + 1
        above₁ = ap (λ (s : Stand (Root P)). s.context.level) (others r₁) ∙ above

        pub stands_left : IsStanding stands (high_with_root put high₁ r₂)
        stands_left = stays₁ r₂ (subst (λ (q : Root P). IsKept calls (kept_stand stand high₁).context.level q r₂) root_same
            (left_kept calls tag (kept_stand stand high).context.tag level keep node yes r r₁ rel payload noted lawful was kept answered
            below kept_is r₂ payload₃ trail₃ lawful₂ (kept_stand stand high₁).context.level (let a = above₁ in omega (arith, a))))

        pub context_left : (kept_stand stand (high_with_root put high₁ r₂)).context ≡ (kept_stand stand high).context
        context_left = ap (λ (s : Stand (Root P)). s.context) (others₁ r₂) ∙ ap (λ (s : Stand (Root P)). s.context) (others r₁)

        pub fits_left : IsOwnFit rest stand calls tag stands node (kept + 1) yes (high_with_root put high₁ r₂)
        fits_left =
            let over = left_over calls tag (kept_stand stand high).context.tag level keep node yes r r₁ rel payload noted lawful was kept
            answered below kept_is r₂ payload₃ trail₃ lawful₂ in
            let over' : IsHandedOver calls tag (kept_stand stand (high_with_root put high₁ r₂)).context.tag level node (kept + 1) r₂ =
            subst (λ (x : Context). IsHandedOver calls tag x.tag level node (kept + 1) r₂) (sym context_left) over in
            kept_fits rest stand stands calls tag (high_with_root put high₁ r₂) level node (kept + 1) yes stands_left (ap (λ (x :
            Context). x.level) context_left ∙ above) (ap (λ (x : Context). x.number) context_left ∙ number) answered
            (some_with (IsHandedOver calls tag (kept_stand stand (high_with_root put high₁ r₂)).context.tag level node (kept + 1))
            (kept_stand stand high₁) (kept_stand stand (high_with_root put high₁ r₂)) r₂ (others₁ r₂) over')
