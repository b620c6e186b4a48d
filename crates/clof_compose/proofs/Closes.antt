-- With which tests a release closes the open turn.
use Rattle.std.proofs.Common.{◌≡◌, ℕ, ◌+◌, ◌≢◌, Bool, [], ◌∷◌, ◌++◌, refl, ap, sym, ◌∙◌, subst, arith, Option, Some, None}
use Rattle.std.specs.Prelude.{IfSome, IsSomeAnd, List}
use Rattle.std.specs.Int.{bit_at}
use Rattle.lock_rules.specs.Tag.{Tag}
use Rattle.lock_rules.specs.Steps.{IfNot, IfGot}
use Rattle.lock_rules.specs.declared.step.Step.{Step}
use Rattle.lock_rules.specs.declared.step.Step.TheVariants.{Not, Got}
use Rattle.keep_local.specs.declared.turn.Turn.{Turn}
use Rattle.keep_local.specs.Shapes.{top_of}
use Rattle.keep_local.specs.Turns.{Ends}
use Rattle.keep_local.specs.States.{TrailState, IsTrail, IsNoting, MayLeave, all_tests, left_at, tested, tests_of}
use Rattle.keep_local.proofs.Trails.{with_test_other}
use Rattle.clof_compose.specs.Calls.{ClosesWith, MayRelease, SameBelow, tests_in}
use Rattle.clof_compose.specs.Courses.{course_of}
use Rattle.clof_compose.specs.Releases.{HasNoted}
use Rattle.clof_compose.specs.declared.report.Report.{Report}
use Rattle.clof_compose.specs.declared.root.Root.{Root}
use Rattle.clof_compose.proofs.Tops.{map_some, top_may_leave}

-- an open turn that may leave at a level ends there with the tests that it has
pub ends_at : (s : TrailState) (t : Turn) (level : ℕ) → MayLeave s level t → IsNoting s.shape s.noted t
    → Ends s.shape s.closed (left_at t level)
ends_at s t level may noting = record {
  left = may.left;
  tests = λ k e. let below = noting.tests k e in let noted = may.noted in (omega (arith, below, noted), omega (arith, below, noted));
}

module _ {P : Type 0} where
  -- what closes the turn from the next level on, once an answer is noted at the level, closes it from the level on
  pub closes_lower : (level : ℕ) (n : Report) (said : Bool) (r r₁ : Root P) → HasNoted level said r r₁ → ClosesWith (level + 1) n r₁
      → ClosesWith level n r
  closes_lower level n said r r₁ is closes =
      let found = map_some (λ t. tested t level said) r.trail.current closes.turn (sym (ap (λ (s : TrailState). s.current) is.trail)
      ∙ closes.now) in
      let higher = closes.above in
      let ends : Ends r.trail.shape r.trail.closed (record closes.turn { tests = n.tests; left = closes.left }) = subst (λ
      (s : TrailState). Ends s.shape s.closed (record closes.turn { tests = n.tests; left = closes.left })) is.trail closes.ends in record {
        turn = found.0;
        now = found.1;
        same = λ j h. let other : j ≢ level = omega (arith, h) in
            closes.same j (omega (arith, h)) ∙ sym (ap (λ (t : Turn). bit_at t.tests j) found.2)
            ∙ with_test_other found.0.tests level j said other;
        left = closes.left;
        above = omega (arith, higher);
        ends = subst (λ (t : Turn). Ends r.trail.shape r.trail.closed (record t { tests = n.tests; left = closes.left }))
            (sym found.2) ends;
        own = closes.own ∙ ap (λ (s : TrailState). s.receipts) is.trail;
        told = closes.told ∙ ap (λ (s : TrailState). all_tests s.closed ++ n.tests ∷ []) is.trail;
      }

  pub closes_below : (level above : ℕ) (n : Report) (said : Bool) (o o₁ : Option (Root P)) → above ≡ level + 1
      → IsSomeAnd o (λ r. IsSomeAnd o₁ (HasNoted level said r))
      → IsSomeAnd o₁ (ClosesWith above n) → IsSomeAnd o (ClosesWith level n)
  closes_below level above n said None o₁ up is closes = absurd is
  closes_below level above n said (Some r) None up is closes = absurd is
  closes_below level above n said (Some r) (Some r₁) up is closes = closes_lower level n said r r₁ is (subst (λ (k : ℕ). ClosesWith k n r₁)
      up closes)

  -- the same of either answer of a call
  module _ (level above : ℕ) (said : Bool) (o o₁ : Option (Root P)) (up : above ≡ level + 1)
      (noted : IsSomeAnd o (λ r. IsSomeAnd o₁ (HasNoted level said r))) where
    pub closes_not : {A L G : Type 0} (tests : L → Report) (s : Step (A × L) G) → IfNot s (λ w. IsSomeAnd o₁ (ClosesWith above (tests w.1)))
        → IfNot s (λ w. IsSomeAnd o (ClosesWith level (tests w.1)))
    closes_not tests (Not w) closes = closes_below level above (tests w.1) said o o₁ up noted closes
    closes_not tests (Got w) closes = tt

    pub closes_got : {A N : Type 0} (s : Step N (A × Report)) → IfGot s (λ w. IsSomeAnd o₁ (ClosesWith above w.1))
        → IfGot s (λ w. IsSomeAnd o (ClosesWith level w.1))
    closes_got (Not w) closes = tt
    closes_got (Got w) closes = closes_below level above w.1 said o o₁ up noted closes

  -- the same of an equal root at an equal level
  pub closes_at : (k level : ℕ) (n : Report) (o₁ o : Option (Root P)) → o₁ ≡ o → k ≡ level → IsSomeAnd o₁ (ClosesWith k n)
      → IsSomeAnd o (ClosesWith level n)
  closes_at k level n o₁ o same at closes = subst (λ (m : ℕ). IsSomeAnd o (ClosesWith m n)) at (subst (λ (x : Option (Root P)). IsSomeAnd x
      (ClosesWith k n)) same closes)

  -- below the level the tests are as they were noted
  pub same_in : (level : ℕ) (n : Report) (o : Option (Root P)) → IsSomeAnd o (ClosesWith level n) → SameBelow level (tests_in o) n.tests
  same_in level n None closes = absurd closes
  same_in level n (Some r) closes = λ j h. closes.same j h ∙ sym (ap (λ c. bit_at (tests_of c) j) closes.now)

  -- a turn that is closed with these tests, of which a receipt is given
  pub closes_now : (level : ℕ) (n : Report) (r : Root P) (turn : Turn) (tests : ℕ) → r.trail.current ≡ Some turn
      → SameBelow level turn.tests tests → n.tests ≡ tests → Ends r.trail.shape r.trail.closed (record turn { tests = tests; left = level })
      → n.receipt.name ≡ r.trail.receipts
      → n.receipt.tests ≡ all_tests r.trail.closed ++ n.tests ∷ [] → ClosesWith level n r
  closes_now level n r turn tests now same e ends own told = record {
    turn = turn;
    now = now;
    same = λ j h. ap (λ (m : ℕ). bit_at m j) e ∙ same j h;
    left = level;
    above = omega arith;
    ends = subst (λ (m : ℕ). Ends r.trail.shape r.trail.closed (record turn { tests = m; left = level })) (sym e) ends;
    own = own;
    told = told;
  }

  -- the top lock closes the turn with the tests that it has
  pub top_closes : (calls : P → List ℕ) (tag : P → Tag) (t : Tag) (level number : ℕ) (r : Root P) → MayRelease calls tag t level number r
      → level ≡ top_of (course_of t).shape → IsTrail r.trail → (n : Report) → n.tests ≡ tests_of r.trail.current
      → n.receipt.name ≡ r.trail.receipts
      → n.receipt.tests ≡ all_tests r.trail.closed ++ n.tests ∷ [] → ClosesWith level n r
  top_closes calls tag t level number r may top was n e own told =
      let leaves : MayLeave r.trail level may.turn = subst (λ (o : Option Turn). IfSome o (MayLeave r.trail level)) may.now (top_may_leave
      calls tag t level number r may top) in
      let noting : IsNoting r.trail.shape r.trail.noted may.turn = subst (λ (o : Option Turn). IfSome o (IsNoting r.trail.shape
      r.trail.noted)) may.now was.noting in
      closes_now level n r may.turn may.turn.tests may.now (λ j h. refl) (e ∙ ap tests_of may.now)
      (ends_at r.trail may.turn level leaves noting) own told
