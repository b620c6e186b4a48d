-- Ideal turns are lawful.
use Rattle.std.proofs.Common.{◌≡◌, ℕ, zero, suc, ◌+◌, ◌-◌, ◌*◌, ◌^◌, ◌<◌, ◌≤◌, Bool, true, false, cond, ◌&&◌, List, [], ◌∷◌, ◌++◌, get_or}
use Rattle.std.proofs.Common.{map}
use Rattle.std.proofs.Common.{nat_lt, min, refl, ap, sym, subst, ◌∙◌, arith, inl, inr, Option, Some, None, lit<, not}
use Rattle.std.specs.Prelude.{All, IfSome, sum, slice_get, slice_index, ◌==◌}
use Rattle.std.specs.Int.{bit_at}
use Rattle.std.specs.List.{range_with_len}
use Rattle.std.proofs.lemmas.Bool.{cases_Bool, eqb-true, both_ways, cases_lt}
use Rattle.std.proofs.lemmas.Bool.Decides.{nat_tests}
use Rattle.std.proofs.lemmas.Nat.Bits.{bit_at_above, bit_at_cat_low, bit_at_cat_high}
use Rattle.std.proofs.Math.Nat.{pow-suc}
use Rattle.std.proofs.lemmas.List.Elements.{All-head, All-tail}
use Rattle.std.proofs.lemmas.List.FromFn.{length-range_with_len, get_or-range_with_len, sum_by-map-range_with_len_more}
use Rattle.std.proofs.lemmas.List.Sums.{passes_at_first, fails_before_first, prefix_len-le-length}
use Rattle.keep_local.specs.declared.shape.Shape.{Shape}
use Rattle.keep_local.specs.declared.turn.Turn.{Turn}
use Rattle.keep_local.specs.Shapes.{top_of, callers_of, node_of, IsWellFormed}
use Rattle.keep_local.specs.Turns.{run, last_turn, climb_after, IsDue, Ends, FollowEachOther}
use Rattle.lock_select.specs.IdealTurns.{is_near, can_stay, ideal_left, ideal_tests, ideal_turn, turns_behind}
use Rattle.lock_select.specs.Laws.{IdealTurnsAreLawful}
use Rattle.lock_select.proofs.Ideals.{last_pushed, climb_behind}

-- ---- bits that are added up

module _ (near : ℕ → Bool) where
  abbrev bit : ℕ → ℕ
  bit level = cond (near level) (2 ^ level) 0

  abbrev bits : ℕ → ℕ
  bits n = sum (map bit (range_with_len 0 n))

  abbrev one : ℕ → ℕ
  one level = cond (near level) 1 0

  bits_more : (n : ℕ) → bits (suc n) ≡ bits n + bit n
  bits_more n =
      ap bits (let e : suc n ≡ n + 1 = omega arith in e)
      ∙ sum_by-map-range_with_len_more (λ (x : ℕ). x) bit 0 n n (omega arith)

  bit_small : (n : ℕ) → bit n ≤ 2 ^ n
  bit_small n = elim (cases_Bool (near n)) [
    | inl holds ↦ rw holds (omega arith)
    | inr fails ↦ rw fails (omega arith)
  ]

  bits_below : (n : ℕ) → bits n < 2 ^ n
  bits_below zero = lit< tt
  bits_below (suc n) = omega (arith, bits_more n, bits_below n, bit_small n, pow-suc 2 n)

  bit_is : (n : ℕ) → bit n ≡ one n * 2 ^ n
  bit_is n = elim (cases_Bool (near n)) [
    | inl holds ↦ rw holds (omega arith)
    | inr fails ↦ rw fails (omega arith)
  ]

  bits_cat : (n : ℕ) → bits (suc n) ≡ one n * 2 ^ n + bits n
  bits_cat n = omega (arith, bits_more n, bit_is n)

  low_bit : (n : ℕ) → bit_at (one n) 0 ≡ one n
  low_bit n = elim (cases_Bool (near n)) [
    | inl holds ↦ rw holds refl
    | inr fails ↦ rw fails refl
  ]

  bit_within : (n k : ℕ) → k < n → bit_at (bits n) k ≡ one k
  bit_within zero k h = absurd (omega arith)
  bit_within (suc n) k h = elim (cases_lt k n) [
    | inl lower ↦ ap (λ (x : ℕ). bit_at x k) (bits_cat n) ∙ bit_at_cat_low (one n) n (bits n) k lower ∙ bit_within n k lower
    | inr past ↦
        let same : k ≡ n = omega arith in
        let none : k - n ≡ 0 = omega arith in
        ap (λ (x : ℕ). bit_at x k) (bits_cat n) ∙ bit_at_cat_high (one n) n (bits n) k (bits_below n) past
        ∙ ap (bit_at (one n)) none ∙ low_bit n ∙ ap one (sym same)
  ]

  bit_past : (n k : ℕ) → n ≤ k → bit_at (bits n) k ≡ 0
  bit_past n k h = bit_at_above (bits n) n k (bits_below n) h

-- ---- how an ideal turn ends

and_left : (a b : Bool) → (a && b) ≡ true → a ≡ true
and_left true b h = refl
and_left false b h = absurd cc

and_right : (a b : Bool) → (a && b) ≡ true → b ≡ true
and_right true b h = h
and_right false b h = absurd cc

module _ (shape : Shape) (before : List Turn) (caller : ℕ) (next : Option ℕ) where
  abbrev left : ℕ
  left = ideal_left shape before caller next

  abbrev levels : List ℕ
  levels = range_with_len 0 (top_of shape)

  pub left_within : left ≤ top_of shape
  left_within =
      omega (
        arith,
        prefix_len-le-length (λ (level : ℕ). not (can_stay shape before caller next level)) levels,
        length-range_with_len 0 (top_of shape),
      )

  level_at : (level : ℕ) → level < top_of shape → get_or levels level 0 ≡ level
  level_at level h = get_or-range_with_len 0 (top_of shape) level 0 h ∙ (let e : 0 + level ≡ level = omega arith in e)

  pub stays_there : left < top_of shape → can_stay shape before caller next left ≡ true
  stays_there h =
      let long = length-range_with_len 0 (top_of shape) in
      ap (can_stay shape before caller next) (sym (level_at left h))
      ∙ passes_at_first (can_stay shape before caller next) levels 0 (omega (arith, h, long))

  goes_below : (level : ℕ) → level < left → can_stay shape before caller next level ≡ false
  goes_below level h =
      let within = left_within in
      ap (can_stay shape before caller next) (sym (level_at level (omega arith)))
      ∙ fails_before_first (can_stay shape before caller next) levels level 0 h

  abbrev tests : ℕ
  tests = ideal_tests shape caller next left

  test_within : (level : ℕ) → level ≤ left → level < top_of shape → bit_at tests level ≡ cond (is_near shape caller next level) 1 0
  test_within level low below =
      bit_within (is_near shape caller next) (min (left + 1) (top_of shape)) level (omega arith)

  test_near : (level : ℕ) → level ≤ left → level < top_of shape → bit_at tests level ≡ 1 → is_near shape caller next level ≡ true
  test_near level low below set = elim (cases_Bool (is_near shape caller next level)) [
    | inl holds ↦ holds
    | inr fails ↦
        let none = test_within level low below ∙ ap (λ (b : Bool). cond b 1 0) fails in
        absurd (omega (arith, none, set))
  ]

  due_stays : (level : ℕ) → level ≤ left → level < top_of shape → IsDue shape before tests level
      → can_stay shape before caller next level ≡ true
  due_stays level low below due =
      let near = test_near level low below due.queued in
      let few : nat_lt (run level before) (slice_index shape.keeps level) ≡ true = let h = due.below in grind (arith, nat_tests) in
      rw (near, few) refl

  pub turn_ends : Ends shape before (ideal_turn shape before caller next)
  turn_ends = record {
    left = record {
      within = left_within;
      due = λ h.
          let stays = stays_there h in
          let near = and_left (is_near shape caller next left) (nat_lt (run left before) (slice_index shape.keeps left)) stays in
          let few = and_right (is_near shape caller next left) (nat_lt (run left before) (slice_index shape.keeps left)) stays in
          record {
            queued = test_within left (omega arith) h ∙ ap (λ (b : Bool). cond b 1 0) near;
            below = grind (arith, nat_tests);
          };
      least = λ level h due.
          let within = left_within in
          both_ways _ (goes_below level h) (due_stays level (omega arith) (omega arith) due);
    };
    tests = λ level set. elim (cases_lt level (min (left + 1) (top_of shape))) [
      | inl low ↦ (omega arith, omega arith)
      | inr past ↦
          let none = bit_past (is_near shape caller next) (min (left + 1) (top_of shape)) level past in
          absurd (omega (arith, none, set))
    ];
  }

-- the next caller is under the same node where an ideal turn leaves
left_near : (shape : Shape) (before : List Turn) (caller next : ℕ) → IsWellFormed shape → caller < callers_of shape
    → next < callers_of shape
    → node_of shape next (ideal_left shape before caller (Some next)) ≡ node_of shape caller (ideal_left shape before caller (Some next))
left_near shape before caller next formed known next_known =
    let l : ℕ = ideal_left shape before caller (Some next) in
    elim (cases_lt l (top_of shape)) [
      | inl below ↦
          let stays = stays_there shape before caller (Some next) below in
          let near : (node_of shape caller l == node_of shape next l) ≡ true =
          and_left (is_near shape caller (Some next) l) (nat_lt (run l before) (slice_index shape.keeps l)) stays in
          sym (eqb-true (node_of shape caller l) (node_of shape next l) near)
      | inr past ↦
          let within = left_within shape before caller (Some next) in
          let top : l ≡ top_of shape = omega arith in
          ap (node_of shape next) top ∙ formed.one_top next next_known ∙ sym (formed.one_top caller known)
          ∙ ap (node_of shape caller) (sym top)
    ]

-- ---- all of them

-- the first of some callers may begin behind some turns
abbrev MayBegin : Shape → List Turn → Option ℕ → Type 0
MayBegin shape before None = Unit {0}
MayBegin shape before (Some caller) =
    IfSome (last_turn before)
    (λ last. node_of shape caller (climb_after shape before) ≡ node_of shape last.caller (climb_after shape before))

may_begin : (shape : Shape) (before : List Turn) (caller next : ℕ) → IsWellFormed shape → caller < callers_of shape
    → next < callers_of shape
    → MayBegin shape (before ++ ideal_turn shape before caller (Some next) ∷ []) (Some next)
may_begin shape before caller next formed known next_known =
    let t : Turn = ideal_turn shape before caller (Some next) in
    let after : List Turn = before ++ t ∷ [] in
    let climb : climb_after shape after ≡ t.left = climb_behind shape before t in
    subst (λ (o : Option Turn). IfSome o (λ last. node_of shape next (climb_after shape after)
    ≡ node_of shape last.caller (climb_after shape after)))
    (sym (last_pushed before t))
    (ap (node_of shape next) climb ∙ left_near shape before caller next formed known next_known ∙ ap (node_of shape caller) (sym climb))

follow : (shape : Shape) (before : List Turn) (callers : List ℕ) → IsWellFormed shape → All (λ caller. caller < callers_of shape) callers
    → MayBegin shape before (slice_get callers 0) → FollowEachOther shape before (turns_behind shape before callers)
follow shape before [] formed known may = tt
follow shape before (c ∷ []) formed known may =
    (record { begins = record { climb = refl; near = may }; ends = turn_ends shape before c None }, tt)
follow shape before (c ∷ next ∷ cs) formed known may =
    let tail = All-tail (λ (caller : ℕ). caller < callers_of shape) c (next ∷ cs) known in (
      record { begins = record { climb = refl; near = may }; ends = turn_ends shape before c (Some next) },
      follow shape (before ++ ideal_turn shape before c (Some next) ∷ []) (next ∷ cs) formed tail
          (may_begin shape before c next formed (All-head (λ (caller : ℕ). caller < callers_of shape) c (next ∷ cs) known)
          (All-head (λ (caller : ℕ). caller < callers_of shape) next cs tail)),
    )

first_may : (shape : Shape) (first : Option ℕ) → MayBegin shape [] first
first_may shape None = tt
first_may shape (Some caller) = tt

pub lawful_ideals : IdealTurnsAreLawful
lawful_ideals shape callers formed known = follow shape [] callers formed known (first_may shape (slice_get callers 0))
