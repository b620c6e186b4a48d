-- A trail as its calls change it.
use Rattle.std.proofs.Common.{◌≡◌, ◌≢◌, ℕ, ◌+◌, ◌^◌, ◌<◌, Bool, true, false, List, [], ◌∷◌, ◌++◌, length, refl}
use Rattle.std.proofs.Common.{ap, sym, ◌∙◌, subst, arith, length-append, Option, Some, None}
use Rattle.std.specs.Prelude.{All, IfSome, IfNone, sum, ◌==◌}
use Rattle.std.specs.Int.{bit_at}
use Rattle.std.proofs.lemmas.List.{append-nil}
use Rattle.std.proofs.lemmas.List.Sums.{sum_by-cons}
use Rattle.std.proofs.lemmas.List.Elements.{All-nil, All-cons, All-head, All-tail, All-push}
use Rattle.std.proofs.lemmas.Nat.Bits.{bit_at-zero, bit_at_or, bit_at-pow_same, bit_at-pow_other}
use mathlib.Core.Logic.{dite}
use native.Mathlib.Decide.{ℕ_discrete}
use Rattle.keep_local.specs.declared.turn.Turn.{Turn}
use Rattle.keep_local.specs.Shapes.{top_of, callers_of}
use Rattle.keep_local.specs.Turns.{turns_of, Begins, Ends, Follows}
use Rattle.keep_local.specs.Views.{times}
use Rattle.keep_local.specs.States.{TrailState, IsTrail, IsNoting, MayLeave, option_list, all_turns, callers_in, opened, with_test}
use Rattle.keep_local.specs.States.{tested, left_at}
use Rattle.keep_local.proofs.Counts.{one_if}
use Rattle.keep_local.proofs.Runs.{lawful_push}

abbrev pub blank : Turn
blank = record { caller = 0; climb = 0; tests = 0; left = 0 }

-- a caller's turns by their callers
pub times_callers : (caller : ℕ) (turns : List Turn) → times caller (callers_in turns) ≡ turns_of caller turns
times_callers caller [] = refl
times_callers caller (t ∷ ts) =
    omega (
      arith,
      sum_by-cons (λ (x : ℕ). one_if (x == caller)) t.caller (callers_in ts),
      sum_by-cons (λ (u : Turn). one_if (u.caller == caller)) t ts,
      times_callers caller ts,
    )

abbrev Below : ℕ → Turn → Type 0
Below n t = t.caller < n

-- the last turn is replaced by another of the same caller
all_swapped : (n : ℕ) (ts : List Turn) (t u : Turn) → u.caller ≡ t.caller → All (Below n) (ts ++ t ∷ []) → All (Below n) (ts ++ u ∷ [])
all_swapped n [] t u e h = All-cons (Below n) u [] (let b : t.caller < n = All-head (Below n) t [] h in
    omega (arith, b, e)) (All-nil (Below n))
all_swapped n (x ∷ ts) t u e h =
    All-cons (Below n) x (ts ++ u ∷ []) (All-head (Below n) x (ts ++ t ∷ []) h)
    (all_swapped n ts t u e (All-tail (Below n) x (ts ++ t ∷ []) h))

-- a test of one level leaves the others
pub with_test_other : (tests level k : ℕ) (queued : Bool) → k ≢ level → bit_at (with_test tests level queued) k ≡ bit_at tests k
with_test_other tests level k true ne = let a = bit_at_or tests (2 ^ level) k in let b = bit_at-pow_other level k ne in omega (arith, a, b)
with_test_other tests level k false ne = refl

-- and shows whether another caller was queued there
pub with_test_same : (tests level : ℕ) (queued : Bool) → bit_at tests level ≡ 0
    → bit_at (with_test tests level queued) level ≡ one_if queued
with_test_same tests level true e = let a = bit_at_or tests (2 ^ level) level in let b = bit_at-pow_same level in omega (arith, a, b, e)
with_test_same tests level false e = e

-- a turn is opened
pub trail_opened : (s : TrailState) (caller climb : ℕ) → IsTrail s → s.current ≡ None → caller < callers_of s.shape
    → length (all_turns s) < sum s.quotas → Begins s.shape s.closed (opened s caller climb)
    → IsTrail (record s { current = Some (opened s caller climb) })
trail_opened s caller climb is free known room begins =
    let t : Turn = opened s caller climb in
    let all : All (λ u. u.caller < callers_of s.shape) (s.closed ++ []) =
    subst (λ (o : Option Turn). All (λ u. u.caller < callers_of s.shape) (s.closed ++ option_list o)) free is.known in
    let closed : All (λ u. u.caller < callers_of s.shape) s.closed =
    subst (All (λ u. u.caller < callers_of s.shape)) (append-nil s.closed) all in
    let none_noted : s.noted ≡ 0 = let f : IfNone s.current (s.noted ≡ 0) = is.closed in
    subst (λ (o : Option Turn). IfNone o (s.noted ≡ 0)) free f in record {
      shaped = is.shaped;
      few = is.few;
      countable = is.countable;
      quotas = is.quotas;
      fits = is.fits;
      recordable = is.recordable;
      lawful = (is.lawful.0, begins);
      noting = record {
        below_top = omega (arith, none_noted);
        tests = λ level e. absurd (let z = bit_at-zero level in omega (arith, z, e));
        left = refl;
      };
      closed = tt;
      room = let a = ap (λ (o : Option Turn). length (s.closed ++ option_list o)) free in
          omega (arith, a, room, length-append s.closed [], length-append s.closed (t ∷ []));
      known = All-push (λ (u : Turn). u.caller < callers_of s.shape) s.closed t closed known;
    }

-- a level is noted
pub trail_noted : (s : TrailState) (t : Turn) (level : ℕ) (queued : Bool) → IsTrail s → s.current ≡ Some t → level ≡ s.noted
    → level < top_of s.shape
    → IsTrail (record s { current = Some (tested t level queued); noted = level + 1 })
trail_noted s t level queued is now next below =
    let begins : Begins s.shape s.closed t = subst (λ (o : Option Turn). IfSome o (λ u. Begins s.shape s.closed u)) now is.lawful.1 in
    let noting : IsNoting s.shape s.noted t = subst (λ (o : Option Turn). IfSome o (λ u. IsNoting s.shape s.noted u)) now is.noting in
    let all : All (λ u. u.caller < callers_of s.shape) (s.closed ++ t ∷ []) =
    subst (λ (o : Option Turn). All (λ u. u.caller < callers_of s.shape) (s.closed ++ option_list o)) now is.known in
    let levels = is.shaped.levels in record {
      shaped = is.shaped;
      few = is.few;
      countable = is.countable;
      quotas = is.quotas;
      fits = is.fits;
      recordable = is.recordable;
      lawful = (is.lawful.0, record { climb = begins.climb; near = begins.near });
      noting = record {
        below_top = omega (arith, below);
        tests = λ k e. dite (ℕ_discrete k level) (λ same. omega (arith, same))
            (λ other. let was = noting.tests k (sym (with_test_other t.tests level k queued other) ∙ e) in omega (arith, was, next));
        left = noting.left;
      };
      closed = tt;
      room = let a = ap (λ (o : Option Turn). length (s.closed ++ option_list o)) now in let r = is.room in
          omega (arith, a, r, length-append s.closed (t ∷ []), length-append s.closed (tested t level queued ∷ []));
      known = all_swapped (callers_of s.shape) s.closed t (tested t level queued) refl all;
    }

-- a turn is closed
pub trail_left : (s : TrailState) (t : Turn) (level : ℕ) → IsTrail s → s.current ≡ Some t → MayLeave s level t
    → IsTrail (record s { closed = s.closed ++ left_at t level ∷ []; current = None; noted = 0 })
trail_left s t level is now may =
    let begins : Begins s.shape s.closed t = subst (λ (o : Option Turn). IfSome o (λ u. Begins s.shape s.closed u)) now is.lawful.1 in
    let noting : IsNoting s.shape s.noted t = subst (λ (o : Option Turn). IfSome o (λ u. IsNoting s.shape s.noted u)) now is.noting in
    let all : All (λ u. u.caller < callers_of s.shape) (s.closed ++ t ∷ []) =
    subst (λ (o : Option Turn). All (λ u. u.caller < callers_of s.shape) (s.closed ++ option_list o)) now is.known in
    let u : Turn = left_at t level in
    let ends : Ends s.shape s.closed u = record {
      left = record { within = may.left.within; due = may.left.due; least = may.left.least };
      tests = λ k e. let below : k < s.noted = noting.tests k e in let n = may.noted in let w = may.left.within in
          (omega (arith, below, n), omega (arith, below, n));
    } in
    let follows : Follows s.shape s.closed u = record { begins = record { climb = begins.climb; near = begins.near }; ends = ends } in
    record {
      shaped = is.shaped;
      few = is.few;
      countable = is.countable;
      quotas = is.quotas;
      fits = is.fits;
      recordable = is.recordable;
      lawful = (lawful_push s.shape s.closed u is.lawful.0 follows, tt);
      noting = tt;
      closed = refl;
      room = let a = ap (λ (o : Option Turn). length (s.closed ++ option_list o)) now in let r = is.room in
          omega (arith, a, r, length-append s.closed (t ∷ []), length-append s.closed (u ∷ []), length-append (s.closed ++ u ∷ []) []);
      known = subst (All (Below (callers_of s.shape))) (sym (append-nil (s.closed ++ u ∷ [])))
          (all_swapped (callers_of s.shape) s.closed t u refl all);
    }
