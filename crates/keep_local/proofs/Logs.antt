-- The turns that a trail keeps in memory and counts, as its calls change them.
use Rattle.std.proofs.Common.{◌≡◌, ℕ, suc, ◌+◌, ◌-◌, ◌^◌, ◌<◌, Bool, true, false, cond, List, [], ◌∷◌, ◌++◌, length, set, slice_index}
use Rattle.std.proofs.Common.{refl, ap, sym, ◌∙◌, arith, length-append, Option, Some, None}
use Rattle.std.specs.Prelude.{slice_get, min}
use Rattle.std.proofs.lemmas.List.{append-nil, map-append}
use mathlib.Core.Logic.{dite}
use native.Mathlib.Decide.{dec_le, ℕ_discrete}
use Rattle.keep_local.specs.declared.turn.Turn.{Turn}
use Rattle.keep_local.specs.declared.trail.Log.{Log}
use Rattle.keep_local.specs.Turns.{run, last_turn}
use Rattle.keep_local.specs.Views.{times}
use Rattle.keep_local.specs.States.{ShareState, IsCounted, IsShareOf, all_turns, callers_in, option_list}
use Rattle.keep_local.specs.Trails.{log_state, IsKept}
use Rattle.keep_local.proofs.Runs.{run_same, run_lower, run_higher}
use Rattle.keep_local.proofs.Trails.{times_callers}

-- a share that the table counts is one of the trail
pub share_is : (l : Log) (share : ShareState) → IsKept l → IsCounted l.tie share → IsShareOf (log_state l) share
share_is l share kept told =
    let quotas = kept.trail.quotas in record {
      own = told.own;
      known = let k = told.known in omega (arith, k, quotas);
      quota = told.quota;
      made = told.made ∙ ap (times share.caller) kept.callers ∙ times_callers share.caller (all_turns (log_state l));
    }

pub length-callers : (ts : List Turn) → length (callers_in ts) ≡ length ts
length-callers [] = refl
length-callers (t ∷ ts) = ap suc (length-callers ts)

-- the caller of one more turn
pub callers_push : (ts : List Turn) (t : Turn) → callers_in (ts ++ t ∷ []) ≡ callers_in ts ++ t.caller ∷ []
callers_push ts t = map-append (λ (u : Turn). u.caller) ts (t ∷ [])

-- all turns where none is open
pub all_closed : (closed : List Turn) (current : Option Turn) → current ≡ None → closed ++ option_list current ≡ closed
all_closed closed current free = ap (λ (o : Option Turn). closed ++ option_list o) free ∙ append-nil closed

-- the last of some turns
pub last_push : (ts : List Turn) (t : Turn) → last_turn (ts ++ t ∷ []) ≡ Some t
last_push ts t =
    let end : length (ts ++ t ∷ []) - 1 ≡ length ts = omega (arith, length-append ts (t ∷ [])) in
    ap (slice_get (ts ++ t ∷ [])) end ∙ at ts t where
      at : (ts : List Turn) (t : Turn) → slice_get (ts ++ t ∷ []) (length ts) ≡ Some t
      at [] t = refl
      at (u ∷ ts) t = at ts t

set_end : (ts : List Turn) (t u : Turn) → set (ts ++ t ∷ []) (length ts) u ≡ ts ++ u ∷ []
set_end [] t u = refl
set_end (x ∷ ts) t u = ap (λ (us : List Turn). x ∷ us) (set_end ts t u)

-- one more turn is kept where the trail is recorded
pub kept_push : (recorded : Bool) (ts : List Turn) (t : Turn)
    → cond recorded (cond recorded ts [] ++ t ∷ []) (cond recorded ts []) ≡ cond recorded (ts ++ t ∷ []) []
kept_push true ts t = refl
kept_push false ts t = refl

-- the last one is replaced where turns are kept
pub kept_set : (recorded : Bool) (ts : List Turn) (t u : Turn)
    → set (cond recorded (ts ++ t ∷ []) []) (length (cond recorded (ts ++ t ∷ []) []) - 1) u ≡ cond recorded (ts ++ u ∷ []) []
kept_set true ts t u =
    let end : length (ts ++ t ∷ []) - 1 ≡ length ts = omega (arith, length-append ts (t ∷ [])) in
    ap (λ (n : ℕ). set (ts ++ t ∷ []) n u) end ∙ set_end ts t u
kept_set false ts t u = refl

-- the counters after a turn that left at this level
pub record AreRaised (old new : List ℕ) (level : ℕ) : Type 0 where
  pub own : slice_index new level ≡ min (slice_index old level + 1) (2 ^ 32 - 1)
  pub lower : (k : ℕ) → k < level → slice_index new k ≡ 0
  pub higher : (k : ℕ) → level < k → slice_index new k ≡ slice_index old k

-- a counter that can't rise
pub min_more : (n most : ℕ) → min (min n most + 1) most ≡ min (n + 1) most
min_more n most = omega arith

pub runs_raised : (old new : List ℕ) (level : ℕ) (turns : List Turn) (u : Turn) → u.left ≡ level → AreRaised old new level
    → ((k : ℕ) → k < 33 → slice_index old k ≡ min (run k turns) (2 ^ 32 - 1)) → (k : ℕ) → k < 33
    → slice_index new k ≡ min (run k (turns ++ u ∷ [])) (2 ^ 32 - 1)
runs_raised old new level turns u e raised were k h = dite (ℕ_discrete k level)
    (λ same. ap (slice_index new) same ∙ raised.own
    ∙ ap (λ (n : ℕ). min (n + 1) (2 ^ 32 - 1)) (ap (slice_index old) (sym same) ∙ were k h)
    ∙ min_more (run k turns) (2 ^ 32 - 1)
    ∙ ap (λ (n : ℕ). min n (2 ^ 32 - 1)) (sym (run_same k turns u (e ∙ sym same))))
    (λ other. dite (dec_le (suc k) level)
    (λ lower. let a = raised.lower k lower in
    a ∙ ap (λ (n : ℕ). min n (2 ^ 32 - 1)) (sym (run_higher k turns u (omega (arith, e, lower)))))
    (λ not_lower. let above : level < k = omega arith in
    raised.higher k above ∙ were k h ∙ ap (λ (n : ℕ). min n (2 ^ 32 - 1)) (sym (run_lower k turns u (omega (arith, e, above))))))
