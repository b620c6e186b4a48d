-- The runs of turns, one turn after another.
use Rattle.std.proofs.Common.{◌≡◌, ℕ, suc, ◌+◌, ◌<◌, List, [], ◌∷◌, ◌++◌, slice_index, ap, sym, ◌∙◌, arith}
use mathlib.Core.Logic.{dite}
use native.Mathlib.Decide.{dec_le, ℕ_discrete}
use Rattle.keep_local.specs.declared.turn.Turn.{Turn}
use Rattle.keep_local.specs.Turns.{run}
use Rattle.keep_local.proofs.Runs.{run_higher, run_lower, run_same}

-- the run of a level is one longer, and those of the lower levels end
pub record AreRaised (old new : List ℕ) (level : ℕ) : Type 0 where
  pub own : slice_index new level ≡ slice_index old level + 1
  pub lower : (k : ℕ) → k < level → slice_index new k ≡ 0
  pub higher : (k : ℕ) → level < k → slice_index new k ≡ slice_index old k

pub runs_raised : (old new : List ℕ) (level : ℕ) (turns : List Turn) (u : Turn) → u.left ≡ level → AreRaised old new level
    → ((k : ℕ) → k < 33 → slice_index old k ≡ run k turns) → (k : ℕ) → k < 33 → slice_index new k ≡ run k (turns ++ u ∷ [])
runs_raised old new level turns u e raised were k h = dite (ℕ_discrete k level)
    (λ same. let a = ap (slice_index new) same in let b = raised.own in let c = ap (slice_index old) same in let d = were k h in
    let r = run_same k turns u (e ∙ sym same) in omega (arith, a, b, c, d, r))
    (λ other. dite (dec_le (suc k) level)
    (λ lower. let a = raised.lower k lower in let r = run_higher k turns u (omega (arith, e, lower)) in omega (arith, a, r))
    (λ not_lower. let above : level < k = omega arith in let a = raised.higher k above in let d = were k h in
    let r = run_lower k turns u (omega (arith, e, above)) in omega (arith, a, d, r)))
