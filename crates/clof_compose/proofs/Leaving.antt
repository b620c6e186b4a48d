-- The loads of a release that waits.
use Rattle.std.proofs.Common.{◌≡◌, ℕ, ◌+◌, ◌<◌, ap, sym, ◌∙◌, arith, cond, false}
use Rattle.std.proofs.lemmas.Bool.{lt-ltb, le-ltb}
use Rattle.clof_compose.specs.Calls.{HasBegunToLeave}
use Rattle.clof_compose.specs.Contexts.{Context}
use Rattle.clof_compose.specs.Levels.{loads_from}
use Rattle.clof_compose.specs.Meanings.{Descent}

-- the token waits above this level, by the loads of the high lock's holder
pub begun_above : (top level own : ℕ) (high high₁ : ℕ → ℕ) (d : Descent) (c : Context) → high₁ ≡ high → level < d.level
    → HasBegunToLeave top high₁ d → HasBegunToLeave top (loads_from level own high) (record d { context = c })
begun_above top level own high high₁ d c same above begun =
    let there : loads_from level own high d.level ≡ high₁ d.level = ap (λ b. cond b (high d.level) own) (lt-ltb level d.level above)
    ∙ ap (λ (f : ℕ → ℕ). f d.level) (sym same) in
    record {
      unready = begun.unready;
      at_top = λ e. begun.at_top e ∙ ap (λ n. n + 1) (sym there);
      below_top = λ l. begun.below_top l ∙ ap (λ n. n + 2) (sym there);
    }

-- the token waits at this level, which is below the top, by one load and that of `waiter`
pub begun_here : (top own : ℕ) (high : ℕ → ℕ) (d : Descent) → d.level < top → d.loads ≡ own + 1 + 1 → d.ready ≡ false
    → HasBegunToLeave top (loads_from d.level own high) d
begun_here top own high d below loads unready =
    let here : loads_from d.level own high d.level ≡ own = ap (λ b. cond b (high d.level) own) (le-ltb d.level d.level (omega arith)) in
    let two : own + 1 + 1 ≡ own + 2 = omega arith in
    record {
      unready = unready;
      at_top = λ e. absurd (omega (arith, e, below));
      below_top = λ l. loads ∙ two ∙ ap (λ n. n + 2) (sym here);
    }
