use Rattle.std.proofs.Common.{◌≡◌, ℕ, List, ◌++◌, take, drop, map, ap, ◌∙◌}
use Rattle.std.proofs.lemmas.List.{take_min}
use Rattle.std.proofs.lemmas.Result.{on_ok_weaker}
use Rattle.synth_text.specs.Canonical.{joined_behind, level_text, memory_text}
use Rattle.synth_text.proofs.Lists.{joined_all, drop_min}
use Rattle.synth_text.proofs.writing.push_items.Goals as goal

pub returns-in_ok-push_memory-in-Some : goal.returns-in_ok-push_memory-in-Some
returns-in_ok-push_memory-in-Some c =
    let levels = c.args.levels.now in
    let n = c.in-Some.memory.above in
    let above = map level_text c.split_at.result.0.now in
    let below = map level_text c.split_at.result.1.now in
    let text = memory_text c.in-Some.memory in
    let front : c.split_at.result.0.now ≡ take n levels =
    c.split_at.ensures.front ∙ ap (λ (k : ℕ). take k levels) c.min.ensures ∙ take_min n levels in
    let back : c.split_at.result.1.now ≡ drop n levels =
    c.split_at.ensures.back ∙ ap (λ (k : ℕ). drop k levels) c.min.ensures ∙ drop_min n levels in
    rw (c.in-Some.is, ← front, ← back)
    (on_ok_weaker c.push_below.result
    (λ e. e
    ∙ ap (λ (xs : List ℕ). xs ++ joined_behind 32 below)
    (c.in_ok-push_memory-in-Some.ensures ∙ ap (λ (xs : List ℕ). xs ++ text) c.in_ok-push_above-in-Some.ensures)
    ∙ joined_all 32 c.args.out.now.items above text below)
    c.push_below.ensures)
