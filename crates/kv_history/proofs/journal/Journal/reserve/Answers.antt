use Rattle.std.proofs.Common.{◌≡◌, ◌∙◌, ◌≤◌, List, ℕ, length, ap, sym, subst, arith}
use Rattle.std.specs.Prelude.{map, sum_by}
use Rattle.std.specs.List.{All}
use denote.Bor.{Bor}
use Rattle.kv_history.specs.declared.caller.Caller.{Caller}
use Rattle.kv_history.specs.Callers.{section_of, IsTallied}
use Rattle.kv_history.specs.Journal.{IsKept}
use Rattle.kv_history.proofs.Holding.{kept_new}
use Rattle.kv_history.proofs.Tallies.{sum-tallied-le, lengths-lent}
use Rattle.kv_history.proofs.journal.Journal.reserve.Goals as goal

-- the sections have no more commands than bytes
few : (callers : List Caller) (sections : List (Bor (List ℕ))) → All IsTallied callers
    → map section_of callers ≡ map (λ section. section.now) sections
    → sum_by (λ caller. caller.tally.commands) callers ≤ sum_by (λ section. length section.now) sections
few callers sections tallied same =
    omega (arith, sum-tallied-le callers tallied, ap (sum_by (λ (one : List ℕ). length one)) same, lengths-lent sections)

pub commands_in-commands-requires : goal.commands_in-commands-requires
commands_in-commands-requires c =
    let callers = c.in_ok-callers.callers.items in
    let lent = ap (sum_by (λ (one : Caller). one.tally.commands)) c.deref.ensures.value in
    omega (arith, few callers c.args.sections.now c.in_ok-callers.ensures.tallied c.in_ok-callers.ensures.sections, lent)

pub invariant_of-result : goal.invariant_of-result
invariant_of-result c =
    let callers = c.in_ok-callers.callers.items in
    let count_is : sum_by (λ (one : Caller). one.tally.commands) callers ≡ c.commands_in-commands.result =
    sym (ap (sum_by (λ (one : Caller). one.tally.commands)) c.deref.ensures.value) ∙ sym c.commands_in-commands.ensures in
    subst IsKept (sym c.in_ok-kept.ensures.ok)
    (kept_new _ c.in_ok-callers.ensures.tallied c.in_ok-with_capacity.ensures.items c.in_ok-with_capacity-2.ensures.items
    c.new.ensures.empty
    (omega (arith, few callers c.args.sections.now c.in_ok-callers.ensures.tallied c.in_ok-callers.ensures.sections, c.requires))
    (omega (arith, count_is, c.in_ok-with_capacity.ensures.capacity)))
