use Rattle.std.proofs.Common.{◌≡◌, ℕ, ◌+◌, cond, false, List, [], ◌∷◌, ◌++◌, length, refl, sym, ap, ◌∙◌, subst, append_assoc, arith}
use Rattle.std.specs.Prelude.{◌==◌, count_by}
use Rattle.std.proofs.lemmas.Bool.{eq-eqb, ne_eqb}
use Rattle.std.proofs.lemmas.List.{length-append}
use Rattle.std.proofs.lemmas.List.Elements.{All-push}
use Rattle.std.proofs.lemmas.List.Sums.{sum_by_push}
use Rattle.mc_text.specs.Request.{WholeCommand, view}
use Rattle.mc_text.specs.Commands.{commands_left}
use Rattle.kv_history.specs.Log.{Logged, NoneVoid, applied_entry, calls}
use Rattle.history_trials.proofs.tests.drills.give_all.Goals as goal

-- one call more is counted for its caller alone
own_call : (before : List ℕ) (caller : ℕ) → count_by (λ other. other == caller) (before ++ caller ∷ [])
    ≡ count_by (λ other. other == caller) before + 1
own_call before caller =
    sum_by_push (λ (other : ℕ). cond (other == caller) 1 0) before caller
    ∙ ap (λ b. count_by (λ other. other == caller) before + cond b 1 0) (eq-eqb caller caller refl)

other_call : (before : List ℕ) (caller w : ℕ) → (w ≡ caller → ⊥) → count_by (λ other. other == w) (before ++ caller ∷ [])
    ≡ count_by (λ other. other == w) before
other_call before caller w differs =
    let none : cond {A = ℕ} (caller == w) 1 0 ≡ 0 = ap (λ b. cond b 1 0) (ne_eqb caller w (λ is. differs (sym is))) in
    let more = sum_by_push (λ (other : ℕ). cond (other == w) 1 0) before caller in
    omega (arith, none, more)

pub loop-command-preserved : goal.loop-command-preserved
loop-command-preserved c =
    let inv = c.loop-command.invariant in
    let caller = c.args.caller in
    let entries = c.loop-command.journal.entries in
    let before = calls c.loop-command.journal in
    let command = view c.in-Some.command in
    let front : List WholeCommand = inv.front in
    let called = c.in_ok-apply.ensures.calls in
    let entries_are = c.in_ok-apply.ensures.applied in
    let whole = inv.whole in
    let long = length-append front (command ∷ []) in
    let given = inv.given in
    record {
      sections = c.in_ok-apply.ensures.sections ∙ inv.sections;
      front = front ++ command ∷ [];
      parts = inv.parts ∙ ap (λ (later : List WholeCommand). front ++ later) c.in-Some.ensures.commands
          ∙ sym (append_assoc front (command ∷ []) (commands_left c.next.new.self));
      given = ap (count_by (λ (other : ℕ). other == caller)) called ∙ own_call before caller ∙ omega (arith, given, long);
      others = λ w differs. ap (count_by (λ (other : ℕ). other == w)) called ∙ other_call before caller w differs ∙ inv.others w differs;
      whole = subst NoneVoid (sym entries_are)
          (All-push (λ (entry : Logged). entry.void ≡ false) entries (applied_entry entries caller command) whole refl);
    }
