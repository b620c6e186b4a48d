use Rattle.std.proofs.Common.{◌≡◌, ℕ, ◌+◌, ◌<◌, List, [], length, map, get_or, inl, inr, refl, sym, ap, ◌∙◌, arith, Some}
use Rattle.std.specs.Borrow.{Bor}
use Rattle.std.specs.Prelude.{◌==◌, count_by, option_map, slice_get}
use Rattle.std.proofs.lemmas.Bool.{cases_eq}
use Rattle.std.proofs.lemmas.List.{length-map}
use Rattle.std.proofs.lemmas.Option.{slice_get-get_or, slice_get-map, slice_get_within}
use Rattle.mc_text.specs.Reading.{commands_of}
use Rattle.kv_history.specs.Log.{calls}
use Rattle.history_trials.proofs.tests.drills.worked_off.Goals as goal

same_section : (all : List (List ℕ)) (sections : List (Bor (List ℕ))) (k w : ℕ) (section : List ℕ) (none : Bor (List ℕ))
    → all ≡ map (λ (one : Bor (List ℕ)). one.now) sections → k < length sections → w ≡ k → slice_get all w ≡ Some section
    → section ≡ (get_or sections k none).now
same_section all sections k w section none are within is place =
    let there : slice_get all k ≡ Some (get_or sections k none).now =
    ap (λ (xs : List (List ℕ)). slice_get xs k) are
    ∙ slice_get-map (λ (one : Bor (List ℕ)). one.now) sections k
    ∙ ap (option_map (λ (one : Bor (List ℕ)). one.now)) (slice_get-get_or sections k none within) in
    let here : slice_get all k ≡ Some section = ap (slice_get all) (sym is) ∙ place in
    cc

pub loop-caller-preserved : goal.loop-caller-preserved
loop-caller-preserved c =
    let inv = c.loop-caller.invariant in
    let k = c.loop-caller.caller in
    let ens = c.in_ok-give_all.ensures in
    let sections = c.args.sections.now in
    let none : Bor (List ℕ) = record { ref_ptr = (0, 0); now = [] } in
    let all = c.give_all.new.journal in
    let are = ens.sections ∙ inv.sections in
    record {
      sections = are;
      end = refl;
      given = λ w section within place. elim (cases_eq w k) [
        | inl is ↦
            ap (λ (n : ℕ). count_by (λ (other : ℕ). other == n) (calls all)) is
            ∙ ens.given
            ∙ ap (λ (bytes : List ℕ). length (commands_of bytes))
            (sym (same_section all.sections sections k w section none are (omega arith) is place))
        | inr differs ↦
            ens.others w differs
            ∙ inv.given w section (omega (arith, within, differs))
            (ap (λ (xs : List (List ℕ)). slice_get xs w) (sym ens.sections) ∙ place)
      ];
      fresh = λ w above. ens.others w (λ is. omega (arith, is, above)) ∙ inv.fresh w (omega (arith, above));
      whole = ens.whole;
    }

pub returns-clause-given : goal.returns-clause-given
returns-clause-given c = λ caller section place.
    let inv = c.loop-caller.invariant in
    let within = slice_get_within c.loop-caller.journal.sections caller section place in
    let count = ap length inv.sections ∙ length-map c.args.sections.now (λ (one : Bor (List ℕ)). one.now) in
    inv.given caller section (omega (arith, within, count, c.loop-caller-test.false)) place
