use Rattle.std.proofs.Common.{◌≡◌, ◌∙◌, ap, sym, map, string_bytes, true, inl, inr}
use Rattle.clap.specs.Words.{App, app_of, fault_of, is_simple, is_simple_and_free}
use Rattle.clap.specs.Faults.{is_free_app}
use Rattle.clap.specs.Simple.{built}
use Rattle.clap.proofs.WalkLemmas.{both}
use Rattle.command_words.specs.Commands.{matched}
use Rattle.command_words.proofs.Reading.{matched-taken, matched-refused}
use Rattle.command_words.proofs.command.matches.Goals as goal

pub returns-in-Ok-try_get_matches_from-clause-read : goal.returns-in-Ok-try_get_matches_from-clause-read
returns-in-Ok-try_get_matches_from-clause-read c =
    let made = app_of c.in-Ok.command in
    let words = map string_bytes c.args.words.now in
    let free : is_simple_and_free made ≡ true = ap is_simple_and_free c.in-Ok.ensures ∙ c.requires in
    let simple = both (is_simple made) (is_free_app (built made)) free in
    ap (λ (a : App). matched a words) (sym c.in-Ok.ensures)
    ∙ matched-taken made words _ (c.in-Ok-try_get_matches_from.ensures.kinds free) (c.in-Ok-try_get_matches_from.ensures.matches simple.0).0

pub returns-in-Err-try_get_matches_from-clause-refused : goal.returns-in-Err-try_get_matches_from-clause-refused
returns-in-Err-try_get_matches_from-clause-refused c =
    let made = app_of c.in-Ok.command in
    let free : is_simple_and_free made ≡ true = ap is_simple_and_free c.in-Ok.ensures ∙ c.requires in
    let words = map string_bytes c.args.words.now in
    elim c.refusal.ensures [
      | inl memory ↦ inr memory.1
      | inr usage ↦ elim (c.in-Err-try_get_matches_from.ensures.kinds free) [
        | inl memory ↦ absurd (usage.0 (c.kind.ensures ∙ memory))
        | inr among ↦ inl (usage.1, ap (λ (a : App). matched a words) (sym c.in-Ok.ensures) ∙ matched-refused made words _ among)
      ]
    ]
