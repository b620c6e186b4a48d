use Rattle.std.proofs.Common.{◌≡◌, false, map, sym, ap, ◌∙◌, subst}
use Rattle.std.specs.List.{All}
use Rattle.std.proofs.lemmas.List.Elements.{All-nil}
use Rattle.keep_local.specs.States.{callers_in}
use Rattle.keep_local.specs.Turns.{IsLawful}
use Rattle.kv_history.specs.Log.{Logged}
use Rattle.run_texts.proofs.Texts.{bytes_of}
use Rattle.run_check.proofs.run.Run.new.Goals as goal

pub returns-clause-under_way : goal.returns-clause-under_way
returns-clause-under_way c = λ shape. record {
  same = c.in_ok-replay.ensures.sections ∙ bytes_of c.args.sections.now;
  lawful = subst (IsLawful shape) (sym c.new-2.ensures) tt;
  called = ap (map (λ (e : Logged). e.caller)) c.in_ok-replay.ensures.entries ∙ ap callers_in (sym c.new-2.ensures);
  whole = subst (All (λ (e : Logged). e.void ≡ false)) (sym c.in_ok-replay.ensures.entries) (All-nil (λ (e : Logged). e.void ≡ false));
}
