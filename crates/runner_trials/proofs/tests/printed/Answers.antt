use Rattle.std.proofs.Common.{◌≡◌, ◌∙◌, ◌++◌, ◌∷◌, [], ◌+◌, List, ℕ, refl, sym, subst, ap, get_or, take, arith}
use Rattle.mc_text.specs.Commands.{commands_left}
use Rattle.mc_text.specs.declared.commands.Commands.{Commands}
use Rattle.keep_local.specs.declared.turn.Turn.{Turn}
use Rattle.keep_local.specs.States.{callers_in}
use Rattle.kv_history.specs.Log.{Log}
use Rattle.run_texts.proofs.Numbered.{views_more}
use Rattle.runner_trials.proofs.Giving.{HavePlayed, first_plays, second_plays}
use Rattle.runner_trials.proofs.tests.printed.Goals.{in-0+in_ok-give-in-0, in-1+in_ok-give-in-1}
use Rattle.runner_trials.proofs.tests.printed.Goals as goal

-- what is so named has played
have_played : (first second : List ℕ) (turns : List Turn) (a b : Log) {f g h k : Commands} → a ≡ b → f ≡ g → h ≡ k
    → HavePlayed first second turns b (commands_left g) (commands_left k)
    → HavePlayed first second turns a (commands_left f) (commands_left h)
have_played first second turns a b is firsts seconds played =
    subst (λ (at : Log × Commands × Commands). HavePlayed first second turns at.0 (commands_left at.1) (commands_left at.2))
    (λ i. (sym is i, sym firsts i, sym seconds i)) played

pub loop-turn-preserved : goal.loop-turn-preserved
loop-turn-preserved c =
    let index = c.loop-turn.turn-index in
    let turns = c.args.turns.now in
    let none : Turn = record { caller = 0; climb = 0; tests = 0; left = 0 } in
    let turn : Turn = get_or turns index none in
    let before : HavePlayed c.args.first.now c.args.second.now (take index turns) c.loop-turn.journal (commands_left c.loop-turn.firsts)
    (commands_left c.loop-turn.seconds) = record {
      same = c.loop-turn.invariant.same;
      called = c.loop-turn.invariant.called;
      first_left = c.loop-turn.invariant.firsts;
      second_left = c.loop-turn.invariant.seconds;
    } in
    let more : callers_in (take (index + 1) turns) ≡ callers_in (take index turns) ++ turn.caller ∷ [] =
    views_more (λ (t : Turn). t.caller) turns index turn none (omega arith) refl in
    let done : HavePlayed c.args.first.now c.args.second.now (take (index + 1) turns) c.match-turn.journal
    (commands_left c.match-turn.firsts)
    (commands_left c.match-turn.seconds) = elim c.match-turn.branch [
      | in-0+in_ok-give-in-0 w ↦
          have_played c.args.first.now c.args.second.now (take (index + 1) turns) _ _ w.journal-is w.firsts-is w.seconds-is
          (first_plays c.args.first.now c.args.second.now (take index turns) (take (index + 1) turns) c.loop-turn.journal w.give.new.journal
          (commands_left c.loop-turn.firsts) (commands_left c.loop-turn.seconds) (commands_left w.give.new.commands) before
          (more ∙ ap (λ n. callers_in (take index turns) ++ n ∷ []) w.in-0.is)
          (record {
            sections = w.give.ensures.sections;
            called = w.in_ok-give-in-0.ensures.called;
            rest = w.in_ok-give-in-0.ensures.left;
          }))
      | in-1+in_ok-give-in-1 w ↦
          have_played c.args.first.now c.args.second.now (take (index + 1) turns) _ _ w.journal-is w.firsts-is w.seconds-is
          (second_plays c.args.first.now c.args.second.now (take index turns) (take (index + 1) turns) c.loop-turn.journal
          w.give-in-1.new.journal (commands_left c.loop-turn.firsts) (commands_left c.loop-turn.seconds)
          (commands_left w.give-in-1.new.commands) before (more ∙ ap (λ n. callers_in (take index turns) ++ n ∷ []) w.in-1.is)
          (record {
            sections = w.give-in-1.ensures.sections;
            called = w.in_ok-give-in-1.ensures.called;
            rest = w.in_ok-give-in-1.ensures.left;
          }))
    ] in
    record { same = done.same; called = done.called; firsts = done.first_left; seconds = done.second_left }
