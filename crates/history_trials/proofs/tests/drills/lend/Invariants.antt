use Rattle.std.proofs.Common.{◌≡◌, map, take}
use Rattle.history_trials.proofs.tests.drills.lend.Given as goal

-- the texts so far are lent
abbrev pub invariant-loop-text : goal.invariant-loop-text
invariant-loop-text l = map (λ one. one.now) l.lent.items ≡ map (λ text. text.items) (take l.text-index l.texts)
