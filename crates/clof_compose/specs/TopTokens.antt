-- What the tokens of a top lock mean, by those of its basic lock.
use Rattle.std.specs.Prelude.{◌≡◌, ℕ, List, Some}
use Rattle.lock_rules.specs.Holders.{holder_of, with_value}
use Rattle.lock_rules.specs.Meanings.{Place, Waiting}
use Rattle.lock_rules.specs.declared.step.Answer.TheVariants.{Open}
use Rattle.clof_compose.specs.Meanings.{Rest, Climb, Stand, Descent}
use Rattle.clof_compose.specs.Roots.{IsInHand}
use Rattle.clof_compose.specs.Tops.{top_context}
use Rattle.clof_compose.specs.declared.root.Root.{Root}
use Rattle.clof_compose.specs.declared.top_tokens.TopPass.{TopPass}
use Rattle.clof_compose.specs.declared.top_tokens.TopQueue.{TopQueue}
use Rattle.clof_compose.specs.declared.top_tokens.TopHeld.{TopHeld}
use Rattle.clof_compose.specs.declared.top_tokens.TopLeave.{TopLeave}

module _ {L : Type 0} where
  abbrev pub top_rest : (L → Place) → (L → ℕ) → TopPass L → Rest
  top_rest place entries p = record { context = top_context p.level (place p.low); entries = entries p.low; report = p.report }

  abbrev pub top_climb : (L → Waiting) → TopQueue L → Climb
  top_climb waiting q = record {
    context = top_context q.level (waiting q.low).place;
    level = q.level;
    entries = (waiting q.low).entries;
    loads = (waiting q.low).loads;
    ready = (waiting q.low).ready;
  }

  abbrev pub top_descent : (L → Waiting) → TopLeave L → Descent
  top_descent waiting l = record {
    context = top_context l.level (waiting l.low).place;
    level = l.level;
    loads = (waiting l.low).loads;
    ready = (waiting l.low).ready;
    report = l.report;
  }

  -- the basic token rests as its lock's release asks
  abbrev pub TopDescends : (L → Type 0) → TopLeave L → Type 0
  TopDescends rests l = rests l.low

module _ {P : Type 0} where
  abbrev pub top_stand : TopHeld P → Stand (Root P)
  top_stand h = record {
    context = top_context h.level (holder_of h.low).place;
    loads = λ _. (holder_of h.low).loads;
    root = Some h.low.value;
  }

  -- the root is in the holder's hands, and nobody was asked yet in this hold
  abbrev pub TopStands : (P → List ℕ) → TopHeld P → Type 0
  TopStands calls h = IsInHand calls h.low.value × ((holder_of h.low).tested ≡ Open)

  abbrev pub top_with_root : TopHeld P → Root P → TopHeld P
  top_with_root h r = record h { low = with_value h.low r }
