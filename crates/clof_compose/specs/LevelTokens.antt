-- What the tokens of a level mean, by those of its node's lock and of the high lock.
use Rattle.std.specs.Prelude.{◌≡◌, ℕ}
use Rattle.lock_rules.specs.Holders.{holder_of, with_value}
use Rattle.lock_rules.specs.Meanings.{Place, Waiting}
use Rattle.lock_rules.specs.declared.step.Answer.TheVariants.{Open}
use Rattle.clof_compose.specs.Levels.{level_context, kept_stand, loads_from, own_with_root, IsHolding, IsStanding}
use Rattle.clof_compose.specs.Meanings.{Rest, Climb, Stand, Descent}
use Rattle.clof_compose.specs.Stages.{queue_climb, IsQueued, leave_descent, IsLeaving}
use Rattle.clof_compose.specs.declared.root.Root.{Root}
use Rattle.clof_compose.specs.declared.level_tokens.LevelPass.{LevelPass}
use Rattle.clof_compose.specs.declared.level_tokens.LevelHeld.{LevelHeld}
use Rattle.clof_compose.specs.declared.level_tokens.LevelQueue.{LevelQueue}
use Rattle.clof_compose.specs.declared.level_tokens.LevelLeave.{LevelLeave}

module _ {L : Type 0} where
  abbrev pub level_rest : (L → Place) → (L → ℕ) → LevelPass L → Rest
  level_rest place entries p = record {
    context = level_context p.id.level p.id.node p.id.number (place p.low);
    entries = entries p.low;
    report = p.report;
  }

module _ {P Pass Held : Type 0} where
  abbrev pub level_stand : (Held → Stand (Root P)) → LevelHeld P Pass Held → Stand (Root P)
  level_stand stand h = record {
    context = level_context h.id.level h.id.node h.id.number (holder_of h.low).place;
    loads = loads_from h.id.level (holder_of h.low).loads (kept_stand stand h.low.value.high).loads;
    root = (kept_stand stand h.low.value.high).root;
  }

  -- the high lock's holder stands, what the level keeps of it is right, and nobody was asked yet in this hold
  abbrev pub LevelStands : (Held → Stand (Root P)) → (Held → Type 0) → LevelHeld P Pass Held → Type 0
  LevelStands stand stands h = IsHolding h.id.level h.low.value.node h.low.value.kept (holder_of h.low).place.tag
      (IsStanding stands h.low.value.high) (kept_stand stand h.low.value.high) × ((holder_of h.low).tested ≡ Open)

  abbrev pub level_with_root : (Held → Root P → Held) → LevelHeld P Pass Held → Root P → LevelHeld P Pass Held
  level_with_root put h r = record h { low = with_value h.low (own_with_root put h.low.value r) }

module _ {P Q Pass Held HQ : Type 0} where
  abbrev pub level_climb : (Q → Waiting) → (HQ → Climb) → LevelQueue P Q Pass Held HQ → Climb
  level_climb waiting climb q = queue_climb waiting climb q.id.level q.id.node q.id.number q.stage

  abbrev pub LevelClimbs : (HQ → Climb) → (HQ → Type 0) → LevelQueue P Q Pass Held HQ → Type 0
  LevelClimbs climb climbs q = IsQueued climb climbs q.id.level q.stage

module _ {P L Pass Held HL : Type 0} where
  abbrev pub level_descent : (L → Waiting) → (HL → Descent) → LevelLeave P L Pass Held HL → Descent
  level_descent waiting descent l = leave_descent waiting descent l.id.level l.id.node l.id.number l.stage

  abbrev pub LevelDescends : (L → Type 0) → (HL → Descent) → (HL → Type 0) → LevelLeave P L Pass Held HL → Type 0
  LevelDescends rests descent descends l = IsLeaving rests descent descends l.id.level l.stage
