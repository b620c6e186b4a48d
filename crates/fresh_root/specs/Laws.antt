-- What follows from the rule and from what was seen.
use Rattle.std.specs.Prelude.{◌≡◌, ◌≢◌, ◌⊎◌, ◌<◌, ℕ, false, List, All, None}
use mathlib.Core.Option.{some}
use lib.ListN.{get_elem?}
use Rattle.atomic_table.specs.Table.{State}
use Rattle.fresh_root.specs.Prefixes.{IsPrefixOf, StandsAt}
use Rattle.fresh_root.specs.Rule.{IsFresh}
use Rattle.fresh_root.specs.States.{FreshState, fresh_calls, fresh_tag, no_caller}
use Rattle.fresh_root.specs.declared.view.View.{View}

-- what stands at a place of what was seen stands there in every history that begins so
abbrev pub MarksStand : Type 0
MarksStand = (seen history : List ℕ) (caller turn : ℕ) → IsPrefixOf seen history → StandsAt caller turn seen → StandsAt caller turn history

-- while the payload is out, the calls are no list of callers
abbrev pub NoReleaseWhileOut : Type 0 → Type 0
NoReleaseWhileOut P = (f : FreshState P) (callers : List ℕ) → f.payload ≡ None → All (λ caller. caller < no_caller) callers
    → fresh_calls f ≢ callers

-- a tag tells the name, the number of tokens and the payload's tag
abbrev pub TagsTell : Type 0 → Type 0
TagsTell P = (f g : FreshState P) → fresh_tag f ≡ fresh_tag g → (f.name ≡ g.name) × (f.tokens ≡ g.tokens) × (f.tag ≡ g.tag)

-- of the lists of two views that aren't spent, one begins the other
abbrev pub WhatWasSeenIsOrdered : Type 0
WhatWasSeenIsOrdered = (s : State (Unit {0}) View) → IsFresh s → (j k : ℕ) (v w : View) → get_elem? s.views j ≡ some v
    → get_elem? s.views k ≡ some w → v.spent ≡ false → w.spent ≡ false → IsPrefixOf v.list w.list ⊎ IsPrefixOf w.list v.list
