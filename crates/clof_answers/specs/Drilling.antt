-- The machine of a drill.
use Rattle.std.specs.Prelude.{ℕ, [], ◌∷◌, None}
use Rattle.synth_text.specs.declared.kind.Kind.{Kind}
use Rattle.synth_text.specs.declared.kind.Kind.TheVariants.{Package, L3, Core, Pu}
use Rattle.synth_text.specs.declared.description.Indexes.TheVariants as indexes
use Rattle.synth_text.specs.declared.description.Level.{Level}
use Rattle.synth_text.specs.declared.description.Description.{Description}

-- so many objects of a kind, without a size or numbers of their own
abbrev pub plain_level : Kind → ℕ → Level
plain_level kind arity = record { kind = kind; arity = arity; size = None; indexes = indexes.Ordered }

-- two packages, each with two L3 caches of four cores, each of which has two PUs
unfoldable pub drilled_machine : Description
drilled_machine =
    record { levels = plain_level Package 2 ∷ plain_level L3 2 ∷ plain_level Core 4 ∷ plain_level Pu 2 ∷ []; memory = None }
