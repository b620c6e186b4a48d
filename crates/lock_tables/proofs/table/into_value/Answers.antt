use Rattle.std.proofs.Common.{◌≡◌, ap, sym, ◌∙◌, subst}
use mathlib.Core.Option.{some-injective}
use Rattle.lock_tables.proofs.Seats.{taken}
use Rattle.lock_tables.proofs.Steps.{ends}
use Rattle.lock_tables.proofs.table.into_value.Goals as goal

pub unreachable-requires : goal.unreachable-requires
unreachable-requires g c =
    let e = ends g.V.Cargo.fit g.V.Cargo.tag g.V.Cargo.parked _ c.is_disciplined.ensures _ _ _ _ _ _ _ c.close_with-closed.ensures.values.2
    c.requires.idle c.requires.silent c.requires.all in
    c.in_default.not-Some e.0 (some-injective _ _ (sym c.take-slot.ensures.value ∙ e.1))

pub returns-clause-fit : goal.returns-clause-fit
returns-clause-fit g c =
    let e = ends g.V.Cargo.fit g.V.Cargo.tag g.V.Cargo.parked _ c.is_disciplined.ensures _ _ _ _ _ _ _ c.close_with-closed.ensures.values.2
    c.requires.idle c.requires.silent c.requires.all in
    let same : e.0 ≡ c.in-Some.value = taken _ _ _ (sym e.1 ∙ c.take-slot.ensures.value) c.in-Some.is in
    subst g.V.Cargo.fit same e.2

pub returns-clause-tagged : goal.returns-clause-tagged
returns-clause-tagged g c =
    let e = ends g.V.Cargo.fit g.V.Cargo.tag g.V.Cargo.parked _ c.is_disciplined.ensures _ _ _ _ _ _ _ c.close_with-closed.ensures.values.2
    c.requires.idle c.requires.silent c.requires.all in
    let same : e.0 ≡ c.in-Some.value = taken _ _ _ (sym e.1 ∙ c.take-slot.ensures.value) c.in-Some.is in
    sym (ap g.V.Cargo.tag same) ∙ e.3

pub returns-clause-unparked : goal.returns-clause-unparked
returns-clause-unparked g c =
    let e = ends g.V.Cargo.fit g.V.Cargo.tag g.V.Cargo.parked _ c.is_disciplined.ensures _ _ _ _ _ _ _ c.close_with-closed.ensures.values.2
    c.requires.idle c.requires.silent c.requires.all in
    let same : e.0 ≡ c.in-Some.value = taken _ _ _ (sym e.1 ∙ c.take-slot.ensures.value) c.in-Some.is in
    sym (ap g.V.Cargo.parked same) ∙ e.4
