use Rattle.std.proofs.Common.{ap, sym, ◌∙◌, subst, arith}
use Rattle.lock_rules.specs.Views.{IsPlain}
use Rattle.lock_rules.proofs.Names.{lock_name-tells}
use Rattle.lock_rules.proofs.Passes.{one_less}
use Rattle.lock_tables.specs.Numbers.{passes_of}
use Rattle.lock_tables.proofs.Numbers.{plain_size, joined_size}
use Rattle.lock_tables.proofs.Seats.{silent_view}
use Rattle.lock_tables.proofs.Steps.{joins}
use Rattle.lock_tables.proofs.table.join_passes.Goals as goal

pub loop-pass-init : goal.loop-pass-init
loop-pass-init g c =
    let out = one_less _ _ _ _ _ c.pop.new.self.items c.in-Some.pass c.in-Some.ensures.items c.requires.all in
    let parts = c.into_parts-seat.ensures in
    let view = ap (λ m. m.0) parts.view in
    let plain : IsPlain c.into_parts-seat.result.0.me.0 = subst IsPlain (sym view) c.in-Some.pass.idle.plain in record {
      table = parts.table ∙ (lock_name-tells _ _ _ _ _ _ (ap (λ p. p.lock) out.1)).2;
      idle = ap (λ v. v.phase) view ∙ c.in-Some.pass.idle.stands;
      silent = silent_view _ _ view c.in-Some.pass.idle;
      unspent = plain.unspent;
      numbers = let n = plain_size c.into_parts-seat.result.0.me.0 plain in omega (arith, n, out.2);
      listed = out.0;
    }

pub join_seat-requires : goal.join_seat-requires
join_seat-requires g c =
    let out = one_less _ _ _ _ _ c.pop-in-loop-pass.new.self.items c.in-Some-pop.pass c.in-Some-pop.ensures.items
    c.loop-pass.invariant.listed in
    let parts = c.into_parts-other.ensures in
    let view = ap (λ m. m.0) parts.view in
    let plain : IsPlain c.into_parts-other.result.0.me.0 = subst IsPlain (sym view) c.in-Some-pop.pass.idle.plain in (
      c.loop-pass.invariant.table,
      parts.table ∙ (lock_name-tells _ _ _ _ _ _ (ap (λ p. p.lock) out.1)).2,
      ap (λ m. m.1) parts.view,
      c.requires.lined,
      joins g.V.Cargo.fit g.V.Cargo.tag g.V.Cargo.parked _ c.is_disciplined.ensures _ _ _ _ _ _ _ c.loop-pass.invariant.unspent
          (ap (λ v. v.phase) view ∙ c.in-Some-pop.pass.idle.stands) plain (silent_view _ _ view c.in-Some-pop.pass.idle),
    )

pub loop-pass-preserved : goal.loop-pass-preserved
loop-pass-preserved g c =
    let out = one_less _ _ _ _ _ c.pop-in-loop-pass.new.self.items c.in-Some-pop.pass c.in-Some-pop.ensures.items
    c.loop-pass.invariant.listed in
    let plain : IsPlain c.into_parts-other.result.0.me.0 =
    subst IsPlain (sym (ap (λ m. m.0) c.into_parts-other.ensures.view)) c.in-Some-pop.pass.idle.plain in
    let did = ap (λ m. m.0) c.join_seat.ensures.2 in record {
      table = c.join_seat.ensures.0 ∙ c.loop-pass.invariant.table;
      idle = ap (λ v. v.phase) did ∙ c.loop-pass.invariant.idle;
      silent = ap (λ v. v.announced) did ∙ c.loop-pass.invariant.silent;
      unspent = ap (λ v. v.spent) did ∙ c.loop-pass.invariant.unspent;
      numbers =
          let n = joined_size c.loop-pass.seat.me.0 c.into_parts-other.result.0.me.0 c.loop-pass.invariant.unspent plain in
          let m = ap passes_of did in
          omega (arith, n, m, out.2, c.loop-pass.invariant.numbers);
      listed = out.0;
    }
