use Rattle.std.proofs.Common.{◌<◌, ℕ, List, [], ◌∷◌, length, ap, sym, subst, arith, length-append}
use Rattle.std.specs.Prelude.{All}
use Rattle.std.proofs.lemmas.List.Elements.{All-push}
use Rattle.lock_select.specs.Traces.{ReadsTo}
use Rattle.lock_select.proofs.TraceReadings.{reads_more, begins_longer}
use Rattle.lock_select.proofs.trace.read_trace.Goals as goal

pub loop-rest-preserved : goal.loop-rest-preserved
loop-rest-preserved g c =
    let pus = c.count-pus.result in
    let before = c.loop-rest.trace.items in
    let behind = c.in_ok-pu.behind.now in
    let begins = c.in_ok-pu.ensures.begins in
    let items = c.in_ok-push.ensures.items in
    let more = reads_more pus before c.args.bytes.now c.loop-rest.rest.now behind c.in_ok-pu.pu c.loop-rest.invariant.reads begins in
    let longer = begins_longer pus c.loop-rest.rest.now c.in_ok-pu.pu behind begins in
    let few = c.if-len-ge-TURN_LIMIT.false in
    record {
      reads = subst (λ (trace : List ℕ). ReadsTo pus c.args.bytes.now trace behind) (sym items) more;
      few = omega (arith, ap length items, length-append before (c.in_ok-pu.pu ∷ []), few);
      within = let within = c.loop-rest.invariant.within in omega (arith, longer, within);
      known = subst (All (λ pu. pu < pus)) (sym items)
          (All-push (λ (pu : ℕ). pu < pus) before c.in_ok-pu.pu c.loop-rest.invariant.known begins.place);
    }
