use Rattle.std.proofs.Common.{◌≡◌, ◌∙◌, suc, add-one, ap, length, take, arith}
use Rattle.std.specs.Prelude.{slice_range}
use Rattle.kv_history.specs.Log.{Log, all_replies}
use Rattle.kv_history.proofs.Holding.{has_log, replies-has}
use Rattle.kv_history.proofs.Places.{ends_in_order, ends_within, reply_at}
use Rattle.kv_history.proofs.journal.Journal.reply.Goals as goal

pub part-requires : goal.part-requires
part-requires c =
    let log : Log = c.args.self.now in
    let turn = c.args.turn in
    let replies_are : c.deref-2.result.now ≡ all_replies log.entries =
    c.deref-2.ensures.value ∙ replies-has _ _ (has_log _ _ _ c.deref.ensures c.self.invariant c.self.view_is) in
    let through : c.replies_end-2.result ≡ length (all_replies (take (suc turn) log.entries)) =
    c.replies_end-2.ensures ∙ ap (λ n. length (all_replies (take n log.entries))) (add-one turn) in
    record {
      order = omega (arith, ends_in_order turn log.entries, c.replies_end.ensures, through);
      within = omega (arith, ends_within (suc turn) log.entries, ap length replies_are, through);
    }

pub returns : goal.returns
returns c =
    let log : Log = c.args.self.now in
    let turn = c.args.turn in
    let replies_are : c.deref-2.result.now ≡ all_replies log.entries =
    c.deref-2.ensures.value ∙ replies-has _ _ (has_log _ _ _ c.deref.ensures c.self.invariant c.self.view_is) in
    let through : c.replies_end-2.result ≡ length (all_replies (take (suc turn) log.entries)) =
    c.replies_end-2.ensures ∙ ap (λ n. length (all_replies (take n log.entries))) (add-one turn) in
    reply_at log.entries turn c.part.result.now c.requires
    (c.part.ensures ∙ (λ i. slice_range (replies_are i) (c.replies_end.ensures i) (through i)))
