use Rattle.std.proofs.Common.{◌≡◌, ◌<◌, ◌∙◌, suc, ap, length, take, arith}
use Rattle.kv_history.specs.Log.{Log, all_replies}
use Rattle.kv_history.proofs.Holding.{has_log, length-has, record_of}
use Rattle.kv_history.proofs.journal.Journal.replies_end.Goals as goal

pub index-requires : goal.index-requires
index-requires c =
    let last = c.in-Some.ensures in
    omega (arith, c.requires, last.0, last.1, length-has _ _ (has_log _ _ _ c.deref.ensures c.self.invariant c.self.view_is))

pub returns-in-Some : goal.returns-in-Some
returns-in-Some c =
    let log : Log = c.args.self.now in
    let last = c.in-Some.ensures in
    let within : c.in-Some.last < length log.entries = omega (arith, c.requires, last.0, last.1) in
    let placed = record_of _ log c.in-Some.last c.index.result.now (has_log _ _ _ c.deref.ensures c.self.invariant c.self.view_is)
    within c.index.ensures in
    let count : suc c.in-Some.last ≡ c.args.entries = omega (arith, last.0, last.1) in
    let end : c.index.result.now.end ≡ length (all_replies (take (suc c.in-Some.last) log.entries)) = omega (arith, placed.end) in
    end ∙ ap (λ n. length (all_replies (take n log.entries))) count
