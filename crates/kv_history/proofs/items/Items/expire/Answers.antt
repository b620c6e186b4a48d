use Rattle.std.proofs.Common.{◌≡◌, ◌∙◌, ap, sym, subst}
use Rattle.std.specs.FinMap.{get, remove}
use Rattle.kv_history.specs.Contents as contents
use Rattle.kv_history.specs.Contents.{left_at}
use Rattle.kv_history.specs.Dues.{Agrees}
use Rattle.kv_history.proofs.Agreement.{agrees-remove, dead, left-all, left-remove, lists_at-time}
use Rattle.kv_history.proofs.Listed.{relists-struck}
use Rattle.kv_history.proofs.items.Items.expire.Goals as goal

pub loop-due-preserved : goal.loop-due-preserved
loop-due-preserved c =
    let items : contents.Items = c.loop-due.self-inside.table in
    let old = c.loop-due.self-inside.dues in
    let new = c.strike_due.new.self in
    let time = c.in-Some.due.time in
    let key = c.in-Some.due.key.items in
    let agrees = c.loop-due.invariant.agrees in
    let listed = c.in-Some.ensures.listed in
    let relists = relists-struck key time old new (lists_at-time time key items old agrees listed) c.in-Some.ensures.struck in
    let removed : c.remove.new.self ≡ remove items key = c.remove.ensures.removed ∙ ap (remove items) c.deref.ensures.value in
    record {
      agrees = subst (Agrees new) (sym removed) (agrees-remove key items old new relists agrees);
      left = ap (left_at c.args.moment) removed
          ∙ left-remove c.args.moment key items
          (dead time c.args.moment (get items key) (sym (agrees time key) ∙ listed) c.in-Some.ensures.due)
          ∙ c.loop-due.invariant.left;
    }

pub returns : goal.returns
returns c =
    sym (left-all c.args.moment c.loop-due.self-inside.table c.loop-due.self-inside.dues c.loop-due.invariant.agrees
    (λ time key soon. sym (c.in_default.ensures.stays time key) ∙ c.in_default.ensures.none time key soon))
    ∙ c.loop-due.invariant.left
