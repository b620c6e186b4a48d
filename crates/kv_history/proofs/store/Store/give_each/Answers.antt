use Rattle.std.proofs.Common.{◌≡◌, ◌∙◌, ◌++◌, ap, append_assoc}
use Rattle.std.specs.Option.{option_map_or}
use Rattle.std.specs.Prelude.{[]}
use Rattle.kv_history.specs.Answer.{written_item, written_key}
use Rattle.kv_history.specs.Views.{plain_item}
use Rattle.kv_history.proofs.Given.{given_more}
use Rattle.kv_history.proofs.store.Store.give_each.Goals as goal

pub loop-key-preserved-in-Continue-1 : goal.loop-key-preserved-in-Continue-1
loop-key-preserved-in-Continue-1 c =
    let key = c.in-Some.key.now in
    let part = c.loop-key.invariant.part in
    let more = written_item c.args.uniques key (plain_item c.in-Some-get.item.now) in
    let found : more ≡ written_key c.args.self.now.items c.args.uniques key =
    ap (λ found. option_map_or (written_item c.args.uniques key) found []) c.in-Some-get.ensures
    ∙ ap (λ items. written_key items c.args.uniques key) (ap (λ store. store.items) c.self.view_is) in
    record {
      part = part ++ more;
      appended = c.in_ok-append_item.ensures.ok ∙ ap (λ text. text ++ more) c.loop-key.invariant.appended
          ∙ append_assoc c.args.reply.now.items part more;
      whole = given_more (written_key c.args.self.now.items c.args.uniques) part more _ key _ _ c.in-Some.ensures found
          c.loop-key.invariant.whole;
    }
