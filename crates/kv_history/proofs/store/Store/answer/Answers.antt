use Rattle.std.proofs.Common.{refl, rules, sym, subst}
use mir.Syntax.{w32}
use mir.Val.{of_z, to_z}
use Rattle.std.specs.FinMap.{get}
use Rattle.mc_text.specs.Request.{Storing, request_of}
use Rattle.kv_history.specs.Answer.{store_after}
use Rattle.kv_history.specs.Contents.{Contents, NoneExpired}
use Rattle.kv_history.proofs.Agreement.{on_either}
use Rattle.kv_history.proofs.Live.{live-after, live-storage}
use Rattle.kv_history.proofs.store.Store.answer.Goals as goal

pub returns-in_ok-line-in-Store-clause-none_expired : goal.returns-in_ok-line-in-Store-clause-none_expired
returns-in_ok-line-in-Store-clause-none_expired c =
    let old : Contents = c.args.self.now in
    let storing : Storing =
    record {
      how = c.in-Store.how;
      key = c.in-Store.key.now;
      flags = c.in-Store.flags;
      exptime = to_z w32 (of_z w32 c.in-Store.exptime);
      unique = c.in-Store.unique;
      block = c.in-Store.block.now;
      quiet = c.in-Store.quiet;
    } in
    λ none. subst NoneExpired (sym c.in_ok-line-in-Store.ensures.store)
    (live-storage old storing c.in-Store.how (get old.items c.in-Store.key.now) refl none)

pub returns-in_default : goal.returns-in_default
returns-in_default c =
    let old : Contents = c.args.self.now in
    let request = request_of c.args.command.now in
    record {
      reply = search rules;
      store = search rules;
      reply_stays = search rules;
      store_stays = search rules;
      none_expired = λ none. on_either c.answer_in_line.result NoneExpired c.answer_in_line.new.self (store_after old request) old
          c.answer_in_line.ensures.store c.answer_in_line.ensures.store_stays (live-after old request none) none;
    }
