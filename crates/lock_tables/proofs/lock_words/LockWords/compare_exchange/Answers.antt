use Rattle.std.proofs.Common.{ap, sym, ◌∙◌, subst, ◌<◌}
use Rattle.lock_tables.proofs.Makes.{allows_exchange, made_same}
use Rattle.lock_tables.proofs.Owned.{own_after}
use Rattle.lock_tables.proofs.lock_words.LockWords.compare_exchange.Goals as goal

pub compare_exchange-requires : goal.compare_exchange-requires
compare_exchange-requires g c =
    let own = c.requires.own in
    let table = ap (λ t. t.shared.table_id) c.deref.ensures in
    let words = ap (λ z. z.words) table ∙ own.row in (
      own.table ∙ sym table,
      subst (λ n. c.args.word < n) (sym words) c.requires.within,
      allows_exchange g.V.Cargo.fit g.V.Cargo.tag g.V.Cargo.parked _ c.is_disciplined.ensures _ _ _ g.K.KindOf.kind
          c.is_kept.ensures _ _ _ _ _ _ c.requires.form c.requires.word c.requires.operand c.requires.expected c.requires.asks
          own.unspent c.requires.carries,
    )

pub returns-clause-own : goal.returns-clause-own
returns-clause-own g c =
    own_after _ _ _ _ _ c.requires.own c.compare_exchange.ensures.0
    (made_same g.V.Cargo.fit g.V.Cargo.tag g.V.Cargo.parked _ g.K.KindOf.kind c.is_kept.ensures _ _ _ c.compare_exchange.ensures.2.1)
