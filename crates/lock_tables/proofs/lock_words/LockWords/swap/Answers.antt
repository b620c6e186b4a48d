use Rattle.std.proofs.Common.{ap, sym, ◌∙◌, subst, ◌<◌}
use Rattle.lock_tables.proofs.Makes.{allows_swap, made_same}
use Rattle.lock_tables.proofs.Owned.{own_after}
use Rattle.lock_tables.proofs.lock_words.LockWords.swap.Goals as goal

pub swap-requires : goal.swap-requires
swap-requires g c =
    let own = c.requires.own in
    let table = ap (λ t. t.shared.table_id) c.deref.ensures in
    let words = ap (λ z. z.words) table ∙ own.row in (
      own.table ∙ sym table,
      subst (λ n. c.args.word < n) (sym words) c.requires.within,
      allows_swap g.V.Cargo.fit g.V.Cargo.tag g.V.Cargo.parked _ c.is_disciplined.ensures _ _ _ g.K.KindOf.kind c.is_kept.ensures _ _ _ _ _
          c.requires.form c.requires.word c.requires.operand c.requires.asks own.unspent c.requires.carries,
    )

pub returns-clause-own : goal.returns-clause-own
returns-clause-own g c =
    own_after _ _ _ _ _ c.requires.own c.swap.ensures.0
    (made_same g.V.Cargo.fit g.V.Cargo.tag g.V.Cargo.parked _ g.K.KindOf.kind c.is_kept.ensures _ _ _ c.swap.ensures.2.1)
