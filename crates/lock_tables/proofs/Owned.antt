-- The seats of a lock's own tokens, and those after its steps.
use Rattle.std.proofs.Common.{◌≡◌, ◌≤◌, ap, sym, ◌∙◌}
use Rattle.atomic_table.specs.Seated.{TableId}
use Rattle.atomic_table.specs.declared.shared.Seat.{Seat}
use Rattle.lock_rules.specs.Passes.{IsOf}
use Rattle.lock_rules.specs.Rows.{row_of, IsRowOf}
use Rattle.lock_rules.specs.Tag.{Tag}
use Rattle.lock_rules.specs.Views.{IsPlain, lock_name, place_of}
use Rattle.lock_rules.specs.declared.view.Algorithm.{Algorithm}
use Rattle.lock_rules.specs.declared.view.Opening.{Opening}
use Rattle.lock_rules.specs.declared.view.View.{View}
use Rattle.lock_rules.proofs.Names.{own_table, own_algorithm, own_waiters}
use Rattle.lock_tables.specs.KeptKinds.{IsSame}
use Rattle.lock_tables.specs.Seats.{IsSeatOf, longest_row}

module _ {S V : Type 0} (a : Algorithm) (z : TableId) (key : Opening V) where
  -- the seat of a token of the lock
  pub own_from : (tag : Tag) (s : Seat S View) (y : TableId) (v : View) → IsOf (lock_name a key.waiters z) tag (place_of y v) → IsPlain v
      → IsRowOf v y → z.words ≤ longest_row → s.table_id ≡ y → s.me.0 ≡ v → IsSeatOf a z key s
  own_from tag s y v of p row few t m =
      let same = own_table a key.waiters z tag y v of in
      let algorithm = own_algorithm a key.waiters z tag y v of in record {
        table = t ∙ same;
        unspent = ap (λ (x : View). x.spent) m ∙ p.unspent;
        algorithm = ap (λ (x : View). x.algorithm) m ∙ algorithm;
        chosen = ap (λ (x : View). x.waiters) m ∙ own_waiters a key.waiters z tag y v of;
        row = ap (λ (x : TableId). x.words) (sym same) ∙ row ∙ ap (λ (x : Algorithm). row_of x v.count) algorithm
            ∙ ap (λ (x : View). row_of a x.count) (sym m);
        few = few;
      }

  -- the same seat, whose view has the same pass
  pub own_after : (s s' : Seat S View) → IsSeatOf a z key s → s'.table_id ≡ s.table_id → IsSame s.me.0 s'.me.0 → IsSeatOf a z key s'
  own_after s s' o t m = record {
    table = t ∙ o.table;
    unspent = ap (λ (x : View). x.spent) m ∙ o.unspent;
    algorithm = ap (λ (x : View). x.algorithm) m ∙ o.algorithm;
    chosen = ap (λ (x : View). x.waiters) m ∙ o.chosen;
    row = o.row ∙ ap (λ (x : View). row_of a x.count) (sym m);
    few = o.few;
  }
