-- A counted history may be shared between threads: its home seat owns a view alone, and a view may go to another thread.
use denote.Builtin.{unit, u32}
use denote.RattleType.{RattleType}
use denote.Struct.Declared.{shape}
use denote.Param.Send.{IsSend, IsSync, part_keyless, recorded_sync, sendable, struct_sync, view_sync}
use Rattle.std.proofs.Crossing.{frees}
use Rattle.std.specs.contracts.alloc.Global as Global
use Rattle.std.specs.contracts.impls.GlobalAllocator.TheImpl as allocator
use Rattle.atomic_table.proofs.send_lease.SendLease.TheSendSync as lease
use Rattle.atomic_table.proofs.shared.Seat.TheSendSync as seat
use Rattle.atomic_table.proofs.shared.Shared.TheSendSync as shared
use Rattle.atomic_table.specs.contracts.owned.Table as Table
use Rattle.atomic_table.specs.contracts.shared.Seat as Seat
use Rattle.fresh_root.specs.contracts.history.History as History
use Rattle.fresh_root.specs.contracts.history.History.TheInside as inside
use Rattle.fresh_root.specs.contracts.plays.FreshRule as FreshRule
use Rattle.fresh_root.specs.contracts.plays.FreshRuleTableRuleUnitViewU32.TheImpl as rule
use Rattle.fresh_root.specs.contracts.view.View as View

seat_shared : (S V : RattleType) → IsSend S → IsSync (Seat.the_row S V)
seat_shared S V sent = record { shared = λ d b o κ q. part_keyless (Seat.the_row S V) (seat.the_send S V sent) q d b o }

home_shared : IsSync (Seat.the_field unit View.the_row).row
home_shared = seat_shared unit View.the_row (search sendable depth 20)

table_shared : IsSync (Table.the_field unit View.the_row u32 FreshRule.the_row Global.the_row rule.ghosts allocator.ghosts).row
table_shared =
    struct_sync (shape (Table.the_type unit View.the_row u32 FreshRule.the_row Global.the_row rule.ghosts allocator.ghosts)) (
      shared.the_sync unit View.the_row u32 FreshRule.the_row rule.ghosts (search sendable depth 20),
      (
        search sendable depth 20,
        (
          search sendable depth 20,
          (
            lease.the_sync _ Global.the_row allocator.ghosts (search sendable depth 20) frees,
            (
              lease.the_sync _ Global.the_row allocator.ghosts (search sendable depth 20) frees,
              (search sendable depth 20, tt),
            ),
          ),
        ),
      ),
    )

pub history_shared : IsSync History.the_row
history_shared =
    let fields : IsSync inside.the_row =
    recorded_sync _ _ _ (inside.the_type).to_one (struct_sync (shape inside.the_type) (table_shared, (home_shared, tt))) in
    view_sync inside.the_row _ _ _ _ fields
