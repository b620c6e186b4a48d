use Rattle.std.proofs.Common.{◌∙◌, Some, ap, sym, arith}
use Rattle.std.specs.Prelude.{option_map}
use Rattle.kv_history.specs.Log.{Logged}
use Rattle.kv_history.proofs.Holding.{has_log, length-has, record_of}
use Rattle.kv_history.proofs.Places.{PlacedAt}
use Rattle.kv_history.proofs.journal.Journal.entry.Goals as goal

pub index-record-requires : goal.index-record-requires
index-record-requires c =
    omega (arith, c.requires, length-has _ _ (has_log _ _ _ c.deref.ensures c.self.invariant c.self.view_is))

-- the entry of the record
placed : (c : goal.After-result-1) → PlacedAt 0 c.args.turn c.index-record.result.now c.args.self.now.entries
placed c =
    record_of _ _ c.args.turn c.index-record.result.now (has_log _ _ _ c.deref.ensures c.self.invariant c.self.view_is) c.requires
    c.index-record.ensures

pub returns-clause-caller : goal.returns-clause-caller
returns-clause-caller c = ap (option_map (λ (entry : Logged). entry.caller)) (placed c).found ∙ ap Some (sym (placed c).caller)

pub returns-clause-spelling : goal.returns-clause-spelling
returns-clause-spelling c =
    ap (option_map (λ (entry : Logged). entry.command.spelling)) (placed c).found ∙ ap Some (sym (placed c).spelling)

pub returns-clause-void : goal.returns-clause-void
returns-clause-void c = ap (option_map (λ (entry : Logged). entry.void)) (placed c).found ∙ ap Some (sym (placed c).void)
