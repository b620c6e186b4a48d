-- What a journal keeps of its callers.
use Rattle.std.specs.Prelude.{◌≡◌, ◌≤◌, ℕ, List, length}
use Rattle.mc_text.specs.Reading.{commands_of, rest_of}
use Rattle.kv_history.specs.declared.caller.Caller.{Caller}

abbrev pub section_of : Caller → List ℕ
section_of caller = caller.section.now

-- how many commands a caller's section has, no more than bytes, and what stands behind them
pub record IsTallied (caller : Caller) : Type 0 where
  pub commands : caller.tally.commands ≡ length (commands_of caller.section.now)
  pub bound : caller.tally.commands ≤ length caller.section.now
  pub rest : caller.tally.rest.now ≡ rest_of caller.section.now
