use Rattle.std.proofs.Common.{sym}
use Rattle.run_check.proofs.Heads.{no_line, no_head, pair_behind}
use Rattle.run_check.proofs.pair.read_pair.Goals as goal

pub returns-in_default-clause-refused : goal.returns-in_default-clause-refused
returns-in_default-clause-refused c = no_line c.args.bytes.now c.in_default.ensures

pub returns-in_default-read_head-clause-refused : goal.returns-in_default-read_head-clause-refused
returns-in_default-read_head-clause-refused c =
    no_head c.args.bytes.now c.in-Some.line.now c.in-Some.behind.now c.in-Some.ensures (sym c.in_default-read_head.ensures)

pub returns-in_default-split_bytes-clause-refused : goal.returns-in_default-split_bytes-clause-refused
returns-in_default-split_bytes-clause-refused c =
    let bytes = c.args.bytes.now in
    let line = c.in-Some.line.now in
    let behind = c.in-Some.behind.now in
    let size = c.in-Some-read_head.size in (
      (
        size,
        record {
          line = line;
          behind = behind;
          cut = c.in-Some.ensures;
          size_is = sym c.in-Some-read_head.ensures;
        },
      ),
      λ input printed pair.
          let parts = pair_behind bytes line behind input printed size c.in-Some.ensures (sym c.in-Some-read_head.ensures) pair in
          c.in_default-split_bytes.ensures input printed parts.0 parts.1,
    )
