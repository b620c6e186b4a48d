use Rattle.std.proofs.Common.{ap}
use Rattle.clof_tool.specs.Ended.{source_state, sink_state}
use Rattle.clof_tool.proofs.calling.call_top.Goals as goal

pub returns : goal.returns
returns g c =
    let e = c.top.ensures in
    let source = source_state g.S.Source.left g.S.Source.given g.S.Source.faults in
    let out = sink_state g.K.Sink.held g.K.Sink.room g.K.Sink.faults g.K.Sink.stalls in
    let err = sink_state g.E.Sink.held g.E.Sink.room g.E.Sink.faults g.E.Sink.stalls in
    record {
      ended = record {
        by_words = record {
          usage = e.usage;
          usage_else = e.usage_else;
          unread = λ usage. ap source (e.unread usage);
          unread_else = λ asked says reads_none. ap source (e.unread_else asked says reads_none);
          refused = e.words_refused;
          unread_refused = λ asked wanted says refused. ap source (e.unread_refused asked wanted says refused);
        };
        by_input = record {
          refused = e.input_refused;
          cause = e.cause;
          at_end = e.at_end;
          read_fault = e.read_fault;
          read_fault_input = e.read_fault_input;
          read_in_part = e.read_in_part;
          read_calm = e.read_calm;
        };
        by_output = record {
          printed = e.printed;
          write_fault = e.write_fault;
          write_full = e.write_full;
          cut_short = e.cut_short;
          unwritten = λ none. ap out (e.unwritten none);
          no_write_fault = e.no_write_fault;
          no_stall = e.no_stall;
        };
        by_line = record {
          silent = λ ok. ap err (e.silent ok);
          told = e.told;
          told_in_part = e.told_in_part;
        };
        complete = e.complete;
      };
    }
