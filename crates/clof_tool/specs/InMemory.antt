-- What streams in memory that never fail tell of themselves.
use Rattle.std.specs.Prelude.{Some}
use Rattle.edge_io.specs.InMemory.{SureFeed, SureTray}
use Rattle.clof_tool.specs.Ended.{SourceState, SinkState}

abbrev pub sure_source : SureFeed → SourceState
sure_source feed = record { left = Some feed.left; given = feed.given; faults = 0 }

abbrev pub sure_sink : SureTray → SinkState
sure_sink tray = record { held = Some tray.held; room = Some tray.room; faults = 0; stalls = tray.stalls }
