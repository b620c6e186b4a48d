-- What the crate's own types hold, without where it lies in memory.
use Rattle.std.specs.Prelude.{ℕ, List, Vec}
use Rattle.std.specs.declared.alloc.Global.{Global}
use Rattle.kv_history.specs.declared.item.Item.{Item}
use Rattle.kv_history.specs.declared.storing.Storing.{Storing}
use Rattle.kv_history.specs.Contents as contents
use Rattle.mc_text.specs.Request as asked

abbrev pub plain_item : Item → contents.Item
plain_item item = record { flags = item.flags; expiry = item.expiry; block = item.block.items; unique = item.unique }

abbrev pub keyed : Vec ℕ Global × Item → List ℕ × contents.Item
keyed entry = (entry.0.items, plain_item entry.1)

abbrev pub storing_view : Storing → asked.Storing
storing_view storing =
    record {
      how = storing.how;
      key = storing.key.now;
      flags = storing.flags;
      exptime = storing.exptime;
      unique = storing.unique;
      block = storing.block.now;
      quiet = storing.quiet;
    }
