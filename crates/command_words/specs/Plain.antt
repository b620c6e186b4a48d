-- What the code's reading of the words says, without where its texts lie in memory.
use Rattle.std.specs.Prelude.{ℕ, List, Option, map, option_map}
use Rattle.std.specs.Borrow.{Bor}
use Rattle.command_words.specs.declared.asked.Asked.{Asked}
use Rattle.command_words.specs.declared.asked.Asked.TheVariants as asked
use Rattle.command_words.specs.declared.asked.CalcQuestion.{CalcQuestion}
use Rattle.command_words.specs.declared.asked.CalcQuestion.TheVariants as questions
use Rattle.command_words.specs.declared.asked.Calculation.{Calculation}
use Rattle.command_words.specs.declared.asked.Depths.{Depths}
use Rattle.command_words.specs.declared.asked.Depths.TheVariants as depths
use Rattle.command_words.specs.declared.asked.Distribution.{Distribution}
use Rattle.command_words.specs.declared.asked.Running.{Running}
use Rattle.command_words.specs.declared.asked.Sharing.{Sharing}
use Rattle.command_words.specs.declared.asked.Selection.{Selection}
use Rattle.command_words.specs.declared.asked.Checking.{Checking}
use Rattle.command_words.specs.Asked as words

abbrev pub plain_text : Option (Bor (List ℕ)) → Option (List ℕ)
plain_text = option_map (λ text. text.now)

abbrev pub plain_question : CalcQuestion → words.CalcQuestion
plain_question questions.Set = words.TheSet
plain_question (questions.Intersect name) = words.Intersect name.now
plain_question (questions.NumberOf name) = words.NumberOf name.now
plain_question (questions.Hierarchical names) = words.Hierarchical names.now
plain_question questions.Largest = words.Largest

abbrev pub plain_calculation : Calculation → words.Calculation
plain_calculation given = record {
  question = plain_question given.question;
  physical = given.physical;
  single = given.single;
  taskset = given.taskset;
  separator = plain_text given.separator;
  description = given.description.now;
  locations = map (λ text. text.now) given.locations.items;
}

abbrev pub plain_depths : Depths → words.Depths
plain_depths (depths.Between from to) = words.Between (plain_text from) (plain_text to)
plain_depths (depths.At name) = words.At name.now

abbrev pub plain_distribution : Distribution → words.Distribution
plain_distribution given = record {
  masks = given.masks;
  depths = plain_depths given.depths;
  single = given.single;
  reverse = given.reverse;
  taskset = given.taskset;
  description = given.description.now;
}

abbrev pub plain_selection : Selection → words.Selection
plain_selection given = record { weights = plain_text given.weights; keep = given.keep.now; description = given.description.now }

abbrev pub plain_sharing : Sharing → words.Sharing
plain_sharing given = record { threads = given.threads; quantum = given.quantum }

abbrev pub plain_running : Running → words.Running
plain_running given = record {
  levels = given.levels.now;
  locks = plain_text given.locks;
  keep = given.keep.now;
  walk = given.walk;
  sharing = option_map plain_sharing given.sharing;
  receipts = given.receipts;
  description = given.description.now;
}

abbrev pub plain_checking : Checking → words.Checking
plain_checking given = record { levels = given.levels.now; keep = given.keep.now; description = given.description.now }

abbrev pub plain : Asked → words.Asked
plain (asked.Run given) = words.Run (plain_running given)
plain (asked.Set list text) = words.Set list text.now
plain (asked.Topo export text) = words.Topo export text.now
plain (asked.Calc given) = words.Calc (plain_calculation given)
plain (asked.Distrib given) = words.Distrib (plain_distribution given)
plain (asked.Select given) = words.Select (plain_selection given)
plain (asked.Drill number) = words.Drill number
plain (asked.Check given) = words.Check (plain_checking given)
