-- What words ask for.
use Rattle.std.specs.Prelude.{ℕ, Bool, false, List, Option, None}
use Rattle.clap.specs.Words.{Text}

-- what is asked of a set: itself, the objects of a type that meet it, how many these are, the chains of objects of types
-- between whose names a dot stands, or the largest objects inside it
pub data CalcQuestion : Type 0 where
  TheSet : CalcQuestion
  Intersect : (type_name : Text) → CalcQuestion
  NumberOf : (type_name : Text) → CalcQuestion
  Hierarchical : (type_names : Text) → CalcQuestion
  Largest : CalcQuestion

-- a question on the set that locations select
pub record Calculation : Type 0 where
  pub question : CalcQuestion
  -- objects are numbered by their physical numbers
  pub physical : Bool
  -- the set has its first number alone
  pub single : Bool
  pub taskset : Bool
  pub separator : Option Text
  pub description : Text
  pub locations : List Text

-- where a distribution starts and ends: between two depths, or at one
pub data Depths : Type 0 where
  Between : (from to : Option Text) → Depths
  At : (name : Text) → Depths

-- so many masks of a description
pub record Distribution : Type 0 where
  pub masks : ℕ
  pub depths : Depths
  pub single : Bool
  pub reverse : Bool
  pub taskset : Bool
  pub description : Text

-- a choice of the levels of a lock for a trace
pub record Selection : Type 0 where
  pub weights : Option Text
  pub keep : Text
  pub description : Text

-- callers that share threads: how many threads, and how many commands of a caller one serves at a time
pub record Sharing : Type 0 where
  pub threads : ℕ
  pub quantum : ℕ

-- a run of the sections of the input: the levels of its lock, the kinds of their basic locks where they are given, how often a
-- level keeps the lock, whether the callers are stepped on one thread, how they share threads, where each doesn't have its own,
-- whether they keep receipts of their turns, and the topology
pub record Running : Type 0 where
  pub levels : Text
  pub locks : Option Text
  pub keep : Text
  pub walk : Bool
  pub sharing : Option Sharing
  pub receipts : Bool
  pub description : Text

-- the run whose printed text is checked: one of `run` with these levels, this keep and its own locks, on this topology
pub record Checking : Type 0 where
  pub levels : Text
  pub keep : Text
  pub description : Text

-- the run as the words of `run` ask for it
abbrev pub as_run : Checking → Running
as_run asked = record {
  levels = asked.levels;
  locks = None;
  keep = asked.keep;
  walk = false;
  sharing = None;
  receipts = false;
  description = asked.description;
}

pub data Asked : Type 0 where
  Run : (asked : Running) → Asked
  Set : (list : Bool) (text : Text) → Asked
  Topo : (export : Bool) (text : Text) → Asked
  Calc : (asked : Calculation) → Asked
  Distrib : (asked : Distribution) → Asked
  Select : (asked : Selection) → Asked
  Drill : (number : ℕ) → Asked
  Check : (asked : Checking) → Asked
