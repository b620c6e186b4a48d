-- The words of the command line.
use Rattle.std.specs.Prelude.{◌≡◌, ◌^◌, ◌&&◌, Bool, false, nat_lt, List, [], ◌∷◌, length, Option, Some, None, IsTrue, codes, map}
use Rattle.std.specs.Prelude.{string_bytes, if◌then◌else◌}
use Rattle.std.specs.List.{list_all, list_any}
use Rattle.std.specs.Str.{bytes_eq}
use Rattle.std.specs.declared.string.String.{String}
use Rattle.std.specs.declared.alloc.Global.{Global}
use Rattle.clap.specs.Words.{Text}
use Rattle.command_words.specs.Asked.{Asked}
use Rattle.command_words.specs.CalcWords.{calc_asked}
use Rattle.command_words.specs.CheckWords.{check_asked}
use Rattle.command_words.specs.DistribWords.{distrib_asked}
use Rattle.command_words.specs.DrillWords.{drill_asked}
use Rattle.command_words.specs.RunWords.{run_asked}
use Rattle.command_words.specs.SelectWords.{select_asked}
use Rattle.command_words.specs.SetWords.{set_asked}
use Rattle.command_words.specs.TopoWords.{topo_asked}

-- fewer than 2^32 words, each of fewer than 2^32 bytes
abbrev pub are_short : List Text → Bool
are_short words = nat_lt (length words) (2 ^ 32) && list_all (λ word. nat_lt (length word) (2 ^ 32)) words

-- What words ask of the command that the first one names, which reads them.
unfoldable pub command_asked : List Text → Option Asked
command_asked [] = None
command_asked (name ∷ words) =
    if bytes_eq name (codes "run") then run_asked (name ∷ words)
    else (if bytes_eq name (codes "set") then set_asked (name ∷ words)
    else (if bytes_eq name (codes "topo") then topo_asked (name ∷ words)
    else (if bytes_eq name (codes "calc") then calc_asked (name ∷ words)
    else (if bytes_eq name (codes "distrib") then distrib_asked (name ∷ words)
    else (if bytes_eq name (codes "select") then select_asked (name ∷ words)
    else (if bytes_eq name (codes "drill") then drill_asked (name ∷ words)
    else (if bytes_eq name (codes "check") then check_asked (name ∷ words) else None)))))))

-- what words ask for
unfoldable pub asked_of : List Text → Option Asked
asked_of words = if are_short words then command_asked words else None

abbrev pub Says : List (String Global) → Asked → Type 0
Says words asked = asked_of (map string_bytes words) ≡ Some asked

-- the words ask for nothing that the program does
abbrev pub IsUsage : List (String Global) → Type 0
IsUsage words = asked_of (map string_bytes words) ≡ None

-- the names of the commands whose words `clap` reads
abbrev pub command_names : List Text
command_names =
    codes "run" ∷ codes "set" ∷ codes "topo" ∷ codes "calc" ∷ codes "distrib" ∷ codes "select" ∷ codes "drill"
    ∷ codes "check" ∷ []

abbrev pub names_command : List Text → Bool
names_command [] = false
names_command (name ∷ words) = list_any (bytes_eq name) command_names

-- the first word names a command whose words `clap` reads
abbrev pub NamesCommand : List (String Global) → Type 0
NamesCommand words = IsTrue (names_command (map string_bytes words))
