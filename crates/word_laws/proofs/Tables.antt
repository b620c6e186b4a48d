-- The program's commands are among those that the laws are on.
use Rattle.std.proofs.Common.{refl}
use Rattle.command_words.specs.CalcWords.{calc_command}
use Rattle.command_words.specs.CheckWords.{check_command}
use Rattle.command_words.specs.DistribWords.{distrib_command}
use Rattle.command_words.specs.DrillWords.{drill_command}
use Rattle.command_words.specs.RunWords.{run_command}
use Rattle.command_words.specs.SelectWords.{select_command}
use Rattle.command_words.specs.SetWords.{set_command}
use Rattle.command_words.specs.TopoWords.{topo_command}
use Rattle.word_laws.specs.Laws.{CommandsAreSingle, OptionsTakeValues}

pub all_single : CommandsAreSingle
unfolding set_command topo_command calc_command distrib_command select_command drill_command run_command check_command
all_single = (refl, (refl, (refl, (refl, (refl, (refl, (refl, (refl, tt))))))))

pub all_valued : OptionsTakeValues
unfolding calc_command distrib_command select_command run_command check_command
all_valued =
    (refl, (refl, (refl, (refl, (refl, (refl, (refl, (refl, (refl, (refl, (refl, (refl, (refl, (refl, (refl, (refl, tt))))))))))))))))
