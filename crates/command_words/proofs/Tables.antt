-- The commands, by their tables. Each is one of which `clap` tells exactly how it reads words.
use Rattle.std.proofs.Common.{◌≡◌, List, true, refl, ap, codes}
use Rattle.clap.specs.Words.{Rule, is_simple_and_free}
use Rattle.clap.proofs.OnLiterals.{clap_on_literals}
use Rattle.command_words.specs.Commands.{command_of}
use Rattle.command_words.specs.CalcWords.{calc_rules, calc_command}
use Rattle.command_words.specs.CheckWords.{check_rules, check_command}
use Rattle.command_words.specs.DistribWords.{distrib_rules, distrib_command}
use Rattle.command_words.specs.DrillWords.{drill_rules, drill_command}
use Rattle.command_words.specs.RunWords.{run_rules, run_command}
use Rattle.command_words.specs.SelectWords.{select_rules, select_command}
use Rattle.command_words.specs.SetWords.{set_rules, set_command}
use Rattle.command_words.specs.TopoWords.{topo_rules, topo_command}

pub set_made : (rules : List Rule) → rules ≡ set_rules → command_of (codes "set") rules ≡ set_command
unfolding set_command
set_made rules is = ap (command_of (codes "set")) is

pub topo_made : (rules : List Rule) → rules ≡ topo_rules → command_of (codes "topo") rules ≡ topo_command
unfolding topo_command
topo_made rules is = ap (command_of (codes "topo")) is

pub calc_made : (rules : List Rule) → rules ≡ calc_rules → command_of (codes "calc") rules ≡ calc_command
unfolding calc_command
calc_made rules is = ap (command_of (codes "calc")) is

pub distrib_made : (rules : List Rule) → rules ≡ distrib_rules → command_of (codes "distrib") rules ≡ distrib_command
unfolding distrib_command
distrib_made rules is = ap (command_of (codes "distrib")) is

pub set_simple : is_simple_and_free set_command ≡ true
unfolding set_command clap_on_literals
set_simple = refl

pub topo_simple : is_simple_and_free topo_command ≡ true
unfolding topo_command clap_on_literals
topo_simple = refl

pub calc_simple : is_simple_and_free calc_command ≡ true
unfolding calc_command clap_on_literals
calc_simple = refl

pub distrib_simple : is_simple_and_free distrib_command ≡ true
unfolding distrib_command clap_on_literals
distrib_simple = refl

pub run_made : (rules : List Rule) → rules ≡ run_rules → command_of (codes "run") rules ≡ run_command
unfolding run_command
run_made rules is = ap (command_of (codes "run")) is

pub run_simple : is_simple_and_free run_command ≡ true
unfolding run_command clap_on_literals
run_simple = refl

pub select_made : (rules : List Rule) → rules ≡ select_rules → command_of (codes "select") rules ≡ select_command
unfolding select_command
select_made rules is = ap (command_of (codes "select")) is

pub select_simple : is_simple_and_free select_command ≡ true
unfolding select_command clap_on_literals
select_simple = refl

pub drill_made : (rules : List Rule) → rules ≡ drill_rules → command_of (codes "drill") rules ≡ drill_command
unfolding drill_command
drill_made rules is = ap (command_of (codes "drill")) is

pub drill_simple : is_simple_and_free drill_command ≡ true
unfolding drill_command clap_on_literals
drill_simple = refl

pub check_made : (rules : List Rule) → rules ≡ check_rules → command_of (codes "check") rules ≡ check_command
unfolding check_command
check_made rules is = ap (command_of (codes "check")) is

pub check_simple : is_simple_and_free check_command ≡ true
unfolding check_command clap_on_literals
check_simple = refl
