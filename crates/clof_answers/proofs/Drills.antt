-- The callers of a drill: they stand on its machine, and give all commands of their sections.
use Rattle.std.proofs.Common.{◌≡◌, ℕ, ◌<◌, ◌^◌, List, length, map, Vec, sym, ap, ◌∙◌, subst, arith}
use Rattle.std.proofs.lemmas.List.{length-map}
use Rattle.std.specs.Prelude.{All}
use Rattle.std.specs.List.{sum_by}
use Rattle.std.specs.declared.alloc.Global.{Global}
use Rattle.keep_local.specs.States.{TrailState}
use Rattle.keep_local.specs.Views.{times}
use Rattle.keep_local.proofs.Trails.{times_callers}
use Rattle.kv_history.specs.Log.{Log}
use Rattle.synth_text.specs.declared.description.Description.{Description}
use Rattle.synth_text.specs.Rules.{pu_count}
use Rattle.synth_text.specs.Sound.{IsSound}
use Rattle.run_texts.specs.declared.section.Section.{Section}
use Rattle.placed_runner.specs.Sections.{anywhere, placed}
use Rattle.run_texts.specs.Views.{section_view}
use Rattle.threaded_runner.specs.Finished.{IsFinished}
use Rattle.threaded_runner.proofs.Sums.{sum_sections}
use Rattle.drill_text.specs.Drill.{HaveGivenAll}
use Rattle.drill_text.proofs.Numbers.{sum_by-map}
use Rattle.clof_answers.specs.Drilling.{drilled_machine}
use Rattle.clof_answers.proofs.DrilledMachine.{machine_sound}
use Rattle.clof_answers.proofs.Places.{spread_pus}

pub given_all : (trail : TrailState) (log : Log) → IsFinished trail log → HaveGivenAll log
given_all trail log left caller section at =
    ap (times caller) left.called ∙ times_callers caller trail.closed ∙ left.each_made caller section at

-- sections have as many bytes as what they are made of
pub small_sections : (sections : List Section) (given : List (Vec ℕ Global))
    → map (λ (section : Section). section.bytes.now) sections ≡ map (λ (bytes : Vec ℕ Global). bytes.items) given
    → sum_by (λ (bytes : Vec ℕ Global). length bytes.items) given < 2 ^ 32
    → sum_by (λ (section : Section). length section.bytes.now) sections < 2 ^ 32
small_sections sections given same small =
    let one = sum_sections sections in
    let equal = ap (sum_by (λ (text : List ℕ). length text)) same in
    let other = sum_by-map (λ (bytes : Vec ℕ Global). bytes.items) (λ (text : List ℕ). length text) given in
    omega (arith, one, equal, other, small)

-- they are as many
pub many_sections : (sections : List Section) (given : List (Vec ℕ Global))
    → map (λ (section : Section). section.bytes.now) sections ≡ map (λ (bytes : Vec ℕ Global). bytes.items) given
    → length sections ≡ length given
many_sections sections given same =
    sym (length-map sections (λ (section : Section). section.bytes.now)) ∙ ap length same
    ∙ length-map given (λ (bytes : Vec ℕ Global). bytes.items)

-- and their callers stand on PUs of the machine
pub drilled_pus : (described : Description) (sections : List Section) (given : List (Vec ℕ Global)) → described ≡ drilled_machine
    → map section_view sections ≡ placed described (map (λ (bytes : Vec ℕ Global). anywhere bytes.items) given)
    → All (λ (section : Section). section.pu < pu_count described) sections
drilled_pus described sections given same are =
    spread_pus described (subst IsSound (sym same) machine_sound) (λ (bytes : Vec ℕ Global). bytes.items) given sections are
