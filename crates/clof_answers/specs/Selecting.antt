-- How `select` refuses its words and its input.
use Rattle.std.specs.Prelude.{◌≡◌, ◌≤◌, ◌<◌, ◌⊎◌, ℕ, List, length}
use Rattle.synth_text.specs.declared.description.Description.{Description}
use Rattle.plan_texts.specs.SelectText.{HasCriteria, RefusesCriteria, RefusesTrace}
use Rattle.command_texts.specs.TopoText.{TopoRefuses}
use Rattle.command_texts.specs.declared.status.Fault.TheVariants.{Input}
use Rattle.command_texts.specs.declared.status.Status.{Status}
use Rattle.command_texts.specs.declared.status.Status.TheVariants as statuses
use Rattle.command_words.specs.Asked.{Selection}
use Rattle.run_check.specs.Pairs.{input_limit}
use Rattle.clof_answers.specs.Run.{OnDescribed}

-- the words are refused: the description, or on what it describes the weights or the keep
abbrev pub SelectRefuses : Selection → Status → Type 0
SelectRefuses asked status =
    TopoRefuses asked.description status ⊎ OnDescribed asked.description (λ described. RefusesCriteria described asked status)

-- on a topology bytes are refused: they are too many, or no trace
abbrev pub RefusesBytes : Description → List ℕ → Status → Type 0
RefusesBytes described bytes status =
    ((input_limit < length bytes) × (status ≡ statuses.Limit Input))
    ⊎ ((length bytes ≤ input_limit) × RefusesTrace described bytes status)

-- the weights and the keep are good, and bytes are refused
abbrev pub RefusesInput : Selection → List ℕ → Status → Description → Type 0
RefusesInput asked bytes status described = HasCriteria described asked × RefusesBytes described bytes status
