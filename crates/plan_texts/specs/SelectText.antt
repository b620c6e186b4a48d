-- What `select` prints, and why its weights, its keep and its trace are refused.
use Rattle.std.specs.Prelude.{◌≡◌, ◌⊎◌, ℕ, List, [], ◌∷◌, ◌++◌, length, codes, decimal, Some, None}
use Rattle.std.specs.List.{join_by}
use Rattle.synth_text.specs.declared.description.Description.{Description}
use Rattle.topo_tree.specs.declared.layer.Layer.TheVariants as layers
use Rattle.calc_text.specs.Texts.{layer_name}
use Rattle.lock_select.specs.declared.choice.Choice.{Choice}
use Rattle.run_faults.specs.declared.select.SelectFault.{SelectFault}
use Rattle.run_faults.specs.declared.select.SelectFault.TheVariants as faults
use Rattle.lock_select.specs.Texts.{AreWeights, keep_of}
use Rattle.lock_select.specs.Traces.{IsTrace, IsRefused}
use Rattle.lock_select.specs.Costs.{IsCheapest}
use Rattle.command_texts.specs.declared.status.Fault.TheVariants.{Select}
use Rattle.command_texts.specs.declared.status.Status.{Status}
use Rattle.command_texts.specs.declared.status.Status.TheVariants as statuses
use Rattle.command_words.specs.Asked.{Selection}

-- the status of a fault: too many turns are over a limit
abbrev pub select_status : SelectFault → Status
select_status faults.Weights = statuses.Malformed (Select faults.Weights)
select_status faults.Keep = statuses.Malformed (Select faults.Keep)
select_status (faults.Line at) = statuses.Malformed (Select (faults.Line at))
select_status (faults.Place at) = statuses.Malformed (Select (faults.Place at))
select_status faults.TooManyTurns = statuses.Limit (Select faults.TooManyTurns)
select_status faults.OutOfMemory = statuses.OutOfMemory

-- the criteria that are asked for: the weights and the keep
pub record AreCriteria (described : Description) (asked : Selection) (weights : List ℕ) (keep : ℕ) : Type 0 where
  pub weights_are : AreWeights described asked.weights weights
  pub keep_is : keep_of asked.keep ≡ Some keep

-- both can be had
pub record HasCriteria (described : Description) (asked : Selection) : Type 0 where
  pub weights : List ℕ
  pub keep : ℕ
  pub are : AreCriteria described asked weights keep

-- the weights are refused
pub record RefusesWeights (described : Description) (asked : Selection) (status : Status) : Type 0 where
  pub none : (weights : List ℕ) → AreWeights described asked.weights weights → ⊥
  pub status_is : status ≡ select_status faults.Weights

-- the weights are good, and the keep is refused
pub record RefusesKeep (described : Description) (asked : Selection) (status : Status) : Type 0 where
  pub weights : List ℕ
  pub weights_are : AreWeights described asked.weights weights
  pub none : keep_of asked.keep ≡ None
  pub status_is : status ≡ select_status faults.Keep

abbrev pub RefusesCriteria : Description → Selection → Status → Type 0
RefusesCriteria described asked status = RefusesWeights described asked status ⊎ RefusesKeep described asked status

-- bytes are refused as a trace
pub record RefusesTrace (described : Description) (bytes : List ℕ) (status : Status) : Type 0 where
  pub fault : SelectFault
  pub refused : IsRefused described bytes fault
  pub status_is : status ≡ select_status fault

-- a choice for a trace of so many turns: the names of its levels, the lowest first, what they cost, and how many turns there are
abbrev pub choice_text : Description → Choice → ℕ → List ℕ
choice_text described choice turns =
    codes "levels " ++ join_by (λ depth. layer_name described (layers.Depth depth)) (44 ∷ []) choice.depths ++ 10 ∷ codes "cost "
    ++ decimal choice.cost ++ codes " turns " ++ decimal turns ++ 10 ∷ []

-- bytes are a trace, and the cheapest levels for it are printed
pub record PrintsChoice (described : Description) (weights : List ℕ) (keep : ℕ) (bytes printed : List ℕ) : Type 0 where
  pub trace : List ℕ
  pub trace_is : IsTrace described bytes trace
  pub choice : Choice
  pub cheapest : IsCheapest described weights keep trace choice
  pub printed_is : printed ≡ choice_text described choice (length trace)

-- the same, by the weights and the keep that are asked for
pub record PrintsSelection (described : Description) (asked : Selection) (bytes printed : List ℕ) : Type 0 where
  pub weights : List ℕ
  pub keep : ℕ
  pub are : AreCriteria described asked weights keep
  pub prints : PrintsChoice described weights keep bytes printed
