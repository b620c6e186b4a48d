-- What `calc` prints, and why it is refused.
use Rattle.std.specs.Prelude.{◌≡◌, ℕ, Bool, false, true, List, [], ◌∷◌, ◌++◌, Option, Some, None, option_map, Result, Ok, Err}
use Rattle.synth_text.specs.declared.description.Description.{Description}
use Rattle.topo_tree.specs.Naming.{layer_named}
use Rattle.calc_query.specs.declared.fault.CalcFault.{CalcFault}
use Rattle.calc_query.specs.declared.fault.CalcFault.TheVariants as faults
use Rattle.calc_query.specs.declared.query.Numbering.{Numbering}
use Rattle.calc_query.specs.declared.query.Numbering.TheVariants as numberings
use Rattle.calc_query.specs.declared.query.Term.{Term}
use Rattle.calc_query.specs.Selection.{selected}
use Rattle.calc_text.specs.declared.answer.AnswerKind.{AnswerKind}
use Rattle.calc_text.specs.declared.answer.AnswerKind.TheVariants as answers
use Rattle.calc_text.specs.Reading.{layers_named, names_in, terms_from}
use Rattle.calc_text.specs.Texts.{answer_text}
use Rattle.command_words.specs.Asked.{Calculation, CalcQuestion, TheSet, Intersect, NumberOf, Hierarchical, Largest}
use Rattle.command_texts.specs.declared.status.Fault.TheVariants.{Calc, TypeOf}
use Rattle.command_texts.specs.declared.status.OptionName.{OptionName}
use Rattle.command_texts.specs.declared.status.OptionName.TheVariants as options
use Rattle.command_texts.specs.declared.status.Status.{Status}
use Rattle.command_texts.specs.declared.status.Status.TheVariants as statuses
use Rattle.command_texts.specs.Chosen.{chosen}
use Rattle.command_texts.specs.OnTopology.{PrintsOn, RefusesOn}

-- what an option's types give, or the refusal of the option
abbrev pub typed : {A : Type 0} → OptionName → Option A → Result A Status
typed option None = Err (statuses.Malformed (TypeOf option))
typed option (Some given) = Ok given

-- which answer on a set is asked for, on a topology
abbrev pub answer_for : Description → CalcQuestion → Result AnswerKind Status
answer_for described TheSet = Ok answers.Set
answer_for described (Intersect name) = typed options.Intersect (option_map answers.Objects (layer_named described name))
answer_for described (NumberOf name) = typed options.NumberOf (option_map answers.Count (layer_named described name))
answer_for described (Hierarchical names) = typed options.Hierarchical (option_map answers.Chains (layers_named described (names_in names)))
answer_for described Largest = Ok answers.Largest

abbrev pub numbering_of : (physical : Bool) → Numbering
numbering_of false = numberings.Logical
numbering_of true = numberings.Physical

-- the status of a fault of a location
abbrev pub calc_status : CalcFault → Status
calc_status (faults.Location word at) = statuses.Malformed (Calc (faults.Location word at))
calc_status (faults.NoSuchType word) = statuses.Malformed (Calc (faults.NoSuchType word))
calc_status faults.OutOfMemory = statuses.OutOfMemory

-- the line of an answer on the set that terms select
abbrev pub line_on : Description → Calculation → AnswerKind → List Term → List ℕ
line_on described asked answer terms =
    answer_text described (chosen asked.single (selected described (numbering_of asked.physical) terms)) answer
    (numbering_of asked.physical) asked.taskset asked.separator ++ 10 ∷ []

abbrev pub with_terms : Description → Calculation → AnswerKind → Result (List Term) CalcFault → Result (List ℕ) Status
with_terms described asked answer (Err fault) = Err (calc_status fault)
with_terms described asked answer (Ok terms) = Ok (line_on described asked answer terms)

abbrev pub with_answer : Description → Calculation → Result AnswerKind Status → Result (List ℕ) Status
with_answer described asked (Err status) = Err status
with_answer described asked (Ok answer) = with_terms described asked answer (terms_from described 0 asked.locations)

-- what is printed of a topology, or the status with which it is refused: types of options come before locations
unfoldable pub calc_on : Description → Calculation → Result (List ℕ) Status
calc_on described asked = with_answer described asked (answer_for described asked.question)

abbrev pub PrintsCalc : Calculation → List ℕ → Type 0
PrintsCalc asked printed = PrintsOn asked.description (λ described. calc_on described asked) printed

abbrev pub CalcRefuses : Calculation → Status → Type 0
CalcRefuses asked status = RefusesOn asked.description (λ described. calc_on described asked) status
