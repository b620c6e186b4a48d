-- What words ask for, by the matches of a command.
use Rattle.std.proofs.Common.{◌≡◌, List, [], ◌∷◌, Option, Some, None, inl, inr, refl, sym, ap, ◌∙◌}
use Rattle.std.specs.Option.{option_and_then}
use Rattle.clap.specs.declared.error.kind.ErrorKind.{ErrorKind}
use Rattle.clap.specs.Kinds.{IsAmong, Kinds}
use Rattle.clap.specs.Words.{App, Row, Text, fault_of, matches_of}
use Rattle.out_of_memory.specs.Memory.{UnlessMemory}
use Rattle.command_words.specs.declared.fault.WordsFault.{WordsFault}
use Rattle.command_words.specs.declared.fault.WordsFault.TheVariants.{OutOfMemory, Usage}
use Rattle.command_words.specs.Commands.{if_taken, matched}

-- the command takes the words
pub matched-taken : (command : App) (words : List Text) (rows : List Row) → fault_of command words ≡ [] → rows ≡ matches_of command words
    → matched command words ≡ Some rows
unfolding matched
matched-taken command words rows none is = ap (λ kinds. if_taken kinds (matches_of command words)) none ∙ ap Some (sym is)

some_among : (kind : ErrorKind) (kinds : Kinds) (rows : List Row) → IsAmong kind kinds → if_taken kinds rows ≡ None
some_among kind [] rows among = absurd among
some_among kind (first ∷ kinds) rows among = refl

-- the command refuses the words
pub matched-refused : (command : App) (words : List Text) (kind : ErrorKind) → IsAmong kind (fault_of command words)
    → matched command words ≡ None
unfolding matched
matched-refused command words kind among = some_among kind (fault_of command words) (matches_of command words) among

module _ {A : Type 0} (asks : List Row → Option A) (made command : App) (words : List Text) (is : made ≡ command) where
  reads : (rows : List Row) → matched made words ≡ Some rows → option_and_then asks (matched command words) ≡ asks rows
  reads rows found = ap (λ (a : App). option_and_then asks (matched a words)) (sym is) ∙ ap (option_and_then asks) found

  -- what is asked for
  pub asked-some : (rows : List Row) (asked : A) → matched made words ≡ Some rows → Some asked ≡ asks rows
      → option_and_then asks (matched command words) ≡ Some asked
  asked-some rows asked found told = reads rows found ∙ sym told

  -- the matches ask for nothing
  pub asked-none : (rows : List Row) → matched made words ≡ Some rows → None ≡ asks rows
      → option_and_then asks (matched command words) ≡ None
  asked-none rows found told = reads rows found ∙ sym told

  -- the command refuses the words, or memory is wanting
  pub asked-refused : (fault : WordsFault) → UnlessMemory OutOfMemory fault ((fault ≡ Usage) × (matched made words ≡ None))
      → UnlessMemory OutOfMemory fault ((fault ≡ Usage) × (option_and_then asks (matched command words) ≡ None))
  asked-refused fault (inl usage) =
      inl (usage.0, ap (λ (a : App). option_and_then asks (matched a words)) (sym is) ∙ ap (option_and_then asks) usage.1)
  asked-refused fault (inr memory) = inr memory
