-- Bytes in memory: what is printed for what a source has left, and that a sink with room isn't full.
use Rattle.std.proofs.Common.{◌≡◌, ◌⊎◌, ℕ, ◌<◌, List, length, map, Option, Some, None, arith, refl, sym, ◌∙◌, subst, inl, inr}
use Rattle.std.specs.Prelude.{string_bytes, take}
use Rattle.std.specs.declared.string.String.{String}
use Rattle.std.specs.declared.alloc.Global.{Global}
use Rattle.edge_io.specs.Counts.{Rose}
use Rattle.edge_io.specs.Contents.{Gains}
use Rattle.command_texts.specs.declared.status.Status.{Status}
use Rattle.command_texts.specs.declared.status.Status.TheVariants as statuses
use Rattle.command_words.specs.Asked.{Asked, Run, Set, Topo, Calc, Distrib, Select, Drill, Check}
use Rattle.command_words.specs.Words.{Says, NamesCommand, IsUsage, asked_of}
use Rattle.clof_answers.specs.Outcome.{HasRead, IsAnswer}
use Rattle.clof_tool.specs.Room.{HasRoom}

-- what was read of a source that tells what it has left is just that
pub for_left : (asked : Asked) (left input text : List ℕ) (given given_now : ℕ) → HasRead asked (Some left) given given_now input
    → IsAnswer asked input text → IsAnswer asked left text
for_left (Run asked) left input text given given_now read answer = subst (λ i. IsAnswer (Run asked) i text) read.is_left answer
for_left (Set list word) left input text given given_now read answer = answer
for_left (Topo export word) left input text given given_now read answer = answer
for_left (Calc asked) left input text given given_now read answer = answer
for_left (Distrib asked) left input text given given_now read answer = answer
for_left (Select asked) left input text given given_now read answer = subst (λ i. IsAnswer (Select asked) i text) read.is_left answer
for_left (Drill number) left input text given given_now read answer = answer
for_left (Check asked) left input text given given_now read answer = subst (λ i. IsAnswer (Check asked) i text) read.is_left answer

module _ (words : List (String Global)) (left held : List ℕ) (held_now : Option (List ℕ)) (given given_now room written : ℕ)
    (status : Status) (is : status ≡ statuses.WriteFault written) (roomy : HasRoom words left room)
    (usage_else : IsUsage words → (status ≡ statuses.Usage) ⊎ ((status ≡ statuses.OutOfMemory) × NamesCommand words))
    (full : Rose 0 0 ⊎ (room ≡ written))
    (cut : (asked : Asked) → Says words asked → (input : List ℕ) × (text : List ℕ) × HasRead asked (Some left) given given_now input
    × IsAnswer asked input text × (written < length text) × Gains (Some held) held_now (take written text)) where
  -- words that say nothing write nothing, and a text for which there is room is written whole
  by_asked : (said : Option Asked) → asked_of (map string_bytes words) ≡ said → ⊥
  by_asked None e =
      elim (usage_else e) [
        | inl usage ↦ let both : statuses.WriteFault written ≡ statuses.Usage = sym is ∙ usage in cc
        | inr memory ↦ let both : statuses.WriteFault written ≡ statuses.OutOfMemory = sym is ∙ memory.0 in cc
      ]
  by_asked (Some asked) e =
      let found = cut asked e in
      let fits = roomy asked found.1 e (for_left asked left found.0 found.1 given given_now found.2 found.3) in
      let more = found.4 in
      elim full [
        | inl rose ↦ omega (arith, rose)
        | inr same ↦ omega (arith, same, fits, more)
      ]

  pub never_full : ⊥
  never_full = by_asked (asked_of (map string_bytes words)) refl
