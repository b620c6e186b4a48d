-- For each form and text exactly one set or exactly one fault.
use Rattle.std.proofs.Common.{◌≡◌, ℕ, List, Option, Some, None, refl, sym, ◌∙◌, ◌⊎◌, inl, inr}
use Rattle.cpu_set.specs.declared.fault.SetFault.{SetFault}
use Rattle.cpu_set.specs.Sets.{numbers_where}
use Rattle.cpu_set.specs.SetLaws.{IsSet-numbers_where}
use Rattle.cpu_set.specs.Readings.{hex_fault, is_in_hex, ReadsHex, HexRefused, list_fault, is_in_list, ReadsList, ListRefused}
use Rattle.cpu_set.specs.Laws.{ExactlyOne, ReadsSets}

fault_or_none : (found : Option SetFault) → (found ≡ None) ⊎ ((fault : SetFault) × (found ≡ Some fault))
fault_or_none None = inl refl
fault_or_none (Some fault) = inr (fault, refl)

none_or_some : {found : Option SetFault} {fault : SetFault} → found ≡ None → found ≡ Some fault → ⊥
none_or_some none some = cc

one_fault : {found : Option SetFault} {one other : SetFault} → found ≡ Some one → found ≡ Some other → one ≡ other
one_fault first second = cc

pub hex_exactly_one : (text : List ℕ) → ExactlyOne (ReadsHex text) (HexRefused text)
hex_exactly_one text = record {
  some =
      elim (fault_or_none (hex_fault text))
      [ inl none ↦ inl (numbers_where (is_in_hex text), record { good = none; numbers = refl }) | inr fault ↦ inr fault ];
  not_both = λ set fault reads refused. none_or_some reads.good refused;
  one_set = λ one other first second. first.numbers ∙ sym second.numbers;
  one_fault = λ one other first second. one_fault first second;
}

pub hex_reads_sets : (text : List ℕ) → ReadsSets (ReadsHex text)
hex_reads_sets text = λ set reads. rw reads.numbers (IsSet-numbers_where (is_in_hex text))

pub list_exactly_one : (text : List ℕ) → ExactlyOne (ReadsList text) (ListRefused text)
list_exactly_one text = record {
  some =
      elim (fault_or_none (list_fault text))
      [ inl none ↦ inl (numbers_where (is_in_list text), record { good = none; numbers = refl }) | inr fault ↦ inr fault ];
  not_both = λ set fault reads refused. none_or_some reads.good refused;
  one_set = λ one other first second. first.numbers ∙ sym second.numbers;
  one_fault = λ one other first second. one_fault first second;
}

pub list_reads_sets : (text : List ℕ) → ReadsSets (ReadsList text)
list_reads_sets text = λ set reads. rw reads.numbers (IsSet-numbers_where (is_in_list text))
