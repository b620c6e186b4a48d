-- The flaw that the reading of a memory item finds is its first one.
use Rattle.std.proofs.Common.{◌≡◌, ◌⊎◌, ℕ, ◌==◌, List, ◌++◌, drop, get_or, Option, Some, None, Result, Ok, Err, refl, sym, ap}
use Rattle.std.proofs.Common.{◌∙◌, inl, inr}
use Rattle.std.specs.Char.{is_ascii_alphanumeric}
use Rattle.std.specs.List.{list_all, take_while}
use Rattle.std.proofs.lemmas.Bool.{cases_Bool}
use Rattle.byte_text.specs.Classes.{is_white}
use Rattle.byte_text.specs.Cuts.{IsCutAt, cut, piece_or, first_piece, without_front}
use Rattle.byte_text.proofs.CutLaws.{CutsAt, cuts_of, cut-from_IsCutAt}
use Rattle.synth_text.specs.declared.kind.Kind.{Kind}
use Rattle.synth_text.specs.declared.kind.Kind.TheVariants.{Machine, Package, Die, Group, L5, L4, L3, L2, L1d, L1i, Core, Pu, NumaNode}
use Rattle.synth_text.specs.declared.name.Name.{Name}
use Rattle.synth_text.specs.declared.name.Name.TheVariants as names
use Rattle.synth_text.specs.declared.parts.Part.{Part}
use Rattle.synth_text.specs.declared.fault.Flaw.{Flaw}
use Rattle.synth_text.specs.declared.fault.Flaw.TheVariants as flaws
use Rattle.synth_text.specs.Names.{name_of}
use Rattle.synth_text.specs.Flaws.{◌>>=◌}
use Rattle.synth_text.specs.Attributes.{attributes_of}
use Rattle.synth_text.specs.Parts.{node_name, opened, memory_part, named_memory, memory_in_brackets, cut_memory, memory_of}
use Rattle.synth_spelling.specs.Refused.{NamesNode, HasStray, HasWrong, MemoryFlaw}
use Rattle.synth_spelling.proofs.Failing.{err_is, ok_not_err, bind_err, one_cut, no_cut}
use Rattle.synth_spelling.proofs.Fronts.{all_taken, rest_stops, taken_and_rest, front_taken, front_dropped}
use Rattle.synth_spelling.proofs.MemoryItems.{node_named, named_stops, opened_spelled, opened_read}
use Rattle.synth_spelling.proofs.WordFlaws.{given_flawed, flawed_given}

-- ---- names

node_or : (o : Option Name) → (node_name o ≡ Err flaws.Name) ⊎ (o ≡ Some (names.Kind NumaNode))
node_or None = inl refl
node_or (Some (names.Group number)) = inl refl
node_or (Some (names.Kind NumaNode)) = inr refl
node_or (Some (names.Kind Machine)) = inl refl
node_or (Some (names.Kind Package)) = inl refl
node_or (Some (names.Kind Die)) = inl refl
node_or (Some (names.Kind Group)) = inl refl
node_or (Some (names.Kind L5)) = inl refl
node_or (Some (names.Kind L4)) = inl refl
node_or (Some (names.Kind L3)) = inl refl
node_or (Some (names.Kind L2)) = inl refl
node_or (Some (names.Kind L1d)) = inl refl
node_or (Some (names.Kind L1i)) = inl refl
node_or (Some (names.Kind Core)) = inl refl
node_or (Some (names.Kind Pu)) = inl refl

node_told : (o : Option Name) (flaw : Flaw) → node_name o ≡ Err flaw → flaws.Name ≡ flaw
node_told o flaw e =
    elim (node_or o) [
      | inl wrong ↦ err_is {A = Kind} flaws.Name flaw (sym wrong ∙ e)
      | inr right ↦ absurd (ok_not_err (node_name o) NumaNode flaw (ap node_name right) e)
    ]

-- ---- what follows the name

opened_or : (text : List ℕ) → (opened text ≡ Err flaws.Attribute) ⊎ ((given : Option (List ℕ)) × (opened text ≡ Ok given))
opened_or text =
    elim (cases_Bool (list_all is_white text)) [
      | inl blank ↦ inr (None, rw blank refl)
      | inr other ↦
          elim (cases_Bool (get_or text 0 0 == 40)) [
            | inl opens ↦ inr (Some (drop 1 text), rw (other, opens) refl)
            | inr fails ↦ inl (rw (other, fails) refl)
          ]
    ]

stray_found : (rest : List ℕ) (flaw : Flaw) → opened rest ≡ Err flaw → HasStray rest flaw
stray_found rest flaw e = record {
  none = λ given opens. ok_not_err (opened rest) given flaw (opened_read rest given opens) e;
  told =
      elim (opened_or rest) [
        | inl wrong ↦ err_is {A = Option (List ℕ)} flaw flaws.Attribute (sym e ∙ wrong)
        | inr right ↦ absurd (ok_not_err (opened rest) right.0 flaw right.1 e)
      ];
}

found_stray : (rest : List ℕ) (flaw : Flaw) → HasStray rest flaw → opened rest ≡ Err flaw
found_stray rest flaw h =
    elim (opened_or rest) [
      | inl wrong ↦ wrong ∙ ap Err (sym h.told)
      | inr right ↦ absurd (h.none right.0 (opened_spelled rest right.0 right.1))
    ]

-- ---- the name in brackets

-- the name and the rest, as they are read from what stands in brackets
abbrev name_in : List ℕ → List ℕ
name_in inner = take_while is_ascii_alphanumeric (without_front is_white inner)

abbrev rest_in : List ℕ → List ℕ
rest_in inner = without_front is_ascii_alphanumeric (without_front is_white inner)

names_node : (text inner behind : List ℕ) → IsCutAt 93 (drop 1 text) inner behind
    → name_of (name_in inner) ≡ Some (names.Kind NumaNode) → NamesNode text (rest_in inner)
names_node text inner behind cuts named =
    let trimmed = without_front is_white inner in
    record {
      inner = inner;
      behind = behind;
      gap = take_while is_white inner;
      name = name_in inner;
      cut = cuts;
      parts = taken_and_rest is_white inner
          ∙ ap (λ (others : List ℕ). take_while is_white inner ++ others) (taken_and_rest is_ascii_alphanumeric trimmed);
      blank = all_taken is_white inner;
      letters = all_taken is_ascii_alphanumeric trimmed;
      whole = rest_stops is_ascii_alphanumeric trimmed;
      named = named;
    }

module _ (text rest : List ℕ) (h : NamesNode text rest) where
  trimmed_is : without_front is_white h.inner ≡ h.name ++ rest
  trimmed_is =
      ap (without_front is_white) h.parts
      ∙ front_dropped is_white h.gap (h.name ++ rest) h.blank (named_stops h.name rest h.named h.letters)

  name_is : name_in h.inner ≡ h.name
  name_is =
      ap (take_while is_ascii_alphanumeric) trimmed_is ∙ front_taken is_ascii_alphanumeric h.name rest h.letters h.whole

  rest_is : rest_in h.inner ≡ rest
  rest_is =
      ap (without_front is_ascii_alphanumeric) trimmed_is ∙ front_dropped is_ascii_alphanumeric h.name rest h.letters h.whole

-- ---- memory items

abbrev reads : Kind → List ℕ → Result Part Flaw
reads kind rest = opened rest >>= λ given. attributes_of kind given >>= λ a. Ok (memory_part a)

-- what is wrong behind the name
behind_flawed : (rest : List ℕ) (flaw : Flaw) → reads NumaNode rest ≡ Err flaw → HasStray rest flaw ⊎ HasWrong rest flaw
behind_flawed rest flaw e =
    elim (bind_err (opened rest) (λ given. attributes_of NumaNode given >>= λ a. Ok (memory_part a)) flaw e) [
      | inl stray ↦ inl (stray_found rest flaw stray)
      | inr given ↦
          elim (bind_err (attributes_of NumaNode given.0) (λ a. Ok (memory_part a)) flaw given.2) [
            | inl wrong ↦ inr (record {
              given = given.0;
              opened = opened_spelled rest given.0 given.1;
              wrong = given_flawed NumaNode given.0 flaw wrong;
            })
            | inr read ↦ let no = read.2 in absurd cc
          ]
    ]

flawed_behind : (rest : List ℕ) (flaw : Flaw) → HasStray rest flaw ⊎ HasWrong rest flaw → reads NumaNode rest ≡ Err flaw
flawed_behind rest flaw (inl stray) = rw (found_stray rest flaw stray) refl
flawed_behind rest flaw (inr h) = rw (opened_read rest h.given h.opened, flawed_given NumaNode h.given flaw h.wrong) refl

pub memory_flawed : (text : List ℕ) (flaw : Flaw) → memory_of text ≡ Err flaw → MemoryFlaw text flaw
unfolding memory_of first_piece memory_in_brackets
memory_flawed text flaw e = by (cut (λ b. b == 93) (drop 1 text)) (cuts_of 93 (drop 1 text)) e
  where
    by : (o : Option (List ℕ × List ℕ)) → CutsAt 93 (drop 1 text) o → cut_memory (piece_or (drop 1 text) o) ≡ Err flaw
        → MemoryFlaw text flaw
    by None lacks h = inl (record {
      none = λ rest here. no_cut 93 (drop 1 text) here.inner here.behind lacks here.cut;
      told = sym (err_is {A = Part} flaws.Name flaw h);
    })
    by (Some parts) cuts h =
        elim (bind_err (node_name (name_of (name_in parts.0))) (λ kind. reads kind (rest_in parts.0)) flaw h) [
          | inl wrong ↦ inl (record {
            none = λ rest here.
                let same = one_cut 93 (drop 1 text) parts.0 parts.1 here.inner here.behind cuts here.cut in
                let named : name_of (name_in parts.0) ≡ Some (names.Kind NumaNode) =
                ap (λ inner. name_of (name_in inner)) same.0 ∙ ap name_of (name_is text rest here) ∙ here.named in
                ok_not_err (node_name (name_of (name_in parts.0))) NumaNode flaw (ap node_name named) wrong;
            told = sym (node_told (name_of (name_in parts.0)) flaw wrong);
          })
          | inr read ↦
              let node = node_named (name_of (name_in parts.0)) read.0 read.1 in
              inr (record {
                rest = rest_in parts.0;
                names = names_node text parts.0 parts.1 cuts node.0;
                wrong = behind_flawed (rest_in parts.0) flaw (ap (λ kind. reads kind (rest_in parts.0)) (sym node.1) ∙ read.2);
              })
        ]

pub flawed_memory : (text : List ℕ) (flaw : Flaw) → MemoryFlaw text flaw → memory_of text ≡ Err flaw
unfolding memory_of first_piece memory_in_brackets
flawed_memory text flaw (inl h) = by (cut (λ b. b == 93) (drop 1 text)) (cuts_of 93 (drop 1 text))
  where
    by : (o : Option (List ℕ × List ℕ)) → CutsAt 93 (drop 1 text) o → cut_memory (piece_or (drop 1 text) o) ≡ Err flaw
    by None lacks = ap Err (sym h.told)
    by (Some parts) cuts =
        elim (node_or (name_of (name_in parts.0))) [
          | inl wrong ↦ ap (λ r. r >>= λ kind. reads kind (rest_in parts.0)) wrong ∙ ap Err (sym h.told)
          | inr named ↦ absurd (h.none (rest_in parts.0) (names_node text parts.0 parts.1 cuts named))
        ]
flawed_memory text flaw (inr h) =
    ap (λ o. cut_memory (piece_or (drop 1 text) o)) (cut-from_IsCutAt 93 (drop 1 text) h.names.inner h.names.behind h.names.cut)
    ∙ ap (λ name. named_memory name (rest_in h.names.inner)) (name_is text h.rest h.names)
    ∙ ap (λ rest. named_memory h.names.name rest) (rest_is text h.rest h.names)
    ∙ ap (λ o. node_name o >>= λ kind. reads kind h.rest) h.names.named
    ∙ flawed_behind h.rest flaw h.wrong
