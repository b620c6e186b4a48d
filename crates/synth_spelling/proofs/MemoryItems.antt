-- The computed reading of a memory item is how it is spelled.
use Rattle.std.proofs.Common.{◌≡◌, ℕ, true, false, cond, ◌==◌, List, [], ◌∷◌, ◌++◌, drop, get_or, Option, Some, None, Result, Ok, Err, refl}
use Rattle.std.proofs.Common.{sym, ap, subst, ◌∙◌, inl, inr, arith}
use Rattle.std.specs.Char.{is_ascii_alphanumeric}
use Rattle.std.specs.List.{list_all, take_while}
use Rattle.std.proofs.lemmas.Bool.{cases_Bool, both_ways, eqb-true}
use Rattle.std.proofs.lemmas.Bool.Decides.{nat_tests}
use Rattle.byte_text.specs.Classes.{is_white}
use Rattle.byte_text.specs.Cuts.{cut, piece_or, first_piece, without_front}
use Rattle.byte_text.proofs.CutLaws.{CutsAt, cuts_of, cut-from_IsCutAt}
use Rattle.synth_text.specs.declared.kind.Kind.{Kind}
use Rattle.synth_text.specs.declared.kind.Kind.TheVariants.{Machine, Package, Die, Group, L5, L4, L3, L2, L1d, L1i, Core, Pu, NumaNode}
use Rattle.synth_text.specs.declared.name.Name.{Name}
use Rattle.synth_text.specs.declared.name.Name.TheVariants as names
use Rattle.synth_text.specs.declared.parts.Part.{Part}
use Rattle.synth_text.specs.declared.fault.Flaw.{Flaw}
use Rattle.synth_text.specs.declared.fault.Flaw.TheVariants as flaws
use Rattle.synth_text.specs.Names.{name_of, kind_named, group_numbered}
use Rattle.synth_text.specs.Flaws.{◌>>=◌}
use Rattle.synth_text.specs.Attributes.{attributes_of}
use Rattle.synth_text.specs.Parts.{node_name, opened, memory_part, named_memory, memory_in_brackets, cut_memory, memory_of}
use Rattle.synth_text.proofs.Bound.{ok_is, bind_ok}
use Rattle.synth_spelling.specs.Spelling.{Stops, Opens, SpellsMemory}
use Rattle.synth_spelling.proofs.Fronts.{all_taken, rest_stops, taken_and_rest, front_taken, front_dropped}
use Rattle.synth_spelling.proofs.LevelItems.{given_spelled, given_read}

-- ---- names

pub node_named : (o : Option Name) (kind : Kind) → node_name o ≡ Ok kind → (o ≡ Some (names.Kind NumaNode)) × (kind ≡ NumaNode)
node_named None kind e = absurd cc
node_named (Some (names.Group number)) kind e = absurd cc
node_named (Some (names.Kind NumaNode)) kind e = (refl, sym (ok_is NumaNode kind e))
node_named (Some (names.Kind Machine)) kind e = absurd cc
node_named (Some (names.Kind Package)) kind e = absurd cc
node_named (Some (names.Kind Die)) kind e = absurd cc
node_named (Some (names.Kind Group)) kind e = absurd cc
node_named (Some (names.Kind L5)) kind e = absurd cc
node_named (Some (names.Kind L4)) kind e = absurd cc
node_named (Some (names.Kind L3)) kind e = absurd cc
node_named (Some (names.Kind L2)) kind e = absurd cc
node_named (Some (names.Kind L1d)) kind e = absurd cc
node_named (Some (names.Kind L1i)) kind e = absurd cc
node_named (Some (names.Kind Core)) kind e = absurd cc
node_named (Some (names.Kind Pu)) kind e = absurd cc

-- the empty text is no name
nothing_named : name_of [] ≡ None
unfolding kind_named group_numbered
nothing_named = refl

letter_not_white : (byte : ℕ) → is_ascii_alphanumeric byte ≡ true → is_white byte ≡ false
letter_not_white byte letter = grind (arith, nat_tests)

pub named_stops : (name rest : List ℕ) → name_of name ≡ Some (names.Kind NumaNode) → list_all is_ascii_alphanumeric name ≡ true
    → Stops is_white (name ++ rest)
named_stops [] rest named letters = let none : None ≡ Some (names.Kind NumaNode) = sym nothing_named ∙ named in absurd cc
named_stops (byte ∷ name) rest named letters =
    elim (cases_Bool (is_ascii_alphanumeric byte)) [
      | inl passes ↦ letter_not_white byte passes
      | inr fails ↦ absurd (both_ways false refl (rw fails at letters))
    ]

-- ---- what follows the name

pub opened_spelled : (text : List ℕ) (given : Option (List ℕ)) → opened text ≡ Ok given → Opens text given
opened_spelled text given e =
    elim (cases_Bool (list_all is_white text)) [
      | inl blank ↦ subst (Opens text) (ok_is None given (rw blank at e)) blank
      | inr other ↦ by text other (rw other at e)
    ]
  where
    by : (xs : List ℕ) → list_all is_white xs ≡ false
        → cond (get_or xs 0 0 == 40) (Ok (Some (drop 1 xs))) (Err flaws.Attribute) ≡ Ok given → Opens xs given
    by [] other h = absurd cc
    by (x ∷ xs) other h =
        elim (cases_Bool (x == 40)) [
          | inl opens ↦ subst (Opens (x ∷ xs)) (ok_is (Some xs) given (rw opens at h)) (ap (λ b. b ∷ xs) (eqb-true x 40 opens))
          | inr fails ↦ let wrong = rw fails at h in absurd cc
        ]

pub opened_read : (text : List ℕ) (given : Option (List ℕ)) → Opens text given → opened text ≡ Ok given
opened_read text None h = rw h refl
opened_read text (Some behind) h = rw h refl

-- ---- memory items

abbrev reads : Kind → List ℕ → Result Part Flaw
reads kind rest = opened rest >>= λ given. attributes_of kind given >>= λ a. Ok (memory_part a)

pub memory_spelled : (text : List ℕ) (part : Part) → memory_of text ≡ Ok part → SpellsMemory text part
unfolding memory_of first_piece memory_in_brackets
memory_spelled text part e = by (cut (λ b. b == 93) (drop 1 text)) (cuts_of 93 (drop 1 text)) e
  where
    by : (o : Option (List ℕ × List ℕ)) → CutsAt 93 (drop 1 text) o → cut_memory (piece_or (drop 1 text) o) ≡ Ok part
        → SpellsMemory text part
    by None lacks h = absurd cc
    by (Some parts) cuts h =
        let trimmed = without_front is_white parts.0 in
        let name = take_while is_ascii_alphanumeric trimmed in
        let rest = without_front is_ascii_alphanumeric trimmed in
        let first = bind_ok (node_name (name_of name)) (λ kind. reads kind rest) part h in
        let node = node_named (name_of name) first.0 first.1 in
        let given = bind_ok (opened rest) (λ given. attributes_of first.0 given >>= λ a. Ok (memory_part a)) part first.2 in
        let read = bind_ok (attributes_of first.0 given.0) (λ a. Ok (memory_part a)) part given.2 in
        record {
          inner = parts.0;
          behind = parts.1;
          gap = take_while is_white parts.0;
          name = name;
          rest = rest;
          given = given.0;
          attributes = read.0;
          cut = cuts;
          parts = taken_and_rest is_white parts.0
              ∙ ap (λ (others : List ℕ). take_while is_white parts.0 ++ others) (taken_and_rest is_ascii_alphanumeric trimmed);
          blank = all_taken is_white parts.0;
          letters = all_taken is_ascii_alphanumeric trimmed;
          whole = rest_stops is_ascii_alphanumeric trimmed;
          named = node.0;
          opened = opened_spelled rest given.0 given.1;
          attributed = given_spelled NumaNode given.0 read.0 (ap (λ kind. attributes_of kind given.0) (sym node.1) ∙ read.1);
          says = ok_is (memory_part read.0) part read.2;
        }

pub memory_read : (text : List ℕ) (part : Part) → SpellsMemory text part → memory_of text ≡ Ok part
unfolding memory_of first_piece memory_in_brackets
memory_read text part h =
    let stops = named_stops h.name h.rest h.named h.letters in
    let trimmed : without_front is_white h.inner ≡ h.name ++ h.rest =
    ap (without_front is_white) h.parts ∙ front_dropped is_white h.gap (h.name ++ h.rest) h.blank stops in
    let name = front_taken is_ascii_alphanumeric h.name h.rest h.letters h.whole in
    let rest = front_dropped is_ascii_alphanumeric h.name h.rest h.letters h.whole in
    let cuts = cut-from_IsCutAt 93 (drop 1 text) h.inner h.behind h.cut in
    ap (λ o. cut_memory (piece_or (drop 1 text) o)) cuts
    ∙ ap (λ xs. named_memory (take_while is_ascii_alphanumeric xs) (without_front is_ascii_alphanumeric xs)) trimmed
    ∙ ap (λ xs. named_memory xs (without_front is_ascii_alphanumeric (h.name ++ h.rest))) name
    ∙ ap (λ xs. named_memory h.name xs) rest
    ∙ rw (h.named, opened_read h.rest h.given h.opened, given_read NumaNode h.given h.attributes h.attributed) (ap Ok h.says)
