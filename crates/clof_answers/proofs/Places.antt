-- Callers stand on PUs of their topology.
use Rattle.std.proofs.Common.{◌≡◌, ℕ, ◌+◌, ◌<◌, ◌==◌, true, false, Bool, List, [], ◌∷◌, length, map, refl, sym, subst, arith}
use Rattle.std.proofs.Common.{Option, Some, None, unwrap_or, Ok, Err}
use Rattle.std.specs.Prelude.{All, Result, codes, if◌then◌else◌, option_and_then, option_map, slice_get}
use Rattle.std.specs.List.{AllByRecursion, enumerate_from}
use Rattle.std.specs.Str.{bytes_eq}
use Rattle.std.proofs.lemmas.List.Elements.{All-from_recursion}
use Rattle.std.proofs.lemmas.List.Quantifiers.{position-Some}
use Rattle.synth_text.specs.declared.description.Description.{Description}
use Rattle.synth_text.specs.Rules.{pu_count}
use Rattle.synth_text.specs.Sound.{IsSound}
use Rattle.topo_tree.specs.Building.{pu_numbers}
use Rattle.topo_tree.specs.Coverage.{leaf_of}
use Rattle.topo_tree.proofs.CountLaws.{have_arities, product_some}
use Rattle.topo_tree.proofs.Lookups.{length-pu_numbers}
use Rattle.calc_query.specs.declared.fault.CalcFault.{CalcFault}
use Rattle.calc_query.specs.declared.query.Location.{Location}
use Rattle.calc_query.specs.declared.query.Numbering.TheVariants as numberings
use Rattle.calc_query.specs.declared.query.Op.TheVariants as ops
use Rattle.calc_query.specs.Readings.{location_of}
use Rattle.calc_query.specs.Selection.{selected}
use Rattle.placed_runner.specs.declared.place.Place.{Place}
use Rattle.placed_runner.specs.declared.place.Place.TheVariants.{Anywhere, On}
use Rattle.run_texts.specs.declared.section.Section.{Section}
use Rattle.placed_runner.specs.Places.{first_pu, located_pu, lone_pu, mask_pu, masks_of, place_of, pu_on}
use Rattle.run_texts.specs.Callers.{Placed}
use Rattle.placed_runner.specs.Sections.{ReadsTo, Sections, Written, anywhere, placed, placed_at}
use Rattle.run_texts.specs.Views.{section_view}

module _ (described : Description) (sound : IsSound described) where
  -- a PU of the topology
  abbrev IsPu : ℕ → Type 0
  IsPu pu = pu < pu_count described

  leaf_within : (number pu : ℕ) → leaf_of described number ≡ Some pu → IsPu pu
  leaf_within number pu is =
      let found = position-Some (λ (other : ℕ). other == number) (pu_numbers described) pu 0 is in
      let many = length-pu_numbers described in
      omega (arith, found.0, many)

  some_pu : IsPu 0
  some_pu = let some = product_some described.levels (have_arities described sound) in omega (arith, some)

  leaf_of_some : (number : Option ℕ) (pu : ℕ) → option_and_then (leaf_of described) number ≡ Some pu → IsPu pu
  leaf_of_some None pu is = absurd cc
  leaf_of_some (Some number) pu is = leaf_within number pu is

  lone_if : (lone : Bool) (number : Option ℕ) (pu : ℕ)
      → (if lone then option_and_then (leaf_of described) number else None) ≡ Some pu → IsPu pu
  lone_if true number pu is = leaf_of_some number pu is
  lone_if false number pu is = absurd cc

  lone_within : (set : List ℕ) (pu : ℕ) → lone_pu described set ≡ Some pu → IsPu pu
  unfolding lone_pu
  lone_within set pu is = lone_if (length set == 1) (slice_get set 0) pu is

  located_within : (location : Result Location CalcFault) (pu : ℕ) → located_pu described location ≡ Some pu → IsPu pu
  located_within (Ok location) pu is =
      lone_within (selected described numberings.Logical (record { op = ops.Join; location = location } ∷ [])) pu is
  located_within (Err fault) pu is = absurd cc

  -- a place is any, or a PU of the topology
  abbrev IsPlace : Place → Type 0
  IsPlace Anywhere = Unit {0}
  IsPlace (On pu) = IsPu pu

  on_within : (located : Option ℕ) (place : Place) → option_map On located ≡ Some place
      → ((pu : ℕ) → located ≡ Some pu → IsPu pu) → IsPlace place
  on_within None place is within = absurd cc
  on_within (Some pu) place is within = let same : On pu ≡ place = cc in subst IsPlace same (within pu refl)

  place_if : (any : Bool) (located : Option ℕ) (place : Place) → (if any then Some Anywhere else option_map On located) ≡ Some place
      → ((pu : ℕ) → located ≡ Some pu → IsPu pu) → IsPlace place
  place_if true located place is within = let same : Anywhere ≡ place = cc in subst IsPlace same tt
  place_if false located place is within = on_within located place is within

  place_within : (word : List ℕ) (place : Place) → place_of described word ≡ Some place → IsPlace place
  unfolding place_of
  place_within word place is =
      place_if (bytes_eq word (codes "*")) (located_pu described (location_of described 0 0 word)) place is
      (located_within (location_of described 0 0 word))

  -- the places of sections that are read
  read_within : (text : List ℕ) (sections : List Written) (rest : List ℕ) → ReadsTo described text sections rest
      → AllByRecursion (λ (section : Written). IsPlace section.place) sections
  read_within text [] rest reads = tt
  read_within text (section ∷ sections) rest reads =
      (place_within reads.1.head.place section.place reads.1.place, read_within reads.0 sections rest reads.2)

  any_within : (found : Option ℕ) → ((pu : ℕ) → found ≡ Some pu → IsPu pu) → IsPu (unwrap_or found 0)
  any_within None within = some_pu
  any_within (Some pu) within = within pu refl

  mask_within : (mask : Option (List ℕ)) (pu : ℕ) → option_and_then (first_pu described) mask ≡ Some pu → IsPu pu
  mask_within None pu is = absurd cc
  mask_within (Some mask) pu is = leaf_of_some (slice_get mask 0) pu is

  stands_within : (n caller : ℕ) (place : Place) → IsPlace place → IsPu (pu_on described n caller place)
  stands_within n caller Anywhere is =
      any_within (mask_pu described (masks_of described n) caller) (mask_within (slice_get (masks_of described n) caller))
  stands_within n caller (On pu) is = is

  numbered_within : (n from : ℕ) (sections : List Written) → AllByRecursion (λ (section : Written). IsPlace section.place) sections
      → AllByRecursion (λ (section : Placed). IsPu section.pu) (map (placed_at described n) (enumerate_from from sections))
  numbered_within n from [] are = tt
  numbered_within n from (section ∷ sections) are =
      (stands_within n from section.place are.0, numbered_within n (from + 1) sections are.1)

  placed_within : (sections : List Written) → AllByRecursion (λ (section : Written). IsPlace section.place) sections
      → AllByRecursion (λ (section : Placed). IsPu section.pu) (placed described sections)
  unfolding placed
  placed_within sections are = numbered_within (length sections) 0 sections are

  viewed_within : (sections : List Section) → AllByRecursion (λ (section : Placed). IsPu section.pu) (map section_view sections)
      → AllByRecursion (λ (section : Section). IsPu section.pu) sections
  viewed_within [] are = tt
  viewed_within (section ∷ sections) are = (are.0, viewed_within sections are.1)

  sections_within : (sections : List Section) (written : List Written) → map section_view sections ≡ placed described written
      → AllByRecursion (λ (section : Written). IsPlace section.place) written → All (λ (section : Section). IsPu section.pu) sections
  sections_within sections written same are =
      All-from_recursion (λ (section : Section). IsPu section.pu) sections
      (viewed_within sections
      (subst (AllByRecursion (λ (section : Placed). IsPu section.pu)) (sym same) (placed_within written are)))

  -- the callers of sections that are read stand on PUs
  pub input_pus : (input : List ℕ) (sections : List Section) → Sections described input (map section_view sections)
      → All (λ (section : Section). section.pu < pu_count described) sections
  input_pus input sections are =
      sections_within sections are.written are.placed_are (read_within input are.written [] are.are.whole)

  anywhere_within : {X : Type 0} (bytes_of : X → List ℕ) (given : List X)
      → AllByRecursion (λ (section : Written). IsPlace section.place) (map (λ (one : X). anywhere (bytes_of one)) given)
  anywhere_within bytes_of [] = tt
  anywhere_within bytes_of (one ∷ given) = (tt, anywhere_within bytes_of given)

  -- and so do callers that are spread
  pub spread_pus : {X : Type 0} (bytes_of : X → List ℕ) (given : List X) (sections : List Section)
      → map section_view sections ≡ placed described (map (λ (one : X). anywhere (bytes_of one)) given)
      → All (λ (section : Section). section.pu < pu_count described) sections
  spread_pus {X = X} bytes_of given sections same =
      sections_within sections (map (λ (one : X). anywhere (bytes_of one)) given) same (anywhere_within bytes_of given)
