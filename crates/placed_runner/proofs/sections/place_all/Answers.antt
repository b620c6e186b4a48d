use Rattle.std.proofs.Common.{◌≡◌, ℕ, ◌≤◌, ◌∷◌, ◌++◌, [], List, length, map, get_or, take, refl, sym, ap, ◌∙◌, arith}
use Rattle.std.specs.List.{enumerate_from}
use Rattle.std.proofs.lemmas.Bool.{eqb-true}
use Rattle.std.proofs.lemmas.List.{map-append, length-map}
use Rattle.synth_text.specs.declared.description.Description.{Description}
use Rattle.placed_runner.specs.declared.place.Place.TheVariants.{Anywhere}
use Rattle.placed_runner.specs.declared.sections.Written.{Written}
use Rattle.placed_runner.specs.Places.{masks_of, pu_on}
use Rattle.run_texts.specs.Callers.{Placed}
use Rattle.placed_runner.specs.Sections.{placed, placed_at}
use Rattle.run_texts.specs.Views.{section_view}
use Rattle.placed_runner.specs.Views.{written_view}
use Rattle.run_texts.proofs.Numbered.{mapped_more, take_all}
use Rattle.placed_runner.proofs.sections.place_all.Goals as goal

-- where nothing is written
none_placed : (described : Description) (written : List Written) → length written ≡ 0 → placed described (map written_view written) ≡ []
unfolding placed
none_placed described [] none = refl
none_placed described (first ∷ more) none = absurd (omega (arith, none))

-- the sections with their callers' PUs
all_placed : (described : Description) (written : List Written) (sections : List Placed) (callers : ℕ) → length written ≤ callers
    → sections ≡ map (placed_at described (length written)) (enumerate_from 0 (map written_view (take callers written)))
    → sections ≡ placed described (map written_view written)
unfolding placed
all_placed described written sections callers all so_far =
    so_far
    ∙ ap (λ ws. map (placed_at described (length written)) (enumerate_from 0 (map written_view ws))) (take_all written callers all)
    ∙ ap (λ n. map (placed_at described n) (enumerate_from 0 (map written_view written))) (sym (length-map written written_view))

pub returns-then-is_empty : goal.returns-then-is_empty
returns-then-is_empty c =
    record {
      placed = ap (map section_view) c.in_ok-sections.ensures.items
          ∙ sym (none_placed c.args.tree.now c.args.written.now (eqb-true (length c.args.written.now) 0 (sym c.if-is_empty.ensures)));
    }

pub pu_on-requires : goal.pu_on-requires
pu_on-requires c =
    c.deref.ensures.value ∙ c.in_ok-masks.ensures.masks
    ∙ ap (masks_of c.args.tree.now) (sym (ap length c.deref.ensures.value ∙ c.in_ok-masks.ensures.count))

pub loop-caller-preserved : goal.loop-caller-preserved
loop-caller-preserved c =
    let described = c.args.tree.now in
    let written = c.args.written.now in
    let place = c.loop-caller.caller in
    let none : Written = record { place = Anywhere; bytes = record { ref_ptr = (0, 0); now = [] } } in
    let section : Written = get_or written place none in
    let before = c.loop-caller.sections.items in
    let count : length c.deref.result.now ≡ length written = ap length c.deref.ensures.value ∙ c.in_ok-masks.ensures.count in
    let pu : c.pu_on.result ≡ pu_on described (length written) place section.place =
    c.pu_on.ensures ∙ ap (λ n. pu_on described n place section.place) count in
    ap (map section_view) c.in_ok-push.ensures.items
    ∙ map-append section_view before (record { pu = c.pu_on.result; bytes = section.bytes } ∷ [])
    ∙ ap (λ front. front ++ (record { pu = c.pu_on.result; bytes = section.bytes.now } ∷ [])) c.loop-caller.invariant
    ∙ ap (λ (n : ℕ). map (placed_at described (length written)) (enumerate_from 0 (map written_view (take place written)))
    ++ (record { pu = n; bytes = section.bytes.now } ∷ [])) pu
    ∙ sym (mapped_more written_view (placed_at described (length written)) written place section none (omega arith) refl)

pub returns : goal.returns
returns c =
    record {
      placed = all_placed c.args.tree.now c.args.written.now (map section_view c.loop-caller.sections.items) c.loop-caller.caller
          (omega arith) c.loop-caller.invariant;
    }
