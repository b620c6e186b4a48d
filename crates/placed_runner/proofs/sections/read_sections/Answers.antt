use Rattle.std.proofs.Common.{◌≡◌, ℕ, ◌+◌, List, [], ◌∷◌, length, map, refl, ap, ◌∙◌, arith}
use Rattle.std.specs.List.{enumerate_from, sum_by}
use Rattle.std.proofs.lemmas.List.{length-map}
use Rattle.std.proofs.lemmas.List.FromFn.{length-enumerate_from}
use Rattle.std.proofs.lemmas.List.Sums.{sum_by-cons}
use Rattle.synth_text.specs.declared.description.Description.{Description}
use Rattle.run_texts.specs.declared.section.Section.{Section}
use Rattle.run_texts.specs.Callers.{Placed}
use Rattle.placed_runner.specs.Sections.{Written, placed, placed_at}
use Rattle.run_texts.specs.Views.{section_view}
use Rattle.placed_runner.specs.Views.{written_view}
use Rattle.placed_runner.proofs.Walks.{reads_within}
use Rattle.placed_runner.proofs.sections.read_sections.Goals as goal

-- as many sections as are written
placed_length : (described : Description) (written : List Written) (sections : List Section)
    → map section_view sections ≡ placed described written → length sections ≡ length written
unfolding placed
placed_length described written sections is =
    omega (
      arith,
      ap length is,
      length-map sections section_view,
      length-enumerate_from 0 written,
      length-map (enumerate_from 0 written) (placed_at described (length written)),
    )

-- and as many bytes
sum_placed : (described : Description) (n k : ℕ) (written : List Written)
    → sum_by (λ (p : Placed). length p.bytes) (map (placed_at described n) (enumerate_from k written))
    ≡ sum_by (λ (w : Written). length w.bytes) written
sum_placed described n k [] = refl
sum_placed described n k (first ∷ written) =
    omega (
      arith,
      sum_placed described n (k + 1) written,
      sum_by-cons (λ (w : Written). length w.bytes) first written,
      sum_by-cons (λ (p : Placed). length p.bytes) (placed_at described n (k, first))
          (map (placed_at described n) (enumerate_from (k + 1) written)),
    )

sum_views : (sections : List Section)
    → sum_by (λ (s : Section). length s.bytes.now) sections ≡ sum_by (λ (p : Placed). length p.bytes) (map section_view sections)
sum_views [] = refl
sum_views (first ∷ sections) =
    omega (
      arith,
      sum_views sections,
      sum_by-cons (λ (s : Section). length s.bytes.now) first sections,
      sum_by-cons (λ (p : Placed). length p.bytes) (section_view first) (map section_view sections),
    )

placed_sum : (described : Description) (written : List Written) (sections : List Section)
    → map section_view sections ≡ placed described written
    → sum_by (λ (s : Section). length s.bytes.now) sections ≡ sum_by (λ (w : Written). length w.bytes) written
unfolding placed
placed_sum described written sections is =
    omega (arith, sum_views sections, ap (sum_by (λ (p : Placed). length p.bytes)) is, sum_placed described (length written) 0 written)

pub returns-in-Ok-clause-few : goal.returns-in-Ok-clause-few
returns-in-Ok-clause-few g c =
    let written = c.in_ok-written.written.items in
    let placed_are = c.in-Ok.ensures.placed ∙ ap (λ ws. placed c.as_tree-tree.result.now (map written_view ws)) c.deref.ensures.value in
    omega (
      arith,
      placed_length c.as_tree-tree.result.now (map written_view written) c.in-Ok.sections.items placed_are,
      length-map written written_view,
      c.in_ok-written.ensures.few,
    )

pub returns-in-Ok-clause-small : goal.returns-in-Ok-clause-small
returns-in-Ok-clause-small g c =
    let described = c.as_tree-tree.result.now in
    let written = c.in_ok-written.written.items in
    let placed_are = c.in-Ok.ensures.placed ∙ ap (λ ws. placed described (map written_view ws)) c.deref.ensures.value in
    omega (
      arith,
      placed_sum described (map written_view written) c.in-Ok.sections.items placed_are,
      reads_within described (map written_view written) c.args.input.now [] c.in_ok-written.ensures.sections,
    )
