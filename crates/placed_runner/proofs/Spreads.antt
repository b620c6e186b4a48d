-- Sections keep their bytes when their callers are placed.
use Rattle.std.proofs.Common.{◌≡◌, ℕ, ◌+◌, List, [], ◌∷◌, Vec, Ok, Err, map, refl, ap, ◌∙◌}
use Rattle.std.specs.declared.alloc.Global.{Global}
use Rattle.std.specs.List.{enumerate_from}
use Rattle.std.specs.Prelude.{length, Result, IfOk}
use Rattle.synth_text.specs.declared.description.Description.{Description}
use Rattle.run_texts.specs.declared.section.Section.{Section}
use Rattle.run_texts.specs.Callers.{Placed}
use Rattle.placed_runner.specs.Sections.{Written, anywhere, placed, placed_at}
use Rattle.run_texts.specs.Views.{section_view}
use Rattle.run_texts.proofs.Texts.{bytes_of}

placed_bytes : (described : Description) (n from : ℕ) (written : List Written)
    → map (λ (one : Placed). one.bytes) (map (placed_at described n) (enumerate_from from written))
    ≡ map (λ (one : Written). one.bytes) written
placed_bytes described n from [] = refl
placed_bytes described n from (first ∷ more) =
    ap (λ (rest : List (List ℕ)). first.bytes ∷ rest) (placed_bytes described n (from + 1) more)

anywhere_bytes : (sections : List (Vec ℕ Global))
    → map (λ (one : Written). one.bytes) (map (λ (bytes : Vec ℕ Global). anywhere bytes.items) sections)
    ≡ map (λ (bytes : Vec ℕ Global). bytes.items) sections
anywhere_bytes [] = refl
anywhere_bytes (first ∷ more) = ap (λ (rest : List (List ℕ)). first.items ∷ rest) (anywhere_bytes more)

pub spread_bytes : (described : Description) (sections : List Section) (given : List (Vec ℕ Global))
    → map section_view sections ≡ placed described (map (λ (bytes : Vec ℕ Global). anywhere bytes.items) given)
    → map (λ (section : Section). section.bytes.now) sections ≡ map (λ (bytes : Vec ℕ Global). bytes.items) given
unfolding placed
spread_bytes described sections given are =
    bytes_of sections
    ∙ ap (map (λ (one : Placed). one.bytes)) are
    ∙ placed_bytes described (length (map (λ (bytes : Vec ℕ Global). anywhere bytes.items) given)) 0
    (map (λ (bytes : Vec ℕ Global). anywhere bytes.items) given)
    ∙ anywhere_bytes given

-- what is told of sections that could be placed
pub spread_all : {E : Type 0} (described : Description) (placing : Result (Vec Section Global) E) (given : List (Vec ℕ Global))
    (written : List Written) → written ≡ map (λ (bytes : Vec ℕ Global). anywhere bytes.items) given
    → IfOk placing (λ (sections : Vec Section Global). map section_view sections.items ≡ placed described written)
    → IfOk placing (λ (sections : Vec Section Global).
    map (λ (section : Section). section.bytes.now) sections.items ≡ map (λ (bytes : Vec ℕ Global). bytes.items) given)
spread_all described (Ok sections) given written is are = spread_bytes described sections.items given (are ∙ ap (placed described) is)
spread_all described (Err error) given written is are = tt
