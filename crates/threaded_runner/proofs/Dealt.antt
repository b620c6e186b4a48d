-- What callers have before they begin.
use Rattle.std.proofs.Common.{◌≡◌, ℕ, List, [], ◌∷◌, length, map, drop, refl, ap, sym, ◌∙◌, arith, Some}
use Rattle.std.specs.Prelude.{option_map, slice_get}
use Rattle.std.proofs.lemmas.List.{length-map}
use Rattle.std.proofs.lemmas.Option.{get_or_from_slice_get, slice_get-map}
use Rattle.lock_rules.specs.Trees.{lists_in}
use Rattle.keep_local.specs.Shapes.{callers_of}
use Rattle.keep_local.specs.States.{ShareState}
use Rattle.clof_compose.specs.Courses.{Course}
use Rattle.clof_compose.specs.Shares.{IsShareIn}
use Rattle.mc_text.specs.Request.{WholeCommand}
use Rattle.mc_text.specs.Reading.{commands_of}
use Rattle.run_texts.specs.declared.section.Section.{Section}
use Rattle.threaded_runner.specs.Jobs.{HasLeft}
use Rattle.threaded_runner.specs.Ready.{IsDealt}

-- how many commands each section has, by its bytes
pub counts : (sections : List Section) → map (λ (one : Section). length (commands_of one.bytes.now)) sections
    ≡ map (λ (one : List ℕ). length (commands_of one)) (map (λ (one : Section). one.bytes.now) sections)
counts [] = refl
counts (section ∷ sections) = ap (λ rest. length (commands_of section.bytes.now) ∷ rest) (counts sections)

-- all commands of its section
pub all_left : (course : Course) (n : ℕ) (share : ShareState) (sections : List Section) (bytes : List ℕ) (commands : List WholeCommand)
    → lists_in course.payload ≡ map (λ (one : Section). one.bytes.now) sections
    → course.quotas ≡ map (λ (one : Section). length (commands_of one.bytes.now)) sections
    → slice_get (map (λ (one : Section). one.bytes.now) sections) n ≡ Some bytes → IsShareIn course n share → share.made ≡ 0
    → commands ≡ commands_of bytes
    → HasLeft course.payload share commands
all_left course n share sections bytes commands told quotas here is none all =
    let place = ap (λ (l : List (List ℕ)). slice_get l share.caller) told
    ∙ ap (slice_get (map (λ (one : Section). one.bytes.now) sections)) is.caller_is ∙ here in
    let counted = ap (λ (l : List ℕ). slice_get l n) (quotas ∙ counts sections)
    ∙ slice_get-map (λ (one : List ℕ). length (commands_of one)) (map (λ (one : Section). one.bytes.now) sections) n
    ∙ ap (option_map (λ (one : List ℕ). length (commands_of one))) here in
    record {
      section = bytes;
      is_section = place;
      quota = is.quota ∙ get_or_from_slice_get course.quotas n (length (commands_of bytes)) 0 counted;
      within = omega (arith, none);
      left = all ∙ sym (ap (λ (k : ℕ). drop k (commands_of bytes)) none);
    }

-- there is a quota for each caller of the shape
pub quotas_known : (course : Course) (sections : List (List ℕ)) (shares : List ShareState) → IsDealt course sections shares
    → length course.quotas ≡ callers_of course.shape
quotas_known course sections shares is =
    ap length is.quotas ∙ length-map sections (λ (one : List ℕ). length (commands_of one)) ∙ sym is.callers

-- and a caller for each section
pub callers_known : (course : Course) (sections : List Section) (shares : List ShareState)
    → IsDealt course (map (λ (one : Section). one.bytes.now) sections) shares → callers_of course.shape ≡ length sections
callers_known course sections shares is = is.callers ∙ length-map sections (λ (one : Section). one.bytes.now)
