-- The text of a run whose commands a journal has.
use Rattle.std.proofs.Common.{◌≡◌, ℕ, zero, suc, ◌<◌, ◌≤◌, List, [], ◌∷◌, ◌++◌, length, map, get_or, Some, refl, sym, ap, ◌∙◌, subst}
use Rattle.std.proofs.Common.{append_assoc, inl, inr, arith}
use Rattle.std.specs.Prelude.{slice_get, option_map, ◌==◌}
use Rattle.std.specs.List.{filter, count_by, zip}
use Rattle.std.proofs.lemmas.List.{map-append, length-append, length-map}
use Rattle.std.proofs.Math.Seq.{get_or-append_seam}
use Rattle.std.proofs.lemmas.List.Elements.{filter-append}
use Rattle.std.proofs.lemmas.List.Sums.{length-filter}
use Rattle.std.proofs.lemmas.Option.{slice_get-map}
use Rattle.std.proofs.lemmas.Bool.{cases_Bool, eq-eqb}
use Rattle.keep_local.specs.declared.turn.Turn.{Turn}
use Rattle.keep_local.specs.States.{callers_in}
use Rattle.mc_text.specs.Request.{WholeCommand}
use Rattle.mc_text.specs.Reading.{commands_of}
use Rattle.kv_history.specs.Log.{Log, Logged, IsOneThread, EachHasSection, EachOwnFirst, own, commands, replies}
use Rattle.run_texts.specs.Callers.{Placed}
use Rattle.run_texts.specs.declared.section.Section.{Section}
use Rattle.run_texts.specs.Entries.{told_entry}
use Rattle.run_texts.specs.Views.{section_view}
use Rattle.run_texts.specs.Text.{text_of, told, turn_lines, turns_text, caller_lines, commands_behind, next_command, Told}

-- the callers of entries
abbrev pub callers : List Logged → List ℕ
callers entries = map (λ entry. entry.caller) entries

-- ---- the callers' commands

seam : {A : Type 0} (xs : List A) (y : A) (ys : List A) → slice_get (xs ++ y ∷ ys) (length xs) ≡ Some y
seam [] y ys = refl
seam (x ∷ xs) y ys = seam xs y ys

own-append : (caller : ℕ) (xs ys : List Logged) → own (xs ++ ys) caller ≡ own xs caller ++ own ys caller
own-append caller xs ys =
    ap commands (filter-append (λ (entry : Logged). entry.caller == caller) xs ys)
    ∙ map-append (λ (entry : Logged). entry.command) (filter (λ entry. entry.caller == caller) xs)
    (filter (λ entry. entry.caller == caller) ys)

-- how many entries a caller has
own_length : (caller : ℕ) (entries : List Logged)
    → length (filter (λ (entry : Logged). entry.caller == caller) entries) ≡ length (filter (λ other. other == caller) (callers entries))
own_length caller [] = refl
own_length caller (entry ∷ entries) =
    elim (cases_Bool (entry.caller == caller)) [
      | inl same ↦ rw same (ap suc (own_length caller entries))
      | inr other ↦ rw other (own_length caller entries)
    ]

own_count : (caller : ℕ) (entries : List Logged) → length (own entries caller) ≡ count_by (λ other. other == caller) (callers entries)
own_count caller entries =
    length-map (filter (λ (entry : Logged). entry.caller == caller) entries) (λ entry. entry.command)
    ∙ own_length caller entries ∙ length-filter (λ other. other == caller) (callers entries)

-- the section of a caller
pub there : (sections : List Placed) (caller : ℕ) → caller < length sections
    → (section : Placed) × (slice_get sections caller ≡ Some section)
there [] caller within = absurd (omega arith)
there (section ∷ sections) zero within = (section, refl)
there (section ∷ sections) (suc caller) within = there sections caller (omega arith)

-- what the texts of a journal's runs stand on
pub record IsPrinted (sections : List Placed) (log : Log) : Type 0 where
  pub same : log.sections ≡ map (λ section. section.bytes) sections
  pub callers_are : EachHasSection log
  pub own_first : EachOwnFirst log

-- the command of an entry is the next one of its caller, behind the entries before it
next_there : (sections : List Placed) (log : Log) (done more : List Logged) (entry : Logged) → IsPrinted sections log
    → log.entries ≡ done ++ entry ∷ more → next_command sections (callers done) entry.caller ≡ Some entry.command
next_there sections log done more entry printed parts =
    let caller = entry.caller in
    let has : caller < length log.sections =
    subst (λ (e : Logged). e.caller < length log.sections)
    (ap (λ (all : List Logged). get_or all (length done) entry) parts ∙ get_or-append_seam done entry more entry)
    (printed.callers_are (length done) entry (omega (arith, ap length parts, length-append done (entry ∷ more)))) in
    let found = there sections caller (omega (arith, ap length printed.same, length-map sections (λ (s : Placed). s.bytes))) in
    let section : Placed = found.0 in
    let place : slice_get log.sections caller ≡ Some section.bytes =
    ap (λ (all : List (List ℕ)). slice_get all caller) printed.same ∙ slice_get-map (λ (s : Placed). s.bytes) sections caller
    ∙ ap (option_map (λ (s : Placed). s.bytes)) found.1 in
    let first = printed.own_first caller section.bytes place in
    let rest : List WholeCommand = first.0 in
    let own_is : own log.entries caller ≡ own done caller ++ entry.command ∷ own more caller =
    ap (λ (all : List Logged). own all caller) parts ∙ own-append caller done (entry ∷ more)
    ∙ ap (λ (end : List WholeCommand). own done caller ++ end) (own_entry entry more) in
    let commands_are : commands_of section.bytes ≡ own done caller ++ entry.command ∷ (own more caller ++ rest) =
    first.1 ∙ ap (λ (all : List WholeCommand). all ++ rest) own_is
    ∙ append_assoc (own done caller) (entry.command ∷ own more caller) rest in
    let at = ap (λ n. slice_get (commands_of section.bytes) n) (sym (own_count caller done))
    ∙ ap (λ (all : List WholeCommand). slice_get all (length (own done caller))) commands_are
    ∙ seam (own done caller) entry.command (own more caller ++ rest) in
    rw found.1 at
  where
    own_entry : (entry : Logged) (more : List Logged) → own (entry ∷ more) entry.caller ≡ entry.command ∷ own more entry.caller
    own_entry entry more = rw (eq-eqb entry.caller entry.caller refl) refl

-- the commands of the entries behind others
pub commands_from : (sections : List Placed) (log : Log) (done more : List Logged) → IsPrinted sections log → log.entries ≡ done ++ more
    → commands_behind sections (callers done) (callers more) ≡ Some (commands more)
commands_from sections log done [] printed parts = refl
commands_from sections log done (entry ∷ more) printed parts =
    let next = next_there sections log done more entry printed parts in
    let later = commands_from sections log (done ++ entry ∷ []) more printed (parts ∙ sym (append_assoc done (entry ∷ []) more)) in
    let behind : commands_behind sections (callers done ++ entry.caller ∷ []) (callers more) ≡ Some (commands more) =
    ap (λ (before : List ℕ). commands_behind sections before (callers more))
    (sym (map-append (λ (e : Logged). e.caller) done (entry ∷ []))) ∙ later in
    rw (next, behind) refl

-- ---- the text

-- a turn and its entry, as they are printed
abbrev pub told_pair : Turn × Logged → Told
told_pair at = told_entry at.0 at.1

told_all : (turns : List Turn) (entries : List Logged) → told turns (commands entries) (replies entries) ≡ map told_pair (zip turns entries)
told_all [] entries = refl
told_all (turn ∷ turns) [] = refl
told_all (turn ∷ turns) (entry ∷ entries) = ap (λ (rest : List Told). told_entry turn entry ∷ rest) (told_all turns entries)

-- the text of turns whose commands a whole journal has
pub text_is : (sections : List Placed) (turns : List Turn) (log : Log) → IsPrinted sections log → IsOneThread log.entries
    → callers_in turns ≡ callers log.entries
    → turns_text sections turns ≡ turn_lines sections (map told_pair (zip turns log.entries)) ++ caller_lines sections
unfolding turns_text
text_is sections turns log printed one_thread same =
    let entries = log.entries in
    let given : commands_behind sections [] (callers_in turns) ≡ Some (commands entries) =
    ap (commands_behind sections []) same ∙ commands_from sections log [] entries printed refl in
    ap (text_of sections turns) given
    ∙ ap (λ (all : List (List ℕ)). turn_lines sections (told turns (commands entries) all) ++ caller_lines sections) (sym one_thread)
    ∙ ap (λ (all : List Told). turn_lines sections all ++ caller_lines sections) (told_all turns entries)

-- a turn and its entry stand at one place
pub pair_at : (turns : List Turn) (entries : List Logged) (place : ℕ) (turn : Turn) (entry : Logged) → slice_get turns place ≡ Some turn
    → slice_get entries place ≡ Some entry → slice_get (zip turns entries) place ≡ Some (turn, entry)
pair_at [] entries place turn entry is there = cc
pair_at (first ∷ turns) [] place turn entry is there = cc
pair_at (first ∷ turns) (other ∷ entries) zero turn entry is there =
    let one : first ≡ turn = cc in
    let two : other ≡ entry = cc in
    λ i. Some (one i, two i)
pair_at (first ∷ turns) (other ∷ entries) (suc place) turn entry is there = pair_at turns entries place turn entry is there

pub pairs_within : (turns : List Turn) (entries : List Logged) → length (zip turns entries) ≤ length entries
pairs_within [] entries = omega arith
pairs_within (turn ∷ turns) [] = omega arith
pairs_within (turn ∷ turns) (entry ∷ entries) = omega (arith, pairs_within turns entries)

-- the bytes of sections
pub bytes_of : (sections : List Section)
    → map (λ section. section.bytes.now) sections ≡ map (λ (p : Placed). p.bytes) (map section_view sections)
bytes_of [] = refl
bytes_of (section ∷ sections) = ap (λ rest. section.bytes.now ∷ rest) (bytes_of sections)
